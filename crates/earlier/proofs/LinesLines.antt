-- Laws of lines for loops and answers that src/ no longer has. Assumes nothing.
use mathlib.Core.Path.{◌≡◌, refl, sym, ap, ◌∙◌}
use mathlib.Core.Bool.{Bool, true, false, not}
use mathlib.Core.List.{List, [], ◌∷◌}
use Prim.Native.Nat.{ℕ, zero, suc, ◌+◌, ◌≤◌, ◌<◌}
use native.Mathlib.Omega.{arith}
use native.Mathlib.Numerals.{add-one}
use lib.ListN.{length, get_or, drop}
use lib.Seq.{drop-cons}
use borrow.Author.Tests.{le-leb, lt-leb}
use Rattle.units.specs.Limits.{last_unit, last_kind}
use Rattle.lines.specs.Lines.{unless, first_of, numbered, head_of}

-- ---- the first test that fails

module _ (l : List Bool) (i : ℕ) (h : i < length l) (inv : first_of (numbered 4 l) ≡ first_of (numbered (4 + i) (drop i l))) where
  here : first_of (numbered 4 l) ≡ unless (get_or l i false) (4 + i) (first_of (numbered (suc (4 + i)) (drop (suc i) l)))
  unfolding first_of
  here = inv ∙ ap (λ (x : List Bool). first_of (numbered (4 + i) x)) (drop-cons l i false h)

  pub first_stop : not (get_or l i false) ≡ true → i + 4 ≡ first_of (numbered 4 l)
  first_stop e = omega (arith, here, ap (λ (b : Bool). unless b (4 + i) (first_of (numbered (suc (4 + i)) (drop (suc i) l)))) (falls (get_or l i false) e))
    where
      falls : (b : Bool) → not b ≡ true → b ≡ false
      falls true e = sym e
      falls false e = refl

  pub first_on : not (get_or l i false) ≡ false → first_of (numbered 4 l) ≡ first_of (numbered (4 + (i + 1)) (drop (i + 1) l))
  first_on e =
      let q : suc (4 + i) ≡ 4 + (i + 1) = omega arith in
      here ∙ ap (λ (b : Bool). unless b (4 + i) (first_of (numbered (suc (4 + i)) (drop (suc i) l)))) (stands (get_or l i false) e)
      ∙ ap (λ (n : ℕ). first_of (numbered n (drop (suc i) l))) q ∙ ap (λ (j : ℕ). first_of (numbered (4 + (i + 1)) (drop j l))) (sym (add-one i))
    where
      stands : (b : Bool) → not b ≡ false → b ≡ true
      stands true e = refl
      stands false e = sym e

pub first_end : (l : List Bool) (i : ℕ) → length l ≤ i → first_of (numbered 4 l) ≡ first_of (numbered (4 + i) (drop i l)) → 0 ≡ first_of (numbered 4 l)
unfolding first_of
first_end l i h inv = sym (inv ∙ ap (λ (x : List Bool). first_of (numbered (4 + i) x)) (past l i h))
  where
    past : (l : List Bool) (i : ℕ) → length l ≤ i → drop i l ≡ []
    past [] zero h = refl
    past [] (suc i) h = refl
    past (x ∷ xs) zero h = absurd (omega arith)
    past (x ∷ xs) (suc i) h = past xs i (omega arith)

-- ---- lines 1 to 3

module _ (room : ℕ) where
  module _ (long : last_unit ≤ room) where
    pub head_low : (l : List ℕ) → get_or l 0 0 < 1 → 2 ≡ head_of l room
    unfolding head_of
    head_low [] h = rw (le-leb last_unit room long)
    head_low (k ∷ b) h = rw (le-leb last_unit room long, lt-leb 1 k h)

    pub head_high : (l : List ℕ) → 1 ≤ get_or l 0 0 → last_kind < get_or l 0 0 → 2 ≡ head_of l room
    unfolding head_of
    head_high [] h q = absurd (omega arith)
    head_high (k ∷ b) h q = rw (le-leb last_unit room long, le-leb 1 k h, lt-leb k last_kind q)
