-- Laws of counting for loops and answers that src/ no longer has. Assumes nothing.
use mathlib.Core.Bool.{Bool, true, false, cond}
use mathlib.Core.Path.{◌≡◌, refl, ap, sym, ◌∙◌}
use mathlib.Core.List.{List, [], ◌∷◌}
use Prim.Native.Nat.{ℕ, suc, ◌+◌, ◌-◌, ◌≤◌, ◌<◌}
use native.Mathlib.Omega.{arith}
use native.Mathlib.Numerals.{add-one}
use lib.Dec.{ltb}
use lib.ListN.{length, get_or, take, drop, length-drop}
use lib.Seq.{take_all, drop-cons}
use borrow.Author.Tests.{ltb-false}
use Rattle.units.specs.Limits.{room}
use Rattle.rules.specs.Tables.{slice}
use Rattle.counting.specs.Change.{each}
use Rattle.counting.specs.Places.{up_to}

pub run_start : (bs : List ℕ) (from to : ℕ) → length bs ≡ room → slice from (up_to to - from) bs ≡ slice from (to - from) bs
unfolding up_to
run_start bs from to e = go (ltb to room) refl
  where
    go : (b : Bool) → ltb to room ≡ b → slice from (cond b to room - from) bs ≡ slice from (to - from) bs
    go true q = refl
    go false q =
        take_all (room - from) (drop from bs) (omega (arith, length-drop from bs))
        ∙ sym (take_all (to - from) (drop from bs) (omega (arith, length-drop from bs, ltb-false to room q)))

pub run_turn : (bs : List ℕ) (i end : ℕ) → i < end → end ≤ length bs → slice i (end - i) bs ≡ get_or bs i 0 ∷ slice (i + 1) (end - (i + 1)) bs
run_turn bs i end p q =
    let e : end - i ≡ suc (end - (i + 1)) = omega arith in
    let h : i < length bs = omega arith in
    rw (e, drop-cons bs i 0 h, add-one) refl

pub run_end : (bs : List ℕ) (i end : ℕ) → end ≤ i → slice i (end - i) bs ≡ []
run_end bs i end p =
    let e : end - i ≡ 0 = omega arith in
    rw e refl

-- the whole run
pub run_whole : (bs : List ℕ) (number end : ℕ) → length bs ≡ room → end ≡ up_to number → slice 0 (end - 0) bs ≡ take number bs
run_whole bs number end h e =
    let z : number - 0 ≡ number = omega arith in
    rw e (run_start bs 0 number h ∙ ap (λ (k : ℕ). take k bs) z)

module _ (f : List ℕ → ℕ → List ℕ) where
  pub each_start : (l bs : List ℕ) (from to end : ℕ) → length bs ≡ room → end ≡ up_to to → each f l (slice from (end - from) bs) ≡ each f l (slice from (to - from) bs)
  each_start l bs from to end h e = rw (e, run_start bs from to h) refl

  pub each_turn : (l l' bs : List ℕ) (i end : ℕ) (r : List ℕ) → i < end → end ≤ length bs → l' ≡ f l (get_or bs i 0) → each f l (slice i (end - i) bs) ≡ r → each f l' (slice (i + 1) (end - (i + 1)) bs) ≡ r
  each_turn l l' bs i end r p q e h = rw e (ap (each f l) (sym (run_turn bs i end p q)) ∙ h)

  pub each_end : (l bs : List ℕ) (i end : ℕ) (r : List ℕ) → end ≤ i → each f l (slice i (end - i) bs) ≡ r → l ≡ r
  each_end l bs i end r p h = ap (each f l) (sym (run_end bs i end p)) ∙ h
