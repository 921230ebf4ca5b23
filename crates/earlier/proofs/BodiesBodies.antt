-- Laws of bodies for loops and answers that src/ no longer has. Assumes nothing.
use mathlib.Core.Path.{◌≡◌, refl, sym, ap, ◌∙◌}
use mathlib.Core.Bool.{Bool, true, false, ◌&&◌}
use mathlib.Core.List.{List, [], ◌∷◌}
use Prim.Native.Nat.{ℕ, zero, suc, ◌+◌, ◌≤◌, ◌<◌}
use native.Mathlib.Omega.{arith}
use native.Mathlib.Numerals.{add-one}
use lib.ListN.{length, get_or, take, drop}
use lib.Seq.{drop-cons}
use borrow.Author.Tests.{lt-leb, le-leb}
use Rattle.units.specs.Bodies.{indexes}
use Rattle.rules.specs.Tables.{all, zeros}
use Rattle.rules.specs.Steps.{is_index, path_shape}
use Rattle.bodies.proofs.Bodies.{shape_fresh}

-- ---- a loop that tests every member: what is left decides

module _ (f : ℕ → Bool) (l : List ℕ) (i : ℕ) (r : Bool) (inv : all f (drop i l) ≡ r) where
  here : i < length l → (f (get_or l i 0) && all f (drop (suc i) l)) ≡ r
  here h = sym (ap (all f) (drop-cons l i 0 h)) ∙ inv

  pub all_stop : i < length l → f (get_or l i 0) ≡ false → false ≡ r
  all_stop h e = sym (ap (λ (b : Bool). b && all f (drop (suc i) l)) e) ∙ here h

  pub all_on : i < length l → f (get_or l i 0) ≡ true → all f (drop (i + 1) l) ≡ r
  all_on h e = ap (λ (j : ℕ). all f (drop j l)) (add-one i) ∙ sym (ap (λ (b : Bool). b && all f (drop (suc i) l)) e) ∙ here h

  pub all_end : length l ≤ i → true ≡ r
  all_end h = sym (ap (all f) (past l i h)) ∙ inv
    where
      past : (l : List ℕ) (i : ℕ) → length l ≤ i → drop i l ≡ []
      past [] zero h = refl
      past [] (suc i) h = refl
      past (x ∷ xs) zero h = absurd (omega arith)
      past (x ∷ xs) (suc i) h = past xs i (omega arith)

-- ---- the shape of a path

module _ (d : ℕ) (is : List ℕ) where
  none_left : (fs : List ℕ) → fs ≡ [] → zeros (drop d fs) ≡ true
  none_left fs e = ap (λ (l : List ℕ). zeros (drop d l)) e ∙ go d
    where
      go : (n : ℕ) → zeros (drop n []) ≡ true
      go zero = refl
      go (suc n) = refl

  and_true : (b : Bool) → (b && true) ≡ b
  and_true true = refl
  and_true false = refl

  pub shape_deep : (fs : List ℕ) → indexes < d → false ≡ path_shape d is fs
  shape_deep fs h = sym (ap (λ (b : Bool). b && (all is_index (take d is) && (zeros (drop d is) && zeros (drop d fs)))) (lt-leb d indexes h))

  pub shape_not : (fs : List ℕ) (r : Bool) → r ≡ all is_index (take d is) → r ≡ false → d ≤ indexes → false ≡ path_shape d is fs
  shape_not fs r e z h =
      sym (ap (λ (b : Bool). b && (all is_index (take d is) && (zeros (drop d is) && zeros (drop d fs)))) (le-leb d indexes h)
      ∙ ap (λ (b : Bool). b && (zeros (drop d is) && zeros (drop d fs))) (sym e ∙ z))

  pub shape_rest : (q r : Bool) → r ≡ all is_index (take d is) → r ≡ true → d ≤ indexes → q ≡ zeros (drop d is) → q ≡ path_shape d is []
  shape_rest q r e z h eq =
      eq ∙ sym (ap (λ (b : Bool). b && (all is_index (take d is) && (zeros (drop d is) && zeros (drop d [])))) (le-leb d indexes h)
      ∙ ap (λ (b : Bool). b && (zeros (drop d is) && zeros (drop d []))) (sym e ∙ z)
      ∙ ap (λ (b : Bool). zeros (drop d is) && b) (none_left [] refl) ∙ and_true (zeros (drop d is)))

pub shape_no : (d : ℕ) (is fs : List ℕ) (r : Bool) → r ≡ path_shape d is [] → r ≡ false → false ≡ path_shape d is fs
shape_no d is fs r er er' = sym (shape_fresh d is fs ∙ ap (λ (b : Bool). b && zeros (drop d fs)) (sym er ∙ er'))
