-- Laws of eights for loops and answers that src/ no longer has. Assumes nothing.
use mathlib.Core.Bool.{Bool, true, false}
use mathlib.Core.Path.{◌≡◌, ap, ◌∙◌}
use mathlib.Core.List.{List}
use Prim.Native.Nat.{ℕ, ◌+◌, ◌-◌, ◌≤◌, ◌<◌}
use native.Mathlib.Omega.{arith}
use lib.Dec.{leb}
use lib.ListN.{length, get_or, take}
use borrow.Author.Tests.{le-leb, lt-leb, eq-eqb, ne_eqb}
use Rattle.rules.specs.Tables.{all, eqs, slice}
use Rattle.counting.specs.Places.{up_to}
use Rattle.earlier.proofs.CountingEach.{run_start, run_turn, run_end}

first : (xs : List ℕ) (number end : ℕ) → length xs ≡ 8 → end ≡ up_to number → slice 0 (end - 0) xs ≡ take number xs
first xs number end h e =
    let z : number - 0 ≡ number = omega arith in
    rw e (run_start xs 0 number h ∙ ap (λ (k : ℕ). take k xs) z)

-- ---- each is at least `low`

module _ (low : ℕ) (xs : List ℕ) where
  pub least_start : (number end : ℕ) → length xs ≡ 8 → end ≡ up_to number → all (λ o. leb low o) (slice 0 (end - 0) xs) ≡ all (λ o. leb low o) (take number xs)
  least_start number end h e = ap (all (λ o. leb low o)) (first xs number end h e)

  pub least_out : (i end : ℕ) (r : Bool) → i < end → end ≤ length xs → get_or xs i 0 < low → all (λ o. leb low o) (slice i (end - i) xs) ≡ r → false ≡ r
  least_out i end r p q f h = rw (run_turn xs i end p q, lt-leb low (get_or xs i 0) f) at h

  pub least_turn : (i end : ℕ) (r : Bool) → i < end → end ≤ length xs → low ≤ get_or xs i 0 → all (λ o. leb low o) (slice i (end - i) xs) ≡ r → all (λ o. leb low o) (slice (i + 1) (end - (i + 1)) xs) ≡ r
  least_turn i end r p q f h = rw (run_turn xs i end p q, le-leb low (get_or xs i 0) f) at h

  pub least_end : (i end : ℕ) (r : Bool) → end ≤ i → all (λ o. leb low o) (slice i (end - i) xs) ≡ r → true ≡ r
  least_end i end r p h = rw (run_end xs i end p) at h

-- ---- both are the same

module _ (xs ys : List ℕ) where
  pub same_start : (number end : ℕ) → length xs ≡ 8 → length ys ≡ 8 → end ≡ up_to number → eqs (slice 0 (end - 0) xs) (slice 0 (end - 0) ys) ≡ eqs (take number xs) (take number ys)
  same_start number end h k e = rw (first xs number end h e, first ys number end k e)

  pub same_out : (i end : ℕ) (r : Bool) → i < end → end ≤ length xs → end ≤ length ys → (get_or xs i 0 ≡ get_or ys i 0 → ⊥) → eqs (slice i (end - i) xs) (slice i (end - i) ys) ≡ r → false ≡ r
  same_out i end r p q k f h = rw (run_turn xs i end p q, run_turn ys i end p k, ne_eqb (get_or xs i 0) (get_or ys i 0) f) at h

  pub same_turn : (i end : ℕ) (r : Bool) → i < end → end ≤ length xs → end ≤ length ys → get_or xs i 0 ≡ get_or ys i 0 → eqs (slice i (end - i) xs) (slice i (end - i) ys) ≡ r → eqs (slice (i + 1) (end - (i + 1)) xs) (slice (i + 1) (end - (i + 1)) ys) ≡ r
  same_turn i end r p q k f h = rw (run_turn xs i end p q, run_turn ys i end p k, eq-eqb (get_or xs i 0) (get_or ys i 0) f) at h

  pub same_end : (i end : ℕ) (r : Bool) → end ≤ i → eqs (slice i (end - i) xs) (slice i (end - i) ys) ≡ r → true ≡ r
  same_end i end r p h = rw (run_end xs i end p, run_end ys i end p) at h
