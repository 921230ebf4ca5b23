-- Laws of held_map for loops and answers that src/ no longer has. Assumes nothing.
use mathlib.Core.Path.{◌≡◌, refl, ap, sym, ◌∙◌}
use mathlib.Core.List.{List, [], ◌∷◌}
use Prim.Native.Nat.{ℕ, ◌+◌, ◌≤◌, ◌<◌}
use native.Mathlib.Numerals.{add-one}
use native.Mathlib.Omega.{arith}
use lib.ListN.{length, get_or, drop, drop_of_length-le}
use lib.Seq.{drop-cons}
use Rattle.held_map.specs.Map.{clear, clears}
use Rattle.held_map.proofs.Map.{clear_length}

pub clears_length : (us m : List ℕ) → length (clears m us) ≡ length m
clears_length [] m = refl
clears_length (u ∷ us) m = clears_length us (clear m u) ∙ clear_length m u

pub record ReleaseLoop (m us map : List ℕ) (i : ℕ) : Type 0 where
  pub eight : length us ≡ 8
  pub upto : i ≤ 8
  pub left : clears map (drop i us) ≡ clears m us

pub release_turn : {m us map map' : List ℕ} {i : ℕ} → ReleaseLoop m us map i → i < 8 → map' ≡ clear map (get_or us i 0) → ReleaseLoop m us map' (i + 1)
release_turn {m} {us} {map} {map'} {i} l h e =
    record {
      eight = l.eight;
      upto = omega arith;
      left = rw (add-one, e) (sym (ap (clears map) (drop-cons us i 0 (omega (arith, l.eight)))) ∙ l.left);
    }

pub release_end : {m us map : List ℕ} {i : ℕ} → ReleaseLoop m us map i → 8 ≤ i → map ≡ clears m us
release_end {m} {us} {map} {i} l h = sym (ap (clears map) (drop_of_length-le us {i = i} (omega (arith, l.eight)))) ∙ l.left
