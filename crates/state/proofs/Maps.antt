-- What the map is after units are held and released. Assumes nothing.
use mathlib.Core.Path.{◌≡◌, refl, sym, ap, ◌∙◌}
use mathlib.Core.Bool.{Bool, true, false, ◌||◌, ◌&&◌, not}
use mathlib.Core.List.{List, [], ◌∷◌}
use Prim.Native.Nat.{ℕ, ◌≤◌}
use native.Mathlib.Omega.{arith}
use lib.Dec.{eqb}
use Rattle.units.specs.Limits.{last_unit}
use Rattle.ways.specs.Ways.{has}
use Rattle.held_map.specs.Map.{mark, clears, empty_map, Bytes}
use Rattle.held_map.proofs.Map.{mark_words, clears_words, held_mark, held_clears, map_ext, empty_words, empty_held}
use Rattle.counting.proofs.Counts.{Low}
use Rattle.state.specs.Standing.{MapIs, marks}

pub map_same : (f g : ℕ → Bool) (m : List ℕ) → ((u : ℕ) → u ≤ last_unit → f u ≡ g u) → MapIs f m → MapIs g m
map_same f g m h i = record { words = i.words; marks = λ u q. i.marks u q ∙ h u q }

pub map_hold : (f : ℕ → Bool) (m : List ℕ) (u : ℕ) → u ≤ last_unit → MapIs f m → MapIs (λ v. eqb u v || f v) (mark m u)
map_hold f m u q i =
    record {
      words = mark_words m u i.words;
      marks = λ v h. held_mark m u v i.words.long (omega arith) ∙ ap (λ (b : Bool). eqb u v || b) (i.marks v h);
    }

pub map_holds : (us : List ℕ) (f : ℕ → Bool) (m : List ℕ) → Low us → MapIs f m → MapIs (λ v. has v us || f v) (marks m us)
map_holds [] f m low i = i
map_holds (u ∷ us) f m low i =
    map_same (λ v. has v us || (eqb u v || f v)) (λ v. (eqb u v || has v us) || f v) (marks (mark m u) us)
    (λ v h. tidy (has v us) (eqb u v) (f v))
    (map_holds us (λ v. eqb u v || f v) (mark m u) low.1 (map_hold f m u low.0 i))
  where
    tidy : (x y z : Bool) → (x || (y || z)) ≡ ((y || x) || z)
    tidy true true z = refl
    tidy true false z = refl
    tidy false true z = refl
    tidy false false z = refl

bytes : (us : List ℕ) → Low us → Bytes us
bytes [] low = tt
bytes (u ∷ us) low = (omega (arith, low.0), bytes us low.1)

pub map_clears : (us : List ℕ) (f : ℕ → Bool) (m : List ℕ) → Low us → MapIs f m → MapIs (λ v. f v && not (has v us)) (clears m us)
map_clears us f m low i =
    record {
      words = clears_words us m i.words;
      marks = λ v h. held_clears us m v i.words.long (bytes us low) ∙ ap (λ (b : Bool). b && not (has v us)) (i.marks v h);
    }

-- the words are determined
pub map_is_ext : (f : ℕ → Bool) (m m' : List ℕ) → MapIs f m → MapIs f m' → m ≡ m'
map_is_ext f m m' i i' = map_ext m m' i.words i'.words (λ u h. i.marks u (omega arith) ∙ sym (i'.marks u (omega arith)))

pub map_empty : MapIs (λ u. false) empty_map
map_empty = record { words = empty_words; marks = λ u h. empty_held u }
