-- What a walk counts: the visits one after the other, at each visit the node and its buffers, and at each of these one more.
-- Assumes nothing.
use Rattle.std.specs.Prelude.{cond, ◌≡◌, Result, Ok, Err, List, [], ◌∷◌, ℕ, ◌+◌, ltb, get_or, set}
use Rattle.std.proofs.Math.Option.{Option, none, some}
use Rattle.units.specs.Limits.{most_count}
use Rattle.units.specs.declared.Refusal.{Refusal}
use Rattle.units.specs.declared.Refusal.TheVariants.{RecountTooHigh}
use Rattle.ways.specs.Ways.{flat}
use Rattle.counting.specs.Places.{place_of}
use Rattle.counting.specs.Graph.{buffers_in}

-- one more at each place of a list; none where a count would pass 65,535
unfoldable pub counted : List ℕ → List ℕ → Option (List ℕ)
counted counts [] = some counts
counted counts (i ∷ is) = cond (ltb (get_or counts i 0) most_count) (counted (set counts i (get_or counts i 0 + 1)) is) none

abbrev pub places_of : List ℕ → List ℕ
places_of [] = []
places_of (b ∷ bs) = place_of b ∷ places_of bs

-- what a visit counts: the node, then each of its buffers
abbrev pub visit_of : List ℕ → ℕ → List ℕ
visit_of tree u = u ∷ places_of (buffers_in tree u)

abbrev pub counts_of : List ℕ → List ℕ → List ℕ
counts_of tree us = flat (visit_of tree) us

-- the answer, and the counts where all fit
abbrev pub Outcome : Option (List ℕ) → List ℕ → Result (Unit {0}) Refusal → Type 0
Outcome none counts r = r ≡ Err RecountTooHigh
Outcome (some l) counts r = (r ≡ Ok tt) × (counts ≡ l)
