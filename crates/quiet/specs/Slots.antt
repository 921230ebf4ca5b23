-- Take, seal and abandon on the lists of the lent arrays: their tests of the lines 4 to 12, and what they leave. Assumes nothing.
use Rattle.std.specs.Prelude.{Bool, true, ◌&&◌, not, List, [], ◌∷◌, ℕ, eqb, leb, ltb}
use Rattle.units.specs.Limits.{room, slot_count}
use Rattle.rules.specs.Store.{empty}
use Rattle.held_map.specs.Map.{clears}
use Rattle.records.specs.Rows.{eight}
use Rattle.tables.specs.declared.Slot.{Slot}
use Rattle.tables.specs.Hold.{slot_in, put_slot, coded_slot}
use Rattle.tables.specs.Slots.{taken_slot, sealed_slot}
use Rattle.allocation.specs.Fresh.{fresh_in}
use Rattle.eights.specs.Eights.{replaced}

-- ---- a slot by value

abbrev pub not_empty : Slot → Bool
not_empty x = not (eqb x.state 0)

abbrev pub is_open_slot : Slot → Bool
is_open_slot x = eqb x.state 1

-- empty, or open with a place left
unfoldable pub has_room : Slot → Bool
has_room x = ltb x.state 2 && ltb x.number room

unfoldable pub keeps_some : Slot → ℕ → Bool
keeps_some x n = leb 1 n && leb n x.number

-- ---- 1 take

unfoldable pub take_tests : List ℕ → List ℕ → ℕ → ℕ → List Bool
take_tests hold map k u =
    ltb k slot_count ∷ has_room (slot_in hold k) ∷ true ∷ true ∷ true ∷ true ∷ true ∷ fresh_in map (u ∷ []) ∷ true ∷ []

unfoldable pub take_hold : List ℕ → ℕ → ℕ → List ℕ
take_hold hold k u = put_slot hold k (taken_slot (slot_in hold k) u)

-- ---- 2 seal

unfoldable pub seal_tests : List ℕ → ℕ → ℕ → List Bool
seal_tests hold k n =
    ltb k slot_count ∷ is_open_slot (slot_in hold k) ∷ true ∷ keeps_some (slot_in hold k) n ∷ true ∷ true ∷ true ∷ true ∷ true ∷ []

unfoldable pub seal_hold : List ℕ → ℕ → ℕ → List ℕ
seal_hold hold k n = put_slot hold k (sealed_slot (slot_in hold k) n)

-- the units behind the first n go
unfoldable pub seal_map : List ℕ → List ℕ → ℕ → ℕ → List ℕ
seal_map hold map k n = clears map (eight (replaced (slot_in hold k).units 0 n []))

-- ---- 3 abandon

unfoldable pub abandon_tests : List ℕ → ℕ → List Bool
abandon_tests hold k =
    ltb k slot_count ∷ not_empty (slot_in hold k) ∷ true ∷ true ∷ true ∷ true ∷ true ∷ true ∷ true ∷ []

unfoldable pub abandon_hold : List ℕ → ℕ → List ℕ
abandon_hold hold k = put_slot hold k (coded_slot empty)

unfoldable pub abandon_map : List ℕ → List ℕ → ℕ → List ℕ
abandon_map hold map k = clears map (slot_in hold k).units
