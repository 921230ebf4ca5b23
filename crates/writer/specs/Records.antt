-- The records of an image as code makes them of the lent arrays, and when there is none: then the record is the empty list.
-- Assumes nothing.
use Rattle.std.specs.Prelude.{cond, List, [], ◌∷◌, ◌++◌, map, ℕ, eqb, get_or, Option, Some, None}
use Rattle.units.specs.Limits.{last_unit, slot_count, compactor_count}
use Rattle.rules.specs.Tables.{range}
use Rattle.rules.specs.Images.{low_first}
use Rattle.counting.specs.declared.Node.{Node}
use Rattle.counting.specs.Nodes.{node_in, bytes_of}
use Rattle.counting.specs.Places.{place_of}
use Rattle.tables.specs.declared.Branch.{Branch}
use Rattle.tables.specs.declared.Slot.{Slot}
use Rattle.tables.specs.declared.Input.{Input}
use Rattle.tables.specs.Hold.{branch_in, slot_in, input_in, branch_row, slot_row, input_row}

abbrev pub node_record : ℕ → Node → ℕ → List ℕ
node_record u n count = 33 ∷ u ∷ (bytes_of n ++ low_first count)

abbrev pub branch_record : Branch → ℕ → List ℕ
branch_record x count = 34 ∷ (branch_row x ++ low_first count)

abbrev pub slot_record : ℕ → Slot → List ℕ
slot_record k x = 35 ∷ k ∷ slot_row x

abbrev pub input_record : ℕ → Input → List ℕ
input_record k x = 36 ∷ k ∷ input_row x

-- ---- where there is one

abbrev pub unless_zero : ℕ → List ℕ → List ℕ
unless_zero n bytes = cond (eqb n 0) [] bytes

-- the empty list is none
abbrev pub some_record : List ℕ → Option (List ℕ)
some_record [] = None
some_record (b ∷ bs) = Some (b ∷ bs)

-- a node by its count
unfoldable pub node_of : List ℕ → List ℕ → ℕ → List ℕ
node_of tree counts u = unless_zero (get_or counts u 0) (node_record u (node_in tree u) (get_or counts u 0))

-- a branch by its number of units: its count may be 0
unfoldable pub branch_of : List ℕ → List ℕ → ℕ → List ℕ
branch_of counts hold b = unless_zero (branch_in hold b).number (branch_record (branch_in hold b) (get_or counts (place_of b) 0))

unfoldable pub slot_of : List ℕ → ℕ → List ℕ
slot_of hold k = unless_zero (slot_in hold k).state (slot_record k (slot_in hold k))

unfoldable pub input_of : List ℕ → ℕ → List ℕ
input_of hold k = unless_zero (input_in hold k).number (input_record k (input_in hold k))

-- ---- all of them

-- the root, then each kind in its order
unfoldable pub records_in : List ℕ → List ℕ → List ℕ → List (List ℕ)
records_in tree counts hold =
    (32 ∷ get_or tree 0 0 ∷ [])
    ∷ (map (node_of tree counts) (range last_unit 1)
    ++ (map (branch_of counts hold) (range last_unit 1)
    ++ (map (slot_of hold) (range slot_count 0) ++ map (input_of hold) (range compactor_count 0))))
