-- Kind 4, memtable flush, on lists: its tests, and what it makes of each array. Assumes nothing.
use Rattle.std.specs.Prelude.{Bool, true, cond, List, [], ◌∷◌, ℕ, eqb, get_or, set}
use Rattle.rules.specs.Store.{empty}
use Rattle.rules.specs.Steps.{is_slot}
use Rattle.held_map.specs.Map.{mark}
use Rattle.counting.specs.declared.Node.{Node}
use Rattle.counting.specs.Nodes.{node_in, put_node, blank_node}
use Rattle.counting.specs.Change.{drop_tree, drop_count}
use Rattle.counting.specs.Places.{add_place}
use Rattle.tables.specs.Hold.{slot_in, put_branch, put_slot, coded_slot}
use Rattle.allocation.specs.Going.{let_go_map}
use Rattle.allocation.specs.Fresh.{fresh_in}
use Rattle.shapes.specs.Shapes.{with_buffer}
use Rattle.shapes.specs.Questions.{room_for_buffer}

-- the root's node, blank where the tree is empty
unfoldable pub root_node_in : List ℕ → Node
root_node_in tree = cond (eqb (get_or tree 0 0) 0) blank_node (node_in tree (get_or tree 0 0))

abbrev pub is_sealed_in : List ℕ → ℕ → Bool
is_sealed_in hold k = eqb (slot_in hold k).state 2

-- the first unit of a slot
unfoldable pub first_in : List ℕ → ℕ → ℕ
first_in hold k = get_or (slot_in hold k).units 0 0

unfoldable pub memtable_tests : List ℕ → List ℕ → List ℕ → ℕ → ℕ → List Bool
memtable_tests tree hold map k r =
    is_slot k ∷ is_sealed_in hold k ∷ true ∷ true ∷ true ∷ room_for_buffer (root_node_in tree) ∷ true ∷ fresh_in map (r ∷ []) ∷ true ∷ []

-- the new root comes, the old one loses its way
unfoldable pub memtable_tree : List ℕ → List ℕ → List ℕ → ℕ → ℕ → List ℕ
memtable_tree tree counts hold k r =
    set (drop_tree (put_node tree r (with_buffer (root_node_in tree) (first_in hold k))) (set counts r 1) (get_or tree 0 0)) 0 r

unfoldable pub memtable_counts : List ℕ → List ℕ → List ℕ → ℕ → ℕ → List ℕ
memtable_counts tree counts hold k r = add_place (drop_count (set counts r 1) (get_or tree 0 0)) (first_in hold k)

unfoldable pub memtable_map : List ℕ → List ℕ → List ℕ → ℕ → List ℕ
memtable_map tree counts map r = let_go_map (mark map r) (set counts r 1) (get_or tree 0 0)

-- the slot's units are a branch, and the slot is empty
unfoldable pub joined_hold : List ℕ → ℕ → List ℕ
joined_hold hold k =
    put_slot (put_branch hold (first_in hold k) (record { number = (slot_in hold k).number; units = (slot_in hold k).units })) k (coded_slot empty)
