-- Kind 6, split, on lists: the tests of the lines 4 to 12, and what the step leaves. The body b: depth, seven indexes, seven fresh units,
-- the child, its share, and the units of parent, left and right. Assumes nothing.
use Rattle.std.specs.Prelude.{Bool, true, ◌&&◌, List, [], ◌∷◌, ◌++◌, ℕ, ◌-◌, get_or}
use Rattle.units.specs.Bodies.{indexes}
use Rattle.rules.specs.Tables.{slice}
use Rattle.rules.specs.Steps.{is_index, path_shape, Step, Split}
use Rattle.counting.specs.declared.Node.{Node}
use Rattle.counting.specs.Places.{add_places}
use Rattle.shapes.specs.Shapes.{split_parent, left_of, right_of}
use Rattle.shapes.specs.Questions.{split_share_fits, room_for_child}
use Rattle.allocation.specs.Fresh.{fresh_in}
use Rattle.allocation.specs.Gains.{gains_fit}
use Rattle.bodies.specs.Bodies.{used_part}
use Rattle.pathed.specs.Pathed.{target_node, child_unit, child_node, leads_to_in, pathed_tree, pathed_counts, pathed_map}

abbrev pub split_step : List ℕ → Step
split_step b =
    Split (get_or b 0 0) (slice 1 indexes b) (slice 8 indexes b) (get_or b 15 0) (get_or b 16 0) (get_or b 17 0) (get_or b 18 0) (get_or b 19 0)

abbrev pub split_path : List ℕ → List ℕ
split_path b = used_part b 1 (get_or b 0 0)

abbrev pub split_fresh : List ℕ → List ℕ
split_fresh b = used_part b 8 (get_or b 0 0)

-- the units that come besides the copies
abbrev pub split_units : List ℕ → List ℕ
split_units b = get_or b 17 0 ∷ get_or b 18 0 ∷ get_or b 19 0 ∷ []

abbrev pub split_target : List ℕ → List ℕ → Node
split_target tree b = target_node tree (split_path b)

abbrev pub split_child : List ℕ → List ℕ → Node
split_child tree b = child_node tree (split_path b) (get_or b 15 0)

unfoldable pub split_tests : List ℕ → List ℕ → List ℕ → List ℕ → List Bool
split_tests tree counts map b =
    (path_shape (get_or b 0 0) (slice 1 indexes b) (slice 8 indexes b) && is_index (get_or b 15 0))
    ∷ true
    ∷ leads_to_in tree (split_path b) (get_or b 15 0)
    ∷ split_share_fits (split_child tree b) (get_or b 16 0)
    ∷ true
    ∷ room_for_child (split_target tree b)
    ∷ true
    ∷ fresh_in map (split_fresh b ++ split_units b)
    ∷ gains_fit counts (slice 0 ((split_child tree b).buffer_number - 0) (split_child tree b).buffers) []
    ∷ []

abbrev pub split_nodes : List ℕ → List ℕ → List (ℕ × Node)
split_nodes tree b =
    (get_or b 17 0, split_parent (split_target tree b) (get_or b 15 0) (get_or b 18 0) (get_or b 19 0))
    ∷ (get_or b 18 0, left_of (split_child tree b) (get_or b 16 0))
    ∷ (get_or b 19 0, right_of (split_child tree b) (get_or b 16 0))
    ∷ []

unfoldable pub split_tree : List ℕ → List ℕ → List ℕ → List ℕ
split_tree tree counts b =
    pathed_tree tree counts (split_path b) (split_fresh b) (get_or b 17 0) (split_nodes tree b) (child_unit tree (split_path b) (get_or b 15 0))

-- the child's buffers come once more
unfoldable pub split_counts : List ℕ → List ℕ → List ℕ → List ℕ
split_counts tree counts b =
    add_places (pathed_counts tree counts (split_path b) (split_fresh b) (split_units b) (child_unit tree (split_path b) (get_or b 15 0)))
    (slice 0 ((split_child tree b).buffer_number - 0) (split_child tree b).buffers)

unfoldable pub split_map : List ℕ → List ℕ → List ℕ → List ℕ → List ℕ
split_map tree counts map b =
    pathed_map tree counts map (split_path b) (split_fresh b) (split_units b) (child_unit tree (split_path b) (get_or b 15 0))
