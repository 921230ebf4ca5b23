-- Kind 7, flush, on lists: the tests of the lines 4 to 12, and what the step leaves. The body b: depth, seven indexes, seven fresh units,
-- the child, the number of buffers that go, and the units of parent and new child. Assumes nothing.
use Rattle.std.specs.Prelude.{Bool, true, ◌&&◌, List, [], ◌∷◌, ◌++◌, ℕ, ◌-◌, get_or}
use Rattle.units.specs.Bodies.{indexes}
use Rattle.rules.specs.Tables.{slice}
use Rattle.rules.specs.Steps.{is_index, path_shape, Step, Flush}
use Rattle.counting.specs.declared.Node.{Node}
use Rattle.counting.specs.Places.{add_places, drop_places}
use Rattle.shapes.specs.Shapes.{offset_of, flush_parent, flush_child}
use Rattle.shapes.specs.Questions.{gc_fits, flush_room}
use Rattle.allocation.specs.Fresh.{fresh_in}
use Rattle.allocation.specs.Gains.{gains_fit}
use Rattle.allocation.specs.Sweep.{sweep_hold, sweep_map}
use Rattle.bodies.specs.Bodies.{used_part}
use Rattle.pathed.specs.Pathed.{target_node, child_unit, child_node, leads_to_in, pathed_tree, pathed_counts, pathed_map}

abbrev pub flush_step : List ℕ → Step
flush_step b = Flush (get_or b 0 0) (slice 1 indexes b) (slice 8 indexes b) (get_or b 15 0) (get_or b 16 0) (get_or b 17 0) (get_or b 18 0)

abbrev pub flush_path : List ℕ → List ℕ
flush_path b = used_part b 1 (get_or b 0 0)

abbrev pub flush_fresh : List ℕ → List ℕ
flush_fresh b = used_part b 8 (get_or b 0 0)

-- the units that come besides the copies
abbrev pub flush_units : List ℕ → List ℕ
flush_units b = get_or b 17 0 ∷ get_or b 18 0 ∷ []

abbrev pub parent_in : List ℕ → List ℕ → Node
parent_in tree b = target_node tree (flush_path b)

abbrev pub child_in : List ℕ → List ℕ → Node
child_in tree b = child_node tree (flush_path b) (get_or b 15 0)

abbrev pub offset_in : List ℕ → List ℕ → ℕ
offset_in tree b = offset_of (parent_in tree b) (get_or b 15 0)

unfoldable pub flush_tests : List ℕ → List ℕ → List ℕ → List ℕ → List Bool
flush_tests tree counts map b =
    (path_shape (get_or b 0 0) (slice 1 indexes b) (slice 8 indexes b) && is_index (get_or b 15 0))
    ∷ true
    ∷ leads_to_in tree (flush_path b) (get_or b 15 0)
    ∷ gc_fits (parent_in tree b) (get_or b 15 0) (get_or b 16 0)
    ∷ true
    ∷ flush_room (parent_in tree b) (child_in tree b) (get_or b 15 0)
    ∷ true
    ∷ fresh_in map (flush_fresh b ++ flush_units b)
    ∷ gains_fit counts (slice (offset_in tree b) ((parent_in tree b).buffer_number - offset_in tree b) (parent_in tree b).buffers)
    (slice 0 (get_or b 16 0 - 0) (parent_in tree b).buffers)
    ∷ []

abbrev pub flush_nodes : List ℕ → List ℕ → List (ℕ × Node)
flush_nodes tree b =
    (get_or b 17 0, flush_parent (parent_in tree b) (get_or b 15 0) (get_or b 16 0) (get_or b 18 0))
    ∷ (get_or b 18 0, flush_child (parent_in tree b) (child_in tree b) (get_or b 15 0))
    ∷ []

unfoldable pub flush_tree : List ℕ → List ℕ → List ℕ → List ℕ
flush_tree tree counts b =
    pathed_tree tree counts (flush_path b) (flush_fresh b) (get_or b 17 0) (flush_nodes tree b) (child_unit tree (flush_path b) (get_or b 15 0))

-- the first gc buffers go, those from the child's offset on come once more
unfoldable pub flush_counts : List ℕ → List ℕ → List ℕ → List ℕ
flush_counts tree counts b =
    add_places
    (drop_places (pathed_counts tree counts (flush_path b) (flush_fresh b) (flush_units b) (child_unit tree (flush_path b) (get_or b 15 0)))
    (slice 0 (get_or b 16 0 - 0) (parent_in tree b).buffers))
    (slice (offset_in tree b) ((parent_in tree b).buffer_number - offset_in tree b) (parent_in tree b).buffers)

-- of the target's buffers those that are dead are swept
unfoldable pub flush_hold : List ℕ → List ℕ → List ℕ → List ℕ → List ℕ
flush_hold tree counts hold b = sweep_hold (flush_counts tree counts b) hold (parent_in tree b).buffers

unfoldable pub flush_map : List ℕ → List ℕ → List ℕ → List ℕ → List ℕ → List ℕ
flush_map tree counts hold map b =
    sweep_map (flush_counts tree counts b) hold
    (pathed_map tree counts map (flush_path b) (flush_fresh b) (flush_units b) (child_unit tree (flush_path b) (get_or b 15 0))) (parent_in tree b).buffers
