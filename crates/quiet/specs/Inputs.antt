-- Compact begin and compact abort on the lists of the lent arrays: their tests of the lines 4 to 12, and what they leave.
-- Assumes nothing.
use Rattle.std.specs.Prelude.{Bool, true, ◌&&◌, not, Option, List, [], ◌∷◌, ℕ, ◌-◌, eqb, ltb, get_or, take}
use Rattle.units.specs.Limits.{compactor_count}
use Rattle.units.specs.Bodies.{indexes}
use Rattle.units.specs.declared.NodeUnit.{NodeUnit}
use Rattle.rules.specs.Tables.{slice}
use Rattle.rules.specs.Steps.{path_shape}
use Rattle.records.specs.Rows.{eight}
use Rattle.counting.specs.declared.Node.{Node}
use Rattle.counting.specs.Nodes.{node_in}
use Rattle.tables.specs.declared.Input.{Input}
use Rattle.tables.specs.Hold.{input_in, put_input, coded_input}
use Rattle.shapes.specs.Questions.{part_fits}
use Rattle.bodies.specs.Bodies.{used_of, target_in, unit_of, is_found}
use Rattle.allocation.specs.Sweep.{sweep_hold, sweep_map}

-- ---- an input by value

abbrev pub is_busy : Input → Bool
is_busy x = not (eqb x.number 0)

abbrev pub is_idle : Input → Bool
is_idle x = eqb x.number 0

-- the buffers from `start` up to `end`
unfoldable pub part_of : Node → ℕ → ℕ → Input
part_of n start end =
    record { number = end - start; roots = eight (slice start (end - start) n.buffers) }

-- ---- 8 compact begin; the body is compactor, depth, indexes, start, end

unfoldable pub begin_target : List ℕ → List ℕ → Option NodeUnit
begin_target tree body = target_in tree (take (used_of (get_or body 1 0)) (slice 2 indexes body))

unfoldable pub begin_shape : List ℕ → Bool
begin_shape body = ltb (get_or body 0 0) compactor_count && path_shape (get_or body 1 0) (slice 2 indexes body) []

-- the node that the path leads to; at unit 0 where it leads nowhere
abbrev pub begin_node : List ℕ → List ℕ → Node
begin_node tree body = node_in tree (unit_of (begin_target tree body))

unfoldable pub begin_tests : List ℕ → List ℕ → List ℕ → List Bool
begin_tests tree hold body =
    begin_shape body
    ∷ is_idle (input_in hold (get_or body 0 0))
    ∷ is_found (begin_target tree body)
    ∷ part_fits (begin_node tree body) (get_or body 9 0) (get_or body 10 0)
    ∷ true
    ∷ true
    ∷ true
    ∷ true
    ∷ true
    ∷ []

unfoldable pub begin_hold : List ℕ → List ℕ → List ℕ → List ℕ
begin_hold tree hold body = put_input hold (get_or body 0 0) (part_of (begin_node tree body) (get_or body 9 0) (get_or body 10 0))

-- ---- 10 compact abort

unfoldable pub abort_tests : List ℕ → ℕ → List Bool
abort_tests hold k = ltb k compactor_count ∷ is_busy (input_in hold k) ∷ true ∷ true ∷ true ∷ true ∷ true ∷ true ∷ true ∷ []

unfoldable pub abort_hold : List ℕ → List ℕ → ℕ → List ℕ
abort_hold counts hold k = sweep_hold counts (put_input hold k (coded_input [])) (input_in hold k).roots

unfoldable pub abort_map : List ℕ → List ℕ → List ℕ → ℕ → List ℕ
abort_map counts hold map k = sweep_map counts (put_input hold k (coded_input [])) map (input_in hold k).roots
