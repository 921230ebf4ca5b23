-- What is left to mark, marked from here, gives what was asked.
use Rattle.std.proofs.Common.{◌≡◌}
use Rattle.ways.specs.Ways.{flat}
use Rattle.held_map.specs.Left.{left}
use Rattle.counting.specs.Graph.{children_in}
use Rattle.levels.specs.Sets.{marks}
use Rattle.levels.proofs.mark_word.Given as goal

abbrev pub invariant-loop-u : goal.invariant-loop-u
invariant-loop-u l =
    (goal.iterator-loop-u).can_next l.u-iterator × (goal.iterator-loop-u).is_finite l.u-iterator
    × (marks l.below (flat (children_in l.tree) (left l.u-iterator)) ≡ marks l.fn.below (flat (children_in l.tree) (left l.fn.units)))
