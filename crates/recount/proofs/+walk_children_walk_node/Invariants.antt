-- The measure: two for each level that is left, and one more for the list. What is left of the children, counted from here, gives what
-- was asked.
use Rattle.std.proofs.Common.{◌+◌, ◌*◌}
use Rattle.recount.proofs.Turns.{LeftChildren}
use Rattle.recount.proofs.+walk_children_walk_node.Given as goal

abbrev pub decreases-walk_children : goal.decreases-walk_children
decreases-walk_children l = l.depth * 2 + 1

abbrev pub decreases-walk_node : goal.decreases-walk_node
decreases-walk_node l = l.depth * 2

abbrev pub invariant-walk_children-loop-c : goal.invariant-walk_children-loop-c
invariant-walk_children-loop-c l = LeftChildren l.tree l.depth l.children l.fn.counts l.counts l.c-index
