use Rattle.recount.proofs.Turns.{passed, children_low, walk_none, walk_on, walk_over, children_turn, children_over, children_end}
use Rattle.recount.proofs.+walk_children_walk_node.Goals as goal

pub walk_children-returns-then-depth-eq0 : goal.walk_children-returns-then-depth-eq0
walk_children-returns-then-depth-eq0 t c = children_low c.args.tree.now c.args.depth c.args.children.now c.args.counts.now c.if-depth-eq0.true

pub walk_children-returns-in_err-walk_node : goal.walk_children-returns-in_err-walk_node
walk_children-returns-in_err-walk_node t c =
    children_over c.args.tree.now c.args.depth c.args.children.now c.args.counts.now c.loop-c.counts c.walk_node.new.counts c.loop-c.c-index c.loop-c-test.true c.loop-c.invariant
    c.in_err-walk_node.ensures (passed c.from_residual.result _ c.from_residual.ensures)

pub walk_children-loop-c-preserved : goal.walk_children-loop-c-preserved
walk_children-loop-c-preserved t c =
    children_turn c.args.tree.now c.args.depth c.args.children.now c.args.counts.now c.loop-c.counts c.walk_node.new.counts c.loop-c.c-index c.loop-c-test.true c.loop-c.invariant
    c.in_ok-walk_node.ensures

pub walk_children-returns : goal.walk_children-returns
walk_children-returns t c =
    children_end c.args.tree.now c.args.depth c.args.children.now c.args.counts.now c.loop-c.counts c.loop-c.c-index c.loop-c-test.false c.loop-c.invariant

pub walk_node-returns-then-depth-eq0 : goal.walk_node-returns-then-depth-eq0
walk_node-returns-then-depth-eq0 t c = walk_none c.args.tree.now c.args.depth c.args.u.0 c.args.counts.now c.if-depth-eq0.true

pub walk_node-returns-in_err-count_node : goal.walk_node-returns-in_err-count_node
walk_node-returns-in_err-count_node t c =
    walk_over c.args.tree.now c.args.depth c.args.u.0 c.args.counts.now c.count_node.new.counts c.if-depth-eq0.false c.in_err-count_node.ensures
    (passed c.from_residual.result _ c.from_residual.ensures)

pub walk_node-returns : goal.walk_node-returns
walk_node-returns t c =
    walk_on c.args.tree.now c.args.depth c.args.u.0 c.read_node-n.result c.part-children.result.now c.args.counts.now c.count_node.new.counts c.walk_children.new.counts
    c.walk_children.result c.if-depth-eq0.false c.in_ok-count_node.ensures c.read_node-n.ensures c.part-children.ensures c.walk_children.ensures
