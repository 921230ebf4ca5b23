use Rattle.levels.proofs.Marks.{children_end}
use Rattle.levels.proofs.mark_children.Goals as goal

pub returns : goal.returns
returns c =
    children_end c.args.tree.now c.args.u.0 c.read_node-n.result c.part-c-items.result.now c.args.below.now c.loop-c.below c.loop-c.c-index c.read_node-n.ensures
    c.part-c-items.ensures c.loop-c-test.false c.loop-c.invariant
