use Rattle.std.proofs.Common.{ap, ◌∙◌, arith}
use Rattle.levels.specs.Sets.{level_in}
use Rattle.levels.proofs.Depth.{level_turn, level_end}
use Rattle.levels.proofs.longer.Goals as goal

pub loop-preserved : goal.loop-preserved
loop-preserved c =
    level_turn c.args.tree.now c.loop.level c.level_below.new.below c.args.d c.loop.counter _ c.loop-test.true c.level_below.ensures c.loop.invariant

pub returns : goal.returns
returns c =
    level_end c.args.tree.now (record { small = c.fits-tree }) c.args.d c.args.u.0 c.loop.counter c.loop.level c.number.result (omega arith) c.loop-test.false
    (c.loop.invariant ∙ ap (level_in c.args.tree.now c.args.d) c.hold.ensures) c.number.ensures
