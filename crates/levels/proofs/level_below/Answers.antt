use Rattle.std.proofs.Common.{◌≡◌, ◌∙◌, ap, arith}
use Rattle.levels.proofs.Marks.{marked, marked_more, marked_four}
use Rattle.levels.proofs.level_below.Goals as goal

pub loop-i-preserved : goal.loop-i-preserved
loop-i-preserved c =
    marked_more c.args.tree.now c.args.level.now c.args.below.now c.loop-i.below c.mark_word.new.below c.loop-i.i c.loop-i.invariant (rw c.of.ensures at c.mark_word.ensures)

pub returns : goal.returns
returns c =
    let n : c.loop-i.i ≡ 4 = omega arith in
    c.loop-i.invariant ∙ ap (marked c.args.tree.now c.args.level.now c.args.below.now) n ∙ marked_four c.args.tree.now c.args.level.now c.args.below.now
