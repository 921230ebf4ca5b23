use Rattle.levels.proofs.Marks.{mark_turn}
use Rattle.levels.proofs.mark_word.Goals as goal

pub loop-u-preserved : goal.loop-u-preserved
loop-u-preserved c = (tt, tt, mark_turn _ _ _ _ _ c.loop-u.invariant.2 c.in-Some.ensures.steps c.mark_children.ensures)
