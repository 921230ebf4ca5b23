use Rattle.std.proofs.Common.{◌∙◌}
use Rattle.pathed.proofs.Answers.{fresh_both, fresh_not}
use Rattle.pathed.proofs.fresh_units.Goals as goal

pub returns-then-fresh_run : goal.returns-then-fresh_run
returns-then-fresh_run c =
    let a = c.args in
    fresh_both a.map.now a.path.now a.new.now _ c.fresh_run.ensures.answer c.if-fresh_run.true c.fresh_run.new.seen _ c.fresh_run.ensures.seen c.fresh_run-then-fresh_run.ensures.answer

pub returns-else-fresh_run : goal.returns-else-fresh_run
returns-else-fresh_run c = let a = c.args in c.if-fresh_run.false ∙ fresh_not a.map.now a.path.now a.new.now _ c.fresh_run.ensures.answer c.if-fresh_run.false
