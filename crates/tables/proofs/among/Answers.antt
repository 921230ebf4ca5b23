use Rattle.std.proofs.Common.{take, sym, ap, ◌∙◌, arith}
use Rattle.ways.specs.Ways.{has}
use Rattle.tables.proofs.Search.{take_room, has_here, has_later, has_none}
use Rattle.tables.proofs.among.Goals as goal

pub loop-x-init : goal.loop-x-init
loop-x-init c = ap (has c.args.u) (take_room c.args.places c.args.number c.min.result (omega arith) (omega (arith, c.from.ensures, c.min.ensures)))

pub returns-then-x-u : goal.returns-then-x-u
returns-then-x-u c = has_here c.args.u (take c.min.result c.args.places) c.loop-x.x-index c.loop-x-test.true c.if-x-u.true ∙ c.loop-x.invariant

pub loop-x-preserved : goal.loop-x-preserved
loop-x-preserved c = sym (has_later c.args.u (take c.min.result c.args.places) c.loop-x.x-index c.loop-x-test.true c.if-x-u.false) ∙ c.loop-x.invariant

pub returns : goal.returns
returns c = sym (has_none c.args.u (take c.min.result c.args.places) c.loop-x.x-index c.loop-x-test.false) ∙ c.loop-x.invariant
