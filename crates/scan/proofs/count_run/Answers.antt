use Rattle.std.proofs.Common.{arith, sym}
use Rattle.images.proofs.Passes.{run_turn, run_end}
use Rattle.scan.proofs.Strides.{no_more}
use Rattle.scan.proofs.count_run.Goals as goal

pub returns-then-not-is_kind : goal.returns-then-not-is_kind
returns-then-not-is_kind c = (
  run_end c.args.b.now c.args.p c.args.kind c.args.size c.loop-n.at c.loop-n.n c.loop-n.invariant (sym c.if-not-is_kind.ensures),
  omega (arith, c.loop-n.invariant.place, c.loop-n.invariant.near),
)

pub loop-n-preserved : goal.loop-n-preserved
loop-n-preserved c =
    run_turn c.args.b.now c.args.p c.args.kind c.args.size c.loop-n.at c.loop-n.n c.requires.0 c.requires.1 c.requires.2 c.loop-n.invariant (sym c.if-not-is_kind.ensures)

pub returns : goal.returns
returns c = no_more c.args.b.now c.args.p c.args.kind c.args.size c.loop-n.at c.loop-n.n c.requires.0 c.requires.1 c.loop-n.invariant (omega arith)
