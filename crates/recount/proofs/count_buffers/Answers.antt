use Rattle.recount.proofs.Turns.{passed, buffers_turn, buffers_over, buffers_end}
use Rattle.recount.proofs.count_buffers.Goals as goal

pub returns-in_err-count_one : goal.returns-in_err-count_one
returns-in_err-count_one c =
    buffers_over c.args.buffers.now c.args.counts.now c.loop-b.counts c.count_one.new.counts c.loop-b.b-index c.loop-b-test.true c.loop-b.invariant
    (rw c.index.ensures.0 at c.in_err-count_one.ensures) (passed c.from_residual.result _ c.from_residual.ensures)

pub loop-b-preserved : goal.loop-b-preserved
loop-b-preserved c =
    buffers_turn c.args.buffers.now c.args.counts.now c.loop-b.counts c.count_one.new.counts c.loop-b.b-index c.loop-b-test.true c.loop-b.invariant
    (rw c.index.ensures.0 at c.in_ok-count_one.ensures)

pub returns : goal.returns
returns c = buffers_end c.args.buffers.now c.args.counts.now c.loop-b.counts c.loop-b.b-index c.loop-b-test.false c.loop-b.invariant
