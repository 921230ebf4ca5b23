-- What is left of the buffers, counted from here, gives what was asked.
use Rattle.recount.proofs.Turns.{Left}
use Rattle.recount.proofs.count_buffers.Given as goal

abbrev pub invariant-loop-b : goal.invariant-loop-b
invariant-loop-b l = Left l.buffers l.fn.counts l.counts l.b-index
