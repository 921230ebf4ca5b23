-- Sweeping the roots from place i on gives what was asked.
use Rattle.allocation.proofs.Loops.{SweepLoop}
use Rattle.allocation.proofs.sweep.Given as goal

abbrev pub invariant-loop-b : goal.invariant-loop-b
invariant-loop-b l = SweepLoop l.counts l.fn.hold l.fn.map l.fn.roots l.hold l.map l.b-index
