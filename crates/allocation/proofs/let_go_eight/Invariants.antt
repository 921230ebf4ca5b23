-- Letting go the ways from place i on gives what was asked.
use Rattle.allocation.proofs.Loops.{GoLoop}
use Rattle.allocation.proofs.let_go_eight.Given as goal

abbrev pub invariant-loop-u : goal.invariant-loop-u
invariant-loop-u l = GoLoop l.fn.tree l.fn.counts l.fn.map l.fn.us l.tree l.counts l.map l.u-index
