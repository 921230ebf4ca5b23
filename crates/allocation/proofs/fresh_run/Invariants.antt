-- The answer and the map are those of the units from i on.
use Rattle.allocation.proofs.Loops.{FreshLoop}
use Rattle.allocation.proofs.fresh_run.Given as goal

abbrev pub invariant-loop-u : goal.invariant-loop-u
invariant-loop-u l = FreshLoop l.fn.seen l.us l.seen l.u-index
