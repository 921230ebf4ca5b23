-- Holding the units from i on gives what was asked.
use Rattle.std.proofs.Common.{◌≡◌, drop}
use Rattle.state.specs.Standing.{marks}
use Rattle.allocation.proofs.hold_run.Given as goal

abbrev pub invariant-loop-u : goal.invariant-loop-u
invariant-loop-u l = marks l.map (drop l.u-index l.us) ≡ marks l.fn.map l.us
