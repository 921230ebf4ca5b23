-- Those counted so far, with those still to come, are all of them.
use Rattle.std.proofs.Common.{◌≡◌, ◌≤◌, ◌+◌, drop}
use Rattle.rules.specs.Tables.{times}
use Rattle.allocation.proofs.occurrences.Given as goal

abbrev pub invariant-loop-x : goal.invariant-loop-x
invariant-loop-x l = record { few : l.n ≤ l.x-index; left : l.n + times l.b (drop l.x-index l.bs) ≡ times l.b l.bs }
