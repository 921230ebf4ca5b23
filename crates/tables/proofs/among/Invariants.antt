-- Whether it stands in the places left is whether it stands in all.
use Rattle.std.proofs.Common.{◌≡◌, take, drop}
use Rattle.ways.specs.Ways.{has}
use Rattle.tables.proofs.among.Given as goal

abbrev pub invariant-loop-x : goal.invariant-loop-x
invariant-loop-x l = has l.u (drop l.x-index l.x-items) ≡ has l.u (take l.fn.number l.fn.places)
