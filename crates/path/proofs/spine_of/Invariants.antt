-- After k turns the first k units of the path are stored, and the next is known.
use Rattle.std.proofs.Common.{◌≤◌, ◌≡◌, length}
use Rattle.units.specs.Limits.{room}
use Rattle.units.specs.Bodies.{indexes}
use Rattle.path.proofs.Walks.{OnPath}
use Rattle.path.proofs.spine_of.Given as goal

abbrev pub invariant-loop-k : goal.invariant-loop-k
invariant-loop-k l = record {
  few : length l.i-items ≤ indexes;
  eight_units : length l.units ≡ room;
  on_path : OnPath l.tree l.i-items l.initial.at.0 l.k l.units l.at.0;
}
