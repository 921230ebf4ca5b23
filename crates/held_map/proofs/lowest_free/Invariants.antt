-- The words before are all ones.
use Rattle.held_map.proofs.Lowest.{Ones}
use Rattle.held_map.proofs.lowest_free.Given as goal

abbrev pub invariant-loop-i : goal.invariant-loop-i
invariant-loop-i l = Ones l.map l.i
