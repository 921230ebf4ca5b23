-- What the words so far list is stored.
use Rattle.held_map.proofs.Lists.{FourLoop}
use Rattle.held_map.proofs.list_four.Given as goal

abbrev pub invariant-loop-i : goal.invariant-loop-i
invariant-loop-i l = FourLoop l.fn.out l.word-items l.out l.n l.i
