-- What the iterator has left, listed from here, gives what was asked.
use Rattle.held_map.specs.Left.{left}
use Rattle.held_map.proofs.Lists.{ListLoop}
use Rattle.held_map.proofs.Units.list.Given as goal

abbrev pub invariant-loop-u : goal.invariant-loop-u
invariant-loop-u l =
    (goal.iterator-loop-u).can_next l.u-iterator × (goal.iterator-loop-u).is_finite l.u-iterator × ListLoop l.fn.out l.at (left l.fn.self) l.out l.n (left l.u-iterator)
