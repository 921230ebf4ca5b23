-- The records that are left lead from here to where all of them lead from the start.
use Rattle.writer.proofs.Loops.{LeadsOn}
use Rattle.writer.proofs.put_each.Given as goal

abbrev pub invariant-loop-bytes : goal.invariant-loop-bytes
invariant-loop-bytes g l =
    (goal.iterator-loop-bytes g).can_next l.bytes-iterator × (goal.iterator-loop-bytes g).is_finite l.bytes-iterator
    × LeadsOn g.I.Iterator.next_gives g.R.AsSlice.items l.fn.records (l.fn.out, l.fn.at) l.bytes-iterator (l.out, l.next)
