use Rattle.std.proofs.Common.{refl, rules}
use Rattle.writer.proofs.Loops.{put_turn, put_end}
use Rattle.writer.proofs.put_each.Goals as goal

pub loop-bytes-init : goal.loop-bytes-init
loop-bytes-init g c = (search rules, search rules, λ all h. (all, rw c.into_iter-bytes-iterator.ensures.into_iter_gives h, refl))

pub loop-bytes-preserved : goal.loop-bytes-preserved
loop-bytes-preserved g c =
    (search rules, search rules, put_turn g.I.Iterator.next_gives g.R.AsSlice.items _ _ _ (c.loop-bytes.out, c.loop-bytes.next) _ _ _ c.loop-bytes.invariant.2 c.in-Some.ensures.steps (rw c.as_slice.ensures at c.put-next.ensures))

pub returns : goal.returns
returns g c = put_end g.I.Iterator.next_gives g.R.AsSlice.items _ _ _ _ _ c.loop-bytes.invariant.2 c.in-None.ensures.steps
