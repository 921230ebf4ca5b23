use Rattle.std.proofs.Common.{◌≡◌, arith, refl}
use Rattle.held_map.proofs.Lists.{four_room, four_turn, four_end}
use Rattle.held_map.proofs.list_four.Goals as goal

pub loop-i-init : goal.loop-i-init
loop-i-init c = record { list = refl; next = refl }

pub list-n-requires : goal.list-n-requires
list-n-requires c = rw c.of.ensures (omega (arith, c.loop-i.invariant.next, four_room c.args.words c.loop-i.i c.loop-i-test.true))

pub loop-i-preserved : goal.loop-i-preserved
loop-i-preserved c = four_turn c.loop-i.invariant (rw c.of.ensures at c.list-n.ensures.list) (rw c.of.ensures at c.list-n.ensures.next)

pub returns : goal.returns
returns c =
    let n : c.loop-i.i ≡ 4 = omega arith in
    let r = four_end c.loop-i.invariant n in
    record { list = r.0; next = r.1 }
