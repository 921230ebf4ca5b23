use Rattle.std.proofs.Common.{arith}
use Rattle.allocation.proofs.Loops.{gain_few, gain_test}
use Rattle.allocation.proofs.gain_fits.Goals as goal

pub returns-then-gains-room : goal.returns-then-gains-room
returns-then-gains-room c =
    let a = c.args in
    gain_few a.counts.now a.gains.now a.losses.now a.b c.places_of.result c.from-room.result c.places_of.ensures c.from-room.ensures (omega arith) c.if-gains-room.true

pub returns-else-gains-room : goal.returns-else-gains-room
returns-else-gains-room c =
    let a = c.args in
    rw (c.occurrences.ensures.0, c.occurrences-else-gains-room.ensures.0)
    (gain_test a.counts.now a.gains.now a.losses.now a.b c.places_of.result c.from-room.result c.places_of.ensures c.from-room.ensures (omega arith))
