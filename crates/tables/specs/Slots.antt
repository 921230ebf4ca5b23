-- What taking and sealing make of a slot, by value. Assumes nothing.
use Rattle.std.specs.Prelude.{cond, List, ◌++◌, ℕ, ◌+◌, ◌-◌, ltb, set, take, replicate}
use Rattle.units.specs.Limits.{room}
use Rattle.tables.specs.declared.Slot.{Slot}

-- open, with u after its units; a full slot stays
unfoldable pub taken_slot : Slot → ℕ → Slot
taken_slot x u = cond (ltb x.number room) (record { state = 1; number = x.number + 1; units = set x.units x.number u }) x

-- the first n units, then zeros
unfoldable pub front : List ℕ → ℕ → List ℕ
front us n = take n us ++ replicate (room - n) 0

abbrev pub sealed_slot : Slot → ℕ → Slot
sealed_slot x n = record { state = 2; number = n; units = front x.units n }
