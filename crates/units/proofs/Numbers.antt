-- The numbers of kinds and refusals lie where they should. Assumes nothing.
use mathlib.Core.Path.{◌≡◌, refl}
use mathlib.Core.Bool.{true, ◌&&◌}
use Prim.Native.Nat.{◌≤◌}
use native.Mathlib.Omega.{arith}
use lib.Dec.{leb}
use Rattle.units.specs.declared.Kind.{Kind}
use Rattle.units.specs.declared.Kind.TheVariants.{Take, Seal, Abandon, MemtableFlush, Grow, Split, Flush, CompactBegin, CompactCommit, CompactAbort}
use Rattle.units.specs.declared.Refusal.{Refusal}
use Rattle.units.specs.declared.Refusal.TheVariants.{ShortList, UnknownKind, WrongLength, BadPlace, UnfitSlot, NoSuchChild, OutOfRange, NotTheInput, TooMany, TooDeep, NotFresh, CountTooHigh, ShortOutput, BadLayout, OwnedTwice, NamesNothing, WayTooLong, RecountTooHigh, NotHeld, CountDiffers}
use Rattle.units.specs.Kinds.{number_of_kind}
use Rattle.units.specs.Refusals.{number_of}
use Rattle.units.specs.Limits.{last_kind}

-- a kind's number is one of 1 to 10
pub kind_numbered : (kind : Kind) → (leb 1 (number_of_kind kind) && leb (number_of_kind kind) last_kind) ≡ true
kind_numbered Take = refl
kind_numbered Seal = refl
kind_numbered Abandon = refl
kind_numbered MemtableFlush = refl
kind_numbered Grow = refl
kind_numbered Split = refl
kind_numbered Flush = refl
kind_numbered CompactBegin = refl
kind_numbered CompactCommit = refl
kind_numbered CompactAbort = refl

-- 0 is free to say that nothing was refused
pub refusal_positive : (why : Refusal) → 1 ≤ number_of why
refusal_positive ShortList = omega arith
refusal_positive UnknownKind = omega arith
refusal_positive WrongLength = omega arith
refusal_positive BadPlace = omega arith
refusal_positive UnfitSlot = omega arith
refusal_positive NoSuchChild = omega arith
refusal_positive OutOfRange = omega arith
refusal_positive NotTheInput = omega arith
refusal_positive TooMany = omega arith
refusal_positive TooDeep = omega arith
refusal_positive NotFresh = omega arith
refusal_positive CountTooHigh = omega arith
refusal_positive ShortOutput = omega arith
refusal_positive BadLayout = omega arith
refusal_positive OwnedTwice = omega arith
refusal_positive NamesNothing = omega arith
refusal_positive WayTooLong = omega arith
refusal_positive RecountTooHigh = omega arith
refusal_positive NotHeld = omega arith
refusal_positive CountDiffers = omega arith
