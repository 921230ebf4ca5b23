-- Document 01's number for each refusal: of a step 1 to 12, of the writer 20, of a load 21 to 27.
-- Assumes nothing.
use Rattle.std.specs.Prelude.{ℕ}
use Rattle.units.specs.declared.Refusal.{Refusal}
use Rattle.units.specs.declared.Refusal.TheVariants.{ShortList, UnknownKind, WrongLength, BadPlace, UnfitSlot, NoSuchChild, OutOfRange, NotTheInput, TooMany, TooDeep, NotFresh, CountTooHigh, ShortOutput, BadLayout, OwnedTwice, NamesNothing, WayTooLong, RecountTooHigh, NotHeld, CountDiffers}

abbrev pub number_of : Refusal → ℕ
number_of ShortList = 1
number_of UnknownKind = 2
number_of WrongLength = 3
number_of BadPlace = 4
number_of UnfitSlot = 5
number_of NoSuchChild = 6
number_of OutOfRange = 7
number_of NotTheInput = 8
number_of TooMany = 9
number_of TooDeep = 10
number_of NotFresh = 11
number_of CountTooHigh = 12
number_of ShortOutput = 20
number_of BadLayout = 21
number_of OwnedTwice = 22
number_of NamesNothing = 23
number_of WayTooLong = 24
number_of RecountTooHigh = 25
number_of NotHeld = 26
number_of CountDiffers = 27
