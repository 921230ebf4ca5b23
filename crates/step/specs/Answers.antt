-- Document 01's number and value of a step's answer, and the refusal that has a number. Assumes nothing.
use Rattle.std.specs.Prelude.{List, [], ◌∷◌, ℕ, Result, Ok, Err, get_or}
use Rattle.units.specs.declared.Refusal.{Refusal}
use Rattle.units.specs.declared.Refusal.TheVariants.{ShortList, UnknownKind, WrongLength, BadPlace, UnfitSlot, NoSuchChild, OutOfRange, NotTheInput, TooMany, TooDeep, NotFresh, CountTooHigh}
use Rattle.lines.specs.Lines.{refusal_number}

-- the number, 0 for acceptance
abbrev pub answer_number : Result ℕ Refusal → ℕ
answer_number r = refusal_number r

-- how many units were freed
abbrev pub answer_value : Result ℕ Refusal → ℕ
answer_value (Ok n) = n
answer_value (Err why) = 0

-- by number, from 1 on
abbrev pub refusals : List Refusal
refusals =
    CountTooHigh
    ∷ ShortList
    ∷ UnknownKind
    ∷ WrongLength
    ∷ BadPlace
    ∷ UnfitSlot
    ∷ NoSuchChild
    ∷ OutOfRange
    ∷ NotTheInput
    ∷ TooMany
    ∷ TooDeep
    ∷ NotFresh
    ∷ []

abbrev pub refusal_of : ℕ → Refusal
refusal_of n = get_or refusals n CountTooHigh
