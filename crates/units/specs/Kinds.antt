-- The number of each kind of step, the first byte of its records, and what a byte names.
-- Assumes nothing.
use Rattle.std.specs.Prelude.{◌≡◌, false, ◌&&◌, ℕ, Result, MatchResult, leb}
use Rattle.units.specs.declared.Kind.{Kind}
use Rattle.units.specs.declared.Kind.TheVariants.{Take, Seal, Abandon, MemtableFlush, Grow, Split, Flush, CompactBegin, CompactCommit, CompactAbort}
use Rattle.units.specs.declared.Refusal.{Refusal}
use Rattle.units.specs.declared.Refusal.TheVariants.{UnknownKind}
use Rattle.units.specs.Limits.{last_kind}

abbrev pub number_of_kind : Kind → ℕ
number_of_kind Take = 1
number_of_kind Seal = 2
number_of_kind Abandon = 3
number_of_kind MemtableFlush = 4
number_of_kind Grow = 5
number_of_kind Split = 6
number_of_kind Flush = 7
number_of_kind CompactBegin = 8
number_of_kind CompactCommit = 9
number_of_kind CompactAbort = 10

-- the kind with this number, or the refusal of a byte that numbers none
abbrev pub NamesKind : ℕ → Result Kind Refusal → Type 0
NamesKind byte r = MatchResult r (λ kind. number_of_kind kind ≡ byte) (λ why. (why ≡ UnknownKind) × ((leb 1 byte && leb byte last_kind) ≡ false))
