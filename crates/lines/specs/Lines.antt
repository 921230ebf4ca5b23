-- The table of refusals as a list of tests with their numbers, and the first that fails; 0 where none does.
-- Assumes nothing.
use Rattle.std.specs.Prelude.{◌≡◌, Bool, true, false, ◌&&◌, List, [], ◌∷◌, ℕ, suc, Result, Ok, Err, eqb, leb, length}
use Rattle.units.specs.declared.Refusal.{Refusal}
use Rattle.units.specs.Limits.{last_unit, last_kind}
use Rattle.units.specs.Bodies.{body_length}
use Rattle.units.specs.Refusals.{number_of}
use Rattle.rules.specs.Tables.{all}
use Rattle.rules.specs.Store.{Store}
use Rattle.rules.specs.Steps.{Outcome, accepted, refused, Change, extended, small, fresh, fit}

abbrev pub unless : Bool → ℕ → ℕ → ℕ
unless true n m = m
unless false n m = n

unfoldable pub first_of : List (Bool × ℕ) → ℕ
first_of [] = 0
first_of (t ∷ ts) = unless t.0 t.1 (first_of ts)

-- n, n + 1, .. one to a test
abbrev pub numbered : ℕ → List Bool → List (Bool × ℕ)
numbered n [] = []
numbered n (b ∷ bs) = (b, n) ∷ numbered (suc n) bs

-- lines 1 to 3
unfoldable pub head_of : List ℕ → ℕ → ℕ
head_of [] room = unless (leb last_unit room) 1 2
head_of (kind ∷ body) room =
    unless (leb last_unit room) 1 (unless (leb 1 kind && leb kind last_kind) 2 (unless (eqb (length body) (body_length kind)) 3 0))

-- document 01's number of a result, 0 where it is Ok
abbrev pub refusal_number : {A : Type 0} → Result A Refusal → ℕ
refusal_number (Ok a) = 0
refusal_number (Err why) = number_of why

-- document 01's number of an outcome, 0 for acceptance
abbrev pub number : Outcome → ℕ
number (accepted s) = 0
number (refused n) = n

-- what the lines 4 to 12 of the table ask of a change
abbrev pub tests_of : Store → Change → List Bool
tests_of s c =
    c.shape
    ∷ c.slot
    ∷ c.path
    ∷ c.range
    ∷ c.input
    ∷ all small c.adds
    ∷ c.low
    ∷ fresh s c.proposed
    ∷ fit (extended s c)
    ∷ []

-- alike as far as they matter: each test where those before it pass
abbrev pub Agree : List Bool → List Bool → Type 0
Agree [] [] = Unit {0}
Agree [] (y ∷ ys) = ⊥
Agree (x ∷ xs) [] = ⊥
Agree (x ∷ xs) (y ∷ ys) = (x ≡ y) × (y ≡ true → Agree xs ys)
