-- A run: any proposals one after another, accepted or refused, each with the length of its lent list. And what it is for a line of the
-- table to be the first that applies. Assumes nothing.
use Rattle.std.specs.Prelude.{◌≡◌, Bool, true, false, ◌&&◌, ◌⊎◌, List, [], ◌∷◌, ℕ, suc, ◌≤◌, eqb, leb, length, get_or}
use Rattle.units.specs.Limits.{last_unit, last_kind}
use Rattle.units.specs.Bodies.{body_length}
use Rattle.rules.specs.Tables.{all}
use Rattle.rules.specs.Store.{Store}
use Rattle.rules.specs.Steps.{Outcome, accepted, refused, Change, extended, small, fresh, fit, no_step, change, steps, step_in}

-- the length of the lent list, and the record
abbrev pub Proposal : Type 0
Proposal = ℕ × List ℕ

-- a refusal leaves the store as it was
abbrev pub settled : Store → Outcome → Store
settled s (accepted s') = s'
settled s (refused n) = s

unfoldable pub run : Store → List Proposal → Store
run s [] = s
run s (p ∷ ps) = run (settled s (step_in s p.0 p.1)) ps

-- strictly rising, from n on
abbrev pub Rising : ℕ → List ℕ → Type 0
Rising n [] = Unit {0}
Rising n (x ∷ xs) = (n ≤ x) × Rising (suc x) xs

-- the tests before pass, and the test of this number fails
abbrev pub First : List (Bool × ℕ) → ℕ → Type 0
First [] n = ⊥
First (t ∷ ts) n = ((t.0 ≡ false) × (n ≡ t.1)) ⊎ ((t.0 ≡ true) × First ts n)

-- lines 4 to 12 of the table, of a change
abbrev pub lines_of : Store → Change → List (Bool × ℕ)
lines_of s c =
    (c.shape, 4)
    ∷ (c.slot, 5)
    ∷ (c.path, 6)
    ∷ (c.range, 7)
    ∷ (c.input, 8)
    ∷ (all small c.adds, 9)
    ∷ (c.low, 10)
    ∷ (fresh s c.proposed, 11)
    ∷ (fit (extended s c), 12)
    ∷ []

-- the change that a record's body says
abbrev pub change_of : Store → ℕ → List ℕ → Change
change_of s kind body = change s (get_or (steps body) kind no_step)

-- the whole table
unfoldable pub table : Store → ℕ → List ℕ → List (Bool × ℕ)
table s n [] = (leb last_unit n, 1) ∷ (false, 2) ∷ []
table s n (kind ∷ body) =
    (leb last_unit n, 1) ∷ (leb 1 kind && leb kind last_kind, 2) ∷ (eqb (length body) (body_length kind), 3) ∷ lines_of s (change_of s kind body)
