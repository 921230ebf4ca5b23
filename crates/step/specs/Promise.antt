-- What a step over the lent arrays promises, for every input. Assumes nothing.
use Rattle.std.specs.Prelude.{◌≡◌, List, ◌++◌, ℕ, Result, Ok, Err, length, drop}
use Rattle.units.specs.declared.Refusal.{Refusal}
use Rattle.rules.specs.Store.{Store, frees}
use Rattle.rules.specs.Steps.{Outcome, accepted, refused, step_in}
use Rattle.rules.specs.Right.{Right}
use Rattle.state.specs.Stands.{Arrays, Stands}
use Rattle.step.specs.Answers.{answer_number}

-- the outcome of the rules, told of the arrays and the lent list: a refusal has the rules' number and touches nothing; an acceptance
-- leaves the rules' next store, right, and lists what it frees at the front of the list, later bytes as they were
abbrev pub Kept : Store → Outcome → Arrays → List ℕ → Arrays → List ℕ → Result ℕ Refusal → Type 0
Kept s (refused n) a freed a' freed' r = (answer_number r ≡ n) × ((a' ≡ a) × (freed' ≡ freed))
Kept s (accepted s') a freed a' freed' r =
    (r ≡ Ok (length (frees s s')))
    × (Right s' × (Stands s' a' × (freed' ≡ frees s s' ++ drop (length (frees s s')) freed)))

-- on arrays that no right store stands in, a refusal still touches nothing
pub record Stepped (a : Arrays) (bytes freed : List ℕ) (a' : Arrays) (freed' : List ℕ) (r : Result ℕ Refusal) : Type 0 where
  pub untouched : (why : Refusal) → r ≡ Err why → (a' ≡ a) × (freed' ≡ freed)
  pub kept : (s : Store) → Right s → Stands s a → Kept s (step_in s (length freed) bytes) a freed a' freed' r
