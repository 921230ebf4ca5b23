-- A run of a list replaced, and the number there is after it. Assumes nothing.
use Rattle.std.specs.Prelude.{List, ◌++◌, ℕ, ◌+◌, ◌-◌, take, drop}
use Rattle.counting.specs.Places.{up_to}

-- the `gone` numbers from `at` on go, and `come` comes in their place
abbrev pub replaced : List ℕ → ℕ → ℕ → List ℕ → List ℕ
replaced l at gone come = take at l ++ (come ++ drop (at + gone) l)

-- of `number`; there is room for eight
abbrev pub number_after : ℕ → ℕ → ℕ → ℕ → ℕ
number_after number at gone come = up_to (at + come + (number - (at + gone)))
