-- A definition of query that its law in proofs/QueryLoops speaks of. Assumes nothing.
use Rattle.std.specs.Prelude.{Bool, cond, List, [], ◌∷◌, ℕ}

-- the first member that passes, d where none does
abbrev pub first_or : ℕ → (ℕ → Bool) → List ℕ → ℕ
first_or d f [] = d
first_or d f (x ∷ xs) = let r = first_or d f xs in cond (f x) x r
