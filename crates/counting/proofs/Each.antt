-- A thing done for each member of two lists, one list behind the other. Assumes nothing.
use Rattle.std.proofs.Common.{◌≡◌, refl, List, [], ◌∷◌, ◌++◌, ℕ}
use Rattle.counting.specs.Change.{each}

module _ (f : List ℕ → ℕ → List ℕ) where
  pub each_append : (a b l : List ℕ) → each f l (a ++ b) ≡ each f (each f l a) b
  each_append [] b l = refl
  each_append (x ∷ a) b l = each_append a b (f l x)
