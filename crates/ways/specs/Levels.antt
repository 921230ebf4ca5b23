-- What stands d levels below a list of nodes: as a list, once for each way, and as a set of units.
-- Assumes nothing.
use Rattle.std.specs.Prelude.{ℕ, zero, suc, Bool, false, ◌||◌, ◌&&◌, List, [], ◌∷◌}
use Rattle.ways.specs.Ways.{has, flat}

unfoldable pub levels : (ℕ → List ℕ) → ℕ → List ℕ → List ℕ
levels children zero l = l
levels children (suc d) l = levels children d (flat children l)

-- some member passes
abbrev pub some_of : (ℕ → Bool) → List ℕ → Bool
some_of f [] = false
some_of f (x ∷ xs) = f x || some_of f xs

-- of the units us, those that are a child of one in the set
unfoldable pub below : (ℕ → List ℕ) → List ℕ → (ℕ → Bool) → ℕ → Bool
below children us set u = some_of (λ v. set v && has u (children v)) us

unfoldable pub level_set : (ℕ → List ℕ) → List ℕ → ℕ → (ℕ → Bool) → ℕ → Bool
level_set children us zero set = set
level_set children us (suc d) set = level_set children us d (below children us set)
