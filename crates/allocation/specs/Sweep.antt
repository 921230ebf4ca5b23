-- The sweep of dead branches: a branch that no buffer and no input names goes, and its units with it. Assumes nothing.
use Rattle.std.specs.Prelude.{Bool, ◌&&◌, not, cond, List, [], ◌∷◌, ℕ, eqb, get_or}
use Rattle.held_map.specs.Map.{clears}
use Rattle.counting.specs.Places.{place_of}
use Rattle.tables.specs.Hold.{branch_in, put_branch, coded_branch, in_use_in}

unfoldable pub dead_in : List ℕ → List ℕ → ℕ → Bool
dead_in counts hold b = eqb (get_or counts (place_of b) 0) 0 && not (in_use_in hold b)

unfoldable pub swept_hold : List ℕ → List ℕ → ℕ → List ℕ
swept_hold counts hold b = cond (dead_in counts hold b) (put_branch hold b (coded_branch [])) hold

unfoldable pub swept_map : List ℕ → List ℕ → List ℕ → ℕ → List ℕ
swept_map counts hold map b = cond (dead_in counts hold b) (clears map (branch_in hold b).units) map

-- one after the other; the units are those that stand there then
abbrev pub sweep_hold : List ℕ → List ℕ → List ℕ → List ℕ
sweep_hold counts hold [] = hold
sweep_hold counts hold (b ∷ bs) = sweep_hold counts (swept_hold counts hold b) bs

abbrev pub sweep_map : List ℕ → List ℕ → List ℕ → List ℕ → List ℕ
sweep_map counts hold map [] = map
sweep_map counts hold map (b ∷ bs) = sweep_map counts (swept_hold counts hold b) (swept_map counts hold map b) bs
