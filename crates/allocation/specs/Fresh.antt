-- Units that are fresh by the map: none is 0, held, or named twice. Assumes nothing.
use Rattle.std.specs.Prelude.{Bool, true, ◌&&◌, not, cond, List, [], ◌∷◌, ℕ, eqb}
use Rattle.held_map.specs.Map.{held_in, mark}

abbrev pub new_in : List ℕ → ℕ → Bool
new_in map u = not (eqb u 0) && not (held_in map u)

-- each is held before the next is looked at
abbrev pub fresh_in : List ℕ → List ℕ → Bool
fresh_in map [] = true
fresh_in map (u ∷ us) = new_in map u && fresh_in (mark map u) us

-- the map with the units looked at, up to the first that is not fresh
abbrev pub fresh_marks : List ℕ → List ℕ → List ℕ
fresh_marks map [] = map
fresh_marks map (u ∷ us) = cond (new_in map u) (fresh_marks (mark map u) us) map
