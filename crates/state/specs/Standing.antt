-- How counts and held units stand in the lent arrays `counts` and `map`.
-- Assumes nothing.
use Rattle.std.specs.Prelude.{◌≡◌, Bool, List, [], ◌∷◌, ℕ, ◌≤◌, length, get_or}
use Rattle.units.specs.Limits.{last_unit}
use Rattle.held_map.specs.Map.{Words, held_in, mark}
use Rattle.counting.specs.Places.{place_of}

abbrev pub counts_length : ℕ
counts_length = 512

-- each node's ways and each branch's places
pub record CountsAre (ways places : ℕ → ℕ) (counts : List ℕ) : Type 0 where
  pub long : length counts ≡ counts_length
  pub way : (u : ℕ) → u ≤ last_unit → get_or counts u 0 ≡ ways u
  pub place : (b : ℕ) → b ≤ last_unit → get_or counts (place_of b) 0 ≡ places b

-- the bits of the units that pass, and no others
pub record MapIs (held : ℕ → Bool) (map : List ℕ) : Type 0 where
  pub words : Words map
  pub marks : (u : ℕ) → u ≤ last_unit → held_in map u ≡ held u

-- one unit after the other is held
abbrev pub marks : List ℕ → List ℕ → List ℕ
marks map [] = map
marks map (u ∷ us) = marks (mark map u) us
