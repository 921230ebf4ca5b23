-- The map after ways that go: the unit of a node goes with its last way. Assumes nothing.
use Rattle.std.specs.Prelude.{Bool, cond, List, [], ◌∷◌, ℕ}
use Rattle.held_map.specs.Map.{clear}
use Rattle.counting.specs.Change.{last_way, drop_count}

unfoldable pub cleared_if : Bool → List ℕ → ℕ → List ℕ
cleared_if died map u = cond died (clear map u) map

abbrev pub let_go_map : List ℕ → List ℕ → ℕ → List ℕ
let_go_map map counts u = cleared_if (last_way counts u) map u

-- one after the other
abbrev pub let_go_maps : List ℕ → List ℕ → List ℕ → List ℕ
let_go_maps map counts [] = map
let_go_maps map counts (u ∷ us) = let_go_maps (let_go_map map counts u) (drop_count counts u) us
