-- Sets of units, each a map of four words, level by level down the graph in the bytes of a tree. Assumes nothing.
use Rattle.std.specs.Prelude.{List, ℕ, zero, suc}
use Rattle.ways.specs.Ways.{flat}
use Rattle.rules.specs.Tables.{sift, range}
use Rattle.counting.specs.Change.{each}
use Rattle.counting.specs.Graph.{children_in}
use Rattle.held_map.specs.Map.{held_in, mark, empty_map}

-- every number that a byte can be
abbrev pub byte_units : List ℕ
byte_units = range 256 0

abbrev pub marks : List ℕ → List ℕ → List ℕ
marks m us = each mark m us

-- `below`, with all children of the units that are in the level
unfoldable pub below_in : List ℕ → List ℕ → List ℕ → List ℕ
below_in tree level below = marks below (flat (children_in tree) (sift (held_in level) byte_units))

-- the d-th level below
unfoldable pub level_in : List ℕ → ℕ → List ℕ → List ℕ
level_in tree zero level = level
level_in tree (suc d) level = level_in tree d (below_in tree level empty_map)
