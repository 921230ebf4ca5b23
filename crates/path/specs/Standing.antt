-- The nodes of a store stand in the bytes of the tree: the root in row 0, and in row u the bytes of node u, zeros where it is not
-- there. Assumes nothing.
use Rattle.std.specs.Prelude.{◌≡◌, List, ℕ, ◌*◌, ◌≤◌, length}
use Rattle.std.proofs.Math.Option.{Option}
use Rattle.units.specs.Limits.{last_unit}
use Rattle.rules.specs.Tables.{or_else}
use Rattle.rules.specs.Store.{Node, blank}
use Rattle.records.specs.Rows.{Row}
use Rattle.counting.specs.Nodes.{stride, node_bytes, root_bytes}

-- the bytes of the tree
abbrev pub tree_length : ℕ
tree_length = 6656

pub record TreeIs (root : ℕ) (nodes : ℕ → Option Node) (tree : List ℕ) : Type 0 where
  pub long : length tree ≡ tree_length
  pub root_row : Row tree 0 (root_bytes root)
  pub node : (u : ℕ) → 1 ≤ u → u ≤ last_unit → Row tree (u * stride) (node_bytes (or_else blank (nodes u)))
