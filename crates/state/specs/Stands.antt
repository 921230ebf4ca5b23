-- The store stands in the four lent arrays: this is what a right state is. Its bytes are determined by the store, and the store by them.
-- Assumes nothing.
use Rattle.std.specs.Prelude.{List, ℕ}
use Rattle.rules.specs.Store.{Store, ways, places, held}
use Rattle.rules.specs.Right.{Right}
use Rattle.path.specs.Standing.{TreeIs}
use Rattle.tables.specs.Hold.{HoldIs}
use Rattle.state.specs.Standing.{CountsAre, MapIs}

pub record Arrays : Type 0 where
  pub tree : List ℕ
  pub counts : List ℕ
  pub hold : List ℕ
  pub map : List ℕ

-- every record in its row, blanks where there is none; every stored count the recount; the map just the held units
pub record Stands (s : Store) (a : Arrays) : Type 0 where
  pub tree : TreeIs s.root s.nodes a.tree
  pub counts : CountsAre (ways s) (places s) a.counts
  pub hold : HoldIs s.branches s.slots s.inputs a.hold
  pub map : MapIs (held s) a.map

-- some right store stands in the arrays
pub record RightState (a : Arrays) : Type 0 where
  pub store : Store
  pub right : Right store
  pub stands : Stands store a
