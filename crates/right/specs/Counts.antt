-- What an accepted step does to each count: what is taken off is what the dropped nodes had, what is put on what the added ones have.
-- Nothing is subtracted. Assumes nothing.
use Rattle.std.specs.Prelude.{◌≡◌, List, [], ◌∷◌, ℕ, ◌+◌}
use Rattle.ways.specs.Ways.{sums}
use Rattle.rules.specs.Tables.{times, keys}
use Rattle.rules.specs.Store.{Node, Store, ways, in_buffers, places}
use Rattle.rules.specs.Steps.{Change}

-- a branch's places in the buffers of added nodes
abbrev pub added : ℕ → List (ℕ × Node) → ℕ
added b [] = 0
added b (e ∷ es) = times b e.1.buffers + added b es

-- what an accepted step does to each count
pub record Counted (s s' : Store) (p : Change) : Type 0 where
  pub ways : (x : ℕ) → ways s' x + times x p.drops ≡ ways s x + times x (keys p.adds)
  pub branch : (b : ℕ) → places s' b + sums (in_buffers s b) p.drops ≡ places s b + added b p.adds
