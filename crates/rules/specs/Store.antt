-- "What the store holds": the store without counts and without a map. How often a record is counted and what is held is computed
-- from the ways down from the roots, never read. Assumes nothing.
use Rattle.std.specs.Prelude.{ℕ, Bool, false, ◌||◌, ◌&&◌, not, cond, List, [], ◌∷◌, ◌++◌, eqb, ltb, replicate}
use Rattle.std.proofs.Math.Option.{Option, none}
use Rattle.units.specs.Limits.{last_unit, longest, slot_count, compactor_count}
use Rattle.ways.specs.Ways.{sums, total, flat, has, is}
use Rattle.rules.specs.Tables.{joined, sift, range, times, is_some, or_else, keep}

-- ---- the records

-- buffers, children, and for each child an offset: how many of the oldest buffers it already has
pub record Node : Type 0 where
  pub buffers : List ℕ
  pub children : List ℕ
  pub offsets : List ℕ

-- an unfinished slot
pub data Slot : Type 0 where
  empty : Slot
  opened : List ℕ → Slot
  sealed : List ℕ → Slot

-- the root (0: the tree is empty), nodes by unit, branches by root, unfinished slots, compactors' inputs ([]: none)
pub record Store : Type 0 where
  pub root : ℕ
  pub nodes : ℕ → Option Node
  pub branches : ℕ → Option (List ℕ)
  pub slots : List Slot
  pub inputs : List (List ℕ)

unfoldable pub units : List ℕ
units = range last_unit 1

abbrev pub empty_store : Store
empty_store = record { root = 0; nodes = λ v. none; branches = λ v. none; slots = replicate slot_count empty; inputs = replicate compactor_count [] }

-- what stands at a unit that has no node
abbrev pub blank : Node
blank = record { buffers = []; children = []; offsets = [] }

abbrev pub node_at : Store → ℕ → Node
node_at s u = or_else blank (s.nodes u)

abbrev pub children_of : Store → ℕ → List ℕ
children_of s u = (node_at s u).children

abbrev pub buffers_of : Store → ℕ → List ℕ
buffers_of s u = (node_at s u).buffers

abbrev pub units_of : Store → ℕ → List ℕ
units_of s b = or_else [] (s.branches b)

abbrev pub slot_units : Slot → List ℕ
slot_units empty = []
slot_units (opened us) = us
slot_units (sealed us) = us

-- ---- counts

abbrev pub root_list : ℕ → List ℕ
root_list r = cond (eqb r 0) [] (r ∷ [])

-- where ways begin
abbrev pub roots : Store → List ℕ
roots s = root_list s.root

-- "A node's count is the number of ways from the root to it"
abbrev pub ways : Store → ℕ → ℕ
ways s x = sums (total (children_of s) (is x) longest) (roots s)

-- the places of a branch in a node's buffers
abbrev pub in_buffers : Store → ℕ → ℕ → ℕ
in_buffers s b v = times b (buffers_of s v)

-- "A branch's count sums, over all ways to all nodes, its places in their buffer lists"
abbrev pub places : Store → ℕ → ℕ
places s b = sums (total (children_of s) (in_buffers s b) longest) (roots s)

-- ---- what is held

-- some way leads to the node
abbrev pub reached : Store → ℕ → Bool
reached s u = ltb 0 (ways s u)

-- some compactor's input names the branch
abbrev pub in_use : List (List ℕ) → ℕ → Bool
in_use [] b = false
in_use (l ∷ ls) b = has b l || in_use ls b

abbrev pub alive : Store → ℕ → Bool
alive s b = ltb 0 (places s b) || in_use s.inputs b

-- the nodes that are reached, the units of branches that are reached or stand in an input, the units in slots
unfoldable pub held_units : Store → List ℕ
held_units s =
    flat (λ u. cond (reached s u) (u ∷ []) []) units
    ++ (flat (λ b. cond (alive s b) (units_of s b) []) units ++ joined slot_units s.slots)

abbrev pub held : Store → ℕ → Bool
held s u = has u (held_units s)

-- the units held before and not after, ascending
unfoldable pub frees : Store → Store → List ℕ
frees before after =
    let was = held_units before in
    let still = held_units after in
    sift (λ u. has u was && not (has u still)) units

-- the dead records go
unfoldable pub prune : Store → Store
prune s =
    record { root = s.root; nodes = keep (reached s) s.nodes; branches = keep (alive s) s.branches; slots = s.slots; inputs = s.inputs }

-- ---- who owns what: every unit of every record, once for each owner

unfoldable pub owned : Store → List ℕ
owned s =
    flat (λ u. cond (is_some (s.nodes u)) (u ∷ []) []) units
    ++ (flat (units_of s) units ++ joined slot_units s.slots)
