-- "A state is right when it keeps every rule here": of a store without counts and without a map.
-- Assumes nothing.
use Rattle.std.specs.Prelude.{◌≡◌, Bool, true, ◌&&◌, List, ℕ, ◌≤◌, T, leb, length, get_or}
use Rattle.std.proofs.Math.Option.{some}
use Rattle.units.specs.Limits.{last_unit, room, longest, most_count, slot_count, compactor_count}
use Rattle.ways.specs.Ways.{sums, deep, has}
use Rattle.rules.specs.Tables.{all, times, is_some}
use Rattle.rules.specs.Store.{Node, Slot, empty, opened, sealed, Store, children_of, roots, ways, places, reached, alive, owned, in_use}

-- "each child, buffer names a record of its kind"; an offset for each child, at most the number of buffers
pub record NodeOk (s : Store) (n : Node) : Type 0 where
  pub few_buffers : length n.buffers ≤ room
  pub few_children : length n.children ≤ room
  pub paired : length n.offsets ≡ length n.children
  pub within : T (all (λ o. leb o (length n.buffers)) n.offsets)
  pub children_named : (c : ℕ) → T (has c n.children) → T (is_some (s.nodes c))
  pub buffers_named : (b : ℕ) → T (has b n.buffers) → T (is_some (s.branches b))

-- "1 to 8 units in the order taken; the first is its root"
pub record BranchOk (b : ℕ) (us : List ℕ) : Type 0 where
  pub least : 1 ≤ length us
  pub most : length us ≤ room
  pub first : get_or us 0 0 ≡ b

abbrev pub slot_ok : Slot → Bool
slot_ok empty = true
slot_ok (opened us) = leb 1 (length us) && leb (length us) room
slot_ok (sealed us) = leb 1 (length us) && leb (length us) room

-- all but what dead records and high counts may break: it holds, too, while a step has added and not yet pruned
pub record Sound (s : Store) : Type 0 where
  pub rooted : (r : ℕ) → T (has r (roots s)) → T (is_some (s.nodes r))
  pub node : (u : ℕ) (n : Node) → s.nodes u ≡ some n → NodeOk s n
  pub branch : (b : ℕ) (us : List ℕ) → s.branches b ≡ some us → BranchOk b us
  pub slot_number : length s.slots ≡ slot_count
  pub slot : T (all slot_ok s.slots)
  pub input_number : length s.inputs ≡ compactor_count
  pub input : T (all (λ l. leb (length l) room) s.inputs)
  pub input_named : (b : ℕ) → T (in_use s.inputs b) → T (is_some (s.branches b))
  -- "Each held unit has one owner"
  pub single : (u : ℕ) → times u (owned s) ≤ 1
  pub node_unit : (u : ℕ) → T (is_some (s.nodes u)) → (1 ≤ u) × (u ≤ last_unit)
  pub branch_unit : (b : ℕ) → T (is_some (s.branches b)) → (1 ≤ b) × (b ≤ last_unit)
  pub unit : (u : ℕ) → T (has u (owned s)) → (1 ≤ u) × (u ≤ last_unit)
  -- "Every way down has at most 8 nodes"
  pub low : sums (deep (children_of s) longest) (roots s) ≡ 0

-- "no record is dead", and every recount is a count
pub record Right (s : Store) : Type 0 where
  pub sound : Sound s
  pub live_node : (u : ℕ) → T (is_some (s.nodes u)) → T (reached s u)
  pub live_branch : (b : ℕ) → T (is_some (s.branches b)) → T (alive s b)
  pub few : (b : ℕ) → T (is_some (s.branches b)) → places s b ≤ most_count
  pub few_ways : (u : ℕ) → ways s u ≤ most_count
