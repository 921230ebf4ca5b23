-- The nodes that the rules' changes add, each by a name of its own. Assumes nothing.
use Rattle.std.specs.Prelude.{Bool, true, false, cond, ◌≡◌, refl, List, [], ◌∷◌, ◌++◌, map, ℕ, suc, ◌-◌, ◌≤◌, eqb, length, get_or, set, take, drop}
use Rattle.std.proofs.Math.Option.{Option, none, some}
use Rattle.std.proofs.Common.{arith}
use Rattle.units.specs.Limits.{room}
use Rattle.rules.specs.Tables.{or_else}
use Rattle.rules.specs.Store.{Node, Store, blank, node_at, root_list, slot_units}
use Rattle.rules.specs.Steps.{moved, flushed_offsets, root_node, slot_at, split_ends, flush_ends, commit_ends, memtable_change, grow_change}
use Rattle.rules.specs.Right.{NodeOk, Sound}

-- a node that eight places hold
pub record Fits (n : Node) : Type 0 where
  pub few_buffers : length n.buffers ≤ room
  pub few_children : length n.children ≤ room
  pub paired : length n.offsets ≡ length n.children

pub right_fits : (s : Store) (n : Node) → NodeOk s n → Fits n
right_fits s n o = record { few_buffers = o.few_buffers; few_children = o.few_children; paired = o.paired }

pub blank_fits : Fits blank
blank_fits = record { few_buffers = omega arith; few_children = omega arith; paired = refl }

-- every node of a store that is sound
pub sound_fits : (s : Store) → Sound s → (u : ℕ) → Fits (node_at s u)
sound_fits s o u = go (s.nodes u) refl
  where
    go : (x : Option Node) → s.nodes u ≡ x → Fits (or_else blank x)
    go none e = blank_fits
    go (some n) e = right_fits s n (o.node u n e)

pub root_fits : (s : Store) → Sound s → Fits (root_node s)
root_fits s o = go (eqb s.root 0)
  where
    go : (b : Bool) → Fits (cond b blank (node_at s s.root))
    go true = blank_fits
    go false = sound_fits s o s.root

abbrev pub buffers_are : Node → List ℕ → Node
buffers_are n l = record { buffers = l; children = n.children; offsets = n.offsets }

abbrev pub children_are : Node → List ℕ → List ℕ → Node
children_are n l os = record { buffers = n.buffers; children = l; offsets = os }

-- ---- 4 memtable flush, 5 grow, a copy on the path

abbrev pub buffer_last : Node → ℕ → Node
buffer_last n b = buffers_are n (n.buffers ++ (b ∷ []))

abbrev pub over_root : ℕ → Node
over_root r = record { buffers = []; children = root_list r; offsets = map (λ u. 0) (root_list r) }

abbrev pub child_set : Node → ℕ → ℕ → Node
child_set n i u = children_are n (set n.children i u) n.offsets

-- ---- 6 split

abbrev pub split_target : Node → ℕ → ℕ → ℕ → Node
split_target n c l r =
    let o : ℕ = get_or n.offsets c 0 in
    children_are n (take c n.children ++ (l ∷ r ∷ drop (suc c) n.children)) (take c n.offsets ++ (o ∷ o ∷ drop (suc c) n.offsets))

abbrev pub split_left : Node → ℕ → Node
split_left m a = children_are m (take a m.children) (take a m.offsets)

abbrev pub split_right : Node → ℕ → Node
split_right m a = children_are m (drop a m.children) (drop a m.offsets)

-- ---- 7 flush, 9 compact commit

abbrev pub flush_target : Node → ℕ → ℕ → ℕ → Node
flush_target n c gc g =
    record { buffers = drop gc n.buffers; children = set n.children c g; offsets = map (λ o. o - gc) (flushed_offsets n c) }

abbrev pub flushed_child : Node → Node → ℕ → Node
flushed_child n m c = buffers_are m (m.buffers ++ drop (get_or n.offsets c 0) n.buffers)

abbrev pub commit_target : Node → ℕ → ℕ → ℕ → Node
commit_target n a e b =
    record { buffers = take a n.buffers ++ (b ∷ drop e n.buffers); children = n.children; offsets = map (moved a e) n.offsets }

-- ---- they are those that the changes add

pub memtable_adds : (s : Store) (k r : ℕ) → (memtable_change s k r).adds ≡ (r, buffer_last (root_node s) (get_or (slot_units (slot_at s k)) 0 0)) ∷ []
memtable_adds s k r = refl

pub grow_adds : (s : Store) (r : ℕ) → (grow_change s r).adds ≡ (r, over_root s.root) ∷ []
grow_adds s r = refl

pub split_adds : (n m : Node) (c a f l r : ℕ) → split_ends n m c a f l r ≡ (f, split_target n c l r) ∷ (l, split_left m a) ∷ (r, split_right m a) ∷ []
split_adds n m c a f l r = refl

pub flush_adds : (n m : Node) (c gc f g : ℕ) → flush_ends n m c gc f g ≡ (f, flush_target n c gc g) ∷ (g, flushed_child n m c) ∷ []
flush_adds n m c gc f g = refl

pub commit_adds : (n : Node) (a e b f : ℕ) → commit_ends n a e b f ≡ (f, commit_target n a e b) ∷ []
commit_adds n a e b f = refl
