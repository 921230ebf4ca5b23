-- "The ten steps" and "When a proposal is turned down": each kind proposes a change; one function judges it in the order of the
-- table, and one makes the next store, adding everything and then pruning what is no longer held. Assumes nothing.
use Rattle.std.specs.Prelude.{ℕ, ◌-◌, suc, Bool, true, false, ◌||◌, ◌&&◌, not, cond, List, [], ◌∷◌, ◌++◌, map, eqb, leb, ltb, length, get_or, set, take, drop}
use Rattle.units.specs.Limits.{last_unit, room, longest, most_count, slot_count, compactor_count, last_kind}
use Rattle.units.specs.Bodies.{body_length, indexes}
use Rattle.ways.specs.Ways.{sums, deep, has, follow, spine, top}
use Rattle.rules.specs.Tables.{all, eqs, distinct, zeros, slice, puts}
use Rattle.rules.specs.Store.{Node, Slot, empty, opened, sealed, Store, units, blank, node_at, children_of, slot_units, root_list, places, held_units, prune}

pub data Outcome : Type 0 where
  accepted : Store → Outcome
  refused : ℕ → Outcome

-- What a step asks, for each line of the table that goes by kind, and what it changes: the units it proposes, the nodes that lose
-- one way each, the nodes it adds, the branches that join the tree, and the root, slots and inputs after it.
pub record Change : Type 0 where
  pub shape : Bool
  pub slot : Bool
  pub path : Bool
  pub range : Bool
  pub input : Bool
  pub low : Bool
  pub proposed : List ℕ
  pub drops : List ℕ
  pub root : ℕ
  pub adds : List (ℕ × Node)
  pub joins : List (ℕ × List ℕ)
  pub slots : List Slot
  pub inputs : List (List ℕ)

-- ---- judging

-- everything added, nothing freed
unfoldable pub extended : Store → Change → Store
extended s c =
    record { root = c.root; nodes = puts s.nodes c.adds; branches = puts s.branches c.joins; slots = c.slots; inputs = c.inputs }

abbrev pub next : Store → Change → Store
next s c = prune (extended s c)

-- 9, of a node of the result
abbrev pub small : ℕ × Node → Bool
small e = leb (length e.1.buffers) room && leb (length e.1.children) room

-- 11: no proposed unit is 0, held, or proposed twice
unfoldable pub fresh : Store → List ℕ → Bool
fresh s us =
    let h = held_units s in
    all (λ u. leb 1 u && (leb u last_unit && not (has u h))) us && distinct us

-- 12: every branch's count after the step is a count
unfoldable pub fit : Store → Bool
fit s = all (λ b. leb (places s b) most_count) units

abbrev pub need : Bool → ℕ → Outcome → Outcome
need true n o = o
need false n o = refused n

-- the first line that applies decides
unfoldable pub decide : Store → Change → Outcome
decide s c =
    need c.shape 4
    (need c.slot 5
    (need c.path 6
    (need c.range 7
    (need c.input 8
    (need (all small c.adds) 9
    (need c.low 10
    (need (fresh s c.proposed) 11
    (need (fit (extended s c)) 12
    (let after : Store = next s c in accepted after)))))))))

-- ---- parts of a record's body

abbrev pub is_slot : ℕ → Bool
is_slot k = ltb k slot_count

abbrev pub is_compactor : ℕ → Bool
is_compactor k = ltb k compactor_count

abbrev pub is_index : ℕ → Bool
is_index i = ltb i room

-- 4, of a path: depth, used indexes, unused places of the indexes and of the fresh units
abbrev pub path_shape : ℕ → List ℕ → List ℕ → Bool
path_shape d is fs = leb d indexes && (all is_index (take d is) && (zeros (drop d is) && zeros (drop d fs)))

-- 6: every index of the path is among the node's children
abbrev pub valid : (ℕ → List ℕ) → List ℕ → ℕ → Bool
valid children [] u = true
valid children (i ∷ p) u = ltb i (length (children u)) && valid children p (get_or (children u) i 0)

abbrev pub leads : Store → List ℕ → Bool
leads s p = not (eqb s.root 0) && valid (children_of s) p s.root

abbrev pub leads_to : Store → List ℕ → ℕ → Bool
leads_to s p c = not (eqb s.root 0) && (valid (children_of s) p s.root && ltb c (length (children_of s (follow (children_of s) p s.root))))

-- the copies fs of the nodes on the path p from u, each naming the one below, the last naming t
abbrev pub copies : Store → List ℕ → List ℕ → ℕ → ℕ → List (ℕ × Node)
copies s [] fs u t = []
copies s (i ∷ p) [] u t = []
copies s (i ∷ p) (f ∷ fs) u t =
    let n : Node = node_at s u in
    (f, record { buffers = n.buffers; children = set n.children i (top fs t); offsets = n.offsets }) ∷ copies s p fs (get_or n.children i 0) t

abbrev pub is_empty : Slot → Bool
is_empty empty = true
is_empty (opened us) = false
is_empty (sealed us) = false

abbrev pub is_open : Slot → Bool
is_open empty = false
is_open (opened us) = true
is_open (sealed us) = false

abbrev pub is_sealed : Slot → Bool
is_sealed empty = false
is_sealed (opened us) = false
is_sealed (sealed us) = true

abbrev pub slot_at : Store → ℕ → Slot
slot_at s k = get_or s.slots k empty

abbrev pub input_at : Store → ℕ → List ℕ
input_at s k = get_or s.inputs k []

abbrev pub idle : List ℕ → Bool
idle input = eqb (length input) 0

-- a change that leaves the tree as it is
abbrev pub quiet : Store → Bool → Bool → Bool → Bool → List ℕ → List Slot → List (List ℕ) → Change
quiet s shape slot path range proposed slots inputs =
    record {
      shape = shape;
      slot = slot;
      path = path;
      range = range;
      input = true;
      low = true;
      proposed = proposed;
      drops = [];
      root = s.root;
      adds = [];
      joins = [];
      slots = slots;
      inputs = inputs;
    }

-- ---- 1 take, 2 seal, 3 abandon

abbrev pub take_change : Store → ℕ → ℕ → Change
take_change s k u =
    let x : Slot = slot_at s k in
    quiet s (is_slot k) (is_empty x || (is_open x && ltb (length (slot_units x)) room)) true true
    (u ∷ []) (set s.slots k (opened (slot_units x ++ (u ∷ [])))) s.inputs

-- "keeps the first k units and frees the rest"
abbrev pub seal_change : Store → ℕ → ℕ → Change
seal_change s k n =
    let x : Slot = slot_at s k in
    quiet s (is_slot k) (is_open x) true (leb 1 n && leb n (length (slot_units x))) [] (set s.slots k (sealed (take n (slot_units x)))) s.inputs

abbrev pub abandon_change : Store → ℕ → Change
abandon_change s k = quiet s (is_slot k) (not (is_empty (slot_at s k))) true true [] (set s.slots k empty) s.inputs

-- ---- 4 memtable flush, 5 grow

-- the root's node, blank where the tree is empty
abbrev pub root_node : Store → Node
root_node s = cond (eqb s.root 0) blank (node_at s s.root)

abbrev pub memtable_change : Store → ℕ → ℕ → Change
memtable_change s k r =
    let us : List ℕ = slot_units (slot_at s k) in
    let n : Node = root_node s in
    let b : ℕ = get_or us 0 0 in
    record {
      shape = is_slot k;
      slot = is_sealed (slot_at s k);
      path = true;
      range = true;
      input = true;
      low = true;
      proposed = r ∷ [];
      drops = root_list s.root;
      root = r;
      adds = (r, record { buffers = n.buffers ++ (b ∷ []); children = n.children; offsets = n.offsets }) ∷ [];
      joins = (b, us) ∷ [];
      slots = set s.slots k empty;
      inputs = s.inputs;
    }

-- 10: no way has `longest` nodes yet
abbrev pub grow_change : Store → ℕ → Change
grow_change s r =
    record {
      shape = true;
      slot = true;
      path = true;
      range = true;
      input = true;
      low = eqb (sums (deep (children_of s) (longest - 1)) (root_list s.root)) 0;
      proposed = r ∷ [];
      drops = [];
      root = r;
      adds = (r, record { buffers = []; children = root_list s.root; offsets = map (λ u. 0) (root_list s.root) }) ∷ [];
      joins = [];
      slots = s.slots;
      inputs = s.inputs;
    }

-- ---- 6 split: of the target n, the child m at place c, its first a children left

abbrev pub split_ends : Node → Node → ℕ → ℕ → ℕ → ℕ → ℕ → List (ℕ × Node)
split_ends n m c a f l r = (
  f,
  record {
    buffers = n.buffers;
    children = take c n.children ++ (l ∷ r ∷ drop (suc c) n.children);
    offsets = take c n.offsets ++ (get_or n.offsets c 0 ∷ get_or n.offsets c 0 ∷ drop (suc c) n.offsets);
  },
)
    ∷ (l, record { buffers = m.buffers; children = take a m.children; offsets = take a m.offsets })
    ∷ (r, record { buffers = m.buffers; children = drop a m.children; offsets = drop a m.offsets })
    ∷ []

abbrev pub split_change : Store → ℕ → List ℕ → List ℕ → ℕ → ℕ → ℕ → ℕ → ℕ → Change
split_change s d is fs c a f l r =
    let p : List ℕ = take d is in
    let q : List ℕ = take d fs in
    let t : ℕ = follow (children_of s) p s.root in
    let n : Node = node_at s t in
    let m : Node = node_at s (get_or n.children c 0) in
    record {
      shape = path_shape d is fs && is_index c;
      slot = true;
      path = leads_to s p c;
      range = cond (eqb (length m.children) 0) (eqb a 0) (leb 1 a && ltb a (length m.children));
      input = true;
      low = true;
      proposed = q ++ (f ∷ l ∷ r ∷ []);
      drops = spine (children_of s) p s.root ++ (t ∷ get_or n.children c 0 ∷ []);
      root = top q f;
      adds = copies s p q s.root f ++ split_ends n m c a f l r;
      joins = [];
      slots = s.slots;
      inputs = s.inputs;
    }

-- ---- 7 flush: the child gains the parent's buffers from its offset on; then the parent's first gc buffers go

-- the parent's offsets before the first gc buffers go
abbrev pub flushed_offsets : Node → ℕ → List ℕ
flushed_offsets n c = set n.offsets c (length n.buffers)

abbrev pub flush_ends : Node → Node → ℕ → ℕ → ℕ → ℕ → List (ℕ × Node)
flush_ends n m c gc f g =
    (f, record { buffers = drop gc n.buffers; children = set n.children c g; offsets = map (λ o. o - gc) (flushed_offsets n c) })
    ∷ (g, record { buffers = m.buffers ++ drop (get_or n.offsets c 0) n.buffers; children = m.children; offsets = m.offsets })
    ∷ []

abbrev pub flush_change : Store → ℕ → List ℕ → List ℕ → ℕ → ℕ → ℕ → ℕ → Change
flush_change s d is fs c gc f g =
    let p : List ℕ = take d is in
    let q : List ℕ = take d fs in
    let t : ℕ = follow (children_of s) p s.root in
    let n : Node = node_at s t in
    let m : Node = node_at s (get_or n.children c 0) in
    record {
      shape = path_shape d is fs && is_index c;
      slot = true;
      path = leads_to s p c;
      range = all (λ o. leb gc o) (flushed_offsets n c) && leb gc (length n.buffers);
      input = true;
      low = true;
      proposed = q ++ (f ∷ g ∷ []);
      drops = spine (children_of s) p s.root ++ (t ∷ get_or n.children c 0 ∷ []);
      root = top q f;
      adds = copies s p q s.root f ++ flush_ends n m c gc f g;
      joins = [];
      slots = s.slots;
      inputs = s.inputs;
    }

-- ---- 8 compact begin, 9 compact commit, 10 compact abort

abbrev pub begin_change : Store → ℕ → ℕ → List ℕ → ℕ → ℕ → Change
begin_change s k d is a e =
    let p : List ℕ = take d is in
    let n : Node = node_at s (follow (children_of s) p s.root) in
    quiet s (is_compactor k && path_shape d is []) (idle (input_at s k)) (leads s p) (ltb a e && leb e (length n.buffers))
    [] s.slots (set s.inputs k (slice a (e - a) n.buffers))

-- "Offsets up to start stay, those between become start, those from end fall by end - start - 1"
abbrev pub moved : ℕ → ℕ → ℕ → ℕ
moved a e o = cond (leb o a) o (cond (ltb o e) a (o - ((e - a) - 1)))

abbrev pub commit_ends : Node → ℕ → ℕ → ℕ → ℕ → List (ℕ × Node)
commit_ends n a e b f =
    (f, record { buffers = take a n.buffers ++ (b ∷ drop e n.buffers); children = n.children; offsets = map (moved a e) n.offsets }) ∷ []

abbrev pub commit_change : Store → ℕ → ℕ → ℕ → List ℕ → List ℕ → ℕ → ℕ → ℕ → Change
commit_change s k j d is fs a e f =
    let p : List ℕ = take d is in
    let q : List ℕ = take d fs in
    let t : ℕ = follow (children_of s) p s.root in
    let n : Node = node_at s t in
    let us : List ℕ = slot_units (slot_at s j) in
    let b : ℕ = get_or us 0 0 in
    record {
      shape = is_compactor k && (is_slot j && path_shape d is fs);
      slot = not (idle (input_at s k)) && is_sealed (slot_at s j);
      path = leads s p;
      range = ltb a e && leb e (length n.buffers);
      input = eqs (slice a (e - a) n.buffers) (input_at s k);
      low = true;
      proposed = q ++ (f ∷ []);
      drops = spine (children_of s) p s.root ++ (t ∷ []);
      root = top q f;
      adds = copies s p q s.root f ++ commit_ends n a e b f;
      joins = (b, us) ∷ [];
      slots = set s.slots j empty;
      inputs = set s.inputs k [];
    }

abbrev pub abort_change : Store → ℕ → Change
abort_change s k = quiet s (is_compactor k) (not (idle (input_at s k))) true true [] s.slots (set s.inputs k [])

-- ---- a step, read from a record

pub data Step : Type 0 where
  no_step : Step
  Take Seal Memtable : ℕ → ℕ → Step
  Abandon Grow Abort : ℕ → Step
  Split : ℕ → List ℕ → List ℕ → ℕ → ℕ → ℕ → ℕ → ℕ → Step
  Flush : ℕ → List ℕ → List ℕ → ℕ → ℕ → ℕ → ℕ → Step
  Begin : ℕ → ℕ → List ℕ → ℕ → ℕ → Step
  Commit : ℕ → ℕ → ℕ → List ℕ → List ℕ → ℕ → ℕ → ℕ → Step

unfoldable pub change : Store → Step → Change
change s no_step = quiet s true true true true [] s.slots s.inputs
change s (Take k u) = take_change s k u
change s (Seal k n) = seal_change s k n
change s (Memtable k r) = memtable_change s k r
change s (Abandon k) = abandon_change s k
change s (Grow r) = grow_change s r
change s (Abort k) = abort_change s k
change s (Split d is fs c a f l r) = split_change s d is fs c a f l r
change s (Flush d is fs c gc f g) = flush_change s d is fs c gc f g
change s (Begin k d is a e) = begin_change s k d is a e
change s (Commit k j d is fs a e f) = commit_change s k j d is fs a e f

-- by kind, from 1 on: the step that a body says
abbrev pub steps : List ℕ → List Step
steps b =
    let x : ℕ → ℕ = λ k. get_or b k 0 in
    no_step
    ∷ Take (x 0) (x 1)
    ∷ Seal (x 0) (x 1)
    ∷ Abandon (x 0)
    ∷ Memtable (x 0) (x 1)
    ∷ Grow (x 0)
    ∷ Split (x 0) (slice 1 indexes b) (slice 8 indexes b) (x 15) (x 16) (x 17) (x 18) (x 19)
    ∷ Flush (x 0) (slice 1 indexes b) (slice 8 indexes b) (x 15) (x 16) (x 17) (x 18)
    ∷ Begin (x 0) (x 1) (slice 2 indexes b) (x 9) (x 10)
    ∷ Commit (x 0) (x 1) (x 2) (slice 3 indexes b) (slice 10 indexes b) (x 17) (x 18) (x 19)
    ∷ Abort (x 0)
    ∷ []

-- lines 2 to 12
unfoldable pub step : Store → List ℕ → Outcome
step s [] = refused 2
step s (kind ∷ body) =
    need (leb 1 kind && leb kind last_kind) 2
    (need (eqb (length body) (body_length kind)) 3
    (decide s (change s (get_or (steps body) kind no_step))))

-- the whole table, with the length of the lent list
abbrev pub step_in : Store → ℕ → List ℕ → Outcome
step_in s n bytes = need (leb last_unit n) 1 (step s bytes)
