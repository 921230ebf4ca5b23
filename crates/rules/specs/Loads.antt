-- "A load refuses, first that applies": the bytes are cut into records of fixed length, each record is read by its places, and
-- the refusals 21 to 27 are tests in their order. Assumes nothing.
use Rattle.std.specs.Prelude.{ℕ, zero, suc, ◌+◌, ◌*◌, Bool, true, ◌||◌, ◌&&◌, cond, List, [], ◌∷◌, ◌++◌, map, eqb, leb, ltb, length, get_or, take, drop}
use Rattle.units.specs.Limits.{last_unit, room, longest, most_count, slot_count, compactor_count}
use Rattle.ways.specs.Ways.{sums, deep}
use Rattle.rules.specs.Tables.{all, joined, range, distinct, rising, zeros, slice, is_some, or_else, keys, find}
use Rattle.rules.specs.Store.{Node, Slot, empty, opened, sealed, Store, children_of, slot_units, roots, ways, places, reached, alive}
use Rattle.rules.specs.Steps.{Outcome, accepted, need}

-- ---- the lengths of the records, kind included

abbrev pub node_length : ℕ
node_length = 30

abbrev pub branch_length : ℕ
branch_length = 12

abbrev pub slot_length : ℕ
slot_length = 12

abbrev pub input_length : ℕ
input_length = 11

-- ---- cutting: the records at the front that begin with the byte k, n bytes each, and what follows them

abbrev pub Cutting : Type 0
Cutting = List (List ℕ) × List ℕ

unfoldable pub leading : ℕ → ℕ → ℕ → List ℕ → Cutting
leading k n zero l = ([], l)
leading k n (suc f) l =
    let r : Cutting = leading k n f (drop n l) in
    let more : Cutting = (take n l ∷ r.0, r.1) in
    cond (eqb (get_or l 0 0) k) more ([], l)

-- an image's records, by kind in the order of the document, and what is left over
pub record Cut : Type 0 where
  pub root : List ℕ
  pub nodes : List (List ℕ)
  pub branches : List (List ℕ)
  pub slots : List (List ℕ)
  pub inputs : List (List ℕ)
  pub rest : List ℕ

unfoldable pub cut : List ℕ → Cut
cut b =
    let f : ℕ = length b in
    let n : Cutting = leading 33 node_length f (drop 2 b) in
    let r : Cutting = leading 34 branch_length f n.1 in
    let s : Cutting = leading 35 slot_length f r.1 in
    let i : Cutting = leading 36 input_length f s.1 in
    record { root = take 2 b; nodes = n.0; branches = r.0; slots = s.0; inputs = i.0; rest = i.1 }

-- ---- reading: n of the places at p are used, the others 0

abbrev pub used : ℕ → ℕ → List ℕ → List ℕ
used p n r = take n (slice p room r)

abbrev pub blanked : ℕ → ℕ → List ℕ → Bool
blanked p n r = leb n room && zeros (drop n (slice p room r))

abbrev pub count_at : ℕ → List ℕ → ℕ
count_at p r = get_or r p 0 + 256 * get_or r (suc p) 0

-- 33: unit, buffer number, 8 buffers, child number, 8 children, 8 offsets, count
abbrev pub node_of : List ℕ → ℕ × Node
node_of r = (get_or r 1 0, record { buffers = used 3 (get_or r 2 0) r; children = used 12 (get_or r 11 0) r; offsets = used 20 (get_or r 11 0) r })

abbrev pub node_laid : List ℕ → Bool
node_laid r =
    eqb (length r) node_length
    && (blanked 3 (get_or r 2 0) r
    && (blanked 12 (get_or r 11 0) r && (blanked 20 (get_or r 11 0) r && all (λ o. leb o (get_or r 2 0)) (used 20 (get_or r 11 0) r))))

abbrev pub node_count : List ℕ → ℕ
node_count r = count_at 28 r

-- 34: number, 8 units, count; its key is its first unit, the root
abbrev pub branch_of : List ℕ → ℕ × List ℕ
branch_of r = (get_or r 2 0, used 2 (get_or r 1 0) r)

abbrev pub branch_laid : List ℕ → Bool
branch_laid r = eqb (length r) branch_length && (leb 1 (get_or r 1 0) && blanked 2 (get_or r 1 0) r)

abbrev pub branch_count : List ℕ → ℕ
branch_count r = count_at 10 r

-- 35: slot, 1 open or 2 sealed, number, 8 units
abbrev pub slot_of : List ℕ → ℕ × Slot
slot_of r = (get_or r 1 0, cond (eqb (get_or r 2 0) 1) (opened (used 4 (get_or r 3 0) r)) (sealed (used 4 (get_or r 3 0) r)))

abbrev pub slot_laid : List ℕ → Bool
slot_laid r =
    eqb (length r) slot_length
    && (ltb (get_or r 1 0) slot_count && ((eqb (get_or r 2 0) 1 || eqb (get_or r 2 0) 2) && (leb 1 (get_or r 3 0) && blanked 4 (get_or r 3 0) r)))

-- 36: slot, number, 8 roots
abbrev pub input_of : List ℕ → ℕ × List ℕ
input_of r = (get_or r 1 0, used 3 (get_or r 2 0) r)

abbrev pub input_laid : List ℕ → Bool
input_laid r = eqb (length r) input_length && (ltb (get_or r 1 0) compactor_count && (leb 1 (get_or r 2 0) && blanked 3 (get_or r 2 0) r))

-- ---- the store that the records say

abbrev pub nodes_in : Cut → List (ℕ × Node)
nodes_in c = map node_of c.nodes

abbrev pub branches_in : Cut → List (ℕ × List ℕ)
branches_in c = map branch_of c.branches

abbrev pub slots_in : Cut → List (ℕ × Slot)
slots_in c = map slot_of c.slots

abbrev pub inputs_in : Cut → List (ℕ × List ℕ)
inputs_in c = map input_of c.inputs

unfoldable pub built : Cut → Store
built c =
    record {
      root = get_or c.root 1 0;
      nodes = find (nodes_in c);
      branches = find (branches_in c);
      slots = map (λ k. or_else empty (find (slots_in c) k)) (range slot_count 0);
      inputs = map (λ k. or_else [] (find (inputs_in c) k)) (range compactor_count 0);
    }

-- ---- the refusals

abbrev pub every : List Bool → Bool
every [] = true
every (t ∷ ts) = t && every ts

-- 21: layout, order, padding, numbers in range, and that each is a byte
abbrev pub lines : List ℕ → Cut → List Bool
lines b c =
    all (λ x. leb x 255) b
    ∷ eqb (length c.root) 2
    ∷ eqb (get_or c.root 0 0) 32
    ∷ eqb (length c.rest) 0
    ∷ all node_laid c.nodes
    ∷ all branch_laid c.branches
    ∷ all slot_laid c.slots
    ∷ all input_laid c.inputs
    ∷ rising 0 (keys (nodes_in c))
    ∷ rising 0 (keys (branches_in c))
    ∷ rising 0 (keys (slots_in c))
    ∷ rising 0 (keys (inputs_in c))
    ∷ []

unfoldable pub laid : List ℕ → Cut → Bool
laid b c = every (lines b c)

-- the units that the records own, each as often as it is owned
unfoldable pub claims : Cut → List ℕ
claims c = keys (nodes_in c) ++ (joined (λ e. e.1) (branches_in c) ++ joined (λ e. slot_units e.1) (slots_in c))

-- 22: a unit owned twice, by two owners or by one, or 0 owned
unfoldable pub owned_once : Cut → Bool
owned_once c = all (λ u. leb 1 u && leb u last_unit) (claims c) && distinct (claims c)

-- 23: a root, child, buffer or input that names no such record
abbrev pub is_node : Cut → ℕ → Bool
is_node c u = is_some (find (nodes_in c) u)

abbrev pub is_branch : Cut → ℕ → Bool
is_branch c b = is_some (find (branches_in c) b)

abbrev pub names : Cut → List Bool
names c =
    (eqb (get_or c.root 1 0) 0 || is_node c (get_or c.root 1 0))
    ∷ all (λ e. all (is_node c) e.1.children) (nodes_in c)
    ∷ all (λ e. all (is_branch c) e.1.buffers) (nodes_in c)
    ∷ all (λ e. all (is_branch c) e.1) (inputs_in c)
    ∷ []

unfoldable pub named : Cut → Bool
named c = every (names c)

-- 24: a way of over `longest` nodes from the root
unfoldable pub shallow : Store → Bool
shallow s = eqb (sums (deep (children_of s) longest) (roots s)) 0

-- 25: a recount over the limit
unfoldable pub countable : Store → Cut → Bool
countable s c = all (λ u. leb (ways s u) most_count) (keys (nodes_in c)) && all (λ b. leb (places s b) most_count) (keys (branches_in c))

-- 26: a node or branch not held
unfoldable pub all_held : Store → Cut → Bool
all_held s c = all (reached s) (keys (nodes_in c)) && all (alive s) (keys (branches_in c))

-- 27: a stored count differs
unfoldable pub counts_agree : Store → Cut → Bool
counts_agree s c =
    all (λ r. eqb (node_count r) (ways s (node_of r).0)) c.nodes && all (λ r. eqb (branch_count r) (places s (branch_of r).0)) c.branches

unfoldable pub judge : List ℕ → Cut → Outcome
judge b c =
    let s : Store = built c in
    need (laid b c) 21
    (need (owned_once c) 22
    (need (named c) 23
    (need (shallow s) 24
    (need (countable s c) 25
    (need (all_held s c) 26
    (need (counts_agree s c) 27
    (accepted s)))))))

unfoldable pub load : List ℕ → Outcome
load b = judge b (cut b)
