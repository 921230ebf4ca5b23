-- A node in the lent tree: what stands in the 26 bytes of a unit's row, and how a node of the rules is written there. Row 0 is no
-- node's: its first byte is the root. Assumes nothing.
use Rattle.std.specs.Prelude.{Bool, true, false, cond, ◌≡◌, refl, List, ◌∷◌, ◌++◌, ℕ, ◌+◌, ◌*◌, ◌<◌, ◌≤◌, eqb, length, get_or, set, replicate}
use Rattle.std.proofs.Common.{ap, sym, ◌∙◌, arith, add-zero, ne_eqb}
use Rattle.std.proofs.lemmas.Bool.{eqb-false}
use Rattle.std.proofs.lemmas.List.{ext_get_or, length-replicate, get_or-replicate}
use Rattle.std.specs.Array.{AllOfLen}
use Rattle.units.specs.Limits.{room}
use Rattle.rules.specs.Store.{blank}
use Rattle.records.specs.Rows.{Row, row_set, row_beside, eight, eight_at, poured, poured_length, poured_row, poured_beside, rows_apart, eight_read}
use Rattle.counting.specs.declared.Node.{Node}

-- the bytes of a row
abbrev pub stride : ℕ
stride = 26

-- buffer number, eight buffers, child number, eight children, eight offsets
unfoldable pub node_in : List ℕ → ℕ → Node
node_in l u = record {
  buffer_number = get_or l (u * stride) 0;
  buffers = eight_at l (u * stride + 1);
  child_number = get_or l (u * stride + 9) 0;
  children = eight_at l (u * stride + 10);
  offsets = eight_at l (u * stride + 18);
}

abbrev pub bytes_of : Node → List ℕ
bytes_of n = n.buffer_number ∷ (eight n.buffers ++ (n.child_number ∷ (eight n.children ++ eight n.offsets)))

-- unit 0 has no node, so the root stays
unfoldable pub put_node : List ℕ → ℕ → Node → List ℕ
put_node l u n = cond (eqb u 0) l (poured l (u * stride) (bytes_of n))

-- a node of the rules, as code has it: places that are not used are 0
abbrev pub coded : Rattle.rules.specs.Store.Node → Node
coded n = record { buffer_number = length n.buffers; buffers = eight n.buffers; child_number = length n.children; children = eight n.children; offsets = eight n.offsets }

abbrev pub node_bytes : Rattle.rules.specs.Store.Node → List ℕ
node_bytes n = length n.buffers ∷ (eight n.buffers ++ (length n.children ∷ (eight n.children ++ eight n.offsets)))

abbrev pub blank_node : Node
blank_node = coded blank

-- row 0: the root, then zeros
abbrev pub root_bytes : ℕ → List ℕ
root_bytes r = r ∷ replicate 25 0

-- ---- laws of nodes

-- the node that stands in a row
pub node_read_lem : (l : List ℕ) (u : ℕ) (n : Rattle.rules.specs.Store.Node) → Row l (u * stride) (node_bytes n) → node_in l u ≡ coded n
unfolding node_in
node_read_lem l u n r =
    let e0 : get_or l (u * stride) 0 ≡ length n.buffers = ap (λ (j : ℕ). get_or l j 0) (sym (add-zero (u * stride))) ∙ r 0 (omega arith) in
    let e1 : eight_at l (u * stride + 1) ≡ eight n.buffers = eight_read l (u * stride) 1 (node_bytes n) r (omega arith) in
    let e2 : eight_at l (u * stride + 10) ≡ eight n.children = eight_read l (u * stride) 10 (node_bytes n) r (omega arith) in
    let e3 : eight_at l (u * stride + 18) ≡ eight n.offsets = eight_read l (u * stride) 18 (node_bytes n) r (omega arith) in
    rw (e0, e1, r 9 (omega arith), e2, e3)

-- a node that code writes is poured, but at unit 0
pub put_node_none : (l : List ℕ) (u : ℕ) (n : Node) → u ≡ 0 → put_node l u n ≡ l
unfolding put_node
put_node_none l u n e = rw e

pub put_node_some : (l : List ℕ) (u : ℕ) (n : Node) → (u ≡ 0 → ⊥) → put_node l u n ≡ poured l (u * stride) (bytes_of n)
unfolding put_node
put_node_some l u n d = rw (ne_eqb u 0 d)

pub put_node_length : (l : List ℕ) (u : ℕ) (n : Node) → length (put_node l u n) ≡ length l
unfolding put_node
put_node_length l u n = go (eqb u 0)
  where
    go : (z : Bool) → length (cond z l (poured l (u * stride) (bytes_of n))) ≡ length l
    go true = refl
    go false = poured_length l (u * stride) (bytes_of n)

-- the row of the node that was put
pub put_node_row : (l : List ℕ) (u : ℕ) (n : Rattle.rules.specs.Store.Node) → 0 < u → u * stride + stride ≤ length l → Row (put_node l u (coded n)) (u * stride) (node_bytes n)
put_node_row l u n p h = rw (put_node_some l u (coded n) (λ e. omega arith)) (poured_row l (u * stride) (bytes_of (coded n)) h)

-- another row: another unit's, or the root's
pub put_node_beside : (l : List ℕ) (u : ℕ) (n : Node) (v : ℕ) (ws : List ℕ) → (v ≡ u → ⊥) → length ws ≡ stride → Row l (v * stride) ws → Row (put_node l u n) (v * stride) ws
unfolding put_node
put_node_beside l u n v ws d e r = go (eqb u 0)
  where
    go : (z : Bool) → Row (cond z l (poured l (u * stride) (bytes_of n))) (v * stride) ws
    go true = r
    go false = poured_beside l (u * stride) (bytes_of n) (v * stride) ws (rw e (rows_apart stride v u d)) r

pub put_node_root : (l : List ℕ) (u : ℕ) (n : Node) (ws : List ℕ) → length ws ≡ stride → Row l 0 ws → Row (put_node l u n) 0 ws
unfolding put_node
put_node_root l u n ws e r = go (eqb u 0) refl
  where
    go : (z : Bool) → eqb u 0 ≡ z → Row (cond z l (poured l (u * stride) (bytes_of n))) 0 ws
    go true q = r
    go false q = poured_beside l (u * stride) (bytes_of n) 0 ws (rw e (rows_apart stride 0 u (λ w. eqb-false u 0 q (sym w)))) r

-- the node whose numbers are all 0 is the blank one
zeros : (l : List ℕ) → AllOfLen (λ (x : ℕ). x ≡ 0) l room → l ≡ replicate room 0
zeros l a =
    ext_get_or 0 l (replicate room 0) (a.long ∙ sym (length-replicate {A = ℕ} room 0))
    (λ i p. let q : i < room = omega (arith, a.long) in a.at i 0 q ∙ sym (get_or-replicate {A = ℕ} room i 0 0 q))

pub all_zero : (n : Node) → n.buffer_number ≡ 0 → AllOfLen (λ (x : ℕ). x ≡ 0) n.buffers room → n.child_number ≡ 0 → AllOfLen (λ (x : ℕ). x ≡ 0) n.children room
    → AllOfLen (λ (x : ℕ). x ≡ 0) n.offsets room → n ≡ blank_node
all_zero n a b c d e =
    λ i. record { buffer_number = a i; buffers = zeros n.buffers b i; child_number = c i; children = zeros n.children d i; offsets = zeros n.offsets e i }

pub blank_bytes : bytes_of blank_node ≡ node_bytes blank
blank_bytes = refl

-- ---- laws of the root

pub root_read : (l : List ℕ) (r : ℕ) → Row l 0 (root_bytes r) → get_or l 0 0 ≡ r
root_read l r row = row 0 (omega arith)

pub set_root_row : (l : List ℕ) (r s : ℕ) → 0 < length l → Row l 0 (root_bytes r) → Row (set l 0 s) 0 (root_bytes s)
set_root_row l r s h row = row_set l 0 0 s (root_bytes r) (omega arith) h row

pub set_root_beside : (l : List ℕ) (s v : ℕ) (ws : List ℕ) → 0 < v → Row l (v * stride) ws → Row (set l 0 s) (v * stride) ws
set_root_beside l s v ws p row = row_beside l (v * stride) 0 s ws (λ k q e. omega arith) row
