-- The graph that stands in the bytes of the tree, right or not: the children and the buffers in a unit's row. A number over eight
-- counts as eight, for a row has no more. Assumes nothing.
use Rattle.std.proofs.Common.{⊎_elim, ap, ap₂, sym, ◌∙◌, subst, arith, add-zero, eqb-true}
use Rattle.std.specs.Prelude.{◌≡◌, refl, List, [], ◌∷◌, ℕ, zero, suc, ◌+◌, ◌*◌, ◌-◌, ◌≤◌, ◌<◌, T, eqb, length, get_or, take}
use Rattle.units.specs.Limits.{room}
use Rattle.ways.specs.Ways.{has}
use Rattle.ways.proofs.Tests.{T→eq, or_e}
use Rattle.records.specs.Rows.{Row, AllBytes, eight, eight_at, eight_read, eight_whole}
use Rattle.counting.specs.Nodes.{stride, node_bytes, node_in}
use Rattle.counting.specs.declared.Node.{Node}

unfoldable pub children_in : List ℕ → ℕ → List ℕ
children_in l u = take (get_or l (u * stride + 9) 0) (eight_at l (u * stride + 10))

unfoldable pub buffers_in : List ℕ → ℕ → List ℕ
buffers_in l u = take (get_or l (u * stride) 0) (eight_at l (u * stride + 1))

-- in the row of a node they are the node's
whole : (l : List ℕ) → length l ≤ room → take (length l) (eight l) ≡ l
whole l h =
    let e : length l ≡ length l - 0 = omega arith in
    ap (λ (k : ℕ). take k (eight l)) e ∙ eight_whole l h

pub children_in_lem : (l : List ℕ) (u : ℕ) (n : Rattle.rules.specs.Store.Node) → Row l (u * stride) (node_bytes n) → length n.children ≤ room → children_in l u ≡ n.children
unfolding children_in
children_in_lem l u n r h =
    ap₂ take (r 9 (omega arith)) (eight_read l (u * stride) 10 (node_bytes n) r (omega arith)) ∙ whole n.children h

pub buffers_in_lem : (l : List ℕ) (u : ℕ) (n : Rattle.rules.specs.Store.Node) → Row l (u * stride) (node_bytes n) → length n.buffers ≤ room → buffers_in l u ≡ n.buffers
unfolding buffers_in
buffers_in_lem l u n r h =
    let e : get_or l (u * stride) 0 ≡ length n.buffers = ap (λ (j : ℕ). get_or l j 0) (sym (add-zero (u * stride))) ∙ r 0 (omega arith) in
    ap₂ take e (eight_read l (u * stride) 1 (node_bytes n) r (omega arith)) ∙ whole n.buffers h

-- as code reads them
pub node_children : (l : List ℕ) (u : ℕ) (n : Node) → n ≡ node_in l u → (length n.children ≡ room) × (take n.child_number n.children ≡ children_in l u)
unfolding node_in children_in
node_children l u n e = rw e (refl, refl)

pub node_buffers : (l : List ℕ) (u : ℕ) (n : Node) → n ≡ node_in l u → (length n.buffers ≡ room) × (take n.buffer_number n.buffers ≡ buffers_in l u)
unfolding node_in buffers_in
node_buffers l u n e = rw e (refl, refl)

-- in bytes they are bytes
small_in : (n : ℕ) (l : List ℕ) (v : ℕ) → ((i : ℕ) → get_or l i 0 < 256) → T (has v (take n l)) → v < 256
small_in zero l v h t = absurd t
small_in (suc n) [] v h t = absurd t
small_in (suc n) (x ∷ xs) v h t =
    ⊎_elim
    (λ (q : T (eqb x v)). subst (λ (y : ℕ). y < 256) (eqb-true x v (T→eq (eqb x v) q)) (h 0))
    (λ (q : T (has v (take n xs))). small_in n xs v (λ i. h (suc i)) q)
    (or_e (eqb x v) (has v (take n xs)) t)

eight_small : (l : List ℕ) (at i : ℕ) → AllBytes l → get_or (eight_at l at) i 0 < 256
eight_small l at zero b = b.small at
eight_small l at (suc zero) b = b.small (at + 1)
eight_small l at (suc (suc zero)) b = b.small (at + 2)
eight_small l at (suc (suc (suc zero))) b = b.small (at + 3)
eight_small l at (suc (suc (suc (suc zero)))) b = b.small (at + 4)
eight_small l at (suc (suc (suc (suc (suc zero))))) b = b.small (at + 5)
eight_small l at (suc (suc (suc (suc (suc (suc zero)))))) b = b.small (at + 6)
eight_small l at (suc (suc (suc (suc (suc (suc (suc zero))))))) b = b.small (at + 7)
eight_small l at (suc (suc (suc (suc (suc (suc (suc (suc i)))))))) b = omega arith

pub child_small : (l : List ℕ) (u v : ℕ) → AllBytes l → T (has v (children_in l u)) → v < 256
unfolding children_in
child_small l u v b t = small_in (get_or l (u * stride + 9) 0) (eight_at l (u * stride + 10)) v (λ i. eight_small l (u * stride + 10) i b) t

pub buffer_small : (l : List ℕ) (u v : ℕ) → AllBytes l → T (has v (buffers_in l u)) → v < 256
unfolding buffers_in
buffer_small l u v b t = small_in (get_or l (u * stride) 0) (eight_at l (u * stride + 1)) v (λ i. eight_small l (u * stride + 1) i b) t
