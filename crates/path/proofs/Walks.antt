-- The turns of the walks down a path: one index more, and the rest of the same path. Assumes nothing.
use mathlib.Core.Bool.{Bool, true, false}
use mathlib.Core.Logic.{⊎_elim}
use mathlib.Core.Path.{◌≡◌, refl, ap, sym, ◌∙◌}
use mathlib.Core.List.{List, [], ◌∷◌, ◌++◌}
use Rattle.std.specs.Prelude.{Some, None}
use Prim.Native.Nat.{ℕ, zero, suc, ◌+◌, ◌*◌, ◌≤◌, ◌<◌, min}
use Rattle.std.proofs.Math.Nat.{min_comm}
use Rattle.std.proofs.lemmas.List.{take_min, length-take}
use native.Mathlib.Omega.{arith}
use native.Mathlib.Numerals.{add-one}
use lib.Dec.{leb, ltb}
use lib.ListN.{length, get_or, set, take}
use lib.Seq.{take_all, take-suc, length-take-le, get_or-take, set_comm}
use borrow.Author.Tests.{ltb-true, leb-true, leb-false}
use Rattle.ways.specs.Ways.{follow, spine}
use Rattle.ways.proofs.Tests.{same_or}
use Rattle.units.specs.Limits.{room}
use Rattle.units.specs.Bodies.{indexes}
use Rattle.records.specs.Rows.{eight, eight_at, eight_snoc}
use Rattle.counting.specs.declared.Node.{Node}
use Rattle.counting.specs.Nodes.{stride, node_in, put_node}
use Rattle.counting.specs.Change.{add_counts}
use Rattle.path.specs.Graph.{named, with_child, eight_in, children_in, found_in, top_of, copied_tree}

-- ---- an index

-- never more than it says
taken_short : (n : ℕ) (l : List ℕ) → length (take n l) ≤ n
taken_short n l = go (leb n (length l)) refl
  where
    go : (b : Bool) → leb n (length l) ≡ b → length (take n l) ≤ n
    go true q = omega (arith, length-take-le n l (leb-true n (length l) q))
    go false q = omega (arith, leb-false n (length l) q, ap length (take_all n l (omega (arith, leb-false n (length l) q))))

-- a place among the children is a place of the eight
pub index_at : (n : Node) (i : ℕ) → ltb i (length (named n)) ≡ true → get_or (named n) i 0 ≡ get_or n.children i 0
index_at n i h = go (leb n.child_number i) refl
  where
    go : (b : Bool) → leb n.child_number i ≡ b → get_or (named n) i 0 ≡ get_or n.children i 0
    go true q = absurd (omega (arith, ltb-true i (length (named n)) h, leb-true n.child_number i q, taken_short n.child_number n.children))
    go false q = get_or-take n.child_number n.children i 0 (leb-false n.child_number i q)

-- ---- an index, read from the row of the node

pub index_read : (l : List ℕ) (u at i : ℕ) → at ≡ u → ltb i (min (get_or l (at * stride + 9) 0) room) ≡ ltb i (length (named (node_in l u)))
unfolding node_in
index_read l u at i e = rw e (ap (ltb i) (sym (length-take (get_or l (u * stride + 9) 0) (node_in l u).children)))

-- a place of the eight
place_read : (l : List ℕ) (b i : ℕ) → i < room → get_or l (b + i) 0 ≡ get_or (eight_at l b) i 0
place_read l b zero h = ap (λ (j : ℕ). get_or l j 0) (omega arith)
place_read l b (suc zero) h = refl
place_read l b (suc (suc zero)) h = refl
place_read l b (suc (suc (suc zero))) h = refl
place_read l b (suc (suc (suc (suc zero)))) h = refl
place_read l b (suc (suc (suc (suc (suc zero))))) h = refl
place_read l b (suc (suc (suc (suc (suc (suc zero)))))) h = refl
place_read l b (suc (suc (suc (suc (suc (suc (suc zero))))))) h = refl
place_read l b (suc (suc (suc (suc (suc (suc (suc (suc i)))))))) h = absurd (omega arith)

pub child_read : (l : List ℕ) (u at i j n : ℕ) → at ≡ u → j ≡ i → true ≡ ltb i (min n room) → get_or l (at * stride + 10 + j) 0 ≡ get_or (node_in l u).children i 0
unfolding node_in
child_read l u at i j n e k t = rw (e, k) (place_read l (u * stride + 10) i (omega (arith, ltb-true i (min n room) (sym t))))

-- ---- the node at the end

pub found_end : (l p : List ℕ) (u : ℕ) → length p ≡ 0 → Some (record { 0 = u }) ≡ found_in l p u
unfolding found_in
found_end l [] u e = refl
found_end l (i ∷ p) u e = absurd (omega arith)

-- i is the first index of p, and q the others
pub found_on : (l p q : List ℕ) (i u : ℕ) (n : Node) (c : ℕ) → p ≡ i ∷ q → n ≡ node_in l u → true ≡ ltb i (length (named n)) → c ≡ get_or n.children i 0
    → found_in l q c ≡ found_in l p u
unfolding found_in children_in eight_in node_in
found_on l p q i u n c s e t k =
    let y : ltb i (length (named (node_in l u))) ≡ true = rw e at (sym t) in
    let z : get_or (named (node_in l u)) i 0 ≡ get_or (node_in l u).children i 0 = index_at (node_in l u) i y in
    rw (s, y, z, k, e) refl

pub found_off : (l p q : List ℕ) (i u : ℕ) (n : Node) → p ≡ i ∷ q → n ≡ node_in l u → false ≡ ltb i (length (named n)) → None ≡ found_in l p u
unfolding found_in children_in eight_in node_in
found_off l p q i u n s e t =
    let y : ltb i (length (named (node_in l u))) ≡ false = rw e at (sym t) in
    rw (s, y) refl

-- ---- the nodes on the path

pub spine_length : (g : ℕ → List ℕ) (p : List ℕ) (u : ℕ) → length (spine g p u) ≡ length p
spine_length g [] u = refl
spine_length g (i ∷ p) u = ap suc (spine_length g p (get_or (g u) i 0))

spine_snoc : (g : ℕ → List ℕ) (p : List ℕ) (i u : ℕ) → spine g (p ++ (i ∷ [])) u ≡ spine g p u ++ (follow g p u ∷ [])
spine_snoc g [] i u = refl
spine_snoc g (j ∷ p) i u = ap (λ (l : List ℕ). u ∷ l) (spine_snoc g p i (get_or (g u) j 0))

follow_snoc : (g : ℕ → List ℕ) (p : List ℕ) (i u : ℕ) → follow g (p ++ (i ∷ [])) u ≡ get_or (g (follow g p u)) i 0
follow_snoc g [] i u = refl
follow_snoc g (j ∷ p) i u = follow_snoc g p i (get_or (g u) j 0)

-- after i turns: the units so far, and the node that comes next
pub record OnPath (l p : List ℕ) (u i : ℕ) (us : List ℕ) (at : ℕ) : Type 0 where
  pub units : us ≡ eight (spine (eight_in l) (take i p) u)
  pub next : at ≡ follow (eight_in l) (take i p) u

pub path_turn : (l p : List ℕ) (u i : ℕ) (us : List ℕ) (at : ℕ) (n : Node) (c : ℕ) → i < length p → i < room → OnPath l p u i us at → n ≡ node_in l at → c ≡ get_or n.children (get_or p i 0) 0
    → OnPath l p u (i + 1) (set us i at) c
unfolding eight_in node_in
path_turn l p u i us at n c h q on e k =
    let s : take (i + 1) p ≡ take i p ++ (get_or p i 0 ∷ []) = rw (add-one, take-suc p i 0) refl in
    let m : length (spine (eight_in l) (take i p) u) ≡ i = spine_length (eight_in l) (take i p) u ∙ length-take-le i p (omega arith) in
    record {
      units =
          ap (λ (x : List ℕ). set x i at) on.units
          ∙ ap (λ (x : ℕ). set (eight (spine (eight_in l) (take i p) u)) x at) (sym m)
          ∙ eight_snoc (spine (eight_in l) (take i p) u) at (omega arith)
          ∙ ap (λ (x : ℕ). eight (spine (eight_in l) (take i p) u ++ (x ∷ []))) on.next
          ∙ ap eight (sym (spine_snoc (eight_in l) (take i p) (get_or p i 0) u))
          ∙ ap (λ (x : List ℕ). eight (spine (eight_in l) x u)) (sym s);
      next =
          k
          ∙ ap (λ (x : Node). get_or x.children (get_or p i 0) 0) e
          ∙ ap (λ (x : ℕ). get_or (eight_in l x) (get_or p i 0) 0) on.next
          ∙ sym (follow_snoc (eight_in l) (take i p) (get_or p i 0) u)
          ∙ ap (λ (x : List ℕ). follow (eight_in l) x u) (sym s);
    }

-- n indexes are looked at
pub path_end : (l p : List ℕ) (n u i : ℕ) (us : List ℕ) (at : ℕ) → n ≡ min (length p) indexes → length (take n p) ≤ i → OnPath l (take n p) u i us at
    → us ≡ eight (spine (eight_in l) (take indexes p) u)
path_end l p n u i us at e h on =
    on.units
    ∙ ap (λ (x : List ℕ). eight (spine (eight_in l) x u))
    (take_all i (take n p) h ∙ ap (λ (k : ℕ). take k p) (e ∙ min_comm (length p) indexes) ∙ take_min indexes p)

-- ---- the copies

pub copied_end : (l p fs : List ℕ) (u t : ℕ) → length p ≡ 0 → l ≡ copied_tree l p fs u t
unfolding copied_tree
copied_end l [] fs u t e = refl
copied_end l (i ∷ p) fs u t e = absurd (omega arith)

pub copied_short : (l p fs : List ℕ) (u t : ℕ) → length fs ≡ 0 → l ≡ copied_tree l p fs u t
unfolding copied_tree
copied_short l [] fs u t e = refl
copied_short l (i ∷ p) [] u t e = refl
copied_short l (i ∷ p) (f ∷ fs) u t e = absurd (omega arith)

pub top_end : (p fs : List ℕ) (t : ℕ) → length p ≡ 0 → t ≡ top_of p fs t
unfolding top_of
top_end [] fs t e = refl
top_end (i ∷ p) fs t e = absurd (omega arith)

pub top_short : (p fs : List ℕ) (t : ℕ) → length fs ≡ 0 → t ≡ top_of p fs t
unfolding top_of
top_short [] fs t e = refl
top_short (i ∷ p) [] t e = refl
top_short (i ∷ p) (f ∷ fs) t e = absurd (omega arith)

-- ---- their counts

set_swap : (l : List ℕ) (i j : ℕ) → set (set l i 1) j 1 ≡ set (set l j 1) i 1
set_swap l i j = ⊎_elim (λ (e : i ≡ j). rw e refl) (λ (d : i ≡ j → ⊥). set_comm l i j 1 1 d) (same_or i j)

adds_set : (fs counts : List ℕ) (f : ℕ) → set (add_counts counts fs) f 1 ≡ add_counts (set counts f 1) fs
adds_set [] counts f = refl
adds_set (x ∷ fs) counts f = adds_set fs (set counts x 1) f ∙ ap (λ (l : List ℕ). add_counts l fs) (set_swap counts x f)

-- i is the first index and f the first unit, q and gs the others
module _ (p q fs gs : List ℕ) (i f : ℕ) (ep : p ≡ i ∷ q) (ef : fs ≡ f ∷ gs) where
  pub top_turn : (t : ℕ) → f ≡ top_of p fs t
  unfolding top_of
  top_turn t = rw (ep, ef) refl

  pub copied_turn : (l : List ℕ) (u t : ℕ) (n m : Node) (l' w : List ℕ) (k c : ℕ) → n ≡ node_in l u → k ≡ get_or n.children i 0 → l' ≡ copied_tree l q gs k t → c ≡ top_of q gs t
      → m ≡ with_child n i c → w ≡ put_node l' f m → w ≡ copied_tree l p fs u t
  unfolding copied_tree eight_in node_in
  copied_turn l u t n m l' w k c en ek el ec em ew = rw (ep, ef, ew, em, ec, el, ek, en) refl

  pub counts_turn : (counts w v : List ℕ) → w ≡ add_counts counts (take (length q) gs) → v ≡ set w f 1 → v ≡ add_counts counts (take (length p) fs)
  counts_turn counts w v ew ev = rw (ep, ef) (ev ∙ ap (λ (l : List ℕ). set l f 1) ew ∙ adds_set (take (length q) gs) counts f)
