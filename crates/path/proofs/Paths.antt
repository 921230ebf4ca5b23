-- What the walks answer where the nodes of a sound store stand in the tree: the store's own children, the node at the end of a path,
-- the nodes on it, and its copies. Assumes nothing.
use mathlib.Core.Bool.{Bool, true, false, ◌&&◌, not, cond}
use mathlib.Core.Logic.{⊎_elim}
use mathlib.Core.Path.{◌≡◌, refl, ap, sym, ◌∙◌}
use mathlib.Core.List.{List, [], ◌∷◌}
use mathlib.Core.Option.{Option, none, some}
use Prim.Native.Nat.{ℕ, zero, suc, ◌-◌, ◌≤◌, ◌<◌}
use native.Mathlib.Omega.{arith}
use lib.Dec.{T, eqb, ltb, ltb→lt}
use lib.ListN.{length, get_or, set, take, length-set}
use lib.Seq.{ext_get_or, take_all, get_or-set_same, get_or-set_other}
use Rattle.units.specs.Limits.{room}
use Rattle.units.specs.Bodies.{indexes}
use Rattle.ways.specs.Ways.{has, follow, spine, top}
use Rattle.ways.proofs.Tests.{not→eq, and_l, and_r, same?, same_or}
use Rattle.rules.specs.Tables.{is_some, or_else, put, puts, keys, distinct}
use Rattle.rules.specs.Store.{Node, Store, blank, node_at, children_of}
use Rattle.rules.specs.Steps.{valid, copies}
use Rattle.rules.specs.Right.{Sound}
use Rattle.right.proofs.Ledger.{child_named, has_at, keys_copies}
use Rattle.right.proofs.Tables.{put_same, put_other, puts_other}
use Rattle.records.specs.Rows.{eight, eight_whole}
use Rattle.counting.specs.Nodes.{node_in, coded}
use Rattle.counting.specs.Change.{add_counts}
use Rattle.counting.specs.Places.{place_of}
use Rattle.counting.proofs.Counts.{adds_count, adds_places, Low}
use Rattle.path.specs.Graph.{with_child, eight_in, children_in, found, found_in, top_of, copied_tree}
use Rattle.path.specs.Standing.{TreeIs}
use Rattle.path.proofs.Trees.{node_of_lem, tree_put, tree_same}

-- ---- eight places

eight_at_lem : (l : List ℕ) (k : ℕ) → k < room → get_or (eight l) k 0 ≡ get_or l k 0
eight_at_lem l zero h = refl
eight_at_lem l (suc zero) h = refl
eight_at_lem l (suc (suc zero)) h = refl
eight_at_lem l (suc (suc (suc zero))) h = refl
eight_at_lem l (suc (suc (suc (suc zero)))) h = refl
eight_at_lem l (suc (suc (suc (suc (suc zero))))) h = refl
eight_at_lem l (suc (suc (suc (suc (suc (suc zero)))))) h = refl
eight_at_lem l (suc (suc (suc (suc (suc (suc (suc zero))))))) h = refl
eight_at_lem l (suc (suc (suc (suc (suc (suc (suc (suc k)))))))) h = absurd (omega arith)

eight_set : (l : List ℕ) (i c : ℕ) → i < length l → length l ≤ room → set (eight l) i c ≡ eight (set l i c)
eight_set l i c h q =
    ext_get_or 0 (set (eight l) i c) (eight (set l i c)) (length-set (eight l) i c) (λ k p. at k (omega (arith, length-set (eight l) i c)))
  where
    at : (k : ℕ) → k < room → get_or (set (eight l) i c) k 0 ≡ get_or (eight (set l i c)) k 0
    at k p =
        ⊎_elim
        (λ (e : k ≡ i). rw e (get_or-set_same (eight l) i c 0 (omega arith) ∙ sym (eight_at_lem (set l i c) i (omega arith) ∙ get_or-set_same l i c 0 h)))
        (λ (d : k ≡ i → ⊥). get_or-set_other (eight l) i k c 0 d ∙ eight_at_lem l k p ∙ sym (eight_at_lem (set l i c) k p ∙ get_or-set_other l i k c 0 d))
        (same_or k i)

eight_all : (l : List ℕ) → length l ≤ room → take (length l) (eight l) ≡ l
eight_all l h =
    let e : length l ≡ length l - 0 = omega arith in
    ap (λ (k : ℕ). take k (eight l)) e ∙ eight_whole l h

-- ---- one entry, before others or after them

module _ {A : Type 0} where
  puts_same : (es : List (ℕ × A)) (t t' : ℕ → Option A) (v : ℕ) → t v ≡ t' v → puts t es v ≡ puts t' es v
  puts_same [] t t' v h = h
  puts_same (e ∷ es) t t' v h = puts_same es (put t e) (put t' e) v (ap (cond (eqb v e.0) (some e.1)) h)

  put_after : (es : List (ℕ × A)) (t : ℕ → Option A) (e : ℕ × A) → has e.0 (keys es) ≡ false → (v : ℕ) → put (puts t es) e v ≡ puts (put t e) es v
  put_after es t e h v =
      ⊎_elim
      (λ (q : e.0 ≡ v). rw (← q) (put_same (puts t es) e ∙ sym (puts_other es (put t e) e.0 h ∙ put_same t e)))
      (λ (q : eqb e.0 v ≡ false). put_other (puts t es) e v q ∙ sym (puts_same es (put t e) t v (put_other t e v q)))
      (same? e.0 v)

-- ---- the topmost copy, and the counts of the copies

pub top_of_lem : (p fs : List ℕ) (t : ℕ) → length fs ≡ length p → top_of p fs t ≡ top fs t
unfolding top_of
top_of_lem [] [] t e = refl
top_of_lem [] (f ∷ fs) t e = absurd (omega arith)
top_of_lem (i ∷ p) [] t e = absurd (omega arith)
top_of_lem (i ∷ p) (f ∷ fs) t e = refl

module _ (counts p fs : List ℕ) (e : length fs ≡ length p) where
  pub copied_counts : add_counts counts (take (length p) fs) ≡ add_counts counts fs
  copied_counts = ap (add_counts counts) (take_all (length p) fs (omega arith))

  -- each copy counts one way, the other nodes as before
  pub copied_count : (v : ℕ) → v < length counts → get_or (add_counts counts (take (length p) fs)) v 0 ≡ cond (has v fs) 1 (get_or counts v 0)
  copied_count v q = ap (λ (l : List ℕ). get_or l v 0) copied_counts ∙ adds_count fs counts v q

  -- the branches' counts stay
  pub copied_places : (b : ℕ) → Low fs → place_of b < length counts → get_or (add_counts counts (take (length p) fs)) (place_of b) 0 ≡ get_or counts (place_of b) 0
  copied_places b low q = ap (λ (l : List ℕ). get_or l (place_of b) 0) copied_counts ∙ adds_places fs counts b low q

-- ---- where a sound store stands

module _ (s : Store) (tree : List ℕ) (st : TreeIs s.root s.nodes tree) (ok : Sound s) where
  few_children : (u : ℕ) → length (children_of s u) ≤ room
  few_children u = go (s.nodes u) refl
    where
      go : (o : Option Node) → s.nodes u ≡ o → length (or_else blank o).children ≤ room
      go none e = omega arith
      go (some n) e = (ok.node u n e).few_children

  pub node_in_lem : (u : ℕ) → T (is_some (s.nodes u)) → node_in tree u ≡ coded (node_at s u)
  node_in_lem u t = node_of_lem st u (ok.node_unit u t).0 (ok.node_unit u t).1

  pub eight_in_lem : (u : ℕ) → T (is_some (s.nodes u)) → eight_in tree u ≡ eight (children_of s u)
  unfolding eight_in node_in
  eight_in_lem u t = ap (λ (n : Rattle.counting.specs.declared.Node.Node). n.children) (node_in_lem u t)

  pub children_in_lem : (u : ℕ) → T (is_some (s.nodes u)) → children_in tree u ≡ children_of s u
  unfolding children_in eight_in node_in
  children_in_lem u t =
      ap (λ (n : Rattle.counting.specs.declared.Node.Node). take n.child_number n.children) (node_in_lem u t)
      ∙ eight_all (children_of s u) (few_children u)

  -- the child in a place that is used
  child_node_lem : (u i : ℕ) → i < length (children_of s u) → T (is_some (s.nodes (get_or (children_of s u) i 0)))
  child_node_lem u i h = child_named s ok u (get_or (children_of s u) i 0) (has_at (children_of s u) i h)

  pub child_in_lem : (u i : ℕ) → T (is_some (s.nodes u)) → i < length (children_of s u) → get_or (eight_in tree u) i 0 ≡ get_or (children_of s u) i 0
  child_in_lem u i t h = ap (λ (l : List ℕ). get_or l i 0) (eight_in_lem u t) ∙ eight_at_lem (children_of s u) i (omega (arith, few_children u))

  pub valid_in : (p : List ℕ) (u : ℕ) → T (is_some (s.nodes u)) → valid (children_in tree) p u ≡ valid (children_of s) p u
  valid_in [] u t = refl
  valid_in (i ∷ p) u t =
      ap (λ (l : List ℕ). ltb i (length l) && valid (children_in tree) p (get_or l i 0)) (children_in_lem u t)
      ∙ go (ltb i (length (children_of s u))) refl (λ h. valid_in p (get_or (children_of s u) i 0) (child_node_lem u i h))
    where
      go : (b : Bool) → ltb i (length (children_of s u)) ≡ b
          → (i < length (children_of s u) → valid (children_in tree) p (get_or (children_of s u) i 0) ≡ valid (children_of s) p (get_or (children_of s u) i 0))
          → (b && valid (children_in tree) p (get_or (children_of s u) i 0)) ≡ (b && valid (children_of s) p (get_or (children_of s u) i 0))
      go true e ih = ih (ltb→lt i (length (children_of s u)) (rw e tt))
      go false e ih = refl

  module _ (i : ℕ) (p : List ℕ) (u : ℕ) (v : T (valid (children_of s) (i ∷ p) u)) where
    first_index : i < length (children_of s u)
    first_index = ltb→lt i (length (children_of s u)) (and_l (ltb i (length (children_of s u))) (valid (children_of s) p (get_or (children_of s u) i 0)) v)

    rest_valid : T (valid (children_of s) p (get_or (children_of s u) i 0))
    rest_valid = and_r (ltb i (length (children_of s u))) (valid (children_of s) p (get_or (children_of s u) i 0)) v

  pub follow_in : (p : List ℕ) (u : ℕ) → T (is_some (s.nodes u)) → T (valid (children_of s) p u) → follow (children_in tree) p u ≡ follow (children_of s) p u
  follow_in [] u t v = refl
  follow_in (i ∷ p) u t v =
      ap (λ (l : List ℕ). follow (children_in tree) p (get_or l i 0)) (children_in_lem u t)
      ∙ follow_in p (get_or (children_of s u) i 0) (child_node_lem u i (first_index i p u v)) (rest_valid i p u v)

  -- what `follow` answers
  pub follow_is : (p : List ℕ) (u : ℕ) → T (is_some (s.nodes u)) → found_in tree p u ≡ found (valid (children_of s) p u) (follow (children_of s) p u)
  unfolding found_in
  follow_is p u t =
      ap (λ (b : Bool). found b (follow (children_in tree) p u)) (valid_in p u t) ∙ go (valid (children_of s) p u) (λ v. follow_in p u t v)
    where
      go : (b : Bool) → (T b → follow (children_in tree) p u ≡ follow (children_of s) p u) → found b (follow (children_in tree) p u) ≡ found b (follow (children_of s) p u)
      go true h = ap (found true) (h tt)
      go false h = refl

  spine_in_lem : (p : List ℕ) (u : ℕ) → T (is_some (s.nodes u)) → T (valid (children_of s) p u) → spine (eight_in tree) p u ≡ spine (children_of s) p u
  spine_in_lem [] u t v = refl
  spine_in_lem (i ∷ p) u t v =
      ap (λ (l : List ℕ). u ∷ l)
      (ap (spine (eight_in tree) p) (child_in_lem u i t (first_index i p u v))
      ∙ spine_in_lem p (get_or (children_of s u) i 0) (child_node_lem u i (first_index i p u v)) (rest_valid i p u v))

  -- what `spine_of` answers
  pub spine_is : (p : List ℕ) (u : ℕ) → T (is_some (s.nodes u)) → T (valid (children_of s) p u) → length p ≤ indexes
      → eight (spine (eight_in tree) (take indexes p) u) ≡ eight (spine (children_of s) p u)
  spine_is p u t v h =
      ap (λ (q : List ℕ). eight (spine (eight_in tree) q u)) (take_all indexes p h) ∙ ap eight (spine_in_lem p u t v)

  -- the copy that code writes is the copy of the rules
  with_in : (u i c : ℕ) → T (is_some (s.nodes u)) → i < length (children_of s u)
      → with_child (node_in tree u) i c ≡ coded (record { buffers = (node_at s u).buffers; children = set (children_of s u) i c; offsets = (node_at s u).offsets })
  with_in u i c t h =
      rw (node_in_lem u t, eight_set (children_of s u) i c h (few_children u), ← length-set (children_of s u) i c) refl

  -- what `copy_path` leaves; nothing is asked of the units but that they are distinct, since all nodes are read before one is written
  pub copied_is : (p fs : List ℕ) (u t : ℕ) → T (is_some (s.nodes u)) → T (valid (children_of s) p u) → length fs ≡ length p → T (distinct fs)
      → TreeIs s.root (puts s.nodes (copies s p fs u t)) (copied_tree tree p fs u t)
  unfolding copied_tree
  copied_is [] [] u t n v e d = st
  copied_is [] (f ∷ fs) u t n v e d = absurd (omega arith)
  copied_is (i ∷ p) [] u t n v e d = absurd (omega arith)
  copied_is (i ∷ p) (f ∷ fs) u t n v e d =
      let c : ℕ = get_or (children_of s u) i 0 in
      let q : length fs ≡ length p = omega arith in
      let new : Node = record { buffers = (node_at s u).buffers; children = set (children_of s u) i (top fs t); offsets = (node_at s u).offsets } in
      let h : i < length (children_of s u) = first_index i p u v in
      let ih : TreeIs s.root (puts s.nodes (copies s p fs c t)) (copied_tree tree p fs c t) =
      copied_is p fs c t (child_node_lem u i h) (rest_valid i p u v) q (and_r (not_in f fs) (distinct fs) d) in
      let apart : has f (keys (copies s p fs c t)) ≡ false = ap (has f) (keys_copies s p fs c t q) ∙ not→eq (has f fs) (and_l (not_in f fs) (distinct fs) d) in
      let w : with_child (node_in tree u) i (top_of p fs t) ≡ coded new = ap (with_child (node_in tree u) i) (top_of_lem p fs t q) ∙ with_in u i (top fs t) n h in
      rw (child_in_lem u i n h, w)
      (tree_same (tree_put ih f new) (λ x. ap (or_else blank) (put_after (copies s p fs c t) s.nodes (f, new) apart x)))
    where
      not_in : ℕ → List ℕ → Bool
      not_in f fs = not (has f fs)
