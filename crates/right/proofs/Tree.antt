-- The kinds that change the tree keep to the rules. Assumes nothing.
use mathlib.Core.Path.{◌≡◌, refl, sym, ap, ◌∙◌, subst}
use mathlib.Core.Bool.{Bool, true, false, ◌&&◌, not, cond}
use mathlib.Core.Logic.{⊎_elim}
use mathlib.Core.List.{List, [], ◌∷◌, ◌++◌, map}
use Prim.Native.Nat.{ℕ, suc, ◌+◌, ◌-◌, ◌≤◌, ◌<◌}
use native.Mathlib.Omega.{arith}
use lib.Dec.{T, eqb, leb, ltb, eqb_refl, eqb→eq, leb→le, le→leb, ltb→lt, nltb→le}
use lib.ListN.{length, get_or, set, take, drop, length-set, length-take, length-append, length-drop, length-map}
use Rattle.units.specs.Limits.{slot_count}
use Rattle.ways.specs.Ways.{sums, walk, deep, nothing, is, has, follow, top}
use Rattle.rules.specs.Tables.{keys, times, all, joined, is_some}
use Rattle.rules.specs.Store.{Node, Slot, empty, opened, sealed, Store, blank, node_at, children_of, slot_units, root_list, owned, in_use}
use Rattle.rules.specs.Steps.{is_compactor, is_slot, Change, extended, small, copies, valid, memtable_change, grow_change, split_change, flush_change, commit_change, root_node, slot_at, input_at, is_sealed, moved, path_shape, idle}
use Rattle.right.specs.Ledger.{unused, Each, Ledger}
use Rattle.rules.specs.Right.{NodeOk, BranchOk, slot_ok, Sound}
use Rattle.ways.proofs.Frame.{sums_append}
use Rattle.ways.proofs.Tests.{eq→T, and_l, and_r, and_i, or_e, or_l, or_r}
use Rattle.ways.proofs.Members.{has_pos, pos_has, has_append, has_left, has_right}
use Rattle.right.proofs.Ledger.{has_at, top_in, root_named}
use Rattle.right.proofs.Ledgers.{AtNode, AtChild, at_node, at_child, flush_ledger, split_ledger, commit_ledger, grow_ledger, memtable_ledger, path_keys}
use Rattle.right.proofs.Extended.{Lawful, joining, node_still, branch_still, add_named, join_named, slot_owned}
use Rattle.right.proofs.Lists.{all_append, all_right, all_take, all_drop, all_set, all_get, all_map, weaker, joined_set, in_use_set, has_take, has_drop, has_set, each_append}
use Rattle.right.proofs.Quiet.{sums_nothing, node_ok}

is_root : (r x : ℕ) → T (has r (root_list x)) → x ≡ r
is_root r x = go (eqb x 0)
  where
    go : (b : Bool) → T (has r (cond b [] (x ∷ []))) → x ≡ r
    go true t = absurd t
    go false t = ⊎_elim (λ (q : T (eqb x r)). eqb→eq x r q) (λ (q : ⊥). absurd q) (or_e (eqb x r) false t)

-- what every change that changes the tree has in common
module _ (s : Store) (ok : Sound s) (p : Change) (keyed : keys p.adds ≡ p.proposed) (tip : T (has p.root p.proposed))
    (book : Ledger s (extended s p) p.proposed p.drops p.proposed) (each : Each (λ u n. NodeOk (extended s p) n) p.adds) where
  fresh_named : (v : ℕ) → T (has v p.proposed) → T (is_some ((extended s p).nodes v))
  fresh_named v t = add_named s ok p v (subst (λ (l : List ℕ). T (has v l)) (sym keyed) t)

  tree_lawful : Each BranchOk p.joins → Each (λ b us. (1 ≤ b) × (b ≤ 255)) p.joins
      → length p.slots ≡ 4 → T (all slot_ok p.slots) → length p.inputs ≡ 4 → T (all (λ l. leb (length l) 8) p.inputs)
      → ((b : ℕ) → T (in_use p.inputs b) → T (is_some (s.branches b)))
      → ((u : ℕ) → times u (joining p.joins) + times u (joined slot_units p.slots) ≤ times u (joined slot_units s.slots))
      → Lawful s p
  tree_lawful jo ju l4 so i4 io named own =
      record {
        root_named = λ r t. fresh_named r (subst (λ (x : ℕ). T (has x p.proposed)) (is_root r p.root t) tip);
        nodes_ok = each;
        joins_ok = jo;
        join_unit = ju;
        slot_number = l4;
        slot = so;
        input_number = i4;
        input = io;
        input_named = λ b t. branch_still s ok p b (named b t);
        adds_proposed = λ v t. subst (λ (l : List ℕ). T (has v l)) keyed t;
        owns = λ u. omega (arith, own u, ap (times u) keyed);
        low = omega (arith, book 1 nothing nothing (λ v h. refl), ok.low, sums_nothing p.proposed, sums_nothing p.drops);
      }

  -- where nothing joins
  plain_lawful : p.joins ≡ [] → p.slots ≡ s.slots → p.inputs ≡ s.inputs → Lawful s p
  unfolding joining
  plain_lawful ej es ei =
      tree_lawful
      (subst (λ (l : List (ℕ × List ℕ)). Each BranchOk l) (sym ej) tt)
      (subst (λ (l : List (ℕ × List ℕ)). Each (λ b us. (1 ≤ b) × (b ≤ 255)) l) (sym ej) tt)
      (ap length es ∙ ok.slot_number) (subst (λ (l : List Slot). T (all slot_ok l)) (sym es) ok.slot)
      (ap length ei ∙ ok.input_number) (subst (λ (l : List (List ℕ)). T (all (λ l. leb (length l) 8) l)) (sym ei) ok.input)
      (λ b t. ok.input_named b (subst (λ (l : List (List ℕ)). T (in_use l b)) ei t))
      (λ u. omega (arith, ap (λ (l : List (ℕ × List ℕ)). times u (joining l)) ej, ap (λ (l : List Slot). times u (joined slot_units l)) es))

-- ---- nodes

sized : (u : ℕ) (n : Node) → T (small (u, n)) → (length n.buffers ≤ 8) × (length n.children ≤ 8)
sized u n t = (
  leb→le (length n.buffers) 8 (and_l (leb (length n.buffers) 8) (leb (length n.children) 8) t),
  leb→le (length n.children) 8 (and_r (leb (length n.buffers) 8) (leb (length n.children) 8) t),
)

top_named : (P : ℕ → Type 0) (fs : List ℕ) (t : ℕ) → ((v : ℕ) → T (has v fs) → P v) → P t → P (top fs t)
top_named P [] t h p = p
top_named P (f ∷ fs) t h p = h f (or_l (eqb f f) (has f fs) (eqb_refl f))

-- the copies of a path, in a store that has the old records, the copies and the target's stand-in
copies_ok : (s : Store) → Sound s → (p : Change) (is qs : List ℕ) (u t : ℕ) → T (valid (children_of s) is u) → T (is_some (s.nodes u))
    → ((v : ℕ) → T (has v qs) → T (is_some ((extended s p).nodes v))) → T (is_some ((extended s p).nodes t))
    → Each (λ u n. NodeOk (extended s p) n) (copies s is qs u t)
copies_ok s ok p [] qs u t v h nq nt = tt
copies_ok s ok p (i ∷ is) [] u t v h nq nt = tt
copies_ok s ok p (i ∷ is) (f ∷ fs) u t v h nq nt =
    let k : List ℕ = children_of s u in
    let o : NodeOk s (node_at s u) = node_ok s ok u h in
    let li : i < length k = ltb→lt i (length k) (and_l (ltb i (length k)) (valid (children_of s) is (get_or k i 0)) v) in (
      record {
        few_buffers = o.few_buffers;
        few_children = omega (arith, o.few_children, length-set k i (top fs t));
        paired = o.paired ∙ sym (length-set k i (top fs t));
        within = o.within;
        children_named = λ c q. ⊎_elim (λ (e : c ≡ top fs t). subst (λ (x : ℕ). T (is_some ((extended s p).nodes x))) (sym e) (top_named (λ x. T (is_some ((extended s p).nodes x))) fs t (λ w z. nq w (or_r (eqb f w) (has w fs) z)) nt)) (λ w. node_still s ok p c (o.children_named c w)) (has_set c i (top fs t) k q);
        buffers_named = λ b q. branch_still s ok p b (o.buffers_named b q);
      },
      copies_ok s ok p is fs (get_or k i 0) t (and_r (ltb i (length k)) (valid (children_of s) is (get_or k i 0)) v) (o.children_named (get_or k i 0) (has_at k i li)) (λ w q. nq w (or_r (eqb f w) (has w fs) q)) nt,
    )

-- ---- the kinds that copy a path

module _ (s : Store) (ok : Sound s) (d : ℕ) (idx fs : List ℕ) (even : length (take d fs) ≡ length (take d idx)) where
  pub flush_lawful : (c gc f g : ℕ) → let P : Change = flush_change s d idx fs c gc f g in
      T P.path → T (all small P.adds) → T (unused s P.proposed) → Lawful s P
  flush_lawful c gc f g t sm new =
      let P : Change = flush_change s d idx fs c gc f g in
      let is : List ℕ = take d idx in
      let q : List ℕ = take d fs in
      let u : ℕ = follow (children_of s) is s.root in
      let n : Node = node_at s u in
      let m : Node = node_at s (get_or n.children c 0) in
      let a : AtChild s is c = at_child s is c ok t in
      let keyed : keys P.adds ≡ P.proposed = path_keys s ok d idx fs even f _ in
      let named : (v : ℕ) → T (has v P.proposed) → T (is_some ((extended s P).nodes v)) = λ v h. add_named s ok P v (subst (λ (l : List ℕ). T (has v l)) (sym keyed) h) in
      let on : NodeOk s n = node_ok s ok u a.node.named in
      let om : NodeOk s m = node_ok s ok (get_or n.children c 0) (on.children_named (get_or n.children c 0) (has_at n.children c a.place)) in
      let L : ℕ = length n.buffers in
      let offs' : List ℕ = set n.offsets c L in
      let in_f : T (has f P.proposed) = has_right f q (f ∷ g ∷ []) (or_l (eqb f f) _ (eqb_refl f)) in
      let in_g : T (has g P.proposed) = has_right g q (f ∷ g ∷ []) (or_r (eqb f g) _ (or_l (eqb g g) false (eqb_refl g))) in
      let nf : Node = record { buffers = drop gc n.buffers; children = set n.children c g; offsets = map (λ o. o - gc) offs' } in
      let ng : Node = record { buffers = m.buffers ++ drop (get_or n.offsets c 0) n.buffers; children = m.children; offsets = m.offsets } in
      let small2 : T (all small ((f, nf) ∷ (g, ng) ∷ [])) = all_right small (copies s is q s.root f) ((f, nf) ∷ (g, ng) ∷ []) sm in
      let zf = sized f nf (and_l (small (f, nf)) (all small ((g, ng) ∷ [])) small2) in
      let zg = sized g ng (and_l (small (g, ng)) true (and_r (small (f, nf)) (all small ((g, ng) ∷ [])) small2)) in
      let okf : NodeOk (extended s P) nf = record {
        few_buffers = zf.0;
        few_children = zf.1;
        paired = length-map offs' (λ o. o - gc) ∙ length-set n.offsets c L ∙ on.paired ∙ sym (length-set n.children c g);
        within = all_map (λ o. leb o (length (drop gc n.buffers))) (λ o. leb o L) (λ o. o - gc)
            (λ o h. le→leb (o - gc) (length (drop gc n.buffers)) (omega (arith, leb→le o L h, length-drop gc n.buffers))) offs'
            (all_set (λ o. leb o L) c L n.offsets (le→leb L L (omega arith)) on.within);
        children_named = λ x h. ⊎_elim (λ (e : x ≡ g). subst (λ (y : ℕ). T (is_some ((extended s P).nodes y))) (sym e) (named g in_g)) (λ w. node_still s ok P x (on.children_named x w)) (has_set x c g n.children h);
        buffers_named = λ b h. branch_still s ok P b (on.buffers_named b (has_drop b gc n.buffers h));
      } in
      let okg : NodeOk (extended s P) ng = record {
        few_buffers = zg.0;
        few_children = zg.1;
        paired = om.paired;
        within = weaker (length m.buffers) (length ng.buffers) (omega (arith, length-append m.buffers (drop (get_or n.offsets c 0) n.buffers))) m.offsets om.within;
        children_named = λ x h. node_still s ok P x (om.children_named x h);
        buffers_named = λ b h.
            ⊎_elim (λ w. branch_still s ok P b (om.buffers_named b w)) (λ w. branch_still s ok P b (on.buffers_named b (has_drop b (get_or n.offsets c 0) n.buffers w)))
            (has_append b m.buffers (drop (get_or n.offsets c 0) n.buffers) h);
      } in
      plain_lawful s ok P keyed (top_in q f (g ∷ [])) (flush_ledger s ok d idx fs even c gc f g t new)
      (each_append (λ v x. NodeOk (extended s P) x) (copies s is q s.root f) ((f, nf) ∷ (g, ng) ∷ [])
      (copies_ok s ok P is q s.root f a.node.way (root_named s ok a.node.full) (λ v h. named v (has_left v q (f ∷ g ∷ []) h)) (named f in_f))
      (okf, (okg, tt)))
      refl refl refl

  pub split_lawful : (c i f l r : ℕ) → let P : Change = split_change s d idx fs c i f l r in
      T P.path → T (all small P.adds) → T (unused s P.proposed) → Lawful s P
  split_lawful c i f l r t sm new =
      let P : Change = split_change s d idx fs c i f l r in
      let is : List ℕ = take d idx in
      let q : List ℕ = take d fs in
      let u : ℕ = follow (children_of s) is s.root in
      let n : Node = node_at s u in
      let m : Node = node_at s (get_or n.children c 0) in
      let a : AtChild s is c = at_child s is c ok t in
      let keyed : keys P.adds ≡ P.proposed = path_keys s ok d idx fs even f _ in
      let named : (v : ℕ) → T (has v P.proposed) → T (is_some ((extended s P).nodes v)) = λ v h. add_named s ok P v (subst (λ (l : List ℕ). T (has v l)) (sym keyed) h) in
      let on : NodeOk s n = node_ok s ok u a.node.named in
      let om : NodeOk s m = node_ok s ok (get_or n.children c 0) (on.children_named (get_or n.children c 0) (has_at n.children c a.place)) in
      let L : ℕ = length n.buffers in
      let o : ℕ = get_or n.offsets c 0 in
      let in_f : T (has f P.proposed) = has_right f q (f ∷ l ∷ r ∷ []) (or_l (eqb f f) _ (eqb_refl f)) in
      let in-l : T (has l P.proposed) = has_right l q (f ∷ l ∷ r ∷ []) (or_r (eqb f l) _ (or_l (eqb l l) _ (eqb_refl l))) in
      let in-r : T (has r P.proposed) = has_right r q (f ∷ l ∷ r ∷ []) (or_r (eqb f r) _ (or_r (eqb l r) _ (or_l (eqb r r) false (eqb_refl r)))) in
      let nf : Node = record { buffers = n.buffers; children = take c n.children ++ (l ∷ r ∷ drop (suc c) n.children); offsets = take c n.offsets ++ (o ∷ o ∷ drop (suc c) n.offsets) } in
      let nl : Node = record { buffers = m.buffers; children = take i m.children; offsets = take i m.offsets } in
      let nr : Node = record { buffers = m.buffers; children = drop i m.children; offsets = drop i m.offsets } in
      let small3 : T (all small ((f, nf) ∷ (l, nl) ∷ (r, nr) ∷ [])) = all_right small (copies s is q s.root f) ((f, nf) ∷ (l, nl) ∷ (r, nr) ∷ []) sm in
      let zf = sized f nf (and_l (small (f, nf)) (all small ((l, nl) ∷ (r, nr) ∷ [])) small3) in
      let fit : T (leb o L) = all_get (λ x. leb x L) c 0 n.offsets (le→leb 0 L (omega arith)) on.within in
      let okf : NodeOk (extended s P) nf = record {
        few_buffers = zf.0;
        few_children = zf.1;
        paired = omega (
          arith,
          on.paired,
          length-append (take c n.offsets) (o ∷ o ∷ drop (suc c) n.offsets),
          length-append (take c n.children) (l ∷ r ∷ drop (suc c) n.children),
          length-take c n.offsets,
          length-take c n.children,
          length-drop (suc c) n.offsets,
          length-drop (suc c) n.children,
        );
        within = all_append (λ x. leb x L) (take c n.offsets) (o ∷ o ∷ drop (suc c) n.offsets) (all_take (λ x. leb x L) c n.offsets on.within)
            (and_i (leb o L) _ fit (and_i (leb o L) _ fit (all_drop (λ x. leb x L) (suc c) n.offsets on.within)));
        children_named = λ x h.
            ⊎_elim
            (λ w. node_still s ok P x (on.children_named x (has_take x c n.children w)))
            (λ (w : T (has x (l ∷ r ∷ drop (suc c) n.children))).
            ⊎_elim
            (λ (e : T (eqb l x)). subst (λ (y : ℕ). T (is_some ((extended s P).nodes y))) (eqb→eq l x e) (named l in-l))
            (λ (w' : T (has x (r ∷ drop (suc c) n.children))).
            ⊎_elim
            (λ (e : T (eqb r x)). subst (λ (y : ℕ). T (is_some ((extended s P).nodes y))) (eqb→eq r x e) (named r in-r))
            (λ w''. node_still s ok P x (on.children_named x (has_drop x (suc c) n.children w'')))
            (or_e (eqb r x) (has x (drop (suc c) n.children)) w'))
            (or_e (eqb l x) (has x (r ∷ drop (suc c) n.children)) w))
            (has_append x (take c n.children) (l ∷ r ∷ drop (suc c) n.children) h);
        buffers_named = λ b h. branch_still s ok P b (on.buffers_named b h);
      } in
      let okl : NodeOk (extended s P) nl = record {
        few_buffers = om.few_buffers;
        few_children = omega (arith, om.few_children, length-take i m.children);
        paired = omega (arith, om.paired, length-take i m.children, length-take i m.offsets);
        within = all_take (λ x. leb x (length m.buffers)) i m.offsets om.within;
        children_named = λ x h. node_still s ok P x (om.children_named x (has_take x i m.children h));
        buffers_named = λ b h. branch_still s ok P b (om.buffers_named b h);
      } in
      let okr : NodeOk (extended s P) nr = record {
        few_buffers = om.few_buffers;
        few_children = omega (arith, om.few_children, length-drop i m.children);
        paired = omega (arith, om.paired, length-drop i m.children, length-drop i m.offsets);
        within = all_drop (λ x. leb x (length m.buffers)) i m.offsets om.within;
        children_named = λ x h. node_still s ok P x (om.children_named x (has_drop x i m.children h));
        buffers_named = λ b h. branch_still s ok P b (om.buffers_named b h);
      } in
      plain_lawful s ok P keyed (top_in q f (l ∷ r ∷ [])) (split_ledger s ok d idx fs even c i f l r t new)
      (each_append (λ v x. NodeOk (extended s P) x) (copies s is q s.root f) ((f, nf) ∷ (l, nl) ∷ (r, nr) ∷ [])
      (copies_ok s ok P is q s.root f a.node.way (root_named s ok a.node.full) (λ v h. named v (has_left v q (f ∷ l ∷ r ∷ []) h)) (named f in_f))
      (okf, (okl, (okr, tt))))
      refl refl refl

-- ---- a sealed slot's branch

module _ (s : Store) (ok : Sound s) (k : ℕ) (low : T (is_slot k)) (closed : T (is_sealed (slot_at s k))) where
  slot_in_lem : k < length s.slots
  slot_in_lem = omega (arith, ltb→lt k slot_count low, ok.slot_number)

  sealed_ok : BranchOk (get_or (slot_units (slot_at s k)) 0 0) (slot_units (slot_at s k))
  sealed_ok = go (slot_at s k) (all_get slot_ok k empty s.slots tt ok.slot) closed
    where
      go : (x : Slot) → T (slot_ok x) → T (is_sealed x) → BranchOk (get_or (slot_units x) 0 0) (slot_units x)
      go empty o t = absurd t
      go (opened us) o t = absurd t
      go (sealed us) o t =
          record {
            least = leb→le 1 (length us) (and_l (leb 1 (length us)) (leb (length us) 8) o);
            most = leb→le (length us) 8 (and_r (leb 1 (length us)) (leb (length us) 8) o);
            first = refl;
          }

  emptied : (u : ℕ) → times u (joined slot_units (set s.slots k empty)) + times u (slot_units (slot_at s k)) ≡ times u (joined slot_units s.slots)
  emptied u = omega (arith, joined_set slot_units u k empty empty s.slots slot_in_lem)

  sealed_unit : let b : ℕ = get_or (slot_units (slot_at s k)) 0 0 in (1 ≤ b) × (b ≤ 255)
  sealed_unit =
      let us : List ℕ = slot_units (slot_at s k) in
      let b : ℕ = get_or us 0 0 in
      ok.unit b (pos_has b (owned s) (omega (arith, emptied b, slot_owned s b, has_pos b us (has_at us 0 sealed_ok.least))))

-- ---- commit, memtable flush, grow

moved_le : (a e l o : ℕ) → a < e → e ≤ l → o ≤ l → moved a e o ≤ a + suc (l - e)
moved_le a e l o h h' h'' = go (leb o a) (ltb o e) refl refl
  where
    go : (x y : Bool) → leb o a ≡ x → ltb o e ≡ y → cond x o (cond y a (o - ((e - a) - 1))) ≤ a + suc (l - e)
    go true y p r = omega (arith, leb→le o a (eq→T (leb o a) p))
    go false true p r = omega arith
    go false false p r = omega (arith, nltb→le o e (subst (λ (c : Bool). T (not c)) (sym r) tt))

module _ (s : Store) (ok : Sound s) where
  pub commit_lawful : (k j d : ℕ) (idx fs : List ℕ) (a e f : ℕ) → length (take d fs) ≡ length (take d idx) → let P : Change = commit_change s k j d idx fs a e f in
      T P.shape → T P.slot → T P.path → T P.range → T (all small P.adds) → T (unused s P.proposed) → Lawful s P
  unfolding joining
  commit_lawful k j d idx fs a e f even sh sl t ra sm new =
      let P : Change = commit_change s k j d idx fs a e f in
      let is : List ℕ = take d idx in
      let q : List ℕ = take d fs in
      let u : ℕ = follow (children_of s) is s.root in
      let n : Node = node_at s u in
      let us : List ℕ = slot_units (slot_at s j) in
      let b : ℕ = get_or us 0 0 in
      let lj : T (is_slot j) = and_l (is_slot j) (path_shape d idx fs) (and_r (is_compactor k) (is_slot j && path_shape d idx fs) sh) in
      let cj : T (is_sealed (slot_at s j)) = and_r (not (idle (input_at s k))) (is_sealed (slot_at s j)) sl in
      let at : AtNode s is = at_node s is ok t in
      let keyed : keys P.adds ≡ P.proposed = path_keys s ok d idx fs even f _ in
      let named : (v : ℕ) → T (has v P.proposed) → T (is_some ((extended s P).nodes v)) = λ v h. add_named s ok P v (subst (λ (l : List ℕ). T (has v l)) (sym keyed) h) in
      let on : NodeOk s n = node_ok s ok u at.named in
      let L : ℕ = length n.buffers in
      let ae : a < e = ltb→lt a e (and_l (ltb a e) (leb e L) ra) in
      let eL : e ≤ L = leb→le e L (and_r (ltb a e) (leb e L) ra) in
      let in_f : T (has f P.proposed) = has_right f q (f ∷ []) (or_l (eqb f f) _ (eqb_refl f)) in
      let nf : Node = record { buffers = take a n.buffers ++ (b ∷ drop e n.buffers); children = n.children; offsets = map (moved a e) n.offsets } in
      let zf = sized f nf (and_l (small (f, nf)) true (all_right small (copies s is q s.root f) ((f, nf) ∷ []) sm)) in
      let okf : NodeOk (extended s P) nf = record {
        few_buffers = zf.0;
        few_children = zf.1;
        paired = length-map n.offsets (moved a e) ∙ on.paired;
        within = all_map (λ o. leb o (length nf.buffers)) (λ o. leb o L) (moved a e)
            (λ o h. le→leb (moved a e o) (length nf.buffers)
            (omega (arith, moved_le a e L o ae eL (leb→le o L h), length-append (take a n.buffers) (b ∷ drop e n.buffers), length-take a n.buffers, length-drop e n.buffers))) n.offsets on.within;
        children_named = λ x h. node_still s ok P x (on.children_named x h);
        buffers_named = λ x h.
            ⊎_elim
            (λ w. branch_still s ok P x (on.buffers_named x (has_take x a n.buffers w)))
            (λ (w : T (has x (b ∷ drop e n.buffers))).
            ⊎_elim (λ (y : T (eqb b x)). join_named s ok P x (or_l (eqb b x) false y)) (λ y. branch_still s ok P x (on.buffers_named x (has_drop x e n.buffers y)))
            (or_e (eqb b x) (has x (drop e n.buffers)) w))
            (has_append x (take a n.buffers) (b ∷ drop e n.buffers) h);
      } in
      tree_lawful s ok P keyed (top_in q f []) (commit_ledger s ok d idx fs even k j a e f t new)
      (each_append (λ v x. NodeOk (extended s P) x) (copies s is q s.root f) ((f, nf) ∷ [])
      (copies_ok s ok P is q s.root f at.way (root_named s ok at.full) (λ v h. named v (has_left v q (f ∷ []) h)) (named f in_f))
      (okf, tt))
      (sealed_ok s ok j lj cj, tt) (sealed_unit s ok j lj cj, tt)
      (length-set s.slots j empty ∙ ok.slot_number) (all_set slot_ok j empty s.slots tt ok.slot)
      (length-set s.inputs k [] ∙ ok.input_number) (all_set (λ l. leb (length l) 8) k [] s.inputs tt ok.input)
      (λ x h. ⊎_elim (λ (y : ⊥). absurd y) (λ y. ok.input_named x y) (in_use_set x k [] s.inputs h))
      (λ v. omega (arith, emptied s ok j lj cj v, sums_append (Rattle.ways.specs.Ways.is v) us []))

  pub memtable_lawful : (k r : ℕ) → let P : Change = memtable_change s k r in
      T P.shape → T P.slot → T (all small P.adds) → T (unused s P.proposed) → Lawful s P
  unfolding joining
  memtable_lawful k r sh sl sm new =
      let P : Change = memtable_change s k r in
      let n : Node = root_node s in
      let us : List ℕ = slot_units (slot_at s k) in
      let b : ℕ = get_or us 0 0 in
      let nf : Node = record { buffers = n.buffers ++ (b ∷ []); children = n.children; offsets = n.offsets } in
      let z = sized r nf (and_l (small (r, nf)) true sm) in
      let o : NodeOk s n = root_ok (eqb s.root 0) refl in
      tree_lawful s ok P refl (or_l (eqb r r) false (eqb_refl r)) (memtable_ledger s ok k r new) (
        record {
          few_buffers = z.0;
          few_children = z.1;
          paired = o.paired;
          within = weaker (length n.buffers) (length (n.buffers ++ (b ∷ []))) (omega (arith, length-append n.buffers (b ∷ []))) n.offsets o.within;
          children_named = λ x h. node_still s ok P x (o.children_named x h);
          buffers_named = λ x h.
              ⊎_elim (λ w. branch_still s ok P x (o.buffers_named x w)) (λ (w : T (has x (b ∷ []))). join_named s ok P x w) (has_append x n.buffers (b ∷ []) h);
        },
        tt,
      )
      (sealed_ok s ok k sh sl, tt) (sealed_unit s ok k sh sl, tt)
      (length-set s.slots k empty ∙ ok.slot_number) (all_set slot_ok k empty s.slots tt ok.slot)
      ok.input_number ok.input ok.input_named
      (λ u. omega (arith, emptied s ok k sh sl u, sums_append (is u) us []))
    where
      root_ok : (c : Bool) → eqb s.root 0 ≡ c → NodeOk s (cond c blank (node_at s s.root))
      root_ok true e = record { few_buffers = omega arith; few_children = omega arith; paired = refl; within = tt; children_named = λ c t. absurd t; buffers_named = λ b t. absurd t }
      root_ok false e = node_ok s ok s.root (root_named s ok e)

  pub grow_lawful : (r : ℕ) → let P : Change = grow_change s r in T P.low → T (all small P.adds) → T (unused s P.proposed) → Lawful s P
  grow_lawful r lo sm new =
      let P : Change = grow_change s r in
      let nf : Node = record { buffers = []; children = root_list s.root; offsets = map (λ u. 0) (root_list s.root) } in
      let z = sized r nf (and_l (small (r, nf)) true sm) in
      plain_lawful s ok P refl (or_l (eqb r r) false (eqb_refl r)) (grow_ledger s ok r lo new) (
        record {
          few_buffers = z.0;
          few_children = z.1;
          paired = length-map (root_list s.root) (λ u. 0);
          within = all_map (λ o. leb o 0) (λ o. true) (λ u. 0) (λ x h. tt) (root_list s.root) (yes_all (root_list s.root));
          children_named = λ x h. node_still s ok P x (ok.rooted x (h));
          buffers_named = λ x h. absurd h;
        },
        tt,
      )
      refl refl refl
    where
      yes_all : (l : List ℕ) → T (all (λ o. true) l)
      yes_all [] = tt
      yes_all (x ∷ xs) = yes_all xs
