-- The ledger of each kind of step, from its change. Assumes nothing.
use mathlib.Core.Path.{◌≡◌, refl, sym, ap, ◌∙◌, subst}
use mathlib.Core.Bool.{Bool, true, false, ◌&&◌, not}
use mathlib.Core.Logic.{◌⊎◌, inl, inr, ⊎_elim}
use mathlib.Core.List.{List, [], ◌∷◌, ◌++◌}
use mathlib.Core.Option.{Option, some}
use Prim.Native.Nat.{ℕ, zero, suc, ◌+◌, ◌-◌, ◌≤◌, ◌<◌}
use native.Mathlib.Omega.{arith}
use lib.Dec.{T, eqb, ltb, eqb_refl, eqb→eq, ltb→lt}
use lib.ListN.{length, get_or, take, drop, length-append, take-append-drop}
use Rattle.ways.specs.Ways.{sums, walk, deep, nothing, has, follow}
use Rattle.rules.specs.Tables.{puts, keys, is_some, or_else, distinct}
use Rattle.right.specs.Ledger.{Holds, unused, mark, Ledger}
use Rattle.rules.specs.Store.{Node, Store, blank, children_of, root_list}
use Rattle.rules.specs.Steps.{Change, extended, copies, valid, flush_change, split_change, commit_change, grow_change, memtable_change, root_node}
use Rattle.rules.specs.Right.{Sound}
use Rattle.ways.proofs.Frame.{sums_ext, frame_list, deep_more, height}
use Rattle.ways.proofs.Copy.{sums_at, flush, split, same_children, leaf}
use Rattle.ways.proofs.Tests.{F→eq, not→eq, and_l, and_r, and_i, or_l}
use Rattle.right.proofs.Tables.{puts_other, puts_holds, holds_append, keys_append}
use Rattle.right.proofs.Ledger.{up_length, fresh_unit, clear, clear_root, unmark, root_named, copied, keys_copies, root_list_lem, spliced, follow_node, unused_distinct}

-- ---- depth

pub deep_path : (k : ℕ → List ℕ) (p : List ℕ) (u : ℕ) → T (valid k p u) → 0 < deep k (length p) u
unfolding walk
deep_path k [] u v = omega arith
deep_path k (i ∷ p) u v =
    omega (
      arith,
      sums_at (walk 1 k nothing (length p)) (k u) i (ltb→lt i (length (k u)) (and_l (ltb i (length (k u))) (valid k p (get_or (k u) i 0)) v)),
      deep_path k p (get_or (k u) i 0) (and_r (ltb i (length (k u))) (valid k p (get_or (k u) i 0)) v),
    )

pub valid_snoc : (k : ℕ → List ℕ) (p : List ℕ) (u c : ℕ) → T (valid k p u) → T (ltb c (length (k (follow k p u)))) → T (valid k (p ++ (c ∷ [])) u)
valid_snoc k [] u c v h = and_i (ltb c (length (k u))) true h tt
valid_snoc k (i ∷ p) u c v h =
    and_i (ltb i (length (k u))) (valid k (p ++ (c ∷ [])) (get_or (k u) i 0))
    (and_l (ltb i (length (k u))) (valid k p (get_or (k u) i 0)) v)
    (valid_snoc k p (get_or (k u) i 0) c (and_r (ltb i (length (k u))) (valid k p (get_or (k u) i 0)) v) h)

-- a path that leads somewhere has fewer than 8 indexes
pub short : (s : Store) → Sound s → eqb s.root 0 ≡ false → (p : List ℕ) → T (valid (children_of s) p s.root) → length p < 8
short s ok full p v =
    ⊎_elim (λ h. h) (λ (h : 8 ≤ length p).
    let z : deep (children_of s) 8 s.root ≡ 0 = omega (arith, ok.low, ap (sums (deep (children_of s) 8)) (root_list_lem s.root full)) in
    let m : deep (children_of s) (length p) s.root ≡ 0 =
    subst (λ (n : ℕ). deep (children_of s) n s.root ≡ 0) (fits h) (deep_more (children_of s) (length p - 8) 8 s.root z) in
    absurd (omega (arith, deep_path (children_of s) p s.root v)))
    (either (length p) 8)
  where
    fits : 8 ≤ length p → length p - 8 + 8 ≡ length p
    fits h = omega arith

    either : (m n : ℕ) → (m < n) ⊎ (n ≤ m)
    either m zero = inr (omega arith)
    either zero (suc n) = inl (omega arith)
    either (suc m) (suc n) = ⊎_elim (λ h. inl (omega arith)) (λ h. inr (omega arith)) (either m n)

-- ---- what a change's store has

pub extended_same : (s : Store) (p : Change) (us : List ℕ) → keys p.adds ≡ us → (v : ℕ) → has v us ≡ false → children_of (extended s p) v ≡ children_of s v
unfolding extended
extended_same s p us e v h = ap (λ (o : Option Node). (or_else blank o).children) (puts_other p.adds s.nodes v (ap (has v) e ∙ h))

pub extended_holds : (s : Store) (p : Change) (us : List ℕ) → keys p.adds ≡ us → T (unused s us) → Holds (extended s p).nodes p.adds
unfolding extended
extended_holds s p us e n = puts_holds p.adds s.nodes (subst (λ (l : List ℕ). T (distinct l)) (sym e) (unused_distinct s us n))

children_at : (s : Store) (f : ℕ) (n : Node) → s.nodes f ≡ some n → children_of s f ≡ n.children
children_at s f n e = ap (λ (o : Option Node). (or_else blank o).children) e

pub positive : (n : ℕ) → 1 ≤ n → eqb n 0 ≡ false
positive n h = F→eq (eqb n 0) (λ z. let e : n ≡ 0 = eqb→eq n 0 z in omega arith)

-- ---- what the test of a path says

pub record AtNode (s : Store) (p : List ℕ) : Type 0 where
  pub full : eqb s.root 0 ≡ false
  pub way : T (valid (children_of s) p s.root)
  pub near : length p < 8
  pub named : T (is_some (s.nodes (follow (children_of s) p s.root)))

pub record AtChild (s : Store) (p : List ℕ) (c : ℕ) : Type 0 where
  pub node : AtNode s p
  pub place : c < length (children_of s (follow (children_of s) p s.root))
  pub nearer : length p < 7

pub at_node : (s : Store) (p : List ℕ) → Sound s → T (not (eqb s.root 0) && valid (children_of s) p s.root) → AtNode s p
at_node s p ok t =
    let k : ℕ → List ℕ = children_of s in
    let e : eqb s.root 0 ≡ false = not→eq (eqb s.root 0) (and_l (not (eqb s.root 0)) (valid k p s.root) t) in
    let v : T (valid k p s.root) = and_r (not (eqb s.root 0)) (valid k p s.root) t in
    record { full = e; way = v; near = short s ok e p v; named = follow_node s ok p s.root v (root_named s ok e) }

pub at_child : (s : Store) (p : List ℕ) (c : ℕ) → Sound s
    → T (not (eqb s.root 0) && (valid (children_of s) p s.root && ltb c (length (children_of s (follow (children_of s) p s.root)))))
    → AtChild s p c
at_child s p c ok t =
    let k : ℕ → List ℕ = children_of s in
    let r : Bool = not (eqb s.root 0) in
    let v : Bool = valid k p s.root in
    let h : Bool = ltb c (length (k (follow k p s.root))) in
    let n : AtNode s p = at_node s p ok (and_i r v (and_l r (v && h) t) (and_l v h (and_r r (v && h) t))) in
    let l : length (p ++ (c ∷ [])) < 8 = short s ok n.full (p ++ (c ∷ [])) (valid_snoc k p s.root c n.way (and_r v h (and_r r (v && h) t))) in
    record { node = n; place = ltb→lt c (length (k (follow k p s.root))) (and_r v h (and_r r (v && h) t)); nearer = omega (arith, length-append p (c ∷ [])) }

-- ---- the kinds that copy a path: flush, split, commit

module _ (s : Store) (ok : Sound s) (d : ℕ) (idx fs : List ℕ) (even : length (take d fs) ≡ length (take d idx)) where
  -- the keys of the copies and what comes after them
  pub path_keys : (f : ℕ) (es : List (ℕ × Node)) → keys (copies s (take d idx) (take d fs) s.root f ++ es) ≡ take d fs ++ keys es
  path_keys f es =
      keys_append (copies s (take d idx) (take d fs) s.root f) es
      ∙ ap (λ (l : List ℕ). l ++ keys es) (keys_copies s (take d idx) (take d fs) s.root f even)

  pub flush_ledger : (c gc f g : ℕ) → let P : Change = flush_change s d idx fs c gc f g in
      T P.path → T (unused s P.proposed) → Ledger s (extended s P) P.proposed P.drops P.proposed
  unfolding extended
  flush_ledger c gc f g t new =
      let P : Change = flush_change s d idx fs c gc f g in
      let p : List ℕ = take d idx in
      let q : List ℕ = take d fs in
      let u : ℕ = follow (children_of s) p s.root in
      let a : AtChild s p c = at_child s p c ok t in
      let x : ℕ = 6 - length p in
      let keyed : keys P.adds ≡ P.proposed = path_keys f _ in
      let parts = holds_append (extended s P).nodes (copies s p q s.root f) _ (extended_holds s P P.proposed keyed new) in
      (spliced s (extended s P) ok p q f (g ∷ []) (u ∷ get_or (children_of s u) c 0 ∷ []) (suc (suc x)) new a.node.full refl
      (extended_same s P P.proposed keyed)
      (copied s (extended s P).nodes p q s.root f even a.node.way parts.0)
      (omega (arith, up_length p (suc (suc x))))
      (λ b w w' both.
      omega (
        arith,
        flush b (mark P.proposed) (children_of s) (children_of (extended s P)) w w' both x u f c g a.place
            (children_at (extended s P) f _ parts.1.0) (children_at (extended s P) g _ parts.1.1.0)
            (clear s ok P.proposed new (suc (suc x)) u a.node.named),
      )))

  pub split_ledger : (c i f l r : ℕ) → let P : Change = split_change s d idx fs c i f l r in
      T P.path → T (unused s P.proposed) → Ledger s (extended s P) P.proposed P.drops P.proposed
  unfolding extended
  split_ledger c i f l r t new =
      let P : Change = split_change s d idx fs c i f l r in
      let p : List ℕ = take d idx in
      let q : List ℕ = take d fs in
      let u : ℕ = follow (children_of s) p s.root in
      let m : ℕ = get_or (children_of s u) c 0 in
      let a : AtChild s p c = at_child s p c ok t in
      let x : ℕ = 6 - length p in
      let keyed : keys P.adds ≡ P.proposed = path_keys f _ in
      let parts = holds_append (extended s P).nodes (copies s p q s.root f) _ (extended_holds s P P.proposed keyed new) in
      let el : children_of (extended s P) l ≡ take i (children_of s m) = children_at (extended s P) l _ parts.1.1.0 in
      let er : children_of (extended s P) r ≡ drop i (children_of s m) = children_at (extended s P) r _ parts.1.1.1.0 in
      (spliced s (extended s P) ok p q f (l ∷ r ∷ []) (u ∷ m ∷ []) (suc (suc x)) new a.node.full refl
      (extended_same s P P.proposed keyed)
      (copied s (extended s P).nodes p q s.root f even a.node.way parts.0)
      (omega (arith, up_length p (suc (suc x))))
      (λ b w w' both.
      omega (
        arith,
        split b (mark P.proposed) (children_of s) (children_of (extended s P)) w w' both x u f c l r a.place
            (children_at (extended s P) f _ parts.1.0) (rw (el, er) (take-append-drop i (children_of s m)))
            (clear s ok P.proposed new (suc (suc x)) u a.node.named),
      )))

  pub commit_ledger : (k j b e f : ℕ) → let P : Change = commit_change s k j d idx fs b e f in
      T P.path → T (unused s P.proposed) → Ledger s (extended s P) P.proposed P.drops P.proposed
  unfolding extended
  commit_ledger k j b e f t new =
      let P : Change = commit_change s k j d idx fs b e f in
      let p : List ℕ = take d idx in
      let q : List ℕ = take d fs in
      let u : ℕ = follow (children_of s) p s.root in
      let a : AtNode s p = at_node s p ok t in
      let x : ℕ = 7 - length p in
      let keyed : keys P.adds ≡ P.proposed = path_keys f _ in
      let parts = holds_append (extended s P).nodes (copies s p q s.root f) _ (extended_holds s P P.proposed keyed new) in
      (spliced s (extended s P) ok p q f [] (u ∷ []) (suc x) new a.full refl
      (extended_same s P P.proposed keyed)
      (copied s (extended s P).nodes p q s.root f even a.way parts.0)
      (omega (arith, up_length p (suc x)))
      (λ b w w' both.
      omega (
        arith,
        same_children b (mark P.proposed) (children_of s) (children_of (extended s P)) w w' both x u f
            (children_at (extended s P) f _ parts.1.0)
            (clear s ok P.proposed new (suc x) u a.named),
      )))

-- ---- grow and memtable flush: a new root

module _ (s : Store) (ok : Sound s) where
  pub grow_ledger : (r : ℕ) → let P : Change = grow_change s r in
      T P.low → T (unused s P.proposed) → Ledger s (extended s P) P.proposed P.drops P.proposed
  unfolding extended walk
  grow_ledger r t new =
      let P : Change = grow_change s r in
      λ b w w' same.
      let holds : Holds (extended s P).nodes P.adds = extended_holds s P P.proposed refl new in
      let both : (v : ℕ) → mark P.proposed v ≡ 0 → (children_of (extended s P) v ≡ children_of s v) × (w' v ≡ w v) =
      λ v e. (extended_same s P P.proposed refl v (unmark v P.proposed e), same v (unmark v P.proposed e)) in
      let z : sums (deep (children_of s) 7) (root_list s.root) ≡ 0 = eqb→eq (sums (deep (children_of s) 7) (root_list s.root)) 0 t in
      omega (
        arith,
        ap (sums (walk b (children_of (extended s P)) w' 8)) (root_list_lem r (positive r (fresh_unit s P.proposed new r (or_l (eqb r r) false (eqb_refl r))).least)),
        ap (sums (walk b (children_of (extended s P)) w' 7)) (children_at (extended s P) r _ holds.0),
        frame_list b (mark P.proposed) (children_of s) (children_of (extended s P)) w w' both 7 (root_list s.root) (clear_root s ok P.proposed new 7),
        sums_ext (deep (children_of s) 7) (walk b (children_of s) w 8) (walk b (children_of s) w 7) (height (children_of s) w b b 7) (root_list s.root) z,
      )

  pub memtable_ledger : (k r : ℕ) → let P : Change = memtable_change s k r in
      T (unused s P.proposed) → Ledger s (extended s P) P.proposed P.drops P.proposed
  unfolding extended
  memtable_ledger k r new b w w' same = go (eqb s.root 0) refl
    where
      P : Change
      P = memtable_change s k r

      children' : children_of (extended s P) r ≡ (root_node s).children
      children' = children_at (extended s P) r _ (extended_holds s P P.proposed refl new).0

      both : (v : ℕ) → mark P.proposed v ≡ 0 → (children_of (extended s P) v ≡ children_of s v) × (w' v ≡ w v)
      both v e = (extended_same s P P.proposed refl v (unmark v P.proposed e), same v (unmark v P.proposed e))

      one_root : root_list r ≡ r ∷ []
      one_root = root_list_lem r (positive r (fresh_unit s P.proposed new r (or_l (eqb r r) false (eqb_refl r))).least)

      go : (c : Bool) → eqb s.root 0 ≡ c
          → sums (walk b (children_of (extended s P)) w' 8) (root_list r) + sums w (root_list s.root) ≡ sums (walk b (children_of s) w 8) (root_list s.root) + (w' r + 0)
      go true e =
          let none-at : root_list s.root ≡ [] = rw e in
          let bare : children_of (extended s P) r ≡ [] = children' ∙ (rw e) in
          omega (
            arith,
            ap (sums (walk b (children_of (extended s P)) w' 8)) one_root,
            ap (sums w) none-at,
            ap (sums (walk b (children_of s) w 8)) none-at,
            leaf b (mark P.proposed) (children_of s) (children_of (extended s P)) w w' both 7 r bare,
          )
      go false e =
          let alike : children_of (extended s P) r ≡ children_of s s.root = children' ∙ (rw e) in
          omega (
            arith,
            ap (sums (walk b (children_of (extended s P)) w' 8)) one_root,
            ap (sums w) (root_list_lem s.root e),
            ap (sums (walk b (children_of s) w 8)) (root_list_lem s.root e),
            same_children b (mark P.proposed) (children_of s) (children_of (extended s P)) w w' both 7 s.root r alike
                (clear s ok P.proposed new 8 s.root (root_named s ok e)),
          )

  -- ---- the kinds that leave the tree as it is: a change with the same root and no new node
  pub quiet_ledger : (P : Change) → P.root ≡ s.root → P.adds ≡ [] → (us : List ℕ) → T (unused s us) → Ledger s (extended s P) us [] []
  unfolding extended
  quiet_ledger P r a us new =
      λ b w w' same.
      let both : (v : ℕ) → mark us v ≡ 0 → (children_of (extended s P) v ≡ children_of s v) × (w' v ≡ w v) =
      λ v e. (ap (λ (es : List (ℕ × Node)). (or_else blank (puts s.nodes es v)).children) a, same v (unmark v us e)) in
      omega (
        arith,
        ap (λ (x : ℕ). sums (walk b (children_of (extended s P)) w' 8) (root_list x)) r,
        frame_list b (mark us) (children_of s) (children_of (extended s P)) w w' both 8 (root_list s.root) (clear_root s ok us new 8),
      )
