-- What a step frees, by the counts: a node no way leads to any more, and the units of a branch that no way names and no compactor reads.
-- Assumes nothing.
use mathlib.Core.Path.{◌≡◌, refl, sym, ap, ◌∙◌, subst}
use mathlib.Core.Bool.{Bool, true, false, cond}
use mathlib.Core.Logic.{⊎_elim, ◌↔◌}
use mathlib.Core.List.{List, [], ◌∷◌, ◌++◌}
use mathlib.Core.Option.{Option, none, some}
use Prim.Native.Nat.{ℕ, ◌+◌, ◌≤◌}
use native.Mathlib.Omega.{arith}
use lib.Dec.{T, eqb, eqb→eq, eqb_refl, ltb, ltb→lt, lt→ltb, not_T, T_not}
use lib.ListN.{get_or}
use Rattle.ways.specs.Ways.{sums, is, one, has, flat}
use Rattle.rules.specs.Tables.{keep, keys, times, joined, is_some, or_else}
use Rattle.rules.specs.Store.{units, Node, Store, slot_units, units_of, owned, ways, places, in_use, reached, alive, prune}
use Rattle.right.specs.Ledger.{node_units, disowned, owns, Each}
use Rattle.rules.specs.Steps.{accepted, Change, extended, decide, Step, change}
use Rattle.rules.specs.Right.{BranchOk, Sound, Right}
use Rattle.ways.proofs.Frame.{sums_append}
use Rattle.ways.proofs.Tests.{T→eq, eq→T, F→eq, eq→not, or_e, or_l, or_r, same?}
use Rattle.ways.proofs.Members.{has_pos, pos_has, sums_none, has_left, has_right}
use Rattle.right.proofs.Tables.{puts_other, keep_in}
use Rattle.right.proofs.Ledger.{has_unit, has_flat, has_at, fresh_unit, node_owned}
use Rattle.right.proofs.Prune.{not_seen, member_le, sums_le, pruned_places}
use Rattle.right.proofs.Extended.{joining, over, node_part, branch_part, owned_parts, puts_over, node_entries, branch_entries, zero_of}
use Rattle.right.proofs.Steps.{Passed, passed, Even, lawful, change_right}
use Rattle.right.proofs.Theorems.{disowned_iff}

-- ---- a dropped part

sums_drop : (f f' : ℕ → ℕ) (b : ℕ) → ((c : ℕ) → f' c ≤ f c) → f' b ≡ 0 → (l : List ℕ) → T (has b l) → sums f' l + f b ≤ sums f l
sums_drop f f' b h z [] t = absurd t
sums_drop f f' b h z (x ∷ xs) t =
    ⊎_elim
    (λ (q : T (eqb x b)). let e : x ≡ b = eqb→eq x b q in omega (arith, ap f e, ap f' e, sums_le f' f h xs))
    (λ (q : T (has b xs)). omega (arith, h x, sums_drop f f' b h z xs q))
    (or_e (eqb x b) (has b xs) t)

keep_over : {A : Type 0} (g : ℕ → Option A → ℕ) → ((c : ℕ) → g c none ≡ 0) → (f : ℕ → Bool) (t : ℕ → Option A) → over g (keep f t) ≤ over g t
unfolding over
keep_over {A} g z f t = sums_le (λ c. g c (keep f t c)) (λ c. g c (t c)) (λ c. go c (f c)) units
  where
    go : (c : ℕ) (b : Bool) → g c (cond b (t c) none) ≤ g c (t c)
    go c true = omega arith
    go c false = omega (arith, z c)

node_none : (t : ℕ → Option Node) (u : ℕ) → t u ≡ none → over (node_part u) t ≡ 0
unfolding over node_part
node_none t u e = sums_none (λ c. node_part u c (t c)) units (λ c h. ⊎_elim (λ (q : c ≡ u). at c q) (λ (q : eqb c u ≡ false). off c q (is_some (t c))) (same? c u))
  where
    at : (c : ℕ) → c ≡ u → times u (cond (is_some (t c)) (c ∷ []) []) ≡ 0
    at c q = ap (λ (o : Option Node). times u (cond (is_some o) (c ∷ []) [])) (ap t q ∙ e)

    off : (c : ℕ) → eqb c u ≡ false → (b : Bool) → times u (cond b (c ∷ []) []) ≡ 0
    off c q true = omega (arith, ap one q)
    off c q false = refl

-- a branch that joins brings its root
key_joining : (js : List (ℕ × List ℕ)) → Each BranchOk js → (b : ℕ) → T (has b (keys js)) → 1 ≤ times b (joining js)
unfolding joining
key_joining [] o b t = absurd t
key_joining (e ∷ js) o b t =
    ⊎_elim
    (λ (q : T (eqb e.0 b)).
    let at : get_or e.1 0 0 ≡ b = o.0.first ∙ eqb→eq e.0 b q in
    let h : T (has b e.1) = subst (λ (k : ℕ). T (has k e.1)) at (has_at e.1 0 o.0.least) in
    omega (arith, has_pos b e.1 h, sums_append (is b) e.1 (joining js)))
    (λ (q : T (has b (keys js))). omega (arith, key_joining js o.1 b q, sums_append (is b) e.1 (joining js)))
    (or_e (eqb e.0 b) (has b (keys js)) t)

branch_owned : (s : Store) → Sound s → (b : ℕ) (us : List ℕ) → s.branches b ≡ some us → (u : ℕ) → T (has u us) → T (has u (owned s))
unfolding owned
branch_owned s o b us e u t =
    let i = o.branch_unit b (subst (λ (x : Option (List ℕ)). T (is_some x)) (sym e) tt) in
    has_right u (flat (node_units s) units) (flat (units_of s) units ++ joined slot_units s.slots)
    (has_left u (flat (units_of s) units) (joined slot_units s.slots)
    (has_flat (units_of s) u b units (has_unit b i.0 i.1) (subst (λ (x : Option (List ℕ)). T (has u (or_else [] x))) (sym e) t)))

-- ---- the step

module _ (s : Store) (r : Right s) (m : Step) (v : Even m) (a : Passed s (change s m)) where
  -- what is held is not proposed
  held_old : (u : ℕ) → T (owns s u) → times u (change s m).proposed ≡ 0
  held_old u t = zero_of (times u (change s m).proposed) (λ h. (fresh_unit s (change s m).proposed a.new u (pos_has u (change s m).proposed h)).not_held t)

  held_kept : (u : ℕ) → T (owns s u) → times u (keys (change s m).adds) ≡ 0
  held_kept u t =
      zero_of (times u (keys (change s m).adds))
      (λ h. (fresh_unit s (change s m).proposed a.new u ((lawful s r.sound m v a).adds_proposed u (pos_has u (keys (change s m).adds) h))).not_held t)

  -- the parts of the next store, for a unit that is held
  record Parts (u : ℕ) : Type 0 where
    nodes : over (node_part u) (prune (extended s (change s m))).nodes ≤ over (node_part u) s.nodes
    joins : over (branch_part u) (extended s (change s m)).branches ≤ over (branch_part u) s.branches + times u (joining (change s m).joins)
    slots : times u (joining (change s m).joins) + times u (joined slot_units (change s m).slots) ≤ times u (joined slot_units s.slots)
    pruned : over (branch_part u) (prune (extended s (change s m))).branches ≤ over (branch_part u) (extended s (change s m)).branches

  parts : (u : ℕ) → T (owns s u) → Parts u
  unfolding extended prune node_part branch_part
  parts u t =
      record {
        nodes = omega (arith, puts_over (node_part u) P.adds s.nodes, node_entries u P.adds, held_kept u t, fewer_nodes);
        joins = omega (arith, puts_over (branch_part u) P.joins s.branches, branch_entries u P.joins);
        slots = omega (arith, (lawful s r.sound m v a).owns u, held_kept u t, held_old u t);
        pruned = fewer_units;
      }
    where
      P : Change
      P = change s m

      fewer_nodes : over (node_part u) (prune (extended s P)).nodes ≤ over (node_part u) (extended s P).nodes
      fewer_nodes = keep_over (node_part u) (λ c. refl) (reached (extended s P)) (extended s P).nodes

      fewer_units : over (branch_part u) (prune (extended s P)).branches ≤ over (branch_part u) (extended s P).branches
      fewer_units = keep_over (branch_part u) (λ c. refl) (alive (extended s P)) (extended s P).branches

  -- a node's unit is held by it alone
  node_here : (t : Store) → Sound t → (u : ℕ) → T (is_some (t.nodes u)) → 1 ≤ over (node_part u) t.nodes
  unfolding over node_part
  node_here t o u h =
      let i = o.node_unit u h in
      omega (
        arith,
        member_le (λ c. node_part u c (t.nodes c)) u units (has_unit u i.0 i.1),
        ap (λ (b : Bool). times u (cond b (u ∷ []) [])) (T→eq (is_some (t.nodes u)) h),
        ap one (T→eq (eqb u u) (eqb_refl u)),
      )

  branch_here : (t : Store) → Sound t → (b : ℕ) (us : List ℕ) → t.branches b ≡ some us → (u : ℕ) → times u us ≤ over (branch_part u) t.branches
  unfolding over branch_part
  branch_here t o b us e u =
      let i = o.branch_unit b (subst (λ (x : Option (List ℕ)). T (is_some x)) (sym e) tt) in
      omega (arith, member_le (λ c. branch_part u c (t.branches c)) b units (has_unit b i.0 i.1), ap (λ (x : Option (List ℕ)). times u (or_else [] x)) e)

  -- a node: freed just when no way leads to it
  node_gone : (s' : Store) → Right s' → s' ≡ prune (extended s (change s m)) → (u : ℕ) → T (is_some (s.nodes u)) → T (has u (disowned s s')) ↔ (ways s' u ≡ 0)
  unfolding extended prune
  node_gone s' r' e u h = (there, back)
    where
      there : T (has u (disowned s s')) → ways s' u ≡ 0
      there t = go (s'.nodes u) refl
        where
          go : (o : Option Node) → s'.nodes u ≡ o → ways s' u ≡ 0
          go none q = not_seen s' r'.sound u q
          go (some n) q = absurd (T_not (owns s' u) ((disowned_iff s s' r u).0 t).1 (node_owned s' r'.sound u (subst (λ (o : Option Node). T (is_some o)) (sym q) tt)))

      back : ways s' u ≡ 0 → T (has u (disowned s s'))
      back z =
          (disowned_iff s s' r u).1 (
            node_owned s r.sound u h,
            not_T (owns s' u) (λ t. go (s'.nodes u) refl t),
          )
        where
          q : Parts u
          q = parts u (node_owned s r.sound u h)

          go : (o : Option Node) → s'.nodes u ≡ o → T (owns s' u) → ⊥
          go (some n) w t =
              omega (arith, z, ltb→lt 0 (ways s' u) (r'.live_node u (subst (λ (o : Option Node). T (is_some o)) (sym w) tt)))
          go none w t =
              omega (
                arith,
                has_pos u (owned s') t,
                ap (λ (x : Store). times u (owned x)) e,
                owned_parts (prune (extended s (change s m))) u,
                owned_parts s u,
                node_here s r.sound u h,
                r.sound.single u,
                q.joins,
                q.slots,
                q.pruned,
                node_none (prune (extended s (change s m))).nodes u (ap (λ (x : Store). x.nodes u) (sym e) ∙ w),
              )

  -- a branch: its units are freed just when no way names it and no compactor reads it
  module _ (b : ℕ) (us : List ℕ) (eb : s.branches b ≡ some us) where
    root_held : T (owns s b)
    root_held =
        let o = r.sound.branch b us eb in
        branch_owned s r.sound b us eb b (subst (λ (k : ℕ). T (has k us)) o.first (has_at us 0 o.least))

    -- no branch that joins takes its place
    kept : (extended s (change s m)).branches b ≡ some us
    unfolding extended
    kept = puts_other (change s m).joins s.branches b (F→eq (has b (keys (change s m).joins)) (λ t.
        let o = r.sound.branch b us eb in
        let q : Parts b = parts b root_held in
        omega (
          arith,
          key_joining (change s m).joins (lawful s r.sound m v a).joins_ok b t,
          q.slots,
          has_pos b us (subst (λ (k : ℕ). T (has k us)) o.first (has_at us 0 o.least)),
          branch_here s r.sound b us eb b,
          owned_parts s b,
          r.sound.single b,
        ))) ∙ eb

    -- where the branch is dead its part of the sum is gone
    dead_part : (u : ℕ) → alive (extended s (change s m)) b ≡ false
        → over (branch_part u) (prune (extended s (change s m))).branches + times u us ≤ over (branch_part u) (extended s (change s m)).branches
    unfolding prune over branch_part
    dead_part u z =
        let i = r.sound.branch_unit b (subst (λ (x : Option (List ℕ)). T (is_some x)) (sym eb) tt) in
        omega (
          arith,
          sums_drop (λ c. branch_part u c (g.branches c)) (λ c. branch_part u c (keep (alive g) g.branches c)) b (λ c. fewer c (alive g c))
              (ap (λ (x : Bool). times u (or_else [] (cond x (g.branches b) none))) z) units (has_unit b i.0 i.1),
          ap (λ (x : Option (List ℕ)). times u (or_else [] x)) kept,
        )
      where
        g : Store
        g = extended s (change s m)

        fewer : (c : ℕ) (x : Bool) → times u (or_else [] (cond x (g.branches c) none)) ≤ times u (or_else [] (g.branches c))
        fewer c true = omega arith
        fewer c false = omega arith

    branch_gone : Right (prune (extended s (change s m))) → (u : ℕ) → T (has u us)
        → let s' : Store = prune (extended s (change s m)) in T (has u (disowned s s')) ↔ ((places s' b ≡ 0) × (in_use s'.inputs b ≡ false))
    unfolding prune extended
    branch_gone r' u h = (λ t. there (alive g b) refl t, back)
      where
        g : Store
        g = extended s (change s m)

        s' : Store
        s' = prune (extended s (change s m))

        there : (x : Bool) → alive g b ≡ x → T (has u (disowned s s')) → (places s' b ≡ 0) × (in_use g.inputs b ≡ false)
        there true q t =
            absurd (T_not (owns s' u) ((disowned_iff s s' r u).0 t).1
            (branch_owned s' r'.sound b us (keep_in (alive g) g.branches b (eq→T (alive g b) q) ∙ kept) u h))
        there false q t = (
          pruned_places g b ∙ zero_of (places g b) (λ p. eq→not (alive g b) q (or_l (ltb 0 (places g b)) (in_use g.inputs b) (lt→ltb 0 (places g b) p))),
          F→eq (in_use g.inputs b) (λ p. eq→not (alive g b) q (or_r (ltb 0 (places g b)) (in_use g.inputs b) p)),
        )

        back : (places s' b ≡ 0) × (in_use g.inputs b ≡ false) → T (has u (disowned s s'))
        back z =
            let was : T (owns s u) = branch_owned s r.sound b us eb u h in
            let q : Parts u = parts u was in
            let dead : alive g b ≡ false =
            F→eq (alive g b) (λ t. ⊎_elim
            (λ (y : T (ltb 0 (places g b))). omega (arith, z.0, pruned_places g b, ltb→lt 0 (places g b) y))
            (λ (y : T (in_use g.inputs b)). eq→not (in_use g.inputs b) z.1 y)
            (or_e (ltb 0 (places g b)) (in_use g.inputs b) t)) in
            (disowned_iff s s' r u).1 (
              was,
              not_T (owns s' u) (λ t.
                  omega (
                    arith,
                    has_pos u (owned s') t,
                    owned_parts s' u,
                    owned_parts s u,
                    r.sound.single u,
                    branch_here s r.sound b us eb u,
                    has_pos u us h,
                    q.nodes,
                    q.joins,
                    q.slots,
                    dead_part u dead,
                  )),
            )

-- ---- THEOREM 3, by the counts

module _ (s : Store) (r : Right s) (m : Step) (v : Even m) (s' : Store) (e : decide s (change s m) ≡ accepted s') where
  pub node_gone_freed : (u : ℕ) → T (is_some (s.nodes u)) → T (has u (disowned s s')) ↔ (ways s' u ≡ 0)
  node_gone_freed u h = let a = passed s r (change s m) s' e in node_gone s r m v a.0 s' (change_right s r m v s' e) a.1 u h

  pub branch_gone_freed : (b : ℕ) (us : List ℕ) → s.branches b ≡ some us → (u : ℕ) → T (has u us)
      → T (has u (disowned s s')) ↔ ((places s' b ≡ 0) × (in_use s'.inputs b ≡ false))
  branch_gone_freed b us eb u h =
      let a = passed s r (change s m) s' e in
      subst (λ (x : Store). T (has u (disowned s x)) ↔ ((places x b ≡ 0) × (in_use x.inputs b ≡ false))) (sym a.1)
      (branch_gone s r m v a.0 b us eb (subst (λ (x : Store). Right x) a.1 (change_right s r m v s' e)) u h)
