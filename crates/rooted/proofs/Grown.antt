-- Grow over the arrays is grow of the rules. Assumes nothing.
use mathlib.Core.Path.{◌≡◌, refl, sym, ap, ap₂, ◌∙◌, subst, fun_ext}
use mathlib.Core.Bool.{Bool, true, false, ◌||◌, ◌&&◌, not, cond}
use mathlib.Core.Logic.{⊎_elim}
use mathlib.Core.List.{List, [], ◌∷◌}
use mathlib.Core.Option.{Option, none, some}
use Prim.Native.Nat.{ℕ, ◌+◌, ◌-◌, ◌*◌, ◌≤◌, ◌<◌}
use native.Mathlib.Omega.{arith}
use lib.Dec.{T, eqb, leb, ltb}
use lib.ListN.{get_or, set, take, get_or-eq_default}
use borrow.Author.Tests.{eqb-true, eqb-false, leb-true, leb-false, ltb-true}
use Rattle.units.specs.Limits.{last_unit, longest}
use Rattle.ways.specs.Ways.{sums, deep, has}
use Rattle.ways.proofs.Tests.{T→eq, eq→T, and_l, and_r, or_e}
use Rattle.rules.specs.Tables.{is_some, or_else}
use Rattle.rules.specs.Store.{Node, Store, blank, node_at, children_of, root_list, ways, places, in_use, held}
use Rattle.rules.specs.Steps.{accepted, extended, fit, decide, Grow, change}
use Rattle.rules.specs.Right.{Right}
use Rattle.right.specs.Ledger.{unused}
use Rattle.right.proofs.Held.{fresh_unused}
use Rattle.right.proofs.Ledgers.{grow_ledger, extended_holds}
use Rattle.right.proofs.Steps.{Even}
use Rattle.right.proofs.Counts.{grow_counts}
use Rattle.right.proofs.After.{extended_places, after_root}
use Rattle.right.proofs.Still.{still_fit}
use Rattle.held_map.specs.Map.{mark}
use Rattle.records.specs.Rows.{eight_at}
use Rattle.counting.specs.Nodes.{stride, coded, put_node}
use Rattle.counting.specs.Graph.{children_in, children_in_lem}
use Rattle.path.specs.Standing.{TreeIs}
use Rattle.path.proofs.Trees.{tree_put, tree_root}
use Rattle.tables.specs.Hold.{HoldIs}
use Rattle.state.specs.Standing.{CountsAre, MapIs}
use Rattle.state.specs.Stands.{Arrays, Stands}
use Rattle.state.proofs.Counts.{counts_adds}
use Rattle.state.proofs.Maps.{map_same, map_holds}
use Rattle.state.proofs.Changes.{Same, tree_after, ways_after, places_after, gone_branch, hold_after, map_after}
use Rattle.allocation.proofs.Going.{and_true}
use Rattle.allocation.proofs.Fresh.{fresh_is}
use Rattle.shapes.specs.Ends.{sound_fits, over_root}
use Rattle.shapes.proofs.Questions.{grow_small}
use Rattle.lines.specs.Lines.{tests_of, Agree}
use Rattle.rooted.specs.Grow.{full_in, grow_tests, grow_tree}
use Rattle.rooted.proofs.Roots.{root_is}

-- ---- the graph in the bytes is the store's

module _ (s : Store) (r : Right s) (tree : List ℕ) (st : TreeIs s.root s.nodes tree) where
  childless : (v : ℕ) → ((1 ≤ v) × (v ≤ last_unit) → ⊥) → children_of s v ≡ []
  childless v off = go (s.nodes v) refl
    where
      go : (o : Option Node) → s.nodes v ≡ o → (or_else blank o).children ≡ []
      go none q = refl
      go (some n) q = absurd (off (r.sound.node_unit v (subst (λ (o : Option Node). T (is_some o)) (sym q) tt)))

  -- row 0 and what is behind the last row name no child
  bare : (v : ℕ) → get_or tree (v * stride + 9) 0 ≡ 0 → children_in tree v ≡ []
  unfolding children_in
  bare v e = ap (λ (n : ℕ). take n (eight_at tree (v * stride + 10))) e

  children_are_lem : (v : ℕ) → children_in tree v ≡ children_of s v
  children_are_lem v = go (eqb v 0) refl (leb v last_unit) refl
    where
      go : (z : Bool) → eqb v 0 ≡ z → (i : Bool) → leb v last_unit ≡ i → children_in tree v ≡ children_of s v
      go true e i q =
          let z : v ≡ 0 = eqb-true v 0 e in
          let at : v * stride + 9 ≡ 0 + 9 = omega arith in
          bare v (ap (λ (j : ℕ). get_or tree j 0) at ∙ st.root_row 9 (omega arith)) ∙ sym (childless v (λ p. omega (arith, p.0)))
      go false e true q =
          let pos : 1 ≤ v = positive v (eqb-false v 0 e) in
          children_in_lem tree v (node_at s v) (st.node v pos (leb-true v last_unit q)) (sound_fits s r.sound v).few_children
        where
          positive : (n : ℕ) → (n ≡ 0 → ⊥) → 1 ≤ n
          positive n d = omega arith
      go false e false q =
          let out : last_unit < v = leb-false v last_unit q in
          bare v (get_or-eq_default tree 0 (omega (arith, st.long))) ∙ sym (childless v (λ p. omega (arith, p.1)))

  full_is : not (full_in tree) ≡ eqb (sums (deep (children_of s) (longest - 1)) (root_list s.root)) 0
  full_is =
      twice (eqb (sums (deep (children_in tree) (longest - 1)) (root_list (get_or tree 0 0))) 0)
      ∙ ap₂ (λ (k : ℕ → List ℕ) (x : ℕ). eqb (sums (deep k (longest - 1)) (root_list x)) 0) (fun_ext children_are_lem) (root_is s r tree st)
    where
      twice : (b : Bool) → not (not b) ≡ b
      twice true = refl
      twice false = refl

-- ---- the tests

-- line 12: no count changes
fits : (s : Store) → Right s → (u : ℕ) → T (change s (Grow u)).low → T (unused s (u ∷ [])) → fit (extended s (change s (Grow u))) ≡ true
unfolding change
fits s r u low new =
    still_fit s r (change s (Grow u))
    (λ b. omega (arith, extended_places s (change s (Grow u)) (grow_ledger s r.sound u low new) (λ v z. z) (extended_holds s (change s (Grow u)) (u ∷ []) refl new) b))

pub grow_agree : (s : Store) → Right s → (a : Arrays) → Stands s a → (u : ℕ) → u ≤ last_unit → Agree (grow_tests a.tree a.map u) (tests_of s (change s (Grow u)))
unfolding grow_tests change
grow_agree s r a st u h = (
  refl,
  λ h4. (
    refl,
    λ h5. (
      refl,
      λ h6. (
        refl,
        λ h7. (
          refl,
          λ h8. (
            sym (grow_small u s.root),
            λ h9. (
              full_is s r a.tree st.tree,
              λ h10. (
                fresh_is s (u ∷ []) a.map (h, tt) st.map,
                λ h11. (
                  sym (fits s r u (eq→T (eqb (sums (deep (children_of s) (longest - 1)) (root_list s.root)) 0) h10) (eq→T (unused s (u ∷ [])) (sym (fresh_unused s r (u ∷ [])) ∙ h11))),
                  λ h12. tt,
                ),
              ),
            ),
          ),
        ),
      ),
    ),
  ),
)

-- ---- the step

module _ (s : Store) (r : Right s) (a : Arrays) (st : Stands s a) (s' : Store) (u : ℕ) (h : u ≤ last_unit) (e : decide s (change s (Grow u)) ≡ accepted s') where
  ev : Even (Grow u)
  unfolding Even
  ev = tt

  tree_is : grow_tree a.tree u ≡ set (put_node a.tree u (coded (over_root s.root))) 0 u
  unfolding grow_tree
  tree_is = ap (λ (x : ℕ). set (put_node a.tree u (coded (over_root x))) 0 u) (root_is s r a.tree st.tree)

  -- no way goes
  none_go : Same [] []
  none_go = record { low = tt; in_list = λ v p. refl; places_in_lem = λ v p. refl }

  counted1 : CountsAre (λ v. cond (has v (u ∷ [])) 1 (ways s v)) (places s) (set a.counts u 1)
  counted1 = counts_adds (ways s) (places s) a.counts st.counts (u ∷ []) (h, tt)

  tree' : TreeIs s'.root s'.nodes (grow_tree a.tree u)
  unfolding change
  tree' =
      rw (tree_is, after_root s r (change s (Grow u)) s' e)
      (tree_root (tree_after s r (Grow u) ev s' e (put_node a.tree u (coded (over_root s.root))) (set a.counts u 1) [] counted1 none_go (tree_put st.tree u (over_root s.root))) u)

  counts' : CountsAre (ways s') (places s') (set a.counts u 1)
  unfolding change
  counts' =
      places_after s r (Grow u) ev s' e (set a.counts u 1) [] []
      (ways_after s r (Grow u) ev s' e a.tree (set a.counts u 1) [] counted1 none_go)
      (λ b. omega (arith, grow_counts s r s' u e b))
      (λ b. omega arith)

  -- no branch dies
  cover : (b : ℕ) → T (is_some (s.branches b)) → T (gone_branch s r (Grow u) ev s' e b) → T (has b [])
  unfolding change
  cover b t g =
      let z : places s' b ≡ 0 = eqb-true (places s' b) 0 (T→eq (eqb (places s' b) 0) (and_l (eqb (places s' b) 0) (not (in_use s.inputs b)) g)) in
      ⊎_elim
      (λ (q : T (ltb 0 (places s b))). omega (arith, grow_counts s r s' u e b, z, ltb-true 0 (places s b) (T→eq (ltb 0 (places s b)) q)))
      (λ (q : T (in_use s.inputs b)). both (in_use s.inputs b) q (and_r (eqb (places s' b) 0) (not (in_use s.inputs b)) g))
      (or_e (ltb 0 (places s b)) (in_use s.inputs b) (r.live_branch b t))
    where
      both : (x : Bool) → T x → T (not x) → ⊥
      both true t n = n
      both false t n = t

  hold' : HoldIs s'.branches s'.slots s'.inputs a.hold
  unfolding change
  hold' = hold_after s r (Grow u) ev s' e [] cover a.hold st.hold

  map' : MapIs (held s') (mark a.map u)
  unfolding change
  map' =
      map_after s r (Grow u) ev s' e [] cover (mark a.map u) [] none_go
      (λ v p q. refl)
      (λ b t. r.sound.branch_unit b t)
      (map_same _ _ (mark a.map u)
      (λ v q. sym (and_true ((has v (u ∷ []) || held s v) && true) ∙ and_true (has v (u ∷ []) || held s v)))
      (map_holds (u ∷ []) (held s) a.map (h, tt) st.map))

pub grow_stands : (s : Store) → Right s → (a : Arrays) → Stands s a → (s' : Store) (u : ℕ) → u ≤ last_unit → decide s (change s (Grow u)) ≡ accepted s'
    → Stands s' (record { tree = grow_tree a.tree u; counts = set a.counts u 1; hold = a.hold; map = mark a.map u })
grow_stands s r a st s' u h e =
    record { tree = tree' s r a st s' u h e; counts = counts' s r a st s' u h e; hold = hold' s r a st s' u h e; map = map' s r a st s' u h e }
