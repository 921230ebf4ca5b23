-- Memtable flush over the arrays is memtable flush of the rules. Assumes nothing.
use mathlib.Core.Path.{◌≡◌, refl, sym, ap, ap₂, ◌∙◌, subst}
use mathlib.Core.Bool.{Bool, true, false, ◌||◌, ◌&&◌, not, cond}
use mathlib.Core.Logic.{⊎_elim}
use mathlib.Core.List.{List, [], ◌∷◌}
use mathlib.Core.Option.{some}
use Prim.Native.Nat.{ℕ, ◌+◌, ◌≤◌, ◌<◌}
use native.Mathlib.Omega.{arith}
use lib.Dec.{T, eqb, ltb}
use lib.ListN.{length, get_or, set}
use borrow.Author.Tests.{eqb-true, ltb-true, eq-eqb, ne_eqb}
use Rattle.units.specs.Limits.{last_unit, room, most_count, slot_count}
use Rattle.ways.specs.Ways.{sums, is, one, has, gone}
use Rattle.ways.proofs.Frame.{sums_append}
use Rattle.ways.proofs.Tests.{T→eq, eq→T, and_l, and_r, or_e, same_or}
use Rattle.rules.specs.Tables.{all, times, put, is_some}
use Rattle.rules.specs.Store.{Node, Slot, empty, opened, sealed, Store, blank, node_at, root_list, ways, places, in_buffers, in_use, held, alive}
use Rattle.rules.specs.Steps.{accepted, extended, small, fit, decide, is_sealed, slot_at, root_node, Step, Memtable, change}
use Rattle.rules.specs.Right.{Right}
use Rattle.right.specs.Ledger.{unused}
use Rattle.right.proofs.Held.{fresh_unused}
use Rattle.right.proofs.Ledgers.{memtable_ledger, extended_holds}
use Rattle.right.proofs.Steps.{Even, passed}
use Rattle.right.proofs.Counts.{memtable_counts_lem}
use Rattle.right.proofs.After.{extended_places, fit_of, places_low, after_root}
use Rattle.held_map.specs.Map.{mark}
use Rattle.counting.specs.Nodes.{coded, put_node}
use Rattle.counting.specs.Change.{drop_trees, drop_counts}
use Rattle.counting.specs.Places.{add_places}
use Rattle.path.specs.Standing.{TreeIs}
use Rattle.path.proofs.Trees.{tree_put, tree_root}
use Rattle.tables.specs.Hold.{HoldIs, slot_in, put_branch, put_slot, coded_branch, coded_slot, slot_state}
use Rattle.tables.proofs.Kept.{slot_read_lem, hold_branch, hold_slot}
use Rattle.state.specs.Standing.{CountsAre, MapIs}
use Rattle.state.specs.Stands.{Arrays, Stands}
use Rattle.state.proofs.Counts.{counts_adds}
use Rattle.state.proofs.Maps.{map_same, map_holds}
use Rattle.state.proofs.Changes.{tree_after, ways_after, places_after, gone_branch, hold_after, map_after}
use Rattle.allocation.specs.Going.{let_go_maps}
use Rattle.allocation.proofs.Going.{and_true, let_go_map_lem}
use Rattle.allocation.proofs.Fresh.{fresh_is}
use Rattle.shapes.specs.Ends.{root_fits, buffer_last}
use Rattle.shapes.specs.Shapes.{with_buffer}
use Rattle.shapes.specs.Questions.{room_for_buffer}
use Rattle.shapes.proofs.Shapes.{with_buffer_lem}
use Rattle.shapes.proofs.Questions.{room_for_buffer_lem}
use Rattle.lines.specs.Lines.{tests_of, Agree}
use Rattle.rooted.specs.Memtable.{root_node_in, first_in, joined_hold, memtable_tests, memtable_tree, memtable_counts, memtable_map}
use Rattle.rooted.proofs.Slots.{units_in, slot_root, first_unit, no_place, branch_moves}
use Rattle.rooted.proofs.Roots.{root_goes, root_is, root_coded}

-- ---- the tests

-- line 12: the sealed branch had no place, the others keep theirs
fits : (s : Store) → Right s → (k u : ℕ) → k < slot_count → T (is_sealed (slot_at s k)) → T (unused s (u ∷ [])) → fit (extended s (change s (Memtable k u))) ≡ true
unfolding change
fits s r k u low t new = fit_of (extended s (change s (Memtable k u))) (λ c. at c)
  where
    root_buffers : (c : ℕ) → sums (in_buffers s c) (root_list s.root) ≡ times c (root_node s).buffers
    root_buffers c = same (eqb s.root 0)
      where
        same : (z : Bool) → sums (in_buffers s c) (cond z [] (s.root ∷ [])) ≡ times c (cond z blank (node_at s s.root)).buffers
        same true = refl
        same false = omega arith

    moved : (c : ℕ) → places (extended s (change s (Memtable k u))) c ≡ places s c + one (eqb (slot_root s k) c)
    moved c =
        omega (
          arith,
          extended_places s (change s (Memtable k u)) (memtable_ledger s r.sound k u new) (λ v z. z) (extended_holds s (change s (Memtable k u)) (u ∷ []) refl new) c,
          root_buffers c,
          sums_append (is c) (root_node s).buffers (slot_root s k ∷ []),
        )

    at : (c : ℕ) → places (extended s (change s (Memtable k u))) c ≤ most_count
    at c =
        ⊎_elim
        (λ (w : slot_root s k ≡ c). omega (arith, moved c, ap one (eq-eqb (slot_root s k) c w), ap (places s) w, no_place s r k low t))
        (λ (w : slot_root s k ≡ c → ⊥). omega (arith, moved c, ap one (ne_eqb (slot_root s k) c w), places_low s r c))
        (same_or (slot_root s k) c)

sealed_state : (x : Slot) → eqb (slot_state x) 2 ≡ is_sealed x
sealed_state empty = refl
sealed_state (opened us) = refl
sealed_state (sealed us) = refl

pub memtable_agree : (s : Store) → Right s → (a : Arrays) → Stands s a → (k u : ℕ) → u ≤ last_unit
    → Agree (memtable_tests a.tree a.hold a.map k u) (tests_of s (change s (Memtable k u)))
unfolding memtable_tests change
memtable_agree s r a st k u h = (
  refl,
  λ h4. (
    ap (λ (x : Rattle.tables.specs.declared.Slot.Slot). eqb x.state 2) (slot_read_lem st.hold k (ltb-true k slot_count h4)) ∙ sealed_state (slot_at s k),
    λ h5. (
      refl,
      λ h6. (
        refl,
        λ h7. (
          refl,
          λ h8. (
            ap room_for_buffer (root_coded s r a.tree st.tree) ∙ sym (room_for_buffer_lem (root_node s) (root_fits s r.sound) u (slot_root s k)),
            λ h9. (
              refl,
              λ h10. (
                fresh_is s (u ∷ []) a.map (h, tt) st.map,
                λ h11. (
                  sym (fits s r k u (ltb-true k slot_count h4) (eq→T (is_sealed (slot_at s k)) h5) (eq→T (unused s (u ∷ [])) (sym (fresh_unused s r (u ∷ [])) ∙ h11))),
                  λ h12. tt,
                ),
              ),
            ),
          ),
        ),
      ),
    ),
  ),
)

-- ---- the step

module _ (s : Store) (r : Right s) (a : Arrays) (st : Stands s a) (s' : Store) (k u : ℕ) (h : u ≤ last_unit) (e : decide s (change s (Memtable k u)) ≡ accepted s') where
  abbrev m : Step
  m = Memtable k u

  abbrev new : Node
  new = buffer_last (root_node s) (slot_root s k)

  ev : Even (Memtable k u)
  unfolding Even
  ev = tt

  slot_low : k < slot_count
  unfolding change
  slot_low = ltb-true k slot_count (T→eq (ltb k slot_count) (passed s r (change s (Memtable k u)) s' e).0.shape)

  is_sealed_lem : T (is_sealed (slot_at s k))
  unfolding change
  is_sealed_lem = (passed s r (change s (Memtable k u)) s' e).0.slot

  few : length (root_node s).buffers < room
  unfolding change
  few =
      ltb-true (length (root_node s).buffers) room
      (sym (room_for_buffer_lem (root_node s) (root_fits s r.sound) u (slot_root s k)) ∙ T→eq (all small ((u, buffer_last (root_node s) (slot_root s k)) ∷ [])) (passed s r (change s (Memtable k u)) s' e).0.small)

  count' : (b : ℕ) → places s' b ≡ places s b + is b (slot_root s k)
  count' b = memtable_counts_lem s r s' k u e b

  -- ---- what code reads

  slot_is : slot_in a.hold k ≡ coded_slot (slot_at s k)
  slot_is = slot_read_lem st.hold k slot_low

  first_is : first_in a.hold k ≡ slot_root s k
  unfolding first_in
  first_is = ap (λ (x : Rattle.tables.specs.declared.Slot.Slot). get_or x.units 0 0) slot_is

  node_is : with_buffer (root_node_in a.tree) (first_in a.hold k) ≡ coded new
  node_is = ap₂ with_buffer (root_coded s r a.tree st.tree) first_is ∙ with_buffer_lem (root_node s) (root_fits s r.sound) (slot_root s k) few

  abbrev tree1 : List ℕ
  tree1 = put_node a.tree u (coded new)

  abbrev counts1 : List ℕ
  counts1 = set a.counts u 1

  tree_is : memtable_tree a.tree a.counts a.hold k u ≡ set (drop_trees tree1 counts1 (s.root ∷ [])) 0 u
  unfolding memtable_tree
  tree_is = rw (node_is, root_is s r a.tree st.tree)

  counts_is : memtable_counts a.tree a.counts a.hold k u ≡ add_places (drop_counts counts1 (s.root ∷ [])) (slot_root s k ∷ [])
  unfolding memtable_counts
  counts_is = rw (first_is, root_is s r a.tree st.tree)

  hold_is : joined_hold a.hold k ≡ put_slot (put_branch a.hold (slot_root s k) (coded_branch (units_in s k))) k (coded_slot empty)
  unfolding joined_hold
  hold_is = rw (first_is, slot_is)

  map_is : memtable_map a.tree a.counts a.map u ≡ let_go_maps (mark a.map u) counts1 (s.root ∷ [])
  unfolding memtable_map
  map_is = rw (root_is s r a.tree st.tree)

  -- ---- what stands

  counted1 : CountsAre (λ v. cond (has v (u ∷ [])) 1 (ways s v)) (places s) counts1
  counted1 = counts_adds (ways s) (places s) a.counts st.counts (u ∷ []) (h, tt)

  tree' : TreeIs s'.root s'.nodes (memtable_tree a.tree a.counts a.hold k u)
  unfolding change
  tree' =
      rw (tree_is, after_root s r (change s m) s' e)
      (tree_root (tree_after s r m ev s' e tree1 counts1 (s.root ∷ []) counted1 (root_goes s r) (tree_put st.tree u new)) u)

  counts' : CountsAre (ways s') (places s') (memtable_counts a.tree a.counts a.hold k u)
  unfolding change
  counts' =
      rw counts_is
      (places_after s r m ev s' e (drop_counts counts1 (s.root ∷ [])) [] (slot_root s k ∷ [])
      (ways_after s r m ev s' e tree1 counts1 (s.root ∷ []) counted1 (root_goes s r))
      (λ b. omega (arith, count' b))
      (λ b. omega arith))

  -- no branch dies
  cover : (b : ℕ) → T (is_some (put s.branches (slot_root s k, units_in s k) b)) → T (gone_branch s r m ev s' e b) → T (has b [])
  unfolding change
  cover b t g =
      let z : places s' b ≡ 0 = eqb-true (places s' b) 0 (T→eq (eqb (places s' b) 0) (and_l (eqb (places s' b) 0) (not (in_use s.inputs b)) g)) in
      ⊎_elim
      (λ (w : b ≡ slot_root s k). omega (arith, count' b, z, ap one (eq-eqb (slot_root s k) b (sym w))))
      (λ (w : b ≡ slot_root s k → ⊥).
      let old : T (alive s b) = r.live_branch b (subst (λ (c : Bool). T (is_some (cond c (some (units_in s k)) (s.branches b)))) (ne_eqb b (slot_root s k) w) t) in
      ⊎_elim
      (λ (q : T (ltb 0 (places s b))). omega (arith, count' b, z, ltb-true 0 (places s b) (T→eq (ltb 0 (places s b)) q)))
      (λ (q : T (in_use s.inputs b)). unused_now (in_use s.inputs b) q (and_r (eqb (places s' b) 0) (not (in_use s.inputs b)) g))
      (or_e (ltb 0 (places s b)) (in_use s.inputs b) old))
      (same_or b (slot_root s k))
    where
      unused_now : (x : Bool) → T x → T (not x) → ⊥
      unused_now true t n = n
      unused_now false t n = t

  hold' : HoldIs s'.branches s'.slots s'.inputs (joined_hold a.hold k)
  unfolding change
  hold' =
      rw hold_is
      (hold_after s r m ev s' e [] cover (put_slot (put_branch a.hold (slot_root s k) (coded_branch (units_in s k))) k (coded_slot empty))
      (hold_slot (hold_branch st.hold (slot_root s k) (units_in s k) (first_unit s r k slot_low is_sealed_lem).1) k empty slot_low r.sound.slot_number))

  in_units : (b : ℕ) → T (is_some (put s.branches (slot_root s k, units_in s k) b)) → (1 ≤ b) × (b ≤ last_unit)
  in_units b t =
      ⊎_elim
      (λ (w : b ≡ slot_root s k). let f = first_unit s r k slot_low is_sealed_lem in (omega (arith, f.0), omega (arith, f.1)))
      (λ (w : b ≡ slot_root s k → ⊥). r.sound.branch_unit b (subst (λ (c : Bool). T (is_some (cond c (some (units_in s k)) (s.branches b)))) (ne_eqb b (slot_root s k) w) t))
      (same_or b (slot_root s k))

  map' : MapIs (held s') (memtable_map a.tree a.counts a.map u)
  unfolding change
  map' =
      rw map_is
      (map_after s r m ev s' e [] cover (let_go_maps (mark a.map u) counts1 (s.root ∷ [])) (s.root ∷ []) (root_goes s r)
      (λ v p q. branch_moves s r k slot_low is_sealed_lem v)
      in_units
      (map_same _ _ (let_go_maps (mark a.map u) counts1 (s.root ∷ []))
      (λ v q. ap (λ (n : ℕ). (has v (u ∷ []) || held s v) && not (gone n (s.root ∷ []) v)) (counted1.way v q) ∙ sym (and_true ((has v (u ∷ []) || held s v) && not (gone (cond (has v (u ∷ [])) 1 (ways s v)) (s.root ∷ []) v))))
      (let_go_map_lem (s.root ∷ []) (λ v. has v (u ∷ []) || held s v) (mark a.map u) counts1 (root_goes s r).low counted1.long (map_holds (u ∷ []) (held s) a.map (h, tt) st.map))))

pub memtable_stands : (s : Store) → Right s → (a : Arrays) → Stands s a → (s' : Store) (k u : ℕ) → u ≤ last_unit → decide s (change s (Memtable k u)) ≡ accepted s'
    → Stands s' (record {
      tree = memtable_tree a.tree a.counts a.hold k u;
      counts = memtable_counts a.tree a.counts a.hold k u;
      hold = joined_hold a.hold k;
      map = memtable_map a.tree a.counts a.map u;
    })
memtable_stands s r a st s' k u h e =
    record { tree = tree' s r a st s' k u h e; counts = counts' s r a st s' k u h e; hold = hold' s r a st s' k u h e; map = map' s r a st s' k u h e }
