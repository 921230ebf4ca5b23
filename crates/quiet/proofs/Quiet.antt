-- What the kinds that leave the tree share: no count moves, so line 12 passes, and the next store stands where its slots, inputs and
-- branches stand and the map is right. Assumes nothing.
use mathlib.Core.Path.{◌≡◌, refl, sym, ap, ap₂, ◌∙◌, subst, fun_ext}
use mathlib.Core.Bool.{Bool, true, false, ◌||◌, ◌&&◌, not}
use mathlib.Core.Logic.{◌⊎◌, inl, inr}
use mathlib.Core.List.{List, [], ◌∷◌}
use mathlib.Core.Option.{Option}
use Prim.Native.Nat.{ℕ, zero, suc, ◌+◌, ◌≤◌, ◌<◌}
use native.Mathlib.Omega.{arith}
use lib.Dec.{T, eqb, ltb}
use lib.ListN.{length, set}
use borrow.Author.Tests.{eq-eqb, ne_eqb}
use Rattle.units.specs.Limits.{last_unit, slot_count}
use Rattle.ways.specs.Ways.{has, one}
use Rattle.ways.proofs.Tests.{eq→T, or_l, or_r}
use Rattle.ways.proofs.Members.{has_pos, pos_has}
use Rattle.rules.specs.Tables.{times, joined, is_some, or_else}
use Rattle.rules.specs.Store.{Slot, empty, Store, blank, slot_units, ways, places, in_use, owned, held}
use Rattle.rules.specs.Steps.{accepted, extended, fit, decide, Step, change, quiet, slot_at}
use Rattle.rules.specs.Right.{Right}
use Rattle.right.proofs.Lists.{joined_set}
use Rattle.right.proofs.Extended.{over, branch_part, owned_parts}
use Rattle.right.proofs.Steps.{Even, change_right}
use Rattle.right.proofs.After.{after_slots, after_inputs, held_number_lem, held_slots}
use Rattle.right.proofs.Still.{still_ways, still_places, still_root, still_nodes, still_branches, still_fit}
use Rattle.held_map.specs.Map.{mark, clears}
use Rattle.counting.proofs.Counts.{Low}
use Rattle.path.specs.Standing.{TreeIs}
use Rattle.path.proofs.Trees.{tree_same}
use Rattle.tables.specs.Hold.{HoldIs, coded_slot, put_slot}
use Rattle.tables.proofs.Kept.{hold_slot, hold_same}
use Rattle.state.specs.Standing.{CountsAre, MapIs}
use Rattle.state.specs.Stands.{Arrays, Stands}
use Rattle.state.proofs.Counts.{counts_same}
use Rattle.state.proofs.Maps.{map_same, map_hold, map_clears}
use Rattle.state.proofs.Changes.{zero_free}

-- line 12
pub quiet_fit : (s : Store) → Right s → (shape slot path range : Bool) (proposed : List ℕ) (slots : List Slot) (inputs : List (List ℕ))
    → fit (extended s (quiet s shape slot path range proposed slots inputs)) ≡ true
unfolding extended
quiet_fit s r shape slot path range proposed slots inputs = still_fit s r (quiet s shape slot path range proposed slots inputs) (λ b. refl)

-- a list of units
pub low_of : (l : List ℕ) → ((v : ℕ) → T (has v l) → v ≤ last_unit) → Low l
low_of [] h = tt
low_of (x ∷ l) h = (h x (or_l (eqb x x) (has x l) (eq→T (eqb x x) (same x))), low_of l (λ v t. h v (or_r (eqb x v) (has v l) t)))
  where
    same : (x : ℕ) → eqb x x ≡ true
    same x = eq-eqb x x refl

-- the units of a slot are owned
module _ (s : Store) (r : Right s) (k : ℕ) (q : k < slot_count) where
  pub slot_in_lem : k < length s.slots
  slot_in_lem = omega (arith, r.sound.slot_number)

  pub slot_owned : (v : ℕ) → times v (slot_units (slot_at s k)) ≤ times v (owned s)
  slot_owned v = omega (arith, owned_parts s v, joined_set slot_units v k empty empty s.slots slot_in_lem)

module _ (s : Store) (r : Right s) (a : Arrays) (st : Stands s a) (m : Step) (ev : Even m) (s' : Store) (e : decide s (change s m) ≡ accepted s')
    (no-adds : (change s m).adds ≡ []) (no-drops : (change s m).drops ≡ []) (same-root : (change s m).root ≡ s.root) (no_joins : (change s m).joins ≡ []) where
  pub quiet_counts : CountsAre (ways s') (places s') a.counts
  quiet_counts =
      counts_same (ways s) (places s) a.counts st.counts (ways s') (places s')
      (λ u h. sym (still_ways s r m ev s' e no-adds no-drops same-root u)) (λ b h. sym (still_places s r m ev s' e no-adds no-drops same-root b))

  pub quiet_stands : (hold map : List ℕ) → HoldIs s'.branches (change s m).slots (change s m).inputs hold → MapIs (held s') map
      → Stands s' (record { tree = a.tree; counts = a.counts; hold = hold; map = map })
  quiet_stands hold map h i =
      record {
        tree =
            subst (λ (x : ℕ). TreeIs x s'.nodes a.tree) (sym (still_root s r m ev s' e no-adds no-drops same-root))
            (tree_same st.tree (λ v. ap (or_else blank) (sym (still_nodes s r m ev s' e no-adds no-drops same-root v))));
        counts = quiet_counts;
        hold =
            subst (λ (l : List Slot). HoldIs s'.branches l s'.inputs hold) (sym (after_slots s r (change s m) s' e))
            (subst (λ (l : List (List ℕ)). HoldIs s'.branches (change s m).slots l hold) (sym (after_inputs s r (change s m) s' e)) h);
        map = i;
      }

  right' : Right s'
  right' = change_right s r m ev s' e

  -- where no input ends
  module _ (up : (b : ℕ) → T (in_use s.inputs b) → T (in_use (change s m).inputs b)) where
    pub branches_stay : (b : ℕ) → s'.branches b ≡ s.branches b
    branches_stay = still_branches s r m ev s' e no-adds no-drops same-root no_joins up

    -- D places of the unit leave the slots and Q come
    pub held_now : (v : ℕ) → 1 ≤ v → v ≤ last_unit → (D Q : ℕ) → times v (joined slot_units (change s m).slots) + D ≡ times v (joined slot_units s.slots) + Q
        → D ≤ times v (joined slot_units s.slots) → (D ≡ 0) ⊎ (Q ≡ 0) → (held s v || ltb 0 Q) && not (ltb 0 D) ≡ held s' v
    held_now v p q D Q eq low alone =
        held_slots s s' r right' v p q D Q
        (ap is_some (still_nodes s r m ev s' e no-adds no-drops same-root v))
        (ap (λ (t : ℕ → Option (List ℕ)). over (branch_part v) t) (fun_ext branches_stay))
        (omega (arith, eq, ap (λ (l : List Slot). times v (joined slot_units l)) (after_slots s r (change s m) s' e)))
        low alone

  -- ---- a slot changes

  module _ (k : ℕ) (q : k < slot_count) (y : Slot) (es : (change s m).slots ≡ set s.slots k y) (ei : (change s m).inputs ≡ s.inputs) where
    same_inputs : (b : ℕ) → T (in_use s.inputs b) → T (in_use (change s m).inputs b)
    same_inputs b t = subst (λ (l : List (List ℕ)). T (in_use l b)) (sym ei) t

    slot_hold : HoldIs s'.branches (change s m).slots (change s m).inputs (put_slot a.hold k (coded_slot y))
    slot_hold =
        rw (es, ei)
        (hold_same (hold_slot st.hold k y q r.sound.slot_number) s'.branches (λ b h. ap (or_else []) (sym (branches_stay same_inputs b))))

    slot_held : (v : ℕ) → 1 ≤ v → v ≤ last_unit → (D Q : ℕ) → times v (slot_units y) + D ≡ times v (slot_units (slot_at s k)) + Q
        → D ≤ times v (slot_units (slot_at s k)) → (D ≡ 0) ⊎ (Q ≡ 0) → (held s v || ltb 0 Q) && not (ltb 0 D) ≡ held s' v
    slot_held v p h D Q eq low alone =
        held_now same_inputs v p h D Q
        (omega (arith, eq, joined_set slot_units v k empty y s.slots (slot_in_lem s r k q), ap (λ (l : List Slot). times v (joined slot_units l)) es))
        (omega (arith, low, joined_set slot_units v k empty empty s.slots (slot_in_lem s r k q)))
        alone

    -- the units of fs leave it
    pub slot_lets_go : (fs : List ℕ) → ((v : ℕ) → 1 ≤ v → times v (slot_units y) + times v fs ≡ times v (slot_units (slot_at s k)))
        → Stands s' (record { tree = a.tree; counts = a.counts; hold = put_slot a.hold k (coded_slot y); map = clears a.map fs })
    slot_lets_go fs eq = quiet_stands (put_slot a.hold k (coded_slot y)) (clears a.map fs) slot_hold (map_same (λ v. held s v && not (has v fs)) (held s') (clears a.map fs) at (map_clears fs (held s) a.map (low_of fs low) st.map))
      where
        low : (v : ℕ) → T (has v fs) → v ≤ last_unit
        low zero t = omega arith
        low (suc v) t = (r.sound.unit (suc v) (pos_has (suc v) (owned s) (omega (arith, has_pos (suc v) fs t, eq (suc v) (omega arith), slot_owned s r k q (suc v))))).1

        or_false : (x : Bool) → (x || false) ≡ x
        or_false true = refl
        or_false false = refl

        at : (v : ℕ) → v ≤ last_unit → (held s v && not (has v fs)) ≡ held s' v
        at zero h = ap (λ (x : Bool). x && not (has 0 fs)) (zero_free s r) ∙ sym (zero_free s' right')
        at (suc v) h =
            ap₂ (λ (x y : Bool). x && not y) (sym (or_false (held s (suc v)))) (held_number_lem (suc v) fs)
            ∙ slot_held (suc v) (omega arith) h (times (suc v) fs) 0 (omega (arith, eq (suc v) (omega arith))) (omega (arith, eq (suc v) (omega arith))) (inr refl)

    -- the unit u comes
    pub slot_takes : (u : ℕ) → 1 ≤ u → u ≤ last_unit → ((v : ℕ) → times v (slot_units y) ≡ times v (slot_units (slot_at s k)) + times v (u ∷ []))
        → Stands s' (record { tree = a.tree; counts = a.counts; hold = put_slot a.hold k (coded_slot y); map = mark a.map u })
    slot_takes u u1 u2 eq = quiet_stands (put_slot a.hold k (coded_slot y)) (mark a.map u) slot_hold (map_same (λ v. eqb u v || held s v) (held s') (mark a.map u) at (map_hold (held s) a.map u u2 st.map))
      where
        tidy : (x y : Bool) → (x || y) ≡ ((y || ltb 0 (one x + 0)) && not (ltb 0 0))
        tidy true true = refl
        tidy true false = refl
        tidy false true = refl
        tidy false false = refl

        at : (v : ℕ) → v ≤ last_unit → (eqb u v || held s v) ≡ held s' v
        at zero h = ap₂ (λ (x y : Bool). x || y) (ne_eqb u 0 (λ z. omega arith)) (zero_free s r) ∙ sym (zero_free s' right')
        at (suc v) h =
            tidy (eqb u (suc v)) (held s (suc v))
            ∙ slot_held (suc v) (omega arith) h 0 (times (suc v) (u ∷ [])) (omega (arith, eq (suc v))) (omega arith) (inl refl)
