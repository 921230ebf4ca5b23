-- The law for every kind that changes the tree: new nodes are written with one way each, old ones lose theirs and go with the last, counts
-- of branches lose and then gain, what joins and ends is written, dead branches are swept. Then the next store stands in the arrays.
-- Assumes nothing.
use mathlib.Core.Path.{◌≡◌, refl, sym, ap, ap₂, ◌∙◌, subst}
use mathlib.Core.Bool.{Bool, true, false, ◌||◌, ◌&&◌, not, cond}
use mathlib.Core.List.{List, []}
use mathlib.Core.Option.{Option, none, some}
use Prim.Native.Nat.{ℕ, zero, suc, ◌+◌, ◌-◌, ◌≤◌}
use native.Mathlib.Omega.{arith}
use lib.Dec.{T, eqb, leb, ltb}
use lib.ListN.{get_or}
use borrow.Author.Tests.{lt-ltb, ne_eqb}
use Rattle.units.specs.Limits.{last_unit}
use Rattle.ways.specs.Ways.{has, gone}
use Rattle.ways.specs.Levels.{some_of}
use Rattle.rules.specs.Tables.{times, keys, puts, is_some, or_else, joined}
use Rattle.rules.specs.Store.{units, Node, Slot, Store, blank, slot_units, ways, places, in_use, held, owned}
use Rattle.rules.specs.Steps.{accepted, decide, Step, change}
use Rattle.rules.specs.Right.{Right}
use Rattle.ways.proofs.Tests.{eq→T, F→eq, iff_eq, and_l, and_r}
use Rattle.ways.proofs.Levels.{some_has, has_some}
use Rattle.ways.proofs.Members.{has_pos}
use Rattle.right.proofs.Ledger.{has_unit}
use Rattle.right.proofs.Steps.{Even, change_right}
use Rattle.right.proofs.Extended.{over, branch_part}
use Rattle.right.proofs.Held.{held_owns}
use Rattle.right.proofs.Prune.{not_seen}
use Rattle.tables.proofs.Kept.{hold_same}
use Rattle.right.proofs.After.{undropped, after_slots, after_inputs, after_branches, ways_end, node_end, key_unit, places_low, dead, held_change}
use Rattle.counting.specs.Change.{drop_trees, drop_counts}
use Rattle.counting.specs.Places.{add_places, drop_places}
use Rattle.counting.proofs.Counts.{Low}
use Rattle.path.proofs.Trees.{tree_drops, tree_within}
use Rattle.path.specs.Standing.{TreeIs}
use Rattle.tables.specs.Hold.{HoldIs}
use Rattle.state.specs.Standing.{CountsAre, MapIs}
use Rattle.state.proofs.Counts.{counts_drops, counts_less, counts_more, counts_same}
use Rattle.state.proofs.Maps.{map_same}

-- ---- nothing is at unit 0

pub zero_ways : (s : Store) → Right s → ways s 0 ≡ 0
zero_ways s r = not_seen s r.sound 0 (go (s.nodes 0) refl)
  where
    go : (o : Option Node) → s.nodes 0 ≡ o → o ≡ none
    go none e = refl
    go (some n) e = absurd (omega (arith, (r.sound.node_unit 0 (subst (λ (o : Option Node). T (is_some o)) (sym e) tt)).0))

pub zero_free : (s : Store) → Right s → held s 0 ≡ false
zero_free s r = held_owns s r 0 ∙ F→eq (has 0 (owned s)) (λ t. omega (arith, (r.sound.unit 0 t).0))

-- ---- the law

-- the list of ways that go as code has it, zeros besides
pub record Same (ds drops : List ℕ) : Type 0 where
  pub low : Low ds
  pub in_list : (v : ℕ) → 1 ≤ v → has v ds ≡ has v drops
  pub places_in_lem : (v : ℕ) → 1 ≤ v → times v ds ≡ times v drops

module _ (s : Store) (r : Right s) (m : Step) (ev : Even m) (s' : Store) (e : decide s (change s m) ≡ accepted s') where
  key_0 : has 0 (keys (change s m).adds) ≡ false
  key_0 = F→eq (has 0 (keys (change s m).adds)) (λ t. omega (arith, (key_unit s r m ev s' e 0 t).0))

  right' : Right s'
  right' = change_right s r m ev s' e

  -- tree and ways, after the new nodes are written and the old ones have lost a way
  module _ (tree counts ds : List ℕ) (c : CountsAre (λ v. cond (has v (keys (change s m).adds)) 1 (ways s v)) (places s) counts) (d : Same ds (change s m).drops) where
    same_gone : (v : ℕ) → 1 ≤ v → v ≤ last_unit → gone (get_or counts v 0) ds v ≡ gone (cond (has v (keys (change s m).adds)) 1 (ways s v)) (change s m).drops v
    same_gone v p q =
        ap (λ (n : ℕ). has v ds && leb n (times v ds)) (c.way v q)
        ∙ ap₂ (λ (x : Bool) (n : ℕ). x && leb (cond (has v (keys (change s m).adds)) 1 (ways s v)) n) (d.in_list v p) (d.places_in_lem v p)

    pub tree_after : TreeIs s.root (puts s.nodes (change s m).adds) tree → TreeIs s.root s'.nodes (drop_trees tree counts ds)
    tree_after i =
        tree_within (tree_drops i counts ds c.long)
        (λ v p q. ap (or_else blank) (ap (λ (b : Bool). cond b none (puts s.nodes (change s m).adds v)) (same_gone v p q) ∙ node_end s r m ev s' e v))

    pub ways_after : CountsAre (ways s') (places s) (drop_counts counts ds)
    ways_after =
        counts_same _ _ (drop_counts counts ds) (counts_drops (λ v. cond (has v (keys (change s m).adds)) 1 (ways s v)) (places s) counts c ds d.low)
        (ways s') (places s) (λ u h. at u) (λ b h. refl)
      where
        at : (u : ℕ) → cond (has u (keys (change s m).adds)) 1 (ways s u) - times u ds ≡ ways s' u
        at zero = omega (arith, ap (λ (b : Bool). cond b 1 (ways s 0)) key_0, zero_ways s r, zero_ways s' right')
        at (suc u) = omega (arith, d.places_in_lem (suc u) (omega arith), ways_end s r m ev s' e (suc u))

  -- branches' counts: what goes is taken off, then what comes is put on
  pub places_after : (counts off on : List ℕ) → CountsAre (ways s') (places s) counts
      → ((b : ℕ) → places s' b + times b off ≡ places s b + times b on) → ((b : ℕ) → times b off ≤ places s b)
      → CountsAre (ways s') (places s') (add_places (drop_places counts off) on)
  places_after counts off on c eq le =
      counts_same _ _ (add_places (drop_places counts off) on)
      (counts_more (ways s') (λ b. places s b - times b off) (drop_places counts off) (counts_less (ways s') (places s) counts c off) on
      (λ b h. omega (arith, eq b, le b, places_low s' right' b)))
      (ways s') (places s') (λ u h. refl) (λ b h. omega (arith, eq b, le b))

  -- ---- branches that die: the list cs names all of them

  abbrev pub gone_branch : ℕ → Bool
  gone_branch b = eqb (places s' b) 0 && not (in_use (change s m).inputs b)

  module _ (cs : List ℕ) (cover : (b : ℕ) → T (is_some (puts s.branches (change s m).joins b)) → T (gone_branch b) → T (has b cs)) where
    zero_test : (n : ℕ) → eqb n 0 ≡ not (ltb 0 n)
    zero_test zero = refl
    zero_test (suc n) = ne_eqb (suc n) 0 (λ q. omega arith) ∙ sym (ap not (lt-ltb 0 (suc n) (omega arith)))

    dead_is : (b : ℕ) → gone_branch b ≡ dead s r m ev s' e b
    unfolding dead
    dead_is b = ap (λ (x : Bool). x && not (in_use (change s m).inputs b)) (zero_test (places s' b)) ∙ tidy (ltb 0 (places s' b)) (in_use (change s m).inputs b)
      where
        tidy : (x y : Bool) → (not x && not y) ≡ not (x || y)
        tidy true y = refl
        tidy false y = refl

    pub branch_after : (b : ℕ) → cond (has b cs && (eqb (places s' b) 0 && not (in_use (change s m).inputs b))) none (puts s.branches (change s m).joins b) ≡ s'.branches b
    unfolding dead
    branch_after b = go (puts s.branches (change s m).joins b) refl ∙ sym (after_branches s r (change s m) s' e b)
      where
        nothing : (c : Bool) → ◌≡◌ {A = Option (List ℕ)} (cond c none none) none
        nothing true = refl
        nothing false = refl

        pick : (o : Option (List ℕ)) (h p u : Bool) → (T (not p && not u) → T h) → cond (h && (not p && not u)) none o ≡ cond (p || u) o none
        pick o true true u c = refl
        pick o true false true c = refl
        pick o true false false c = refl
        pick o false true u c = refl
        pick o false false true c = refl
        pick o false false false c = absurd (c tt)

        go : (o : Option (List ℕ)) → puts s.branches (change s m).joins b ≡ o
            → cond (has b cs && (eqb (places s' b) 0 && not (in_use (change s m).inputs b))) none (puts s.branches (change s m).joins b)
            ≡ cond (ltb 0 (places s' b) || in_use (change s m).inputs b) (puts s.branches (change s m).joins b) none
        go none q =
            ap (λ (o : Option (List ℕ)). cond (has b cs && (eqb (places s' b) 0 && not (in_use (change s m).inputs b))) none o) q
            ∙ nothing (has b cs && (eqb (places s' b) 0 && not (in_use (change s m).inputs b)))
            ∙ sym (ap (λ (o : Option (List ℕ)). cond (ltb 0 (places s' b) || in_use (change s m).inputs b) o none) q ∙ nothing (ltb 0 (places s' b) || in_use (change s m).inputs b))
        go (some us) q =
            ap (λ (x : Bool). cond (has b cs && (x && not (in_use (change s m).inputs b))) none (puts s.branches (change s m).joins b)) (zero_test (places s' b))
            ∙ pick (puts s.branches (change s m).joins b) (has b cs) (ltb 0 (places s' b)) (in_use (change s m).inputs b)
            (λ t. cover b (subst (λ (o : Option (List ℕ)). T (is_some o)) (sym q) tt) (subst (λ (x : Bool). T (x && not (in_use (change s m).inputs b))) (sym (zero_test (places s' b))) t))

    pub hold_after : (hold : List ℕ)
        → HoldIs (λ v. cond (has v cs && (eqb (places s' v) 0 && not (in_use (change s m).inputs v))) none (puts s.branches (change s m).joins v)) (change s m).slots (change s m).inputs hold
        → HoldIs s'.branches s'.slots s'.inputs hold
    hold_after hold i =
        subst (λ (xs : List Slot). HoldIs s'.branches xs s'.inputs hold) (sym (after_slots s r (change s m) s' e))
        (subst (λ (is : List (List ℕ)). HoldIs s'.branches (change s m).slots is hold) (sym (after_inputs s r (change s m) s' e))
        (hold_same i s'.branches (λ b h. ap (or_else []) (branch_after b))))

    -- the map: what was held or comes, less the nodes and the branches that go
    pub map_after : (map : List ℕ) (ds : List ℕ) → Same ds (change s m).drops
        → ((v : ℕ) → 1 ≤ v → v ≤ last_unit
        → over (branch_part v) (puts s.branches (change s m).joins) + times v (joined slot_units (change s m).slots)
        ≡ over (branch_part v) s.branches + times v (joined slot_units s.slots))
        → ((b : ℕ) → T (is_some (puts s.branches (change s m).joins b)) → (1 ≤ b) × (b ≤ last_unit))
        → MapIs (λ v. ((has v (keys (change s m).adds) || held s v) && not (gone (cond (has v (keys (change s m).adds)) 1 (ways s v)) ds v))
        && not (some_of (λ b. (eqb (places s' b) 0 && not (in_use (change s m).inputs b)) && has v (or_else [] (puts s.branches (change s m).joins b))) cs)) map
        → MapIs (held s') map
    unfolding dead
    map_after map ds d moved in_unit i = map_same _ (held s') map at i
      where
        some_same : (v : ℕ) → some_of (λ b. (eqb (places s' b) 0 && not (in_use (change s m).inputs b)) && has v (or_else [] (puts s.branches (change s m).joins b))) cs
            ≡ some_of (λ b. dead s r m ev s' e b && has v (or_else [] (puts s.branches (change s m).joins b))) units
        some_same v = iff_eq _ _ there back
          where
            f : ℕ → Bool
            f b = (eqb (places s' b) 0 && not (in_use (change s m).inputs b)) && has v (or_else [] (puts s.branches (change s m).joins b))

            g : ℕ → Bool
            g b = dead s r m ev s' e b && has v (or_else [] (puts s.branches (change s m).joins b))

            same : (b : ℕ) → f b ≡ g b
            same b = ap (λ (x : Bool). x && has v (or_else [] (puts s.branches (change s m).joins b))) (dead_is b)

            there_is : (o : Option (List ℕ)) → T (has v (or_else [] o)) → T (is_some o)
            there_is none t = absurd t
            there_is (some us) t = tt

            there : T (some_of f cs) → T (some_of g units)
            there t =
                let w = some_has f cs t in
                let b = w.0 in
                let o = in_unit b (there_is (puts s.branches (change s m).joins b) (and_r (eqb (places s' b) 0 && not (in_use (change s m).inputs b)) (has v (or_else [] (puts s.branches (change s m).joins b))) w.2)) in
                has_some g units b (has_unit b o.0 o.1) (subst (λ (x : Bool). T x) (same b) w.2)

            back : T (some_of g units) → T (some_of f cs)
            back t =
                let w = some_has g units t in
                let b = w.0 in
                let q : T (f b) = subst (λ (x : Bool). T x) (sym (same b)) w.2 in
                has_some f cs b
                (cover b (there_is (puts s.branches (change s m).joins b) (and_r (eqb (places s' b) 0 && not (in_use (change s m).inputs b)) (has v (or_else [] (puts s.branches (change s m).joins b))) q))
                (and_l (eqb (places s' b) 0 && not (in_use (change s m).inputs b)) (has v (or_else [] (puts s.branches (change s m).joins b))) q))
                q

        new_stays : (v : ℕ) → 1 ≤ v → (k : Bool) → has v (keys (change s m).adds) ≡ k
            → ((k || held s v) && not (gone (cond k 1 (ways s v)) ds v)) ≡ ((k || held s v) && not (gone (ways s v) (change s m).drops v))
        new_stays v p true q =
            let off : has v (change s m).drops ≡ false = F→eq (has v (change s m).drops) (λ h. omega (arith, has_pos v (change s m).drops h, undropped s r m ev s' e v (eq→T (has v (keys (change s m).adds)) q))) in
            ap (λ (x : Bool). not (x && leb 1 (times v ds))) (d.in_list v p ∙ off) ∙ sym (ap (λ (x : Bool). not (x && leb (ways s v) (times v (change s m).drops))) off)
        new_stays v p false q = ap₂ (λ (x : Bool) (n : ℕ). held s v && not (x && leb (ways s v) n)) (d.in_list v p) (d.places_in_lem v p)

        at : (v : ℕ) → v ≤ last_unit
            → (((has v (keys (change s m).adds) || held s v) && not (gone (cond (has v (keys (change s m).adds)) 1 (ways s v)) ds v))
            && not (some_of (λ b. (eqb (places s' b) 0 && not (in_use (change s m).inputs b)) && has v (or_else [] (puts s.branches (change s m).joins b))) cs)) ≡ held s' v
        at zero h =
            ap₂ (λ (x y : Bool). ((x || y) && not (gone (cond (has 0 (keys (change s m).adds)) 1 (ways s 0)) ds 0)) && not (some_of (λ b. (eqb (places s' b) 0 && not (in_use (change s m).inputs b)) && has 0 (or_else [] (puts s.branches (change s m).joins b))) cs)) key_0 (zero_free s r)
            ∙ sym (zero_free s' right')
        at (suc v) h =
            ap₂ (λ (x y : Bool). x && not y) (new_stays (suc v) (omega arith) (has (suc v) (keys (change s m).adds)) refl) (some_same (suc v))
            ∙ held_change s r m ev s' e (suc v) (omega arith) h (moved (suc v) (omega arith) h)
