-- Compact begin and compact abort over the arrays are those of the rules. Assumes nothing.
use mathlib.Core.Path.{◌≡◌, refl, sym, ap, ap₂, ◌∙◌, subst}
use mathlib.Core.Bool.{Bool, true, false, ◌||◌, ◌&&◌, not, cond}
use mathlib.Core.Logic.{inl, ⊎_elim}
use mathlib.Core.List.{List, [], ◌∷◌, ◌++◌}
use mathlib.Core.Option.{Option, none, some}
use Prim.Native.Nat.{ℕ, zero, suc, ◌-◌, ◌≤◌, ◌<◌}
use native.Mathlib.Omega.{arith}
use lib.Dec.{T, eqb, leb, ltb, leb→le}
use lib.ListN.{length, get_or, set, take, drop, length-drop, length-set}
use lib.Seq.{length-take-le}
use borrow.Author.Tests.{ltb-true, ltb-false, le-ltb, eqb-true}
use Rattle.units.specs.Limits.{last_unit, room, compactor_count}
use Rattle.units.specs.Bodies.{indexes}
use Rattle.ways.specs.Ways.{has, flat, follow}
use Rattle.ways.specs.Levels.{some_of}
use Rattle.ways.proofs.Tests.{T→eq, eq→T, and_l, and_r, or_e, or_l, or_r}
use Rattle.ways.proofs.Members.{has_left, has_right}
use Rattle.rules.specs.Tables.{all, joined, slice, is_some, or_else}
use Rattle.rules.specs.Store.{units, Store, node_at, children_of, units_of, slot_units, ways, places, in_use, owned, held}
use Rattle.rules.specs.Steps.{accepted, fresh, decide, Step, Begin, Abort, change, path_shape, leads, input_at}
use Rattle.rules.specs.Right.{Right}
use Rattle.right.proofs.Lists.{all_get}
use Rattle.right.proofs.Ledger.{has_flat, has_unit}
use Rattle.right.proofs.Ledgers.{at_node}
use Rattle.right.proofs.Steps.{Even, passed, change_right}
use Rattle.right.proofs.After.{after_inputs, after_branches}
use Rattle.right.proofs.Still.{ended_branches}
use Rattle.lines.specs.Lines.{tests_of, Agree}
use Rattle.records.specs.Rows.{eight, eight_slice}
use Rattle.counting.specs.declared.Node.{Node}
use Rattle.counting.specs.Nodes.{node_in, coded}
use Rattle.counting.proofs.Counts.{Low}
use Rattle.path.specs.Graph.{found}
use Rattle.path.proofs.Paths.{node_in_lem}
use Rattle.tables.specs.Hold.{HoldIs, put_input, coded_input}
use Rattle.tables.proofs.Kept.{input_read_lem, hold_input, hold_same}
use Rattle.state.specs.Standing.{CountsAre}
use Rattle.state.specs.Stands.{Arrays, Stands}
use Rattle.state.proofs.Maps.{map_same}
use Rattle.state.proofs.Changes.{zero_free, map_after}
use Rattle.shapes.specs.Ends.{Fits, sound_fits}
use Rattle.shapes.specs.Questions.{part_fits}
use Rattle.shapes.proofs.Questions.{part_fits_lem}
use Rattle.bodies.specs.Bodies.{used_of, target_in, unit_of, is_found}
use Rattle.bodies.proofs.Bodies.{target_is, used_is, shape_low}
use Rattle.allocation.proofs.Going.{and_true}
use Rattle.allocation.proofs.Swept.{Few, sweep_hold_eight, sweep_map_eight}
use Rattle.quiet.specs.Inputs.{is_busy, is_idle, part_of, begin_target, begin_shape, begin_tests, begin_hold, abort_tests, abort_hold, abort_map}
use Rattle.quiet.proofs.Quiet.{low_of, quiet_fit, quiet_counts, quiet_stands, branches_stay, held_now}

-- the buffers of a node of the rules, from a place up to another
part_coded : (n : Rattle.rules.specs.Store.Node) → Fits n → (from to : ℕ) → to ≤ length n.buffers → part_of (coded n) from to ≡ coded_input (slice from (to - from) n.buffers)
unfolding part_of
part_coded n f from to h = ap₂ (λ (c : ℕ) (l : List ℕ). record { number = c; roots = eight l }) count (roots (ltb to from) refl)
  where
    -- from behind `to` on there are none
    roots : (b : Bool) → ltb to from ≡ b → slice from (to - from) (eight n.buffers) ≡ slice from (to - from) n.buffers
    roots true e = let none : to - from ≡ 0 = omega (arith, ltb-true to from e) in rw none refl
    roots false e = eight_slice n.buffers from to f.few_buffers (ltb-false to from e) h

    count : to - from ≡ length (slice from (to - from) n.buffers)
    count = sym (length-take-le (to - from) (drop from n.buffers) (omega (arith, length-drop from n.buffers)))

-- a unit of a branch is owned
branch_owned : (s : Store) (b v : ℕ) → T (has b units) → T (has v (units_of s b)) → T (has v (owned s))
unfolding owned
branch_owned s b v h t =
    has_right v (flat (λ u. cond (is_some (s.nodes u)) (u ∷ []) []) units) (flat (units_of s) units ++ joined slot_units s.slots)
    (has_left v (flat (units_of s) units) (joined slot_units s.slots) (has_flat (units_of s) v b units h t))

short_list : List ℕ → Bool
short_list l = leb (length l) room

-- ---- inputs

-- what an input names is in use
named_used : (b k : ℕ) (ls : List (List ℕ)) → T (has b (get_or ls k [])) → T (in_use ls b)
named_used b k [] t = absurd t
named_used b zero (l ∷ ls) t = or_l (has b l) (in_use ls b) t
named_used b (suc k) (l ∷ ls) t = or_r (has b l) (in_use ls b) (named_used b k ls t)

-- an input that begins ends no use
begun_used : (b k : ℕ) (y : List ℕ) (ls : List (List ℕ)) → get_or ls k [] ≡ [] → T (in_use ls b) → T (in_use (set ls k y) b)
begun_used b k y [] e t = absurd t
begun_used b zero y (l ∷ ls) e t =
    ⊎_elim
    (λ (q : T (has b l)). absurd (subst (λ (x : List ℕ). T (has b x)) e q))
    (λ (q : T (in_use ls b)). or_r (has b y) (in_use ls b) q)
    (or_e (has b l) (in_use ls b) t)
begun_used b (suc k) y (l ∷ ls) e t =
    ⊎_elim
    (λ (q : T (has b l)). or_l (has b l) (in_use (set ls k y) b) q)
    (λ (q : T (in_use ls b)). or_r (has b l) (in_use (set ls k y) b) (begun_used b k y ls e q))
    (or_e (has b l) (in_use ls b) t)

module _ (s : Store) (r : Right s) where
  -- no branch is at unit 0
  no_branch : s.branches 0 ≡ none
  no_branch = go (s.branches 0) refl
    where
      go : (o : Option (List ℕ)) → s.branches 0 ≡ o → o ≡ none
      go none e = refl
      go (some us) e = absurd (omega (arith, (r.sound.branch_unit 0 (subst (λ (o : Option (List ℕ)). T (is_some o)) (sym e) tt)).0))

  -- each branch has a few units
  pub branches_few : Few s.branches
  branches_few = record { short = λ b q. short b (s.branches b) refl; low = λ b q. low_of (units_of s b) (λ v t. low b v (s.branches b) refl t) }
    where
      short : (b : ℕ) (o : Option (List ℕ)) → s.branches b ≡ o → length (or_else [] o) ≤ room
      short b none e = omega arith
      short b (some us) e = (r.sound.branch b us e).most

      low : (b v : ℕ) (o : Option (List ℕ)) → s.branches b ≡ o → T (has v (or_else [] o)) → v ≤ last_unit
      low b v none e t = absurd t
      low b v (some us) e t =
          let u = r.sound.branch_unit b (subst (λ (o : Option (List ℕ)). T (is_some o)) (sym e) tt) in
          (r.sound.unit v (branch_owned s b v (has_unit b u.0 u.1) (subst (λ (o : Option (List ℕ)). T (has v (or_else [] o))) (sym e) t))).1

  input_few : (k : ℕ) → length (input_at s k) ≤ room
  unfolding short_list
  input_few k = leb→le (length (input_at s k)) room (all_get short_list k [] s.inputs tt r.sound.input)

  input_low : (k : ℕ) → Low (input_at s k)
  input_low k = low_of (input_at s k) (λ v t. (r.sound.branch_unit v (r.sound.input_named v (named_used v k s.inputs t))).1)

module _ (s : Store) (r : Right s) (a : Arrays) (st : Stands s a) where
  -- ---- 10 compact abort

  module _ (k : ℕ) where
    pub abort_agree : Agree (abort_tests a.hold k) (tests_of s (change s (Abort k)))
    unfolding change fresh abort_tests
    abort_agree =
        (refl, λ h. (ap is_busy (input_read_lem st.hold k (ltb-true k compactor_count h)), λ _. (refl, λ _. (refl, λ _. (refl, λ _. (refl, λ _. (refl, λ _. (refl, λ _. (sym (quiet_fit s r _ _ true true [] s.slots (set s.inputs k [])), λ _. tt)))))))))

    pub abort_stands : (s' : Store) → decide s (change s (Abort k)) ≡ accepted s'
        → Stands s' (record { tree = a.tree; counts = a.counts; hold = abort_hold a.counts a.hold k; map = abort_map a.counts a.hold a.map k })
    unfolding change abort_hold abort_map Even
    abort_stands s' e =
        let cs : List ℕ = input_at s k in
        let is : List (List ℕ) = set s.inputs k [] in
        let ok = (passed s r (change s (Abort k)) s' e).0 in
        let q : k < compactor_count = ltb-true k compactor_count (T→eq (ltb k compactor_count) ok.shape) in
        let r' : Right s' = change_right s r (Abort k) tt s' e in
        let n : length is ≡ compactor_count = length-set s.inputs k [] ∙ r.sound.input_number in
        let few : T (all (λ us. leb (length us) room) is) = subst (λ (l : List (List ℕ)). T (all (λ us. leb (length us) room) l)) (after_inputs s r (change s (Abort k)) s' e) r'.sound.input in
        let c : CountsAre (ways s') (places s') a.counts = quiet_counts s r a st (Abort k) tt s' e refl refl refl refl in
        let h : HoldIs s.branches s.slots is (put_input a.hold k (coded_input [])) = hold_input st.hold k [] q r.sound.input_number in
        let i = sweep_map_eight c n few cs (input_few s r k) (input_low s r k) (no_branch s r) h (branches_few s r) st.map (zero_free s r) in
        rw (input_read_lem st.hold k q)
        (quiet_stands s r a st (Abort k) tt s' e refl refl refl refl _ _
        (hold_same (sweep_hold_eight c n few cs (input_few s r k) (input_low s r k) (no_branch s r) h) s'.branches (λ b w. ap (or_else []) (ended b)))
        (map_after s r (Abort k) tt s' e cs cover _ [] (record { low = tt; in_list = λ v p. refl; places_in_lem = λ v p. refl }) (λ v p w. refl) r.sound.branch_unit
        (map_same _ _ _ (λ v w. ap (λ (x : Bool). x && not (some_of (λ b. (eqb (places s' b) 0 && not (in_use is b)) && has v (or_else [] (s.branches b))) cs)) (sym (and_true (held s v)))) i)))
      where
        ended : (b : ℕ) → cond (has b (input_at s k) && (eqb (places s' b) 0 && not (in_use (set s.inputs k []) b))) none (s.branches b) ≡ s'.branches b
        ended = ended_branches s r (Abort k) tt s' e refl refl refl refl k refl

        -- a branch that dies stood in the input
        cover : (b : ℕ) → T (is_some (s.branches b)) → T (eqb (places s' b) 0 && not (in_use (set s.inputs k []) b)) → T (has b (input_at s k))
        cover b t d = go (has b (input_at s k)) refl
          where
            off : (n : ℕ) (u : Bool) → T (eqb n 0 && not u) → (ltb 0 n || u) ≡ false
            off n true z = absurd (and_r (eqb n 0) false z)
            off n false z = ap (λ (x : Bool). x || false) (le-ltb 0 n (omega (arith, eqb-true n 0 (T→eq (eqb n 0) (and_l (eqb n 0) true z)))))

            go : (x : Bool) → has b (input_at s k) ≡ x → T (has b (input_at s k))
            go true w = eq→T (has b (input_at s k)) w
            go false w =
                let stays : s.branches b ≡ s'.branches b = ap (λ (x : Bool). cond (x && (eqb (places s' b) 0 && not (in_use (set s.inputs k []) b))) none (s.branches b)) (sym w) ∙ ended b in
                let gone : s'.branches b ≡ none = after_branches s r (change s (Abort k)) s' e b ∙ ap (λ (x : Bool). cond x (s.branches b) none) (off (places s' b) (in_use (set s.inputs k []) b) d) in
                absurd (subst (λ (o : Option (List ℕ)). T (is_some o)) (stays ∙ gone) t)

  -- ---- 8 compact begin

  module _ (body : List ℕ) where
    abbrev path : List ℕ
    path = take (get_or body 1 0) (slice 2 indexes body)

    abbrev unit : ℕ
    unit = follow (children_of s) path s.root

    target_at : begin_shape body ≡ true → begin_target a.tree body ≡ found (leads s path) unit
    unfolding begin_target begin_shape
    target_at h =
        let d : ℕ = get_or body 1 0 in
        let is : List ℕ = slice 2 indexes body in
        let deep : d ≤ indexes = shape_low d is [] (T→eq (path_shape d is []) (and_r (ltb (get_or body 0 0) compactor_count) (path_shape d is []) (eq→T _ h))) in
        ap (λ (n : ℕ). target_in a.tree (take n is)) (used_is d (used_of d) refl deep) ∙ target_is s a.tree st.tree r.sound path

    node_at_lem : begin_shape body ≡ true → leads s path ≡ true → node_in a.tree (unit_of (begin_target a.tree body)) ≡ coded (node_at s unit)
    node_at_lem h l =
        ap (λ f. node_in a.tree (unit_of f)) (target_at h ∙ ap (λ (b : Bool). found b unit) l)
        ∙ node_in_lem s a.tree st.tree r.sound unit (at_node s path r.sound (eq→T (leads s path) l)).named

    slot_of : begin_shape body ≡ true → get_or body 0 0 < compactor_count
    unfolding begin_shape
    slot_of h =
        let k : ℕ = get_or body 0 0 in
        ltb-true k compactor_count (T→eq (ltb k compactor_count) (and_l (ltb k compactor_count) (path_shape (get_or body 1 0) (slice 2 indexes body) []) (eq→T _ h)))

    pub begin_agree : Agree (begin_tests a.tree a.hold body) (tests_of s (change s (Begin (get_or body 0 0) (get_or body 1 0) (slice 2 indexes body) (get_or body 9 0) (get_or body 10 0))))
    unfolding change fresh begin_tests begin_shape
    begin_agree =
        let from : ℕ = get_or body 9 0 in
        let to : ℕ = get_or body 10 0 in
        (refl, λ h. (ap is_idle (input_read_lem st.hold (get_or body 0 0) (slot_of h)), λ _. (ap is_found (target_at h) ∙ found_test (leads s path) unit, λ l. (ap (λ (n : Node). part_fits n from to) (node_at_lem h l) ∙ part_fits_lem (node_at s unit) from to, λ _. (refl, λ _. (refl, λ _. (refl, λ _. (refl, λ _. (sym (quiet_fit s r _ _ _ _ [] s.slots (set s.inputs (get_or body 0 0) (slice from (to - from) (node_at s unit).buffers))), λ _. tt)))))))))
      where
        found_test : (b : Bool) (u : ℕ) → is_found (found b u) ≡ b
        found_test true u = refl
        found_test false u = refl

    pub begin_stands : (s' : Store) → decide s (change s (Begin (get_or body 0 0) (get_or body 1 0) (slice 2 indexes body) (get_or body 9 0) (get_or body 10 0))) ≡ accepted s'
        → Stands s' (record { tree = a.tree; counts = a.counts; hold = begin_hold a.tree a.hold body; map = a.map })
    unfolding change begin_hold begin_shape Even
    begin_stands s' e =
        let k : ℕ = get_or body 0 0 in
        let from : ℕ = get_or body 9 0 in
        let to : ℕ = get_or body 10 0 in
        let bs : List ℕ = (node_at s unit).buffers in
        let part : List ℕ = slice from (to - from) bs in
        let m : Step = Begin k (get_or body 1 0) (slice 2 indexes body) from to in
        let ok = (passed s r (change s m) s' e).0 in
        let h : begin_shape body ≡ true = T→eq (begin_shape body) ok.shape in
        let l : leads s path ≡ true = T→eq (leads s path) ok.path in
        let q : k < compactor_count = slot_of h in
        let end : to ≤ length bs = leb→le to (length bs) (and_r (ltb from to) (leb to (length bs)) ok.range) in
        let made : part_of (node_in a.tree (unit_of (begin_target a.tree body))) from to ≡ coded_input part = ap (λ (n : Node). part_of n from to) (node_at_lem h l) ∙ part_coded (node_at s unit) (sound_fits s r.sound unit) from to end in
        let up : (b : ℕ) → T (in_use s.inputs b) → T (in_use (set s.inputs k part) b) = λ b t. begun_used b k part s.inputs (no_roots (input_at s k) ok.slot) t in
        rw made
        (quiet_stands s r a st m tt s' e refl refl refl refl (put_input a.hold k (coded_input part)) a.map
        (hold_same (hold_input st.hold k part q r.sound.input_number) s'.branches (λ b w. ap (or_else []) (sym (branches_stay s r a st m tt s' e refl refl refl refl up b))))
        (map_same (held s) (held s') a.map (λ v w. same_held v w (change_right s r m tt s' e) (λ p. held_now s r a st m tt s' e refl refl refl refl up v p w 0 0 refl (omega arith) (inl refl))) st.map))
      where
        no_roots : (l : List ℕ) → T (eqb (length l) 0) → l ≡ []
        no_roots [] t = refl
        no_roots (x ∷ l) t = absurd (omega (arith, eqb-true (suc (length l)) 0 (T→eq (eqb (suc (length l)) 0) t)))

        tidy : (x : Bool) → x ≡ ((x || ltb 0 0) && not (ltb 0 0))
        tidy true = refl
        tidy false = refl

        same_held : (v : ℕ) → v ≤ last_unit → Right s' → (1 ≤ v → ((held s v || ltb 0 0) && not (ltb 0 0)) ≡ held s' v) → held s v ≡ held s' v
        same_held zero w r' n = zero_free s r ∙ sym (zero_free s' r')
        same_held (suc v) w r' n = tidy (held s (suc v)) ∙ n (omega arith)
