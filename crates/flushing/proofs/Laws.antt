-- Flush where a right store stands: the tests agree with the rules, and an accepted flush leaves the next store standing. Assumes nothing.
use mathlib.Core.Bool.{Bool, true, ◌&&◌}
use mathlib.Core.Path.{◌≡◌, refl, sym, ap, ap₂, ◌∙◌, subst}
use mathlib.Core.List.{List, [], ◌∷◌, ◌++◌}
use mathlib.Core.Option.{Option, none, some}
use Prim.Native.Nat.{ℕ, ◌+◌, ◌-◌, ◌≤◌}
use native.Mathlib.Omega.{arith}
use lib.Dec.{T, leb}
use lib.ListN.{length, get_or, take, drop, length-drop, take-append-drop}
use lib.Seq.{take_all}
use borrow.Author.Tests.{leb-true, le-leb}
use Rattle.units.specs.Limits.{room}
use Rattle.units.specs.Bodies.{indexes}
use Rattle.ways.specs.Ways.{has, spine, is}
use Rattle.ways.proofs.Tests.{T→eq, eq→T, and_r}
use Rattle.ways.proofs.Frame.{sums_append}
use Rattle.ways.proofs.Members.{pos_has}
use Rattle.rules.specs.Tables.{all, slice, puts, times, is_some, or_else}
use Rattle.rules.specs.Store.{Node, Store, blank, children_of, ways, places, in_buffers, held}
use Rattle.rules.specs.Steps.{accepted, decide, change, extended, fit, fresh, small, leads_to, copies, flushed_offsets, flush_ends}
use Rattle.rules.specs.Right.{Right}
use Rattle.right.proofs.Steps.{Even, Passed, passed}
use Rattle.right.proofs.Held.{fresh_unused}
use Rattle.right.proofs.Lists.{times_take, has_take, all_get}
use Rattle.right.proofs.Ledgers.{path_keys, flush_ledger}
use Rattle.right.proofs.Counts.{flush_counts_lem, off_first}
use Rattle.records.specs.Rows.{AllBytes, eight, eight_slice}
use Rattle.eights.proofs.Places.{eight_take}
use Rattle.counting.specs.Places.{add_places, drop_places}
use Rattle.path.specs.Standing.{TreeIs}
use Rattle.tables.specs.Hold.{HoldIs}
use Rattle.lines.specs.Lines.{tests_of, Agree}
use Rattle.shapes.specs.Ends.{Fits, sound_fits}
use Rattle.shapes.specs.Shapes.{flush_parent, flush_child}
use Rattle.shapes.specs.Questions.{gc_fits, flush_room}
use Rattle.shapes.proofs.Shapes.{offset_coded, flush_parent_lem, flush_child_lem}
use Rattle.shapes.proofs.Questions.{gc_fits_lem, copies_small, flush_room_lem}
use Rattle.state.specs.Standing.{CountsAre, MapIs}
use Rattle.state.specs.Stands.{Arrays, Stands}
use Rattle.state.proofs.Changes.{places_after, hold_after, map_after, gone_branch}
use Rattle.allocation.specs.Gains.{fits_count, gains_fit}
use Rattle.allocation.specs.Sweep.{sweep_hold, sweep_map}
use Rattle.allocation.proofs.Gains.{low_slice, gains_fit_is}
use Rattle.allocation.proofs.Going.{eight_low}
use Rattle.allocation.proofs.Swept.{sweep_hold_eight, sweep_map_eight}
use Rattle.pathed.specs.Pathed.{child_unit, pathed_counts, pathed_map}
use Rattle.pathed.proofs.PathEnd.{even_parts, buffer_unit, buffers_low}
use Rattle.pathed.proofs.Accepted.{Came, coded_all}
use Rattle.pathed.proofs.Body.{parts, depth, target_is, child_is, place, lines_agree, path_came}
use Rattle.pathed.proofs.Fit.{ends_move, fit_moved}
use Rattle.pathed.proofs.Branches.{none_at_zero, branches_few, zero_out, died}
use Rattle.flushing.specs.Flush.{flush_step, flush_path, flush_fresh, flush_units, parent_in, child_in, offset_in, flush_tests, flush_nodes, flush_tree, flush_counts, flush_hold, flush_map}

module _ (s : Store) (r : Right s) (x : Arrays) (st : Stands s x) (b : List ℕ) (long : length b ≡ 19) (by : AllBytes b) where
  open parts s b use {d, idx, fs, p, q, c, t, n, h, m}

  abbrev gc : ℕ
  gc = get_or b 16 0

  abbrev f : ℕ
  f = get_or b 17 0

  abbrev g : ℕ
  g = get_or b 18 0

  abbrev offset : ℕ
  offset = get_or n.offsets c 0

  abbrev ends : List (ℕ × Node)
  ends = flush_ends n m c gc f g

  even : length q ≡ length p
  even = even_parts b 1 8 d (omega arith) (omega arith)

  fits_n : Fits n
  fits_n = sound_fits s r.sound t

  fits_m : Fits m
  fits_m = sound_fits s r.sound h

  -- an offset is at most the number of buffers
  within : offset ≤ length n.buffers
  within = go (s.nodes t) refl
    where
      go : (o : Option Node) → s.nodes t ≡ o → get_or (or_else blank o).offsets c 0 ≤ length (or_else blank o).buffers
      go none e = omega arith
      go (some y) e =
          leb-true (get_or y.offsets c 0) (length y.buffers)
          (T→eq (leb (get_or y.offsets c 0) (length y.buffers)) (all_get (λ o. leb o (length y.buffers)) c 0 y.offsets (eq→T (leb 0 (length y.buffers)) (le-leb 0 (length y.buffers) (omega arith))) (r.sound.node t y e).within))

  -- the buffers that come once more, and those that go
  come : slice offset (length n.buffers - offset) (eight n.buffers) ≡ drop offset n.buffers
  come =
      eight_slice n.buffers offset (length n.buffers) fits_n.few_buffers within (omega arith)
      ∙ take_all (length n.buffers - offset) (drop offset n.buffers) (omega (arith, length-drop offset n.buffers))

  gone : gc ≤ length n.buffers → slice 0 (gc - 0) (eight n.buffers) ≡ take gc n.buffers
  gone few = let less : gc - 0 ≡ gc = omega arith in ap (λ (k : ℕ). take k (eight n.buffers)) less ∙ eight_take n.buffers gc fits_n.few_buffers few

  cut : (v : ℕ) → times v (take gc n.buffers) + times v (drop gc n.buffers) ≡ times v n.buffers
  cut v = sym (sums_append (is v) (take gc n.buffers) (drop gc n.buffers)) ∙ ap (times v) (take-append-drop gc n.buffers)

  -- ---- the lines, each where those before it pass

  abbrev ranged : Bool
  ranged = all (λ o. leb gc o) (flushed_offsets n c) && leb gc (length n.buffers)

  gone_fits : ranged ≡ true → gc ≤ length n.buffers
  gone_fits e = leb-true gc (length n.buffers) (T→eq (leb gc (length n.buffers)) (and_r (all (λ o. leb gc o) (flushed_offsets n c)) (leb gc (length n.buffers)) (eq→T ranged e)))

  module _ (dl : d ≤ indexes) (way : T (leads_to s p c)) where
    offset_is : offset_in x.tree b ≡ offset
    offset_is = ap (λ (y : Rattle.counting.specs.declared.Node.Node). get_or y.offsets c 0) (target_is s r x st b by dl way) ∙ offset_coded n fits_n c

    line_range : gc_fits (parent_in x.tree b) c gc ≡ ranged
    line_range = ap (λ (y : Rattle.counting.specs.declared.Node.Node). gc_fits y c gc) (target_is s r x st b by dl way) ∙ gc_fits_lem n fits_n c gc (place s r x st b by dl way)

    line_small : flush_room (parent_in x.tree b) (child_in x.tree b) c ≡ all small (copies s p q s.root f ++ ends)
    line_small =
        ap₂ (λ (y z : Rattle.counting.specs.declared.Node.Node). flush_room y z c) (target_is s r x st b by dl way) (child_is s r x st b by dl way)
        ∙ sym (copies_small s (sound_fits s r.sound) p q s.root f ends ∙ flush_room_lem n fits_n m fits_m c gc f g)

    line_fit : gc ≤ length n.buffers → fresh s (q ++ flush_units b) ≡ true
        → gains_fit x.counts (slice (offset_in x.tree b) ((parent_in x.tree b).buffer_number - offset_in x.tree b) (parent_in x.tree b).buffers) (slice 0 (gc - 0) (parent_in x.tree b).buffers) ≡ fit (extended s (change s (flush_step b)))
    unfolding change
    line_fit few new =
        ap₂ (λ (y : Rattle.counting.specs.declared.Node.Node) (o : ℕ). gains_fit x.counts (slice o (y.buffer_number - o) y.buffers) (slice 0 (gc - 0) y.buffers)) (target_is s r x st b by dl way) offset_is
        ∙ gains_fit_is (ways s) (places s) x.counts (slice offset (length n.buffers - offset) (eight n.buffers)) (slice 0 (gc - 0) (eight n.buffers)) st.counts
        (low_slice offset (length n.buffers - offset) (eight n.buffers) (eight_low n.buffers (buffers_low s r.sound t)))
        ∙ ap₂ (λ (l k : List ℕ). all (λ v. fits_count (places s v) l k v) l) come (gone few)
        ∙ fit_moved s r (change s (flush_step b)) (path_keys s r.sound d idx fs even f ends)
        (flush_ledger s r.sound d idx fs even c gc f g way (subst (λ (z : Bool). T z) (fresh_unused s r (q ++ flush_units b)) (eq→T (fresh s (q ++ flush_units b)) new)))
        new (drop offset n.buffers) (take gc n.buffers)
        (λ v. ends_move s v p q s.root f ends (t ∷ h ∷ []) (drop offset n.buffers) (take gc n.buffers) even
        (omega (arith, cut v, sums_append (is v) m.buffers (drop offset n.buffers))))
        (λ v o. buffer_unit s r.sound t v (Rattle.right.proofs.Lists.has_drop v offset n.buffers o))

  pub flush_agree : Agree (flush_tests x.tree x.counts x.map b) (tests_of s (change s (flush_step b)))
  unfolding change flush_tests
  flush_agree =
      lines_agree s r x st b by (flush_units b) (omega (arith, by.small 17), (omega (arith, by.small 18), tt)) _ _ _ _ _ _
      line_range (λ dl way z. line_small dl way) (λ dl way z new. line_fit dl way (gone_fits z) new)

  -- ---- an accepted flush

  module _ (s' : Store) (e : decide s (change s (flush_step b)) ≡ accepted s') where
    ok : Passed s (change s (flush_step b))
    ok = (passed s r (change s (flush_step b)) s' e).0

    ev : Even (flush_step b)
    unfolding Even
    ev = even

    dl : d ≤ indexes
    unfolding change
    dl = depth s r x st b by ok.shape

    way : T (leads_to s p c)
    unfolding change
    way = ok.path

    few : gc ≤ length n.buffers
    unfolding change
    few = gone_fits (T→eq ranged ok.range)

    roomy : length m.buffers + (length n.buffers - offset) ≤ room
    unfolding change
    roomy =
        subst (λ (o : ℕ). length m.buffers + (length n.buffers - o) ≤ room) (offset_coded n fits_n c)
        (leb-true (length m.buffers + (length n.buffers - get_or (eight n.offsets) c 0)) room
        (sym (flush_room_lem n fits_n m fits_m c gc f g) ∙ sym (copies_small s (sound_fits s r.sound) p q s.root f ends) ∙ T→eq (all small (copies s p q s.root f ++ ends)) ok.small))

    nodes_are : flush_nodes x.tree b ≡ coded_all ends
    nodes_are =
        ap₂ (λ (y z : Rattle.counting.specs.declared.Node.Node). (f, flush_parent y c gc g) ∷ (g, flush_child y z c) ∷ []) (target_is s r x st b by dl way) (child_is s r x st b by dl way)
        ∙ ap₂ (λ (y z : Rattle.counting.specs.declared.Node.Node). (f, y) ∷ (g, z) ∷ []) (flush_parent_lem n fits_n c gc g (place s r x st b by dl way)) (flush_child_lem n fits_n m fits_m c roomy)

    came : Came s s' x (flush_step b) f ends (flush_path b) (flush_fresh b) (child_unit x.tree (flush_path b) c)
    unfolding change
    came = path_came s r x st b by dl way (flush_step b) ev s' e f ends even refl refl refl

    tree_stands : TreeIs s'.root s'.nodes (flush_tree x.tree x.counts b)
    unfolding change flush_tree
    tree_stands = rw (nodes_are) came.tree

    moved : (v : ℕ) → places s' v + times v (take gc n.buffers) ≡ places s v + times v (drop offset n.buffers)
    moved = flush_counts_lem s r s' d idx fs c gc f g even e

    counts_stand : CountsAre (ways s') (places s') (flush_counts x.tree x.counts b)
    unfolding change flush_counts
    counts_stand =
        subst (λ (l : List ℕ). CountsAre (ways s') (places s') l)
        (sym (ap₂ (λ (k l : List ℕ). add_places (drop_places (pathed_counts x.tree x.counts (flush_path b) (flush_fresh b) (flush_units b) (child_unit x.tree (flush_path b) c)) k) l)
        (ap (λ (y : Rattle.counting.specs.declared.Node.Node). slice 0 (gc - 0) y.buffers) (target_is s r x st b by dl way) ∙ gone few)
        (ap₂ (λ (y : Rattle.counting.specs.declared.Node.Node) (o : ℕ). slice o (y.buffer_number - o) y.buffers) (target_is s r x st b by dl way) (offset_is dl way) ∙ come)))
        (places_after s r (flush_step b) ev s' e _ (take gc n.buffers) (drop offset n.buffers) came.counts
        moved
        (λ v. omega (
          arith,
          (off_first s s' r (flush_step b) ev e).1 v,
          sums_append (in_buffers s v) (spine (children_of s) p s.root) (t ∷ h ∷ []),
          times_take v gc n.buffers,
        )))

    -- a branch that dies lost a place among the first gc
    cover : (v : ℕ) → T (is_some (puts s.branches (change s (flush_step b)).joins v)) → T (gone_branch s r (flush_step b) ev s' e v) → T (has v n.buffers)
    unfolding change
    cover v o w = let z = died s r s' v o w in has_take v gc n.buffers (pos_has v (take gc n.buffers) (omega (arith, z.0, z.1, moved v)))

    buffers_are_lem : (parent_in x.tree b).buffers ≡ eight n.buffers
    buffers_are_lem = ap (λ (y : Rattle.counting.specs.declared.Node.Node). y.buffers) (target_is s r x st b by dl way)

    hold_stands : HoldIs s'.branches s'.slots s'.inputs (flush_hold x.tree x.counts x.hold b)
    unfolding change flush_hold
    hold_stands =
        subst (λ (l : List ℕ). HoldIs s'.branches s'.slots s'.inputs (sweep_hold (flush_counts x.tree x.counts b) x.hold l)) (sym buffers_are_lem)
        (hold_after s r (flush_step b) ev s' e n.buffers cover (sweep_hold (flush_counts x.tree x.counts b) x.hold (eight n.buffers))
        (sweep_hold_eight counts_stand r.sound.input_number r.sound.input n.buffers fits_n.few_buffers (buffers_low s r.sound t) (none_at_zero s r) st.hold))

    map_stands : MapIs (held s') (flush_map x.tree x.counts x.hold x.map b)
    unfolding change flush_map
    map_stands =
        let map : List ℕ = pathed_map x.tree x.counts x.map (flush_path b) (flush_fresh b) (flush_units b) (child_unit x.tree (flush_path b) c) in
        subst (λ (l : List ℕ). MapIs (held s') (sweep_map (flush_counts x.tree x.counts b) x.hold map l)) (sym buffers_are_lem)
        (map_after s r (flush_step b) ev s' e n.buffers cover (sweep_map (flush_counts x.tree x.counts b) x.hold map (eight n.buffers))
        _
        came.gone_same
        (λ v o k. refl) (λ v o. r.sound.branch_unit v o)
        (sweep_map_eight counts_stand r.sound.input_number r.sound.input n.buffers fits_n.few_buffers (buffers_low s r.sound t) (none_at_zero s r) st.hold (branches_few s r)
        came.map
        (zero_out s r (flush_step b) ev s' e _)))

    pub flush_stands : Stands s' (record {
      tree = flush_tree x.tree x.counts b;
      counts = flush_counts x.tree x.counts b;
      hold = flush_hold x.tree x.counts x.hold b;
      map = flush_map x.tree x.counts x.hold x.map b;
    })
    flush_stands = record { tree = tree_stands; counts = counts_stand; hold = hold_stands; map = map_stands }
