-- Split where a right store stands: the tests agree with the rules, and an accepted split leaves the next store standing. Assumes nothing.
use mathlib.Core.Bool.{Bool, true, false, ◌&&◌, cond}
use mathlib.Core.Path.{◌≡◌, refl, sym, ap, ◌∙◌, subst}
use mathlib.Core.List.{List, [], ◌∷◌, ◌++◌}
use Prim.Native.Nat.{ℕ, ◌-◌, ◌≤◌, ◌<◌}
use native.Mathlib.Omega.{arith}
use lib.Dec.{T, eqb, leb, ltb}
use lib.ListN.{length, get_or}
use borrow.Author.Tests.{ltb-true, eqb-true}
use Rattle.units.specs.Limits.{room}
use Rattle.units.specs.Bodies.{indexes}
use Rattle.ways.specs.Ways.{has}
use Rattle.ways.proofs.Tests.{T→eq, eq→T, and_r}
use Rattle.rules.specs.Tables.{all, slice, puts, is_some}
use Rattle.rules.specs.Store.{Node, Store, ways, places, held}
use Rattle.rules.specs.Steps.{accepted, decide, change, extended, fit, fresh, small, leads_to, copies, split_ends}
use Rattle.rules.specs.Right.{Right}
use Rattle.right.proofs.Steps.{Even, Passed, passed}
use Rattle.right.proofs.Held.{fresh_unused}
use Rattle.right.proofs.Ledgers.{path_keys, split_ledger}
use Rattle.right.proofs.Counts.{split_counts_lem}
use Rattle.records.specs.Rows.{AllBytes, eight, eight_whole}
use Rattle.counting.specs.Places.{add_places}
use Rattle.path.specs.Standing.{TreeIs}
use Rattle.tables.specs.Hold.{HoldIs}
use Rattle.lines.specs.Lines.{tests_of, Agree}
use Rattle.shapes.specs.Ends.{sound_fits}
use Rattle.shapes.specs.Questions.{split_share_fits, room_for_child}
use Rattle.shapes.proofs.Shapes.{split_parent_lem, left_of_lem, right_of_lem}
use Rattle.shapes.proofs.Questions.{split_share, copies_small, room_for_child_lem}
use Rattle.state.specs.Standing.{CountsAre, MapIs}
use Rattle.state.specs.Stands.{Arrays, Stands}
use Rattle.state.proofs.Maps.{map_same}
use Rattle.state.proofs.Changes.{places_after, hold_after, map_after, gone_branch}
use Rattle.allocation.specs.Gains.{fits_count, gains_fit}
use Rattle.allocation.proofs.Gains.{low_slice, gains_fit_is}
use Rattle.allocation.proofs.Going.{and_true, eight_low}
use Rattle.pathed.specs.Pathed.{child_unit, pathed_counts}
use Rattle.pathed.proofs.PathEnd.{even_parts, buffer_unit, buffers_low}
use Rattle.pathed.proofs.Accepted.{Came, coded_all}
use Rattle.pathed.proofs.Body.{parts, depth, target_is, child_is, place, lines_agree, path_came}
use Rattle.pathed.proofs.Fit.{ends_move, fit_moved}
use Rattle.pathed.proofs.Branches.{died}
use Rattle.splitting.specs.Split.{split_step, split_path, split_fresh, split_units, split_target, split_child, split_tests, split_nodes, split_tree, split_counts, split_map}

module _ (s : Store) (r : Right s) (x : Arrays) (st : Stands s x) (b : List ℕ) (long : length b ≡ 20) (by : AllBytes b) where
  open parts s b use {d, idx, fs, p, q, c, t, n, h, m}

  abbrev share : ℕ
  share = get_or b 16 0

  abbrev f : ℕ
  f = get_or b 17 0

  abbrev ends : List (ℕ × Node)
  ends = split_ends n m c share f (get_or b 18 0) (get_or b 19 0)

  even : length q ≡ length p
  even = even_parts b 1 8 d (omega arith) (omega arith)

  -- ---- the lines, each where those before it pass

  share_fits : cond (eqb (length m.children) 0) (eqb share 0) (leb 1 share && ltb share (length m.children)) ≡ true → share ≤ length m.children
  share_fits = go (eqb (length m.children) 0)
    where
      go : (z : Bool) → cond z (eqb share 0) (leb 1 share && ltb share (length m.children)) ≡ true → share ≤ length m.children
      go true e = omega (arith, eqb-true share 0 e)
      go false e =
          omega (arith, ltb-true share (length m.children) (T→eq (ltb share (length m.children)) (and_r (leb 1 share) (ltb share (length m.children)) (eq→T (leb 1 share && ltb share (length m.children)) e))))

  module _ (dl : d ≤ indexes) (way : T (leads_to s p c)) where
    line_range : split_share_fits (split_child x.tree b) share ≡ cond (eqb (length m.children) 0) (eqb share 0) (leb 1 share && ltb share (length m.children))
    line_range = ap (λ (y : Rattle.counting.specs.declared.Node.Node). split_share_fits y share) (child_is s r x st b by dl way) ∙ split_share m share

    line_small : share ≤ length m.children → room_for_child (split_target x.tree b) ≡ all small (copies s p q s.root f ++ ends)
    line_small fits =
        ap (λ (y : Rattle.counting.specs.declared.Node.Node). room_for_child y) (target_is s r x st b by dl way)
        ∙ sym (copies_small s (sound_fits s r.sound) p q s.root f ends
        ∙ room_for_child_lem n (sound_fits s r.sound t) m (sound_fits s r.sound h) c share f (get_or b 18 0) (get_or b 19 0) (place s r x st b by dl way) fits)

    line_fit : fresh s (q ++ split_units b) ≡ true
        → gains_fit x.counts (slice 0 ((split_child x.tree b).buffer_number - 0) (split_child x.tree b).buffers) [] ≡ fit (extended s (change s (split_step b)))
    unfolding change
    line_fit new =
        ap (λ (y : Rattle.counting.specs.declared.Node.Node). gains_fit x.counts (slice 0 (y.buffer_number - 0) y.buffers) []) (child_is s r x st b by dl way)
        ∙ gains_fit_is (ways s) (places s) x.counts (slice 0 (length m.buffers - 0) (eight m.buffers)) [] st.counts
        (low_slice 0 (length m.buffers - 0) (eight m.buffers) (eight_low m.buffers (buffers_low s r.sound h)))
        ∙ ap (λ (l : List ℕ). all (λ v. fits_count (places s v) l [] v) l) (eight_whole m.buffers (sound_fits s r.sound h).few_buffers)
        ∙ fit_moved s r (change s (split_step b)) (path_keys s r.sound d idx fs even f ends)
        (split_ledger s r.sound d idx fs even c share f (get_or b 18 0) (get_or b 19 0) way (subst (λ (z : Bool). T z) (fresh_unused s r (q ++ split_units b)) (eq→T (fresh s (q ++ split_units b)) new)))
        new m.buffers [] (λ v. ends_move s v p q s.root f ends (t ∷ h ∷ []) m.buffers [] even (omega arith)) (λ v o. buffer_unit s r.sound h v o)

  pub split_agree : Agree (split_tests x.tree x.counts x.map b) (tests_of s (change s (split_step b)))
  unfolding change split_tests
  split_agree =
      lines_agree s r x st b by (split_units b) (omega (arith, by.small 17), (omega (arith, by.small 18), (omega (arith, by.small 19), tt))) _ _ _ _ _ _
      line_range (λ dl way z. line_small dl way (share_fits z)) (λ dl way z new. line_fit dl way new)

  -- ---- an accepted split

  module _ (s' : Store) (e : decide s (change s (split_step b)) ≡ accepted s') where
    ok : Passed s (change s (split_step b))
    ok = (passed s r (change s (split_step b)) s' e).0

    ev : Even (split_step b)
    unfolding Even
    ev = even

    dl : d ≤ indexes
    unfolding change
    dl = depth s r x st b by ok.shape

    way : T (leads_to s p c)
    unfolding change
    way = ok.path

    fits : share ≤ length m.children
    unfolding change
    fits = share_fits (T→eq (cond (eqb (length m.children) 0) (eqb share 0) (leb 1 share && ltb share (length m.children))) ok.range)

    wide : length n.children < room
    unfolding change
    wide =
        ltb-true (length n.children) room
        (sym (ap (λ (y : Rattle.counting.specs.declared.Node.Node). room_for_child y) (target_is s r x st b by dl way)) ∙ line_small dl way fits ∙ T→eq (all small (copies s p q s.root f ++ ends)) ok.small)

    nodes_are : split_nodes x.tree b ≡ coded_all ends
    nodes_are =
        rw (
          target_is s r x st b by dl way,
          child_is s r x st b by dl way,
          split_parent_lem n (sound_fits s r.sound t) c (get_or b 18 0) (get_or b 19 0) (place s r x st b by dl way) wide,
          left_of_lem m (sound_fits s r.sound h) share fits,
          right_of_lem m (sound_fits s r.sound h) share,
        )

    came : Came s s' x (split_step b) f ends (split_path b) (split_fresh b) (child_unit x.tree (split_path b) c)
    unfolding change
    came = path_came s r x st b by dl way (split_step b) ev s' e f ends even refl refl refl

    tree_stands : TreeIs s'.root s'.nodes (split_tree x.tree x.counts b)
    unfolding change split_tree
    tree_stands = rw (nodes_are) came.tree

    -- the child's buffers come once more
    counts_stand : CountsAre (ways s') (places s') (split_counts x.tree x.counts b)
    unfolding change split_counts
    counts_stand =
        subst (λ (l : List ℕ). CountsAre (ways s') (places s') (add_places (pathed_counts x.tree x.counts (split_path b) (split_fresh b) (split_units b) (child_unit x.tree (split_path b) c)) l))
        (sym (ap (λ (y : Rattle.counting.specs.declared.Node.Node). slice 0 (y.buffer_number - 0) y.buffers) (child_is s r x st b by dl way) ∙ eight_whole m.buffers (sound_fits s r.sound h).few_buffers))
        (places_after s r (split_step b) ev s' e _ [] m.buffers came.counts
        (λ v. omega (arith, split_counts_lem s r s' d idx fs c share f (get_or b 18 0) (get_or b 19 0) even e v)) (λ v. omega arith))

    -- no branch dies
    cover : (v : ℕ) → T (is_some (puts s.branches (change s (split_step b)).joins v)) → T (gone_branch s r (split_step b) ev s' e v) → T (has v [])
    unfolding change
    cover v o w = let z = died s r s' v o w in omega (arith, z.0, z.1, split_counts_lem s r s' d idx fs c share f (get_or b 18 0) (get_or b 19 0) even e v)

    hold_stands : HoldIs s'.branches s'.slots s'.inputs x.hold
    unfolding change
    hold_stands = hold_after s r (split_step b) ev s' e [] cover x.hold st.hold

    map_stands : MapIs (held s') (split_map x.tree x.counts x.map b)
    unfolding change split_map
    map_stands =
        map_after s r (split_step b) ev s' e [] cover (split_map x.tree x.counts x.map b) _
        came.gone_same
        (λ v o k. refl) (λ v o. r.sound.branch_unit v o)
        (map_same _ _ (split_map x.tree x.counts x.map b) (λ v o. sym (and_true _)) came.map)

    pub split_stands : Stands s' (record { tree = split_tree x.tree x.counts b; counts = split_counts x.tree x.counts b; hold = x.hold; map = split_map x.tree x.counts x.map b })
    split_stands = record { tree = tree_stands; counts = counts_stand; hold = hold_stands; map = map_stands }
