-- A body that names a path and a child at the path's end, where a right store stands: its parts, its lines, and what an accepted step
-- of any such kind leaves. Assumes nothing.
use mathlib.Core.Bool.{Bool, true, ◌&&◌}
use mathlib.Core.Path.{◌≡◌, refl, ap, ◌∙◌}
use mathlib.Core.List.{List, [], ◌∷◌, ◌++◌}
use Prim.Native.Nat.{ℕ, ◌≤◌, ◌<◌}
use lib.Dec.{T}
use lib.ListN.{length, get_or, take}
use Rattle.units.specs.Limits.{last_unit}
use Rattle.units.specs.Bodies.{indexes}
use Rattle.ways.specs.Ways.{follow, spine, top}
use Rattle.ways.proofs.Tests.{T→eq, eq→T, and_l}
use Rattle.rules.specs.Tables.{slice}
use Rattle.rules.specs.Store.{Node, Store, node_at, children_of}
use Rattle.rules.specs.Steps.{accepted, decide, change, Step, copies, fresh, path_shape, is_index, leads, leads_to}
use Rattle.rules.specs.Right.{Right}
use Rattle.right.proofs.Steps.{Even}
use Rattle.records.specs.Rows.{AllBytes}
use Rattle.counting.specs.Nodes.{coded}
use Rattle.counting.proofs.Counts.{Low}
use Rattle.lines.specs.Lines.{Agree}
use Rattle.bodies.specs.Bodies.{used_part}
use Rattle.bodies.proofs.Bodies.{shape_low}
use Rattle.state.specs.Stands.{Arrays, Stands}
use Rattle.allocation.specs.Fresh.{fresh_in}
use Rattle.allocation.proofs.Fresh.{fresh_is}
use Rattle.pathed.specs.Pathed.{target_node, child_unit, child_node, leads_to_in}
use Rattle.pathed.proofs.PathEnd.{used_part_lem, used_low, leads_to_is, leads_first, target_node_lem, child_unit_lem, child_place, child_there, child_node_lem}
use Rattle.pathed.proofs.Accepted.{Came, came, low_append}

-- ---- the parts

-- depth, indexes, fresh units, those of both that the depth uses, and the child's place; the target and the child, each with its node
pub record Parts : Type 0 where
  pub d : ℕ
  pub idx : List ℕ
  pub fs : List ℕ
  pub p : List ℕ
  pub q : List ℕ
  pub c : ℕ
  pub t : ℕ
  pub n : Node
  pub h : ℕ
  pub m : Node

abbrev pub parts : Store → List ℕ → Parts
parts s b =
    let d : ℕ = get_or b 0 0 in
    let idx : List ℕ = slice 1 indexes b in
    let fs : List ℕ = slice 8 indexes b in
    let c : ℕ = get_or b 15 0 in
    let t : ℕ = follow (children_of s) (take d idx) s.root in
    let n : Node = node_at s t in
    let h : ℕ = get_or n.children c 0 in
    record { d = d; idx = idx; fs = fs; p = take d idx; q = take d fs; c = c; t = t; n = n; h = h; m = node_at s h }

module _ (s : Store) (r : Right s) (x : Arrays) (st : Stands s x) (b : List ℕ) (by : AllBytes b) where
  open parts s b use {d, idx, fs, p, q, c, t, n, h, m}

  pub depth : T (path_shape d idx fs && is_index c) → d ≤ indexes
  depth z = shape_low d idx fs (T→eq (path_shape d idx fs) (and_l (path_shape d idx fs) (is_index c) z))

  module _ (dl : d ≤ indexes) where
    path_is : used_part b 1 d ≡ p
    path_is = used_part_lem b by d 1 dl

    fresh_are : used_part b 8 d ≡ q
    fresh_are = used_part_lem b by d 8 dl

  -- ---- the path's end, as the arrays have it

  module _ (dl : d ≤ indexes) (way : T (leads_to s p c)) where
    leads_there : T (leads s p)
    leads_there = leads_first s r.sound x.tree st.tree p c way

    pub target_is : target_node x.tree (used_part b 1 d) ≡ coded n
    target_is = ap (target_node x.tree) (path_is dl) ∙ target_node_lem s r.sound x.tree st.tree p leads_there

    pub child_is : child_node x.tree (used_part b 1 d) c ≡ coded m
    child_is = ap (λ (l : List ℕ). child_node x.tree l c) (path_is dl) ∙ child_node_lem s r.sound x.tree st.tree p c way

    pub place : c < length n.children
    place = child_place s r.sound x.tree st.tree p c way

    unit_is : child_unit x.tree (used_part b 1 d) c ≡ h
    unit_is = ap (λ (l : List ℕ). child_unit x.tree l c) (path_is dl) ∙ child_unit_lem s r.sound x.tree st.tree p leads_there c

    child_low : h ≤ last_unit
    child_low = (r.sound.node_unit h (child_there s r.sound x.tree st.tree p c way)).1

  -- ---- the lines, each where those before it pass

  module _ (dl : d ≤ indexes) where
    line_path : leads_to_in x.tree (used_part b 1 d) c ≡ leads_to s p c
    line_path = ap (λ (l : List ℕ). leads_to_in x.tree l c) (path_is dl) ∙ leads_to_is s r.sound x.tree st.tree p c

    line_fresh : (us : List ℕ) → Low us → fresh_in x.map (used_part b 8 d ++ us) ≡ fresh s (q ++ us)
    line_fresh us low = ap (λ (l : List ℕ). fresh_in x.map (l ++ us)) (fresh_are dl) ∙ fresh_is s (q ++ us) x.map (low_append q us (used_low b by d 8) low) st.map

  pub lines_agree : (us : List ℕ) → Low us → (range range' small small' fits fits' : Bool)
      → (d ≤ indexes → T (leads_to s p c) → range ≡ range')
      → (d ≤ indexes → T (leads_to s p c) → range' ≡ true → small ≡ small')
      → (d ≤ indexes → T (leads_to s p c) → range' ≡ true → fresh s (q ++ us) ≡ true → fits ≡ fits')
      → Agree ((path_shape d idx fs && is_index c) ∷ true ∷ leads_to_in x.tree (used_part b 1 d) c ∷ range ∷ true ∷ small ∷ true ∷ fresh_in x.map (used_part b 8 d ++ us) ∷ fits ∷ [])
      ((path_shape d idx fs && is_index c) ∷ true ∷ leads_to s p c ∷ range' ∷ true ∷ small' ∷ true ∷ fresh s (q ++ us) ∷ fits' ∷ [])
  lines_agree us low range range' small small' fits fits' er es ef =
      let deep : (path_shape d idx fs && is_index c) ≡ true → d ≤ indexes = λ z. depth (eq→T (path_shape d idx fs && is_index c) z) in (
        refl,
        λ h4. (
          refl,
          λ h5. (
            line_path (deep h4),
            λ h6. (
              er (deep h4) (eq→T (leads_to s p c) h6),
              λ h7. (
                refl,
                λ h8. (
                  es (deep h4) (eq→T (leads_to s p c) h6) h7,
                  λ h9. (
                    refl,
                    λ h10. (
                      line_fresh (deep h4) us low,
                      λ h11. (ef (deep h4) (eq→T (leads_to s p c) h6) h7 h11, λ h12. tt),
                    ),
                  ),
                ),
              ),
            ),
          ),
        ),
      )

  -- ---- an accepted step: es come besides the copies, the target and the child go besides the path

  module _ (dl : d ≤ indexes) (way : T (leads_to s p c)) (k : Step) (ev : Even k) (s' : Store) (e : decide s (change s k) ≡ accepted s') (f : ℕ) (es : List (ℕ × Node))
      (even : length q ≡ length p)
      (adds-are : (change s k).adds ≡ copies s p q s.root f ++ es)
      (drops-are : (change s k).drops ≡ spine (children_of s) p s.root ++ (t ∷ h ∷ []))
      (root_is : (change s k).root ≡ top q f) where
    pub path_came : Came s s' x k f es (used_part b 1 d) (used_part b 8 d) (child_unit x.tree (used_part b 1 d) c)
    path_came =
        rw (used_part_lem b by d 8 dl, unit_is dl way, path_is dl)
        (came s r k ev s' e x st p q f es h (h ∷ []) (leads_there dl way) even adds-are drops-are root_is (child_low dl way) (λ v o. refl) (λ v o. refl))
