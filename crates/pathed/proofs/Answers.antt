-- What the calls of a function come to, told of variables: the path's end, fresh units in two lists, ways that go in parts.
-- Assumes nothing.
use Rattle.std.specs.Prelude.{Option}
use mathlib.Core.Bool.{Bool, true, false, ◌&&◌}
use mathlib.Core.Path.{◌≡◌, refl, sym, ap, ◌∙◌}
use mathlib.Core.List.{List, [], ◌∷◌, ◌++◌}
use Prim.Native.Nat.{ℕ}
use lib.Dec.{ltb}
use lib.ListN.{length, get_or}
use Rattle.units.specs.declared.NodeUnit.{NodeUnit}
use Rattle.counting.specs.declared.Node.{Node}
use Rattle.counting.specs.Nodes.{node_in}
use Rattle.counting.specs.Change.{drop_tree, drop_count, drop_trees, drop_counts}
use Rattle.path.specs.Graph.{named}
use Rattle.bodies.specs.Bodies.{target_in, unit_of, is_found}
use Rattle.state.specs.Standing.{marks}
use Rattle.allocation.specs.Going.{let_go_map, let_go_maps}
use Rattle.allocation.specs.Fresh.{fresh_in, fresh_marks}
use Rattle.allocation.proofs.Fresh.{fresh_append, fresh_marks_lem}
use Rattle.pathed.specs.Pathed.{target_unit, target_node, child_unit, child_node, leads_in, leads_to_in, ends_in, going}

-- ---- the path's end

module _ (tree p : List ℕ) (c : ℕ) (f : Option NodeUnit) (h : NodeUnit) (lt : Bool) (n m : Node) where
  pub ends_are : f ≡ target_in tree p → n ≡ node_in tree (unit_of f) → h.0 ≡ get_or n.children c 0 → m ≡ node_in tree h.0
      → lt ≡ (is_found f && ltb c (length (named n))) → record { target = f; leads_to = lt; node = n; child = h; below = m } ≡ ends_in tree p c
  unfolding target_unit target_node child_unit child_node leads_in leads_to_in
  ends_are ef en eh em elt =
      let q : record { target = f; leads_to = lt; node = n; child = record { 0 = h.0 }; below = m } ≡ ends_in tree p c = rw (elt, em, eh, en, ef) refl in q

-- ---- fresh units in two lists

module _ (m us vs : List ℕ) (a : Bool) (ea : a ≡ fresh_in m us) where
  pub fresh_both : a ≡ true → (seen : List ℕ) (b : Bool) → seen ≡ fresh_marks m us → b ≡ fresh_in seen vs → b ≡ fresh_in m (us ++ vs)
  fresh_both t seen b es eb =
      eb ∙ ap (λ (l : List ℕ). fresh_in l vs) (es ∙ fresh_marks_lem us m (sym ea ∙ t))
      ∙ sym (fresh_append us vs m ∙ ap (λ (x : Bool). x && fresh_in (marks m us) vs) (sym ea ∙ t))

  pub fresh_not : a ≡ false → false ≡ fresh_in m (us ++ vs)
  fresh_not z = sym (fresh_append us vs m ∙ ap (λ (x : Bool). x && fresh_in (marks m us) vs) (sym ea ∙ z))

-- ---- ways that go, in parts

drop_trees_lem : (us vs tree counts : List ℕ) → drop_trees tree counts (us ++ vs) ≡ drop_trees (drop_trees tree counts us) (drop_counts counts us) vs
drop_trees_lem [] vs tree counts = refl
drop_trees_lem (u ∷ us) vs tree counts = drop_trees_lem us vs (drop_tree tree counts u) (drop_count counts u)

drop_counts_lem : (us vs counts : List ℕ) → drop_counts counts (us ++ vs) ≡ drop_counts (drop_counts counts us) vs
drop_counts_lem [] vs counts = refl
drop_counts_lem (u ∷ us) vs counts = drop_counts_lem us vs (drop_count counts u)

let_go_maps_lem : (us vs map counts : List ℕ) → let_go_maps map counts (us ++ vs) ≡ let_go_maps (let_go_maps map counts us) (drop_counts counts us) vs
let_go_maps_lem [] vs map counts = refl
let_go_maps_lem (u ∷ us) vs map counts = let_go_maps_lem us vs (let_go_map map counts u) (drop_count counts u)

module _ (ws : List ℕ) (t h : ℕ) (counts counts1 counts2 counts3 : List ℕ) (c1 : counts1 ≡ drop_counts counts ws) (c2 : counts2 ≡ drop_count counts1 t) (c3 : counts3 ≡ drop_count counts2 h) where
  pub left_counts : counts3 ≡ drop_counts counts (going ws t h)
  left_counts = rw (c3, c2, c1) (sym (drop_counts_lem ws (t ∷ h ∷ []) counts))

  pub left_tree : (tree tree1 tree2 tree3 : List ℕ) → tree1 ≡ drop_trees tree counts ws → tree2 ≡ drop_tree tree1 counts1 t → tree3 ≡ drop_tree tree2 counts2 h
      → tree3 ≡ drop_trees tree counts (going ws t h)
  left_tree tree tree1 tree2 tree3 e1 e2 e3 = rw (e3, c2, e2, c1, e1) (sym (drop_trees_lem ws (t ∷ h ∷ []) tree counts))

  pub left_map : (map map1 map2 map3 : List ℕ) → map1 ≡ let_go_maps map counts ws → map2 ≡ let_go_map map1 counts1 t → map3 ≡ let_go_map map2 counts2 h
      → map3 ≡ let_go_maps map counts (going ws t h)
  left_map map map1 map2 map3 e1 e2 e3 = rw (e3, c2, e2, c1, e1) (sym (let_go_maps_lem ws (t ∷ h ∷ []) map counts))
