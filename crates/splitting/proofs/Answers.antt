-- What the calls of a split's functions come to, told of variables. Assumes nothing.
use Rattle.std.specs.Prelude.{unwrap_or}
use mathlib.Core.Bool.{Bool, true, ◌&&◌}
use mathlib.Core.Path.{◌≡◌}
use mathlib.Core.List.{List, [], ◌∷◌, ◌++◌}
use Prim.Native.Nat.{ℕ, ◌-◌}
use lib.ListN.{length, get_or, set, take}
use Rattle.units.specs.Bodies.{indexes}
use Rattle.units.specs.declared.NodeUnit.{NodeUnit}
use Rattle.rules.specs.Tables.{slice}
use Rattle.rules.specs.Steps.{is_index, path_shape}
use Rattle.counting.specs.declared.Node.{Node}
use Rattle.counting.specs.Nodes.{put_node}
use Rattle.counting.specs.Change.{drop_trees, drop_counts, add_counts}
use Rattle.counting.specs.Places.{add_places}
use Rattle.shapes.specs.Shapes.{split_parent, left_of, right_of}
use Rattle.shapes.specs.Questions.{split_share_fits, room_for_child}
use Rattle.state.specs.Standing.{marks}
use Rattle.allocation.specs.Fresh.{fresh_in}
use Rattle.allocation.specs.Gains.{gains_fit}
use Rattle.allocation.specs.Going.{let_go_maps}
use Rattle.pathed.specs.declared.Ends.{Ends}
use Rattle.pathed.specs.declared.Copied.{Copied}
use Rattle.pathed.specs.Pathed.{ends_in, copied_from, copy_tree, going, target_unit, pathed_tree, pathed_counts, pathed_map}
use Rattle.splitting.specs.Split.{split_path, split_fresh, split_tests, split_units, split_tree, split_counts, split_map}

module _ (tree counts map b : List ℕ) (p q : List ℕ) (ends : Ends) (ep : p ≡ split_path b) (eq : q ≡ split_fresh b) (ee : ends ≡ ends_in tree p (get_or b 15 0)) where
  pub tests_are : (shape range small fresh fit : Bool)
      → shape ≡ (path_shape (get_or b 0 0) (slice 1 indexes b) (slice 8 indexes b) && is_index (get_or b 15 0))
      → range ≡ split_share_fits ends.below (get_or b 16 0) → small ≡ room_for_child ends.node
      → fresh ≡ fresh_in map (q ++ split_units b)
      → fit ≡ gains_fit counts (slice 0 (ends.below.buffer_number - 0) ends.below.buffers) []
      → shape ∷ true ∷ ends.leads_to ∷ range ∷ true ∷ small ∷ true ∷ fresh ∷ fit ∷ [] ≡ split_tests tree counts map b
  unfolding split_tests
  tests_are shape range small fresh fit e1 e2 e3 e4 e5 = rw (e1, e2, e3, e4, e5, ee, ep, eq)

  module _ (copied : Copied) (target : NodeUnit) (t1 t2 t3 t4 c1 c2 c3 c4 c5 m1 : List ℕ) (n1 n2 n3 : Node)
      (etarget : target ≡ unwrap_or ends.target (record { 0 = 0 }))
      (et1 : t1 ≡ copy_tree tree p q (get_or b 17 0))
      (ec1 : c1 ≡ add_counts counts (take (length p) q))
      (em1 : m1 ≡ marks (marks map q) (split_units b))
      (ecopied : copied ≡ copied_from tree p q (get_or b 17 0))
      (en1 : n1 ≡ split_parent ends.node (get_or b 15 0) (get_or b 18 0) (get_or b 19 0)) (en2 : n2 ≡ left_of ends.below (get_or b 16 0)) (en3 : n3 ≡ right_of ends.below (get_or b 16 0))
      (et2 : t2 ≡ put_node t1 (get_or b 17 0) n1) (et3 : t3 ≡ put_node t2 (get_or b 18 0) n2) (et4 : t4 ≡ put_node t3 (get_or b 19 0) n3)
      (ec2 : c2 ≡ set c1 (get_or b 17 0) 1) (ec3 : c3 ≡ set c2 (get_or b 18 0) 1) (ec4 : c4 ≡ set c3 (get_or b 19 0) 1) where
    pub tree_is : (t5 : List ℕ) → t5 ≡ set (drop_trees t4 c4 (going copied.spine target.0 ends.child.0)) 0 copied.top.0 → t5 ≡ split_tree tree counts b
    unfolding split_tree pathed_tree target_unit
    tree_is t5 et5 = rw (et5, et4, ec4, et3, ec3, et2, ec2, et1, ec1, en3, en2, en1, ecopied, etarget, ee, ep, eq)

    pub counts_are : (c6 : List ℕ) → c5 ≡ drop_counts c4 (going copied.spine target.0 ends.child.0)
        → c6 ≡ add_places c5 (slice 0 (ends.below.buffer_number - 0) ends.below.buffers) → c6 ≡ split_counts tree counts b
    unfolding split_counts pathed_counts target_unit
    counts_are c6 ec5 ec6 = rw (ec6, ec5, ec4, ec3, ec2, ec1, ecopied, etarget, ee, ep, eq)

    pub map_is : (m2 : List ℕ) → m2 ≡ let_go_maps m1 c4 (going copied.spine target.0 ends.child.0) → m2 ≡ split_map tree counts map b
    unfolding split_map pathed_map target_unit
    map_is m2 em2 = rw (em2, em1, ec4, ec3, ec2, ec1, ecopied, etarget, ee, ep, eq)
