-- What the calls of a flush's functions come to, told of variables. Assumes nothing.
use Rattle.std.specs.Prelude.{unwrap_or}
use mathlib.Core.Bool.{Bool, true, ◌&&◌}
use mathlib.Core.Path.{◌≡◌}
use mathlib.Core.List.{List, [], ◌∷◌, ◌++◌}
use Prim.Native.Nat.{ℕ, ◌-◌}
use lib.ListN.{length, get_or, set, take}
use Rattle.units.specs.Bodies.{indexes}
use Rattle.units.specs.declared.NodeUnit.{NodeUnit}
use Rattle.rules.specs.Tables.{slice}
use Rattle.rules.specs.Steps.{is_index, path_shape}
use Rattle.counting.specs.declared.Node.{Node}
use Rattle.counting.specs.Nodes.{put_node}
use Rattle.counting.specs.Change.{drop_trees, drop_counts, add_counts}
use Rattle.counting.specs.Places.{add_places, drop_places}
use Rattle.shapes.specs.Shapes.{flush_parent, flush_child}
use Rattle.shapes.specs.Questions.{gc_fits, flush_room}
use Rattle.state.specs.Standing.{marks}
use Rattle.allocation.specs.Fresh.{fresh_in}
use Rattle.allocation.specs.Gains.{gains_fit}
use Rattle.allocation.specs.Going.{let_go_maps}
use Rattle.allocation.specs.Sweep.{sweep_hold, sweep_map}
use Rattle.pathed.specs.declared.Ends.{Ends}
use Rattle.pathed.specs.declared.Copied.{Copied}
use Rattle.pathed.specs.Pathed.{ends_in, copied_from, copy_tree, going, target_unit, pathed_tree, pathed_counts, pathed_map}
use Rattle.flushing.specs.Flush.{flush_path, flush_fresh, flush_tests, flush_units, flush_tree, flush_counts, flush_hold, flush_map}

module _ (tree counts map b : List ℕ) (p q : List ℕ) (ends : Ends) (offset : ℕ) (ep : p ≡ flush_path b) (eq : q ≡ flush_fresh b) (ee : ends ≡ ends_in tree p (get_or b 15 0))
    (eo : offset ≡ get_or ends.node.offsets (get_or b 15 0) 0) where
  pub tests_are : (shape range small fresh fit : Bool)
      → shape ≡ (path_shape (get_or b 0 0) (slice 1 indexes b) (slice 8 indexes b) && is_index (get_or b 15 0))
      → range ≡ gc_fits ends.node (get_or b 15 0) (get_or b 16 0) → small ≡ flush_room ends.node ends.below (get_or b 15 0)
      → fresh ≡ fresh_in map (q ++ flush_units b)
      → fit ≡ gains_fit counts (slice offset (ends.node.buffer_number - offset) ends.node.buffers) (slice 0 (get_or b 16 0 - 0) ends.node.buffers)
      → shape ∷ true ∷ ends.leads_to ∷ range ∷ true ∷ small ∷ true ∷ fresh ∷ fit ∷ [] ≡ flush_tests tree counts map b
  unfolding flush_tests
  tests_are shape range small fresh fit e1 e2 e3 e4 e5 = rw (e1, e2, e3, e4, e5, eo, ee, ep, eq)

  module _ (copied : Copied) (target : NodeUnit) (t1 t2 t3 c1 c2 c3 m1 : List ℕ) (n1 n2 : Node)
      (etarget : target ≡ unwrap_or ends.target (record { 0 = 0 }))
      (et1 : t1 ≡ copy_tree tree p q (get_or b 17 0))
      (ec1 : c1 ≡ add_counts counts (take (length p) q))
      (em1 : m1 ≡ marks (marks map q) (flush_units b))
      (ecopied : copied ≡ copied_from tree p q (get_or b 17 0))
      (en1 : n1 ≡ flush_parent ends.node (get_or b 15 0) (get_or b 16 0) (get_or b 18 0)) (en2 : n2 ≡ flush_child ends.node ends.below (get_or b 15 0))
      (et2 : t2 ≡ put_node t1 (get_or b 17 0) n1) (et3 : t3 ≡ put_node t2 (get_or b 18 0) n2)
      (ec2 : c2 ≡ set c1 (get_or b 17 0) 1) (ec3 : c3 ≡ set c2 (get_or b 18 0) 1) where
    pub tree_is : (t5 : List ℕ) → t5 ≡ set (drop_trees t3 c3 (going copied.spine target.0 ends.child.0)) 0 copied.top.0 → t5 ≡ flush_tree tree counts b
    unfolding flush_tree pathed_tree target_unit
    tree_is t5 et5 = rw (et5, et3, ec3, et2, ec2, et1, ec1, en2, en1, ecopied, etarget, ee, ep, eq)

    module _ (c4 c5 c6 : List ℕ) (ec4 : c4 ≡ drop_counts c3 (going copied.spine target.0 ends.child.0))
        (ec5 : c5 ≡ drop_places c4 (slice 0 (get_or b 16 0 - 0) ends.node.buffers))
        (ec6 : c6 ≡ add_places c5 (slice offset (ends.node.buffer_number - offset) ends.node.buffers)) where
      pub counts_are : c6 ≡ flush_counts tree counts b
      unfolding flush_counts pathed_counts target_unit
      counts_are = rw (ec6, ec5, ec4, ec3, ec2, ec1, ecopied, etarget, eo, ee, ep, eq)

      pub hold_is : (hold hold' : List ℕ) → hold' ≡ sweep_hold c6 hold ends.node.buffers → hold' ≡ flush_hold tree counts hold b
      unfolding flush_hold
      hold_is hold hold' eh = rw (eh, counts_are, ee, ep)

      pub map_is : (hold m2 m3 : List ℕ) → m2 ≡ let_go_maps m1 c3 (going copied.spine target.0 ends.child.0) → m3 ≡ sweep_map c6 hold m2 ends.node.buffers
          → m3 ≡ flush_map tree counts hold map b
      unfolding flush_map pathed_map target_unit
      map_is hold m2 m3 em2 em3 = rw (em3, counts_are, em2, em1, ec3, ec2, ec1, ecopied, etarget, ee, ep, eq)
