-- What a step that copies a path reads and leaves, on lists: the target and the child at the path's end; the tree, the counts and the
-- map after the copies and the new nodes have come, the old ones have lost a way each, and the root is the topmost copy. Assumes nothing.
use Rattle.std.specs.Prelude.{Bool, ◌&&◌, List, [], ◌∷◌, ◌++◌, ℕ, ltb, length, get_or, set, take}
use Rattle.units.specs.Bodies.{indexes}
use Rattle.ways.specs.Ways.{spine}
use Rattle.rules.specs.Tables.{keys}
use Rattle.records.specs.Rows.{eight}
use Rattle.counting.specs.declared.Node.{Node}
use Rattle.counting.specs.Nodes.{node_in, put_node}
use Rattle.counting.specs.Change.{drop_trees, drop_counts, add_counts}
use Rattle.path.specs.Graph.{named, eight_in, top_of, copied_tree}
use Rattle.bodies.specs.Bodies.{target_in, unit_of, is_found}
use Rattle.allocation.specs.Going.{let_go_maps}
use Rattle.state.specs.Standing.{marks}
use Rattle.pathed.specs.declared.Ends.{Ends}
use Rattle.pathed.specs.declared.Copied.{Copied}

-- ---- the path's end

unfoldable pub target_unit : List ℕ → List ℕ → ℕ
target_unit tree p = unit_of (target_in tree p)

unfoldable pub target_node : List ℕ → List ℕ → Node
target_node tree p = node_in tree (target_unit tree p)

unfoldable pub child_unit : List ℕ → List ℕ → ℕ → ℕ
child_unit tree p c = get_or (target_node tree p).children c 0

unfoldable pub child_node : List ℕ → List ℕ → ℕ → Node
child_node tree p c = node_in tree (child_unit tree p c)

unfoldable pub leads_in : List ℕ → List ℕ → Bool
leads_in tree p = is_found (target_in tree p)

unfoldable pub leads_to_in : List ℕ → List ℕ → ℕ → Bool
leads_to_in tree p c = leads_in tree p && ltb c (length (named (target_node tree p)))

abbrev pub ends_in : List ℕ → List ℕ → ℕ → Ends
ends_in tree p c = record {
  target = target_in tree p;
  leads_to = leads_to_in tree p c;
  node = target_node tree p;
  child = record { 0 = child_unit tree p c };
  below = child_node tree p c;
}

-- ---- nodes that come

-- the nodes on the path, root first, zeros after them
unfoldable pub spine_in : List ℕ → List ℕ → List ℕ
spine_in tree p = eight (spine (eight_in tree) (take indexes p) (get_or tree 0 0))

abbrev pub copied_from : List ℕ → List ℕ → List ℕ → ℕ → Copied
copied_from tree p q f = record { spine = spine_in tree p; top = record { 0 = top_of p q f } }

unfoldable pub copy_tree : List ℕ → List ℕ → List ℕ → ℕ → List ℕ
copy_tree tree p q f = copied_tree tree p q (get_or tree 0 0) f

abbrev pub put_nodes : List ℕ → List (ℕ × Node) → List ℕ
put_nodes tree [] = tree
put_nodes tree (e ∷ es) = put_nodes (put_node tree e.0 e.1) es

-- the counts with one way to each copy and each new node
abbrev pub come_counts : List ℕ → List ℕ → List ℕ → List ℕ → List ℕ
come_counts counts p q us = add_counts (add_counts counts (take (length p) q)) us

-- ---- ways that go

-- the nodes on the path, the target and the child, 0 for none
abbrev pub going : List ℕ → ℕ → ℕ → List ℕ
going ws t h = ws ++ (t ∷ h ∷ [])

-- ---- the whole: p and q the used indexes and fresh units, f stands for the target, es come besides, h goes besides

abbrev pub going_in : List ℕ → List ℕ → ℕ → List ℕ
going_in tree p h = going (spine_in tree p) (target_unit tree p) h

unfoldable pub pathed_tree : List ℕ → List ℕ → List ℕ → List ℕ → ℕ → List (ℕ × Node) → ℕ → List ℕ
pathed_tree tree counts p q f es h =
    set (drop_trees (put_nodes (copy_tree tree p q f) es) (come_counts counts p q (keys es)) (going_in tree p h)) 0 (top_of p q f)

unfoldable pub pathed_counts : List ℕ → List ℕ → List ℕ → List ℕ → List ℕ → ℕ → List ℕ
pathed_counts tree counts p q us h = drop_counts (come_counts counts p q us) (going_in tree p h)

unfoldable pub pathed_map : List ℕ → List ℕ → List ℕ → List ℕ → List ℕ → List ℕ → ℕ → List ℕ
pathed_map tree counts map p q us h = let_go_maps (marks (marks map q) us) (come_counts counts p q us) (going_in tree p h)
