-- The graph that stands in the bytes of the tree, a path down it, and the copy of a path. Assumes nothing.
use Rattle.std.specs.Prelude.{Bool, cond, Option, Some, None, List, [], ◌∷◌, ℕ, ◌+◌, ◌*◌, get_or, set, take}
use Rattle.units.specs.declared.NodeUnit.{NodeUnit}
use Rattle.ways.specs.Ways.{follow}
use Rattle.rules.specs.Steps.{valid}
use Rattle.records.specs.Rows.{eight_at}
use Rattle.counting.specs.declared.Node.{Node}
use Rattle.counting.specs.Nodes.{stride, node_in, put_node}

-- ---- a node's children

-- those that its number says; a number over eight says eight
abbrev pub named : Node → List ℕ
named n = take n.child_number n.children

-- another child in place i
abbrev pub with_child : Node → ℕ → ℕ → Node
with_child n i c = record { buffer_number = n.buffer_number; buffers = n.buffers; child_number = n.child_number; children = set n.children i c; offsets = n.offsets }

-- ---- the graph

-- the eight places of the children
unfoldable pub eight_in : List ℕ → ℕ → List ℕ
eight_in l u = eight_at l (u * stride + 10)

-- the children: a number over eight says eight
unfoldable pub children_in : List ℕ → ℕ → List ℕ
children_in l u = take (get_or l (u * stride + 9) 0) (eight_in l u)

-- ---- a path

abbrev pub found : Bool → ℕ → Option NodeUnit
found b u = cond b (Some (record { 0 = u })) None

unfoldable pub found_in : List ℕ → List ℕ → ℕ → Option NodeUnit
found_in l p u = found (valid (children_in l) p u) (follow (children_in l) p u)

-- ---- the copy of a path

-- the topmost copy, or what stands for the target where there is none
unfoldable pub top_of : List ℕ → List ℕ → ℕ → ℕ
top_of [] fs t = t
top_of (i ∷ p) [] t = t
top_of (i ∷ p) (f ∷ fs) t = f

-- the copies fs of the nodes on the path p from u, each naming the one below, the last naming t
unfoldable pub copied_tree : List ℕ → List ℕ → List ℕ → ℕ → ℕ → List ℕ
copied_tree l [] fs u t = l
copied_tree l (i ∷ p) [] u t = l
copied_tree l (i ∷ p) (f ∷ fs) u t =
    put_node (copied_tree l p fs (get_or (eight_in l u) i 0) t) f (with_child (node_in l u) i (top_of p fs t))
