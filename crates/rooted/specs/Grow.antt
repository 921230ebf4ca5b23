-- Kind 5, grow, on lists: its tests, and what it makes of the tree. Assumes nothing.
use Rattle.std.specs.Prelude.{Bool, true, not, List, [], ◌∷◌, ℕ, ◌-◌, eqb, get_or, set}
use Rattle.units.specs.Limits.{longest}
use Rattle.ways.specs.Ways.{sums, deep}
use Rattle.rules.specs.Store.{root_list}
use Rattle.counting.specs.Nodes.{put_node, coded}
use Rattle.counting.specs.Graph.{children_in}
use Rattle.allocation.specs.Fresh.{fresh_in}
use Rattle.shapes.specs.Ends.{over_root}

-- some way down has `longest` nodes
abbrev pub full_in : List ℕ → Bool
full_in tree = not (eqb (sums (deep (children_in tree) (longest - 1)) (root_list (get_or tree 0 0))) 0)

unfoldable pub grow_tests : List ℕ → List ℕ → ℕ → List Bool
grow_tests tree map r = true ∷ true ∷ true ∷ true ∷ true ∷ true ∷ not (full_in tree) ∷ fresh_in map (r ∷ []) ∷ true ∷ []

unfoldable pub grow_tree : List ℕ → ℕ → List ℕ
grow_tree tree r = set (put_node tree r (coded (over_root (get_or tree 0 0)))) 0 r
