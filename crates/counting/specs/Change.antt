-- What every change of the tree is made of, on lists: a way to a node goes, and the node with its last way; a node comes, with one way
-- to it. Assumes nothing.
use Rattle.std.specs.Prelude.{Bool, cond, List, [], ◌∷◌, ℕ, ◌-◌, leb, get_or, set}
use Rattle.counting.specs.Nodes.{put_node, coded, blank_node}

-- f for each member, one after the other
abbrev pub each : (List ℕ → ℕ → List ℕ) → List ℕ → List ℕ → List ℕ
each f l [] = l
each f l (x ∷ xs) = each f (f l x) xs

unfoldable pub last_way : List ℕ → ℕ → Bool
last_way counts u = leb (get_or counts u 0) 1

unfoldable pub blanked_if : Bool → List ℕ → ℕ → List ℕ
blanked_if last tree u = cond last (put_node tree u blank_node) tree

abbrev pub drop_tree : List ℕ → List ℕ → ℕ → List ℕ
drop_tree tree counts u = blanked_if (last_way counts u) tree u

unfoldable pub drop_count : List ℕ → ℕ → List ℕ
drop_count counts u = set counts u (get_or counts u 0 - 1)

-- ---- a list of ways that go, a list of nodes that come

abbrev pub drop_trees : List ℕ → List ℕ → List ℕ → List ℕ
drop_trees tree counts [] = tree
drop_trees tree counts (u ∷ us) = drop_trees (drop_tree tree counts u) (drop_count counts u) us

abbrev pub drop_counts : List ℕ → List ℕ → List ℕ
drop_counts counts us = each drop_count counts us

abbrev pub add_trees : List ℕ → List (ℕ × Rattle.rules.specs.Store.Node) → List ℕ
add_trees tree [] = tree
add_trees tree (e ∷ es) = add_trees (put_node tree e.0 (coded e.1)) es

-- by their units
abbrev pub add_counts : List ℕ → List ℕ → List ℕ
add_counts counts us = each (λ (l : List ℕ) (u : ℕ). set l u 1) counts us
