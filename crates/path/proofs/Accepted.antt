-- What an accepted step leaves of the tree where the new nodes are written first, with one way each, then the old ones lose theirs,
-- and the root is set last: the next store's nodes stand there, and the counts are its ways. Assumes nothing.
use mathlib.Core.Bool.{cond}
use mathlib.Core.Path.{◌≡◌, refl, ap, ◌∙◌}
use mathlib.Core.List.{List, [], ◌∷◌, ◌++◌}
use mathlib.Core.Option.{Option, none}
use Prim.Native.Nat.{ℕ, ◌-◌, ◌≤◌}
use native.Mathlib.Omega.{arith}
use lib.ListN.{length, get_or, set}
use Rattle.units.specs.Limits.{last_unit}
use Rattle.ways.specs.Ways.{has, gone}
use Rattle.rules.specs.Tables.{times, or_else, put, puts, keys}
use Rattle.rules.specs.Store.{Node, Store, blank, ways}
use Rattle.rules.specs.Steps.{accepted, decide, Step, change}
use Rattle.rules.specs.Right.{Right}
use Rattle.right.proofs.Steps.{Even}
use Rattle.right.proofs.After.{ways_end, node_end}
use Rattle.counting.specs.Change.{drop_trees, drop_counts, add_trees, add_counts}
use Rattle.counting.proofs.Counts.{drops_count}
use Rattle.path.specs.Standing.{TreeIs}
use Rattle.path.proofs.Trees.{tree_adds, tree_drops, tree_root, tree_within}

-- ---- the new nodes at a path's end come after its copies

puts_append : (es fs : List (ℕ × Node)) (t : ℕ → Option Node) → puts t (es ++ fs) ≡ puts (puts t es) fs
puts_append [] fs t = refl
puts_append (e ∷ es) fs t = puts_append es fs (put t e)

pub tree_ends : {r : ℕ} (t : ℕ → Option Node) (es : List (ℕ × Node)) {tree : List ℕ} → TreeIs r (puts t es) tree → (fs : List (ℕ × Node)) → TreeIs r (puts t (es ++ fs)) (add_trees tree fs)
tree_ends t es st fs = rw (puts_append es fs t) (tree_adds st fs)

pub counts_ends : (us vs counts : List ℕ) → add_counts counts (us ++ vs) ≡ add_counts (add_counts counts us) vs
counts_ends [] vs counts = refl
counts_ends (u ∷ us) vs counts = counts_ends us vs (set counts u 1)

-- ---- an accepted step

module _ (s : Store) (r : Right s) (m : Step) (ev : Even m) (s' : Store) (e : decide s (change s m) ≡ accepted s') where
  -- counts: with the new nodes', before the old ones lose theirs
  module _ (counts : List ℕ) (long : length counts ≡ 512) (at : (v : ℕ) → v ≤ last_unit → get_or counts v 0 ≡ cond (has v (keys (change s m).adds)) 1 (ways s v)) where
    pub tree_after : {x : ℕ} {tree : List ℕ} → TreeIs x (puts s.nodes (change s m).adds) tree
        → TreeIs s'.root s'.nodes (set (drop_trees tree counts (change s m).drops) 0 s'.root)
    tree_after st =
        tree_root
        (tree_within (tree_drops st counts (change s m).drops long)
        (λ v p q.
        ap (or_else blank)
        (ap (λ (c : ℕ). cond (gone c (change s m).drops v) none (puts s.nodes (change s m).adds v)) (at v q) ∙ node_end s r m ev s' e v)))
        s'.root

    pub ways_after : (v : ℕ) → v ≤ last_unit → get_or (drop_counts counts (change s m).drops) v 0 ≡ ways s' v
    ways_after v q =
        drops_count (change s m).drops counts v (omega arith)
        ∙ ap (λ (c : ℕ). c - times v (change s m).drops) (at v q)
        ∙ ways_end s r m ev s' e v
