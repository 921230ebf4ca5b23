-- Laws of rooted for loops and answers that src/ no longer has. Assumes nothing.
use mathlib.Core.Path.{◌≡◌}
use mathlib.Core.List.{List}
use Prim.Native.Nat.{ℕ}
use lib.ListN.{get_or, set}
use Rattle.held_map.specs.Map.{mark}
use Rattle.counting.specs.declared.Node.{Node}
use Rattle.counting.specs.Nodes.{put_node, coded}
use Rattle.counting.specs.Change.{drop_tree, drop_count}
use Rattle.counting.specs.Places.{add_place}
use Rattle.allocation.specs.Going.{let_go_map}
use Rattle.shapes.specs.Ends.{over_root}
use Rattle.shapes.specs.Shapes.{with_buffer}
use Rattle.rooted.specs.Memtable.{root_node_in, first_in, memtable_tree, memtable_counts, memtable_map}
use Rattle.rooted.specs.Grow.{grow_tree}

pub memtable_tree_lem : (tree counts hold : List ℕ) (k u : ℕ) {b old : ℕ} {n new : Node} {t1 c1 t2 t3 : List ℕ}
    → b ≡ first_in hold k → old ≡ get_or tree 0 0 → n ≡ root_node_in tree → new ≡ with_buffer n b → t1 ≡ put_node tree u new → c1 ≡ set counts u 1
    → t2 ≡ drop_tree t1 c1 old → t3 ≡ set t2 0 u → t3 ≡ memtable_tree tree counts hold k u
unfolding memtable_tree
memtable_tree_lem tree counts hold k u eb eo en ew et ec ed es = rw (es, ed, et, ec, ew, en, eo, eb)

pub memtable_counts_lem : (tree counts hold : List ℕ) (k u : ℕ) {b old : ℕ} {c1 c2 c3 : List ℕ}
    → b ≡ first_in hold k → old ≡ get_or tree 0 0 → c1 ≡ set counts u 1 → c2 ≡ drop_count c1 old → c3 ≡ add_place c2 b → c3 ≡ memtable_counts tree counts hold k u
unfolding memtable_counts
memtable_counts_lem tree counts hold k u eb eo ec ed ep = rw (ep, ed, ec, eo, eb)

pub memtable_map_lem : (tree counts map : List ℕ) (u : ℕ) {old : ℕ} {c1 m1 m2 : List ℕ}
    → old ≡ get_or tree 0 0 → c1 ≡ set counts u 1 → m1 ≡ mark map u → m2 ≡ let_go_map m1 c1 old → m2 ≡ memtable_map tree counts map u
unfolding memtable_map
memtable_map_lem tree counts map u eo ec em ed = rw (ed, em, ec, eo)

pub grow_tree_lem : (tree : List ℕ) (u : ℕ) {old : ℕ} {new : Node} {t1 t2 : List ℕ}
    → old ≡ get_or tree 0 0 → new ≡ coded (over_root old) → t1 ≡ put_node tree u new → t2 ≡ set t1 0 u → t2 ≡ grow_tree tree u
unfolding grow_tree
grow_tree_lem tree u eo en et es = rw (es, et, en, eo)
