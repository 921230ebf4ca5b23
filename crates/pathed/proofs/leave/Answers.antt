use Rattle.std.proofs.Common.{List, ℕ, ◌∙◌, ap, set}
use Rattle.pathed.proofs.Answers.{left_tree, left_counts, left_map}
use Rattle.pathed.proofs.leave.Goals as goal

pub returns-clause-tree : goal.returns-clause-tree
returns-clause-tree c =
    let a = c.args in
    c.set_root.ensures
    ∙ ap (λ (l : List ℕ). set l 0 a.copied.top.0)
    (left_tree a.copied.spine a.t.0 a.h.0 a.counts.now _ _ _ c.let_go_eight.ensures.counts c.let_go.ensures.counts c.let_go-2.ensures.counts a.tree.now _ _ _ c.let_go_eight.ensures.tree c.let_go.ensures.tree c.let_go-2.ensures.tree)

pub returns-clause-counts : goal.returns-clause-counts
returns-clause-counts c =
    let a = c.args in left_counts a.copied.spine a.t.0 a.h.0 a.counts.now _ _ _ c.let_go_eight.ensures.counts c.let_go.ensures.counts c.let_go-2.ensures.counts

pub returns-clause-map : goal.returns-clause-map
returns-clause-map c =
    let a = c.args in
    left_map a.copied.spine a.t.0 a.h.0 a.counts.now _ _ _ c.let_go_eight.ensures.counts c.let_go.ensures.counts c.let_go-2.ensures.counts a.map.now _ _ _ c.let_go_eight.ensures.map c.let_go.ensures.map c.let_go-2.ensures.map
