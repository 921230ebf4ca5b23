use Rattle.path.proofs.Walks.{copied_end, copied_short, copied_turn, top_end, top_short, top_turn, counts_turn}
use Rattle.path.proofs.+copy_path.Goals as goal

pub returns-in_default-clause-tree : goal.returns-in_default-clause-tree
returns-in_default-clause-tree t c = copied_end _ _ _ _ _ c.in_default.ensures.cases

pub returns-in_default-clause-unit : goal.returns-in_default-clause-unit
returns-in_default-clause-unit t c = top_end _ _ _ c.in_default.ensures.cases

pub returns-in_default-split_first-clause-tree : goal.returns-in_default-split_first-clause-tree
returns-in_default-split_first-clause-tree t c = copied_short _ _ _ _ _ c.in_default-split_first.ensures.cases

pub returns-in_default-split_first-clause-unit : goal.returns-in_default-split_first-clause-unit
returns-in_default-split_first-clause-unit t c = top_short _ _ _ c.in_default-split_first.ensures.cases

pub returns-clause-tree : goal.returns-clause-tree
returns-clause-tree t c =
    copied_turn _ _ _ _ _ _ c.in-Some.ensures.cases.0 c.in-Some-split_first.ensures.cases.0 _ _ _ _ _ _ _ _ _ c.read_node-n.ensures
    c.child_at-child.ensures c.copy_path-below.ensures.tree c.copy_path-below.ensures.unit c.with_child.ensures c.add_node.ensures.tree

pub returns-clause-counts : goal.returns-clause-counts
returns-clause-counts t c =
    counts_turn _ _ _ _ _ _ c.in-Some.ensures.cases.0 c.in-Some-split_first.ensures.cases.0 _ _ _ c.copy_path-below.ensures.counts
    c.add_node.ensures.counts

pub returns-clause-unit : goal.returns-clause-unit
returns-clause-unit t c = top_turn _ _ _ _ _ _ c.in-Some.ensures.cases.0 c.in-Some-split_first.ensures.cases.0 _
