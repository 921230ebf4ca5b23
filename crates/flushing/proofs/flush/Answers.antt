use Rattle.std.proofs.Common.{rules}
use Rattle.flushing.proofs.Answers.{tree_is, counts_are, hold_is, map_is}
use Rattle.flushing.proofs.flush.Goals as goal

pub returns-clause-tree : goal.returns-clause-tree
returns-clause-tree c =
    tree_is _ _ _ _ _ _ _ _ c.path_of-path.ensures.indexes c.path_of-path.ensures.fresh c.ends_of-ends.ensures c.offset_of-offset.ensures
    _ c.unwrap_or_default-target.result _ _ _ _ _ _ _ _ _
    (search rules) c.copy-copied.ensures.tree c.copy-copied.ensures.counts c.copy-copied.ensures.map c.copy-copied.ensures.copied
    c.flush_parent.ensures c.flush_child.ensures
    c.add_node.ensures.tree c.add_node-2.ensures.tree c.add_node.ensures.counts c.add_node-2.ensures.counts
    _ c.leave.ensures.tree

pub returns-clause-counts : goal.returns-clause-counts
returns-clause-counts c =
    counts_are _ _ _ _ _ _ _ _ c.path_of-path.ensures.indexes c.path_of-path.ensures.fresh c.ends_of-ends.ensures c.offset_of-offset.ensures
    _ c.unwrap_or_default-target.result _ _ _ _ _ _ _ _ _
    (search rules) c.copy-copied.ensures.tree c.copy-copied.ensures.counts c.copy-copied.ensures.map c.copy-copied.ensures.copied
    c.flush_parent.ensures c.flush_child.ensures
    c.add_node.ensures.tree c.add_node-2.ensures.tree c.add_node.ensures.counts c.add_node-2.ensures.counts
    _ _ _ c.leave.ensures.counts (rw c.part.ensures at c.drop_places.ensures) (rw c.part-2.ensures at c.add_places.ensures)

pub returns-clause-hold : goal.returns-clause-hold
returns-clause-hold c =
    hold_is _ _ _ _ _ _ _ _ c.path_of-path.ensures.indexes c.path_of-path.ensures.fresh c.ends_of-ends.ensures c.offset_of-offset.ensures
    _ c.unwrap_or_default-target.result _ _ _ _ _ _ _ _ _
    (search rules) c.copy-copied.ensures.tree c.copy-copied.ensures.counts c.copy-copied.ensures.map c.copy-copied.ensures.copied
    c.flush_parent.ensures c.flush_child.ensures
    c.add_node.ensures.tree c.add_node-2.ensures.tree c.add_node.ensures.counts c.add_node-2.ensures.counts
    _ _ _ c.leave.ensures.counts (rw c.part.ensures at c.drop_places.ensures) (rw c.part-2.ensures at c.add_places.ensures) _ _ c.sweep.ensures.hold

pub returns-clause-map : goal.returns-clause-map
returns-clause-map c =
    map_is _ _ _ _ _ _ _ _ c.path_of-path.ensures.indexes c.path_of-path.ensures.fresh c.ends_of-ends.ensures c.offset_of-offset.ensures
    _ c.unwrap_or_default-target.result _ _ _ _ _ _ _ _ _
    (search rules) c.copy-copied.ensures.tree c.copy-copied.ensures.counts c.copy-copied.ensures.map c.copy-copied.ensures.copied
    c.flush_parent.ensures c.flush_child.ensures
    c.add_node.ensures.tree c.add_node-2.ensures.tree c.add_node.ensures.counts c.add_node-2.ensures.counts
    _ _ _ c.leave.ensures.counts (rw c.part.ensures at c.drop_places.ensures) (rw c.part-2.ensures at c.add_places.ensures) _ _ _ c.leave.ensures.map c.sweep.ensures.map
