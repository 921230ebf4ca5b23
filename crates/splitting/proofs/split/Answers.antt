use Rattle.std.proofs.Common.{rules}
use Rattle.splitting.proofs.Answers.{tree_is, counts_are, map_is}
use Rattle.splitting.proofs.split.Goals as goal

pub returns-clause-tree : goal.returns-clause-tree
returns-clause-tree c =
    tree_is c.args.tree.now c.args.counts.now c.args.map.now c.args.body.now _ _ c.ends_of-ends.result c.path_of-path.ensures.indexes c.path_of-path.ensures.fresh
    c.ends_of-ends.ensures c.copy-copied.result c.unwrap_or_default-target.result _ _ _ _ _ _ _ _ c.leave.new.counts _ c.split_parent.result c.left_of.result c.right_of.result
    (search rules) c.copy-copied.ensures.tree c.copy-copied.ensures.counts c.copy-copied.ensures.map c.copy-copied.ensures.copied c.split_parent.ensures
    c.left_of.ensures c.right_of.ensures c.add_node.ensures.tree c.add_node-2.ensures.tree c.add_node-3.ensures.tree c.add_node.ensures.counts
    c.add_node-2.ensures.counts c.add_node-3.ensures.counts _ c.leave.ensures.tree

pub returns-clause-counts : goal.returns-clause-counts
returns-clause-counts c =
    counts_are c.args.tree.now c.args.counts.now c.args.map.now c.args.body.now _ _ c.ends_of-ends.result c.path_of-path.ensures.indexes c.path_of-path.ensures.fresh
    c.ends_of-ends.ensures c.copy-copied.result c.unwrap_or_default-target.result _ _ _ _ _ _ _ _ _ _ c.split_parent.result c.left_of.result c.right_of.result
    (search rules) c.copy-copied.ensures.tree c.copy-copied.ensures.counts c.copy-copied.ensures.map c.copy-copied.ensures.copied c.split_parent.ensures
    c.left_of.ensures c.right_of.ensures c.add_node.ensures.tree c.add_node-2.ensures.tree c.add_node-3.ensures.tree c.add_node.ensures.counts
    c.add_node-2.ensures.counts c.add_node-3.ensures.counts _ c.leave.ensures.counts (rw c.part.ensures at c.add_places.ensures)

pub returns-clause-map : goal.returns-clause-map
returns-clause-map c =
    map_is c.args.tree.now c.args.counts.now c.args.map.now c.args.body.now _ _ c.ends_of-ends.result c.path_of-path.ensures.indexes c.path_of-path.ensures.fresh
    c.ends_of-ends.ensures c.copy-copied.result c.unwrap_or_default-target.result _ _ _ _ _ _ _ _ c.leave.new.counts _ c.split_parent.result c.left_of.result c.right_of.result
    (search rules) c.copy-copied.ensures.tree c.copy-copied.ensures.counts c.copy-copied.ensures.map c.copy-copied.ensures.copied c.split_parent.ensures
    c.left_of.ensures c.right_of.ensures c.add_node.ensures.tree c.add_node-2.ensures.tree c.add_node-3.ensures.tree c.add_node.ensures.counts
    c.add_node-2.ensures.counts c.add_node-3.ensures.counts _ c.leave.ensures.map
