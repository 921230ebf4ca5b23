use Rattle.counting.specs.Graph.{buffers_in}
use Rattle.recount.specs.Walks.{places_of}
use Rattle.std.specs.Prelude.{[], ◌∷◌}
use Rattle.recount.proofs.Turns.{halt, passed, node_on}
use Rattle.recount.proofs.count_node.Goals as goal

pub returns-in_err-count_one : goal.returns-in_err-count_one
returns-in_err-count_one c =
    halt (c.args.u.0 ∷ []) (places_of (buffers_in c.args.tree.now c.args.u.0)) c.args.counts.now c.count_one.new.counts
    (rw c.index.ensures.0 at c.in_err-count_one.ensures) (passed c.from_residual.result _ c.from_residual.ensures)

pub returns : goal.returns
returns c =
    node_on c.args.tree.now c.args.u.0 c.read_node-n.result c.part-buffers.result.now c.args.counts.now c.count_one.new.counts c.count_buffers.new.counts c.count_buffers.result
    (rw c.index.ensures.0 at c.in_ok-count_one.ensures) c.read_node-n.ensures c.part-buffers.ensures c.count_buffers.ensures
