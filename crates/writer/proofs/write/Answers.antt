use Rattle.std.proofs.Common.{sym, ap, ◌∙◌, ◌+◌, rules}
use Rattle.records.proofs.Ranges.{range_gives}
use Rattle.writer.specs.Records.{node_of, branch_of, slot_of, input_of}
use Rattle.writer.proofs.Loops.{records_wrote, map_next, write_all}
use Rattle.writer.specs.Written.{wrote}
use Rattle.writer.proofs.Theorems.{write_short}
use Rattle.writer.proofs.write.Goals as goal

pub returns-then-out-lt-WANTED : goal.returns-then-out-lt-WANTED
returns-then-out-lt-WANTED c = sym (write_short c.args.tree.now c.args.counts.now c.args.hold.now c.args.out.now c.if-out-lt-WANTED.true)

pub returns : goal.returns
returns c =
    let tree = c.args.tree.now in
    let counts = c.args.counts.now in
    let hold = c.args.hold.now in
    let nodes = c.filter_map-nodes.ensures in
    let branches = c.filter_map-branches.ensures in
    let slots = c.filter_map-slots.ensures in
    let inputs = c.filter_map-inputs.ensures in
    write_all tree counts hold c.args.out.now c.if-out-lt-WANTED.false _ _ _ _ _ _ _ _ _ _ _
    c.root.ensures
    c.put-end.ensures
    (records_wrote _ (λ k. node_of tree counts (k + 1)) (range_gives 0 255 nodes.source) nodes.closure (λ x r q k. search rules) _ _ c.put_each-end.ensures
    ∙ ap (wrote _) (map_next (node_of tree counts) 255 0))
    (records_wrote _ (λ k. branch_of counts hold (k + 1)) (range_gives 0 255 branches.source) branches.closure (λ x r q k. search rules) _ _ c.put_each-end-2.ensures
    ∙ ap (wrote _) (map_next (branch_of counts hold) 255 0))
    (records_wrote _ (slot_of hold) (range_gives 0 4 slots.source) slots.closure (λ x r q k. search rules) _ _ c.put_each-end-3.ensures)
    (records_wrote _ (input_of hold) (range_gives 0 4 inputs.source) inputs.closure (λ x r q k. search rules) _ _ c.put_each.ensures)
