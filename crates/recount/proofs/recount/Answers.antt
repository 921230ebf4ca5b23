use Rattle.std.proofs.Common.{◌∙◌, sym}
use Rattle.std.proofs.lemmas.Bool.{eqb-true, eqb-false}
use Rattle.recount.proofs.Totals.{recount_none, recount_some}
use Rattle.recount.proofs.recount.Goals as goal

pub returns-then-is_none : goal.returns-then-is_none
returns-then-is_none c =
    recount_none c.args.tree.now c.root-root.result.0 (record { small = c.fits-tree }) c.root-root.ensures
    (eqb-true c.root-root.result.0 0 (sym c.is_none.ensures ∙ c.if-is_none.true))

pub returns : goal.returns
returns c =
    recount_some c.args.tree.now c.root-root.result.0 c.walk_node.new.counts c.walk_node.result (record { small = c.fits-tree }) c.root-root.ensures
    (eqb-false c.root-root.result.0 0 (sym c.is_none.ensures ∙ c.if-is_none.false)) c.walk_node.ensures
