use Rattle.std.proofs.Common.{◌≡◌, ◌&&◌, ◌∙◌, ap₂, get_or, rules}
use Rattle.units.specs.Bodies.{indexes}
use Rattle.rules.specs.Tables.{slice}
use Rattle.rules.specs.Steps.{is_index, path_shape}
use Rattle.allocation.specs.Gains.{gains_fit}
use Rattle.flushing.proofs.Answers.{tests_are}
use Rattle.flushing.proofs.flush_tests.Goals as goal
use Rattle.flushing.proofs.flush_tests.Goals.{then-path_shape, else-path_shape}

pub returns : goal.returns
returns c =
    let b = c.args.body.now in
    let shape : c.if-path_shape.shape ≡ (path_shape (get_or b 0 0) (slice 1 indexes b) (slice 8 indexes b) && is_index (get_or b 15 0)) =
    elim c.if-path_shape.branch [ then-path_shape w ↦ search rules | else-path_shape w ↦ search rules ] in
    tests_are _ _ _ _ _ _ _ _ c.path_of-path.ensures.indexes c.path_of-path.ensures.fresh c.ends_of-ends.ensures c.offset_of-offset.ensures _ _ _ _ _
    shape c.gc_fits-range.ensures c.flush_room-small.ensures c.fresh_units-fresh.ensures
    (c.gains_fit-fit.ensures ∙ ap₂ (gains_fit c.args.counts.now) c.part-gained.ensures c.part-lost.ensures)
