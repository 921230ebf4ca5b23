use Rattle.std.proofs.Common.{◌≡◌, arith}
use Rattle.units.specs.declared.Refusal.TheVariants.{RecountTooHigh}
use Rattle.recount.proofs.Turns.{one_done, one_over, passed}
use Rattle.recount.proofs.count_one.Goals as goal

pub returns-in_err-counts : goal.returns-in_err-counts
returns-in_err-counts c =
    let q = rw c.in_err-counts.ensures.ok_part at c.checked_add.ensures in
    let v = rw c.in_err-counts.ensures.ok_part at c.in_err-counts.ensures.value in
    let e : c.in_err-counts.field-0.0 ≡ RecountTooHigh = cc v in
    rw (passed c.from_residual.result c.in_err-counts.field-0.0 c.from_residual.ensures, e) (one_over c.args.counts.now c.args.at (omega (arith, q)))

pub returns : goal.returns
returns c =
    let q = rw c.in_ok-counts.ensures.ok_part at c.checked_add.ensures in
    rw q.1 (one_done c.args.counts.now c.args.at (omega (arith, q.0)))
