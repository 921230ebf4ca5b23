use Rattle.std.proofs.Common.{◌≡◌, ◌<◌, ◌^◌, ◌∙◌, rules}
use Rattle.std.specs.List.{sum_by}
use Rattle.std.specs.Int.Count.{ones}
use Rattle.std.proofs.iter.runs.Made.{chains}
use Rattle.held_map.proofs.Numbers.{number_fits, number_sum}
use Rattle.held_map.proofs.number.Goals as goal

pub sum-requires-clause-fits : goal.sum-requires-clause-fits
sum-requires-clause-fits c =
    let h : sum_by ones c.args.map.now < 2 ^ 32 = number_fits c.args.map.now c.told-map c.fits-map in
    search (rules, chains, h)

pub returns : goal.returns
returns c =
    let h : c.sum.result ≡ sum_by ones c.args.map.now = search (rules, chains) in
    h ∙ number_sum c.args.map.now c.told-map
