use Rattle.std.proofs.Common.{arith, rules, ℕ, ◌≡◌, ◌-◌, ◌<◌, get_or}
use Rattle.eights.proofs.Places.{mapped}
use Rattle.eights.proofs.lower.Goals as goal

pub returns : goal.returns
returns c =
    let each : (j : ℕ) → j < 8 → get_or c.map.result j 0 ≡ get_or c.args.xs j 0 - c.args.by = λ j p. let h = c.map.ensures.items.at j 0 0 p in search rules in
    mapped (λ o. o - c.args.by) c.args.xs c.map.result (omega arith) (search rules) (search rules) each
