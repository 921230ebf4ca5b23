use Rattle.std.proofs.Common.{rules, refl}
use Rattle.std.proofs.lemmas.List.Recursion.{and_is}
use Rattle.rules.specs.Tables.{all}
use Rattle.allocation.specs.Gains.{gain_fits, gains_fit}
use Rattle.allocation.proofs.gains_fit.Goals as goal

pub returns : goal.returns
unfolding gains_fit
returns c =
    let fits = gain_fits c.args.counts.now c.args.gains.now c.args.losses.now in
    and_is (all fits) fits refl (λ _ _. refl) c.args.gains.now 0 _ (search rules) (search rules)
