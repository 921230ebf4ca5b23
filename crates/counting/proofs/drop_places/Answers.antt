use Rattle.std.proofs.Common.{rules, ◌-◌}
use Rattle.counting.specs.Places.{drop_place}
use Rattle.counting.proofs.drop_places.Goals as goal

pub returns : goal.returns
unfolding drop_place
returns c = c.change_places.ensures (λ n. n - 1) (λ n r fits met. search rules)
