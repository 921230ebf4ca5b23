use Rattle.std.proofs.Common.{◌≡◌, ◌+◌, ltb, arith, ltb-true, ltb-false}
use Rattle.std.proofs.lemmas.Bool.{cond_both}
use Rattle.units.specs.Limits.{most_count}
use Rattle.counting.specs.Places.{one_more, add_place}
use Rattle.counting.proofs.add_places.Goals as goal

pub returns : goal.returns
unfolding one_more add_place
returns c =
    c.change_places.ensures one_more
    (λ n r fits met.
    cond_both (ltb n most_count) (n + 1) n (λ x. r ≡ x)
    (λ e. omega (arith, ltb-true n most_count e, met))
    (λ e. omega (arith, ltb-false n most_count e, met)))
