use Rattle.std.proofs.Common.{eqb, rules, refl}
use Rattle.std.proofs.lemmas.List.Recursion.{and_is}
use Rattle.rules.specs.Tables.{zeros}
use Rattle.bodies.proofs.is_blank.Goals as goal

pub returns : goal.returns
returns c = and_is zeros (λ x. eqb x 0) refl (λ _ _. refl) c.args.us.now 0 _ (search rules) (search rules)
