use Rattle.std.proofs.Common.{rules, refl}
use Rattle.std.proofs.lemmas.List.Recursion.{and_is}
use Rattle.rules.specs.Tables.{all}
use Rattle.rules.specs.Steps.{is_index}
use Rattle.bodies.proofs.are_indexes.Goals as goal

pub returns : goal.returns
returns c = and_is (all is_index) is_index refl (λ _ _. refl) c.args.us.now 0 _ (search rules) (search rules)
