-- What the chain answers is the library's word for it, which has the clauses of ours.
use Rattle.std.proofs.Common.{◌&&◌, leb, refl, ◌∙◌, rules, tests}
use Rattle.std.specs.List.{list_all}
use Rattle.std.proofs.lemmas.Iterator.{YieldsList-from_slice}
use Rattle.std.proofs.lemmas.Iterator.Search.{all_from_yields_List}
use Rattle.std.proofs.lemmas.List.Recursion.{same_from_clauses}
use Rattle.rules.specs.Tables.{all}
use Rattle.eights.proofs.at_least.Goals as goal

pub returns : goal.returns
returns c =
    all_from_yields_List (λ o. leb c.args.low o) _ _ _ c.all.ensures.ran (YieldsList-from_slice c.args.xs.now cc) (λ x b q k. search (rules, tests))
    ∙ same_from_clauses (list_all (λ o. leb c.args.low o)) (all (λ o. leb c.args.low o)) (λ o b. leb c.args.low o && b) refl (λ _ _. refl) (λ _ _. refl) c.args.xs.now
