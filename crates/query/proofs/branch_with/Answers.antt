use Rattle.std.proofs.Common.{rules, tests, sym, ◌∙◌}
use Rattle.std.proofs.lemmas.Iterator.{YieldsList-from_map}
use Rattle.std.proofs.lemmas.Iterator.Consumers.{YieldsList-at}
use Rattle.std.proofs.lemmas.Iterator.Search.{find_from_yields_List}
use Rattle.std.proofs.lemmas.Iterator.Adapters.{option_map_id}
use Rattle.units.specs.declared.BranchRoot.{BranchRoot}
use Rattle.records.proofs.Ranges.{inclusive_gives}
use Rattle.query.specs.Owners.{in_branch, branch_with}
use Rattle.query.proofs.branch_with.Goals as goal

pub returns : goal.returns
unfolding branch_with
returns c =
    let numbers = inclusive_gives 1 255 c.new.ensures.start c.new.ensures.end c.new.ensures.exhausted in
    sym (option_map_id _)
    ∙ find_from_yields_List (λ (b : BranchRoot). in_branch c.args.hold.now c.args.u b.0) _ _ c.find.result c.find.ensures.ran
    (YieldsList-from_map _ (λ b. record { 0 = b }) (YieldsList-at c.map.ensures.source numbers) c.map.ensures.closure (λ x r q k. search rules))
    (λ x b q k. search (rules, tests))
