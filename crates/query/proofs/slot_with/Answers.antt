use Rattle.std.proofs.Common.{rules, tests, sym, ◌∙◌}
use Rattle.std.proofs.lemmas.Iterator.{YieldsList-from_map}
use Rattle.std.proofs.lemmas.Iterator.Search.{find_from_yields_List}
use Rattle.std.proofs.lemmas.Iterator.Adapters.{option_map_id}
use Rattle.units.specs.declared.UnfinishedSlot.{UnfinishedSlot}
use Rattle.records.proofs.Ranges.{range_gives}
use Rattle.query.specs.Owners.{in_slot, slot_with}
use Rattle.query.proofs.slot_with.Goals as goal

pub returns : goal.returns
unfolding slot_with
returns c =
    let numbers = range_gives 0 4 c.map.ensures.source in
    sym (option_map_id _)
    ∙ find_from_yields_List (λ (k : UnfinishedSlot). in_slot c.args.hold.now c.args.u k.0) _ _ c.find.result c.find.ensures.ran
    (YieldsList-from_map _ (λ k. record { 0 = k }) numbers c.map.ensures.closure (λ x r q k. search rules))
    (λ x b q k. search (rules, tests))
