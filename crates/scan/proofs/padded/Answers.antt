use Rattle.std.proofs.Common.{◌+◌, rules, eqb, ap, ◌∙◌}
use Rattle.std.proofs.lemmas.Iterator.{YieldsList-from_slice}
use Rattle.std.proofs.lemmas.Iterator.Search.{all_from_yields_List}
use Rattle.std.specs.List.{list_all, slice_range}
use borrow.Author.Tests.{tests}
use Rattle.scan.proofs.Places.{unused}
use Rattle.scan.proofs.padded.Goals as goal

pub returns-then-n-le8 : goal.returns-then-n-le8
returns-then-n-le8 c =
    let b = c.args.b.now in
    let p = c.args.p in
    all_from_yields_List (λ x. eqb x 0) _ _ c.all.result c.all.ensures.ran (YieldsList-from_slice _ c.iter.ensures.rest) (λ x r q k. search (rules, tests))
    ∙ ap (λ n. list_all (λ x. eqb x 0) (slice_range b (p + n) (p + 8))) c.from.ensures
    ∙ unused p c.args.n b c.if-n-le8.true
