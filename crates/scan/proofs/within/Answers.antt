use Rattle.std.proofs.Common.{ℕ, ◌+◌, rules, leb, ap, ◌∙◌}
use Rattle.std.proofs.lemmas.Iterator.{YieldsList-from_slice}
use Rattle.std.proofs.lemmas.Iterator.Search.{all_from_yields_List}
use Rattle.std.specs.List.{list_all, slice_range}
use borrow.Author.Tests.{tests}
use Rattle.scan.proofs.Places.{used}
use Rattle.scan.proofs.within.Goals as goal

pub returns : goal.returns
returns c =
    let b = c.args.b.now in
    let p = c.args.p in
    let few = λ (o : ℕ). leb o c.args.most in
    all_from_yields_List few _ _ c.all.result c.all.ensures.ran (YieldsList-from_slice _ c.iter.ensures.rest) (λ x r q k. search (rules, tests))
    ∙ ap (λ n. list_all few (slice_range b p (p + n))) c.from.ensures
    ∙ used few p c.args.n b c.requires.1
