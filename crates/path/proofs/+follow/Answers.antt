use Rattle.std.proofs.Common.{◌∙◌, refl, sym}
use Rattle.path.proofs.Walks.{index_read, child_read, found_end, found_on, found_off}
use Rattle.path.proofs.+follow.Goals as goal

pub returns-in_default : goal.returns-in_default
returns-in_default t c = found_end _ _ _ c.in_default.ensures.cases

pub returns-then-not-is_index : goal.returns-then-not-is_index
returns-then-not-is_index t c =
    found_off _ _ _ _ _ _ c.in-Some.ensures.cases.0 refl (sym c.if-not-is_index.true ∙ c.is_index.ensures ∙ index_read _ _ _ _ c.index-at.ensures.0)

pub returns : goal.returns
returns t c =
    let is_index = sym c.if-not-is_index.false ∙ c.is_index.ensures in
    c.follow.ensures
    ∙ found_on _ _ _ _ _ _ _ c.in-Some.ensures.cases.0 refl (is_index ∙ index_read _ _ _ _ c.index-at.ensures.0)
    (child_read _ _ _ _ _ _ c.index-at.ensures.0 c.from.ensures is_index)
