-- The places from `start` on are asked beside those of the input, one after another.
use Rattle.std.proofs.Common.{ℕ, ◌-◌, ◌≡◌, true, get_or, length, rules, tests, refl, ap, ◌∙◌, eqb}
use Rattle.std.proofs.lemmas.Iterator.{YieldsList-from_slice, YieldsList-from_zip}
use Rattle.std.proofs.lemmas.Iterator.Search.{all_from_yields_List}
use Rattle.std.specs.List.{list_all, zip}
use Rattle.rules.specs.Tables.{range}
use Rattle.records.proofs.Ranges.{range_gives}
use Rattle.shapes.specs.Questions.{part_is}
use Rattle.shapes.proofs.Questions.{part_each}
use Rattle.shapes.proofs.part_is.Goals as goal

pub returns : goal.returns
unfolding part_is
returns c =
    let l = c.args.n.buffers in
    let input = c.args.input in
    let a = c.args.start in
    let n = c.args.number in
    let same = λ (p : ℕ × ℕ). eqb (get_or l p.0 0) p.1 in
    let h : length l ≡ 8 = search rules in
    let k : length input ≡ 8 = search rules in
    let w : c.args.end - a ≡ n = search rules in
    let t : eqb (c.args.end - a) n ≡ true = search (rules, tests) in
    let r : c.zip.result.a ≡ record { start = a; end = c.args.end } = c.zip.ensures.first ∙ rw (c.from.ensures, c.from-2.ensures) refl in
    all_from_yields_List same c.all.new.self _ c.all.result c.all.ensures.ran
    (YieldsList-from_zip (range_gives a c.args.end r) (YieldsList-from_slice input cc))
    (λ x r q k. search (rules, tests))
    ∙ ap (λ (m : ℕ). list_all same (zip (range m a) input)) w
    ∙ part_each l input a n h k
    ∙ rw t refl
