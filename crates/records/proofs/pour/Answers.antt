use Rattle.std.proofs.Common.{length, rules, arith, sym, ◌∙◌}
use Rattle.std.proofs.lemmas.Slice.{put_mid-paste}
use Rattle.records.specs.Rows.{poured_paste}
use Rattle.records.proofs.pour.Goals as goal

pub returns : goal.returns
returns c = put_mid-paste _ _ _ _ _ _ (search rules) (omega arith) (λ i. length c.args.src.now) ∙ sym (poured_paste _ _ _ c.requires)
