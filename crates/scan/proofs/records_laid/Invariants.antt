-- The first i records are laid out rightly, and a next key is no less than `next`.
use Rattle.std.proofs.Common.{◌≤◌, ◌≡◌, true}
use Rattle.images.specs.Passes.{next_at, section_ok}
use Rattle.scan.proofs.records_laid.Given as goal

abbrev pub invariant-loop-i : goal.invariant-loop-i
invariant-loop-i g l =
    let r = g.R.Record in
    record {
      follows : l.next ≡ next_at r.SIZE r.KEY l.b l.p l.i;
      so_far : section_ok r.KIND r.SIZE r.KEY l.b l.p l.i ≡ true;
      small : l.next ≤ 256;
    }
