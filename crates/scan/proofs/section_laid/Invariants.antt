-- The first i records are laid out rightly, and a next key is no less than `next`.
use Rattle.std.proofs.Common.{◌≤◌, ◌≡◌, true}
use Rattle.images.specs.Passes.{next_at, section_ok}
use Rattle.scan.proofs.section_laid.Given as goal

abbrev pub invariant-loop-i : goal.invariant-loop-i
invariant-loop-i l =
    record {
      follows : l.least ≡ next_at l.size l.o l.b l.p l.i;
      so_far : section_ok l.kind l.size l.o l.b l.p l.i ≡ true;
      small : l.least ≤ 256;
    }
