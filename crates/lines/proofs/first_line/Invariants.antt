-- The first line that fails is that of the tests that are left.
use Rattle.std.proofs.Common.{◌≡◌}
use Rattle.lines.specs.Lines.{first_of, numbered}
use Rattle.lines.proofs.Lines.{first_left}
use Rattle.lines.proofs.first_line.Given as goal

abbrev pub invariant-loop-passes : goal.invariant-loop-passes
invariant-loop-passes l = first_left l.passes-iterator.a.rest.now l.passes-iterator.b.rest.now ≡ first_of (numbered 4 l.fn.tests)
