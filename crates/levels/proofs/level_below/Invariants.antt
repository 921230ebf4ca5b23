-- The children of the units in the words so far are marked.
use Rattle.std.proofs.Common.{◌≡◌}
use Rattle.levels.proofs.Marks.{marked}
use Rattle.levels.proofs.level_below.Given as goal

abbrev pub invariant-loop-i : goal.invariant-loop-i
invariant-loop-i l = l.below ≡ marked l.tree l.level l.fn.below l.i
