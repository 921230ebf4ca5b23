-- What is left to mark, marked from here, gives what was asked.
use Rattle.std.proofs.Common.{◌≡◌, drop}
use Rattle.levels.specs.Sets.{marks}
use Rattle.levels.proofs.mark_children.Given as goal

abbrev pub invariant-loop-c : goal.invariant-loop-c
invariant-loop-c l = marks l.below (drop l.c-index l.c-items) ≡ marks l.fn.below l.c-items
