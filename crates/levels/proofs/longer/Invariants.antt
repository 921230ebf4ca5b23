-- The levels that are left, gone down from here, lead where all of them lead from the first.
use Rattle.std.proofs.Common.{◌-◌, ◌≡◌}
use Rattle.levels.specs.Sets.{level_in}
use Rattle.levels.proofs.longer.Given as goal

abbrev pub invariant-loop : goal.invariant-loop
invariant-loop l = level_in l.tree (l.d - l.counter) l.level ≡ level_in l.tree l.d l.initial.level
