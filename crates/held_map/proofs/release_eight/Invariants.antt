-- What is left to clear, cleared from here, gives what was asked.
use Rattle.std.proofs.Common.{◌≡◌, drop}
use Rattle.held_map.specs.Map.{clears}
use Rattle.held_map.proofs.release_eight.Given as goal

abbrev pub invariant-loop-u : goal.invariant-loop-u
invariant-loop-u l = clears l.map (drop l.u-index l.u-items) ≡ clears l.fn.map l.u-items
