-- What is left of the branches, done from here, gives what was asked, for each function that f computes.
use Rattle.std.proofs.Common.{ℕ, ◌≡◌, drop}
use Rattle.counting.specs.Places.{Computes, change_places}
use Rattle.counting.proofs.change_places.Given as goal

abbrev pub invariant-loop-b : goal.invariant-loop-b
invariant-loop-b g l =
    (h : ℕ → ℕ) → Computes (goal.F-post g l.f) h → change_places h l.counts (drop l.b-index l.bs) ≡ change_places h l.fn.counts l.bs
