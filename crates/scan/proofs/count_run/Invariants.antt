-- After n turns n records of this kind were passed, and `at` is behind the last of them.
use Rattle.images.proofs.Passes.{RunLoop}
use Rattle.scan.proofs.count_run.Given as goal

abbrev pub invariant-loop-n : goal.invariant-loop-n
invariant-loop-n l = RunLoop l.b l.p l.kind l.size l.at l.n
