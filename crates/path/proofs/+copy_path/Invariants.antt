use Rattle.std.proofs.Common.{length}
use Rattle.path.proofs.+copy_path.Given as goal

abbrev pub decreases-copy_path : goal.decreases-copy_path
decreases-copy_path l = length l.path.now
