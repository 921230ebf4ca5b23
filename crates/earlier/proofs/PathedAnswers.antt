-- Laws of pathed for loops and answers that src/ no longer has. Assumes nothing.
use mathlib.Core.Path.{◌≡◌, sym}
use mathlib.Core.List.{List}
use Prim.Native.Nat.{ℕ, ◌+◌, ◌≤◌}
use native.Mathlib.Omega.{arith}
use lib.ListN.{length, take, drop, length-drop}
use lib.Seq.{length-take-le}
use Rattle.units.specs.Bodies.{indexes}
use Rattle.rules.specs.Tables.{slice}

-- the first k of seven bytes of a body are k
pub part_length : (b : List ℕ) (at k : ℕ) → at + indexes ≤ length b → k ≤ indexes → k ≡ length (take k (slice at indexes b))
part_length b at k h q = sym (length-take-le k (slice at indexes b) (omega (arith, length-take-le indexes (drop at b) (omega (arith, length-drop at b)))))
