-- The used parts of a body that names a path, and the node that the path leads to in the bytes of the tree. Assumes nothing.
use Rattle.std.specs.Prelude.{Bool, cond, Option, None, is_some, unwrap_or, List, ℕ, eqb, min, get_or, take}
use Rattle.units.specs.Bodies.{indexes}
use Rattle.units.specs.declared.NodeUnit.{NodeUnit}
use Rattle.rules.specs.Tables.{slice}
use Rattle.path.specs.Graph.{found_in}

-- how many of the seven places a depth uses
unfoldable pub used_of : ℕ → ℕ
used_of d = min d indexes

-- the used ones of the seven bytes from `at` on
abbrev pub used_part : List ℕ → ℕ → ℕ → List ℕ
used_part b at d = take (used_of d) (slice at indexes b)

unfoldable pub target_in : List ℕ → List ℕ → Option NodeUnit
target_in l p = cond (eqb (get_or l 0 0) 0) None (found_in l p (get_or l 0 0))

-- the unit, 0 for none
abbrev pub unit_of : Option NodeUnit → ℕ
unit_of f = (unwrap_or f (record { 0 = 0 })).0

abbrev pub is_found : Option NodeUnit → Bool
is_found f = is_some f
