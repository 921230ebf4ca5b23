-- Laws of levels for loops and answers that src/ no longer has. Assumes nothing.
use mathlib.Core.Path.{◌≡◌, refl, ap}
use mathlib.Core.Bool.{Bool, false, not}
use mathlib.Core.List.{List}
use Prim.Native.Nat.{ℕ, ◌+◌, ◌-◌}
use native.Mathlib.Omega.{arith}
use lib.Dec.{eqb}
use borrow.Author.Tests.{ne_eqb}
use Rattle.ways.specs.Ways.{sums}
use Rattle.rules.specs.Store.{root_list}
use Rattle.levels.specs.Sets.{level_in}

pub level_start : (tree level : List ℕ) (d : ℕ) → level_in tree (d - 0) level ≡ level_in tree d level
level_start tree level d =
    let z : d - 0 ≡ d = omega arith in
    ap (λ (k : ℕ). level_in tree k level) z

pub way_none : (f : ℕ → ℕ) (r root : ℕ) → root ≡ r → root ≡ 0 → false ≡ not (eqb (sums f (root_list r)) 0)
way_none f r root e z = rw (← e, z) refl

pub way_some : (f : ℕ → ℕ) (r root : ℕ) (b : Bool) → root ≡ r → (root ≡ 0 → ⊥) → b ≡ not (eqb (f root) 0) → b ≡ not (eqb (sums f (root_list r)) 0)
way_some f r root b e d q =
    let z : f root + 0 ≡ f root = omega arith in
    rw (← e, ne_eqb root 0 d, z) q
