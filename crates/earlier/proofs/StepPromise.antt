-- Laws of step for loops and answers that src/ no longer has: the numbers are those of the table. Assumes nothing.
use mathlib.Core.Path.{◌≡◌}
use mathlib.Core.Bool.{Bool, true, false, ◌&&◌}
use mathlib.Core.List.{List, [], ◌∷◌}
use Prim.Native.Nat.{ℕ, suc, ◌+◌, ◌≤◌}
use native.Mathlib.Omega.{arith}
use lib.Dec.{eqb, leb}
use lib.ListN.{length}
use Rattle.units.specs.Limits.{last_unit, last_kind}
use Rattle.units.specs.Bodies.{body_length}
use Rattle.lines.specs.Lines.{unless, first_of, numbered, head_of}

pub head_most : (l : List ℕ) (n : ℕ) → head_of l n ≤ 12
unfolding head_of
head_most [] n = go (leb last_unit n)
  where
    go : (b : Bool) → unless b 1 2 ≤ 12
    go true = omega arith
    go false = omega arith
head_most (k ∷ b) n = go (leb last_unit n) (leb 1 k && leb k last_kind) (eqb (length b) (body_length k))
  where
    go : (x y z : Bool) → unless x 1 (unless y 2 (unless z 3 0)) ≤ 12
    go true true true = omega arith
    go true true false = omega arith
    go true false z = omega arith
    go false y z = omega arith

first_most : (k n : ℕ) (l : List Bool) → n + length l ≤ suc k → first_of (numbered n l) ≤ k
unfolding first_of
first_most k n [] h = omega arith
first_most k n (b ∷ bs) h = go b (first_most k (suc n) bs (omega arith))
  where
    go : (x : Bool) → first_of (numbered (suc n) bs) ≤ k → unless x n (first_of (numbered (suc n) bs)) ≤ k
    go true ih = ih
    go false ih = omega arith

pub line_most : (l : List Bool) → length l ≡ 9 → first_of (numbered 4 l) ≤ 12
line_most l h = first_most 12 4 l (omega arith)
