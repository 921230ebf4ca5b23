-- Laws of allocation for loops and answers that src/ no longer has. Assumes nothing.
use mathlib.Core.Path.{◌≡◌}
use mathlib.Core.List.{List}
use Prim.Native.Nat.{ℕ, ◌-◌}
use lib.ListN.{take}
use Rattle.rules.specs.Tables.{all, slice}
use Rattle.counting.proofs.Counts.{Low}
use Rattle.state.specs.Standing.{CountsAre}
use Rattle.allocation.specs.Gains.{fits_count, gains_fit}
use Rattle.allocation.proofs.Gains.{low_slice}

-- line 12, of the branches that gain
pub gains_fit_is : (w p : ℕ → ℕ) (counts bs : List ℕ) (gc from to : ℕ) → CountsAre w p counts → Low bs
    → gains_fit counts (slice from (to - from) bs) (take gc bs) ≡ all (λ b. fits_count (p b) (slice from (to - from) bs) (take gc bs) b) (slice from (to - from) bs)
gains_fit_is w p counts bs gc from to c low =
    Rattle.allocation.proofs.Gains.gains_fit_is w p counts (slice from (to - from) bs) (take gc bs) c (low_slice from (to - from) bs low)
