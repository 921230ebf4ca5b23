-- What the test of the counts says of the branches' places. Assumes nothing.
use mathlib.Core.Path.{◌≡◌, refl, ap, ap₂}
use mathlib.Core.Bool.{Bool, ◌&&◌}
use mathlib.Core.List.{List, [], ◌∷◌}
use Prim.Native.Nat.{ℕ, zero, suc, ◌≤◌}
use lib.ListN.{take, drop}
use Rattle.units.specs.Limits.{last_unit}
use Rattle.rules.specs.Tables.{all, slice}
use Rattle.counting.proofs.Counts.{Low}
use Rattle.state.specs.Standing.{CountsAre}
use Rattle.allocation.specs.Gains.{fits_count, gain_fits, gains_fit}

all_same : (f g : ℕ → Bool) (l : List ℕ) → Low l → ((x : ℕ) → x ≤ last_unit → f x ≡ g x) → all f l ≡ all g l
all_same f g [] low e = refl
all_same f g (x ∷ l) low e = ap₂ ◌&&◌ (e x low.0) (all_same f g l low.1 e)

low_take : (n : ℕ) (l : List ℕ) → Low l → Low (take n l)
low_take zero l low = tt
low_take (suc n) [] low = tt
low_take (suc n) (x ∷ l) low = (low.0, low_take n l low.1)

low_drop : (n : ℕ) (l : List ℕ) → Low l → Low (drop n l)
low_drop zero l low = low
low_drop (suc n) [] low = tt
low_drop (suc n) (x ∷ l) low = low_drop n l low.1

-- a run of units is one of units
pub low_slice : (a n : ℕ) (l : List ℕ) → Low l → Low (slice a n l)
low_slice a n l low = low_take n (drop a l) (low_drop a l low)

-- line 12, of the branches that gain
pub gains_fit_is : (w p : ℕ → ℕ) (counts gs ls : List ℕ) → CountsAre w p counts → Low gs → gains_fit counts gs ls ≡ all (λ b. fits_count (p b) gs ls b) gs
unfolding gains_fit gain_fits
gains_fit_is w p counts gs ls c low =
    all_same (gain_fits counts gs ls) (λ b. fits_count (p b) gs ls b) gs low (λ b h. ap (λ (k : ℕ). fits_count k gs ls b) (c.place b h))
