-- Where two maps hold what two stores hold, the units gone from the one to the other are the frees of document 01. Assumes nothing.
use mathlib.Core.Bool.{Bool, not, ◌&&◌, cond}
use mathlib.Core.Path.{◌≡◌, refl, ap₂}
use mathlib.Core.List.{List, ◌∷◌}
use Prim.Native.Nat.{ℕ, zero, suc, ◌+◌, ◌≤◌, ◌<◌}
use native.Mathlib.Omega.{arith}
use Rattle.rules.specs.Tables.{sift, range}
use Rattle.rules.specs.Store.{Store, units, held, frees}
use Rattle.held_map.specs.Map.{held_in, gone}

sift_same : (f g : ℕ → Bool) (n b : ℕ) → ((u : ℕ) → b ≤ u → u < b + n → f u ≡ g u) → sift f (range n b) ≡ sift g (range n b)
sift_same f g zero b h = refl
sift_same f g (suc n) b h =
    ap₂ (λ (y : Bool) (l : List ℕ). cond y (b ∷ l) l) (h b (omega arith) (omega arith))
    (sift_same f g n (suc b) (λ u p q. h u (omega arith) (omega arith)))

-- the map m holds the units from 1 on that f says
abbrev pub Holds : List ℕ → (ℕ → Bool) → Type 0
Holds m f = (u : ℕ) → 1 ≤ u → u < 256 → held_in m u ≡ f u

pub gone_is : (a b : List ℕ) (f g : ℕ → Bool) → Holds a f → Holds b g → gone a b ≡ sift (λ u. f u && not (g u)) units
unfolding gone units
gone_is a b f g hf hg =
    sift_same (λ u. held_in a u && not (held_in b u)) (λ u. f u && not (g u)) 255 1
    (λ u p q. ap₂ (λ (x y : Bool). x && not y) (hf u p (omega arith)) (hg u p (omega arith)))

pub gone_frees : (a b : List ℕ) (s s' : Store) → Holds a (held s) → Holds b (held s') → gone a b ≡ frees s s'
unfolding frees
gone_frees a b s s' hs hs' = gone_is a b (held s) (held s') hs hs'
