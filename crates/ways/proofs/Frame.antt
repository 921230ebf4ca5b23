-- Sums over lists; the frame, zero and height laws of walks. Assumes nothing.
use mathlib.Core.Path.{◌≡◌, refl, sym, ap, ap₂, ◌∙◌}
use mathlib.Core.Bool.{Bool, true, false, ◌||◌, not, true≢false}
use mathlib.Core.Logic.{◌↔◌}
use mathlib.Core.List.{List, [], ◌∷◌, ◌++◌, append_assoc}
use Prim.Native.Nat.{ℕ, zero, suc, ◌+◌}
use native.Mathlib.Nat.{zero-add, suc-add}
use native.Mathlib.Omega.{arith}
use lib.Dec.{T, eqb, eqb_refl}
use Rattle.ways.proofs.Tests.{or_l, or_r}
use Rattle.ways.specs.Ways.{sums, walk, total, totals, deep, nothing, visits, flat, one, is, has, Visited}

-- ---- sums

pub sums_append : (f : ℕ → ℕ) (xs ys : List ℕ) → sums f (xs ++ ys) ≡ sums f xs + sums f ys
sums_append f [] ys = omega arith
sums_append f (x ∷ xs) ys = omega (arith, sums_append f xs ys)

-- what holds of each part of a sum that is 0
pub sums_ext : (g f f' : ℕ → ℕ) → ((c : ℕ) → g c ≡ 0 → f' c ≡ f c) → (xs : List ℕ) → sums g xs ≡ 0 → sums f' xs ≡ sums f xs
sums_ext g f f' h [] z = refl
sums_ext g f f' h (x ∷ xs) z =
    ap₂ (λ (a b : ℕ). a + b) (h x (omega arith)) (sums_ext g f f' h xs (omega arith))

-- ---- frame: a change that no way meets changes no sum. g marks the units that differ

module _ (b : ℕ) (g : ℕ → ℕ) (children children' : ℕ → List ℕ) (w w' : ℕ → ℕ) (same : (v : ℕ) → g v ≡ 0 → (children' v ≡ children v) × (w' v ≡ w v)) where
  pub frame : (d u : ℕ) → total children g d u ≡ 0 → walk b children' w' d u ≡ walk b children w d u
  unfolding walk
  frame zero u z = refl
  frame (suc d) u z =
      let gu : g u ≡ 0 = omega arith in
      let gs : sums (walk 0 children g d) (children u) ≡ 0 = omega arith in
      let s : sums (walk b children' w' d) (children u) ≡ sums (walk b children w d) (children u) = sums_ext (walk 0 children g d) (walk b children w d) (walk b children' w' d) (frame d) (children u) gs in
      rw ((same u gu).0, (same u gu).1, s)

  pub frame_list : (d : ℕ) (cs : List ℕ) → totals children g d cs ≡ 0 → sums (walk b children' w' d) cs ≡ sums (walk b children w d) cs
  frame_list d cs z = sums_ext (walk 0 children g d) (walk b children w d) (walk b children' w' d) (frame d) cs z

-- ---- a count is the weight summed over the visits, and the frame law by what is visited

pub flat_append : (f : ℕ → List ℕ) (a b : List ℕ) → flat f (a ++ b) ≡ flat f a ++ flat f b
flat_append f [] b = refl
flat_append f (x ∷ a) b = ap (λ (l : List ℕ). f x ++ l) (flat_append f a b) ∙ sym (append_assoc (f x) (flat f a) (flat f b))

pub sums_flat : (w : ℕ → ℕ) (f : ℕ → List ℕ) (cs : List ℕ) → sums w (flat f cs) ≡ sums (λ c. sums w (f c)) cs
sums_flat w f [] = refl
sums_flat w f (c ∷ cs) = omega (arith, sums_append w (f c) (flat f cs), sums_flat w f cs)

pub sums_cong : (f f' : ℕ → ℕ) → ((c : ℕ) → f' c ≡ f c) → (xs : List ℕ) → sums f' xs ≡ sums f xs
sums_cong f f' h [] = refl
sums_cong f f' h (x ∷ xs) = omega (arith, h x, sums_cong f f' h xs)

pub total_visits : (children : ℕ → List ℕ) (w : ℕ → ℕ) (d u : ℕ) → total children w d u ≡ sums w (visits children d u)
unfolding walk visits
total_visits children w zero u = refl
total_visits children w (suc d) u =
    ap (λ (n : ℕ). w u + n)
    (sums_cong (λ c. sums w (visits children d c)) (total children w d) (total_visits children w d) (children u) ∙ sym (sums_flat w (visits children d) (children u)))

one_not : (a : Bool) → T a → one (not a) ≡ 0
one_not true t = refl
one_not false t = absurd t

of_one_not : (a : Bool) → one (not a) ≡ 0 → T a
of_one_not true e = tt
of_one_not false e = omega arith

-- the weight of not standing in the list m adds up to nothing over a part of m
pub outside : (m l : List ℕ) → ((v : ℕ) → T (has v l) → T (has v m)) → sums (λ v. one (not (has v m))) l ≡ 0
outside m [] h = refl
outside m (x ∷ xs) h =
    omega (arith, one_not (has x m) (h x (or_l (eqb x x) (has x xs) (eqb_refl x))), outside m xs (λ v t. h v (or_r (eqb x v) (has v xs) t)))

pub frame_visited : (b : ℕ) (children children' : ℕ → List ℕ) (w w' : ℕ → ℕ) (d u : ℕ)
    → ((v : ℕ) → Visited children d u v → (children' v ≡ children v) × (w' v ≡ w v))
    → walk b children' w' d u ≡ walk b children w d u
frame_visited b children children' w w' d u h =
    let l : List ℕ = visits children d u in
    let g : ℕ → ℕ = λ v. one (not (has v l)) in
    frame b g children children' w w' (λ v z. h v (of_one_not (has v l) z)) d u (total_visits children g d u ∙ outside l l (λ v t. t))

-- ---- zero: the number of ways to x is 0 just when x is not visited

or_none : (a b : Bool) (n : ℕ) → (n ≡ 0 ↔ (b ≡ false)) → (one a + n ≡ 0 ↔ ((a || b) ≡ false))
or_none true b n h = (λ e. absurd (omega arith), λ e. absurd (true≢false e))
or_none false b n h = (λ e. h.0 (omega arith), λ e. omega (arith, h.1 e))

sums_is : (x : ℕ) (l : List ℕ) → (sums (is x) l ≡ 0) ↔ (has x l ≡ false)
sums_is x [] = (λ e. refl, λ e. refl)
sums_is x (y ∷ ys) = or_none (eqb y x) (has x ys) (sums (is x) ys) (sums_is x ys)

pub zero_iff : (children : ℕ → List ℕ) (x d u : ℕ) → (total children (is x) d u ≡ 0) ↔ (has x (visits children d u) ≡ false)
zero_iff children x d u = rw total_visits (sums_is x (visits children d u))

-- ---- height: fuel that covers every way is exact, whatever stands at its end

module _ (children : ℕ → List ℕ) (w : ℕ → ℕ) (b b' : ℕ) where
  pub height : (d u : ℕ) → deep children d u ≡ 0 → walk b children w d u ≡ walk b' children w (suc d) u
  unfolding walk
  height zero u z = omega arith
  height (suc d) u z =
      ap (λ (n : ℕ). w u + n) (sums_ext (walk 1 children nothing d) (walk b' children w (suc d)) (walk b children w d) (height d) (children u) (omega arith))

pub deep_suc : (children : ℕ → List ℕ) (d u : ℕ) → deep children d u ≡ 0 → deep children (suc d) u ≡ 0
deep_suc children d u z = sym (height children nothing 1 1 d u z) ∙ z

pub deep_more : (children : ℕ → List ℕ) (k d u : ℕ) → deep children d u ≡ 0 → deep children (k + d) u ≡ 0
deep_more children zero d u z = rw zero-add z
deep_more children (suc k) d u z = rw suc-add (deep_suc children (k + d) u (deep_more children k d u z))

pub height_more : (children : ℕ → List ℕ) (w : ℕ → ℕ) (b k d u : ℕ) → deep children d u ≡ 0 → walk b children w d u ≡ walk b children w (k + d) u
height_more children w b zero d u z = rw zero-add
height_more children w b (suc k) d u z = rw suc-add (height_more children w b k d u z ∙ height children w b b (k + d) u (deep_more children k d u z))
