-- Members of lists, and how they are told by sums: nothing of graphs or stores. Assumes nothing.
use mathlib.Core.Path.{◌≡◌, refl, ap}
use mathlib.Core.Bool.{Bool, true, false, ◌||◌}
use mathlib.Core.Logic.{◌⊎◌, inl, inr, ⊎_elim}
use mathlib.Core.List.{List, [], ◌∷◌, ◌++◌}
use Prim.Native.Nat.{ℕ, ◌+◌, ◌<◌}
use native.Mathlib.Omega.{arith}
use lib.Dec.{T, eqb, eqb_refl}
use Rattle.ways.specs.Ways.{sums, is, one, has}
use Rattle.ways.proofs.Tests.{T→eq, or_e, or_l, or_r}
use Rattle.ways.proofs.Frame.{sums_append}

-- ---- membership and numbers of places

pub has_pos : (x : ℕ) (l : List ℕ) → T (has x l) → 0 < sums (is x) l
has_pos x [] t = absurd t
has_pos x (y ∷ ys) t =
    ⊎_elim
    (λ (q : T (eqb y x)). omega (arith, ap one (T→eq (eqb y x) q)))
    (λ (q : T (has x ys)). omega (arith, has_pos x ys q))
    (or_e (eqb y x) (has x ys) t)

pos_or : (a b : Bool) (n : ℕ) → (0 < n → T b) → 0 < one a + n → T (a || b)
pos_or true b n h p = tt
pos_or false b n h p = h (omega arith)

pub pos_has : (x : ℕ) (l : List ℕ) → 0 < sums (is x) l → T (has x l)
pos_has x [] p = omega arith
pos_has x (y ∷ ys) p = pos_or (eqb y x) (has x ys) (sums (is x) ys) (pos_has x ys) p

pub has_append : (x : ℕ) (l m : List ℕ) → T (has x (l ++ m)) → T (has x l) ⊎ T (has x m)
has_append x [] m t = inr t
has_append x (y ∷ ys) m t =
    ⊎_elim
    (λ (q : T (eqb y x)). inl (or_l (eqb y x) (has x ys) q))
    (λ (q : T (has x (ys ++ m))). ⊎_elim (λ a. inl (or_r (eqb y x) (has x ys) a)) (λ b. inr b) (has_append x ys m q))
    (or_e (eqb y x) (has x (ys ++ m)) t)

pub has_left : (x : ℕ) (l m : List ℕ) → T (has x l) → T (has x (l ++ m))
has_left x l m t = pos_has x (l ++ m) (omega (arith, sums_append (is x) l m, has_pos x l t))

pub has_right : (x : ℕ) (l m : List ℕ) → T (has x m) → T (has x (l ++ m))
has_right x l m t = pos_has x (l ++ m) (omega (arith, sums_append (is x) l m, has_pos x m t))

-- a sum is 0 where each member's part is
pub sums_none : (f : ℕ → ℕ) (l : List ℕ) → ((c : ℕ) → T (has c l) → f c ≡ 0) → sums f l ≡ 0
sums_none f [] h = refl
sums_none f (x ∷ xs) h =
    omega (arith, h x (or_l (eqb x x) (has x xs) (eqb_refl x)), sums_none f xs (λ c t. h c (or_r (eqb x c) (has c xs) t)))
