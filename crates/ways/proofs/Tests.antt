-- Tests as facts: what a Bool that is true or false says. Assumes nothing.
use mathlib.Core.Path.{◌≡◌, refl, sym, subst}
use mathlib.Core.Bool.{Bool, true, false, ◌||◌, ◌&&◌, not, true≢false}
use mathlib.Core.Logic.{◌⊎◌, inl, inr}
use Prim.Native.Nat.{ℕ}
use lib.Dec.{T, eqb, eqb_refl, eqb→eq}

pub T→eq : (b : Bool) → T b → b ≡ true
T→eq true t = refl
T→eq false t = absurd t

pub eq→T : (b : Bool) → b ≡ true → T b
eq→T true e = tt
eq→T false e = absurd (true≢false (sym e))

pub F→eq : (b : Bool) → (T b → ⊥) → b ≡ false
F→eq true h = absurd (h tt)
F→eq false h = refl

pub not→eq : (b : Bool) → T (not b) → b ≡ false
not→eq true t = absurd t
not→eq false t = refl

pub eq→not : (b : Bool) → b ≡ false → T b → ⊥
eq→not true e t = true≢false e
eq→not false e t = t

pub and_l : (a b : Bool) → T (a && b) → T a
and_l true b t = tt
and_l false b t = t

pub and_r : (a b : Bool) → T (a && b) → T b
and_r true b t = t
and_r false b t = absurd t

pub and_i : (a b : Bool) → T a → T b → T (a && b)
and_i true b s t = t
and_i false b s t = s

pub or_e : (a b : Bool) → T (a || b) → T a ⊎ T b
or_e true b t = inl tt
or_e false b t = inr t

pub or_l : (a b : Bool) → T a → T (a || b)
or_l true b t = tt
or_l false b t = absurd t

pub or_r : (a b : Bool) → T b → T (a || b)
or_r true b t = tt
or_r false b t = t

-- two numbers are equal or the test says not
pub same? : (x y : ℕ) → (x ≡ y) ⊎ (eqb x y ≡ false)
same? x y = go (eqb x y) refl
  where
    go : (b : Bool) → eqb x y ≡ b → (x ≡ y) ⊎ (eqb x y ≡ false)
    go true e = inl (eqb→eq x y (eq→T (eqb x y) e))
    go false e = inr e

pub iff_eq : (a b : Bool) → (T a → T b) → (T b → T a) → a ≡ b
iff_eq true true f g = refl
iff_eq true false f g = absurd (f tt)
iff_eq false true f g = absurd (g tt)
iff_eq false false f g = refl

-- two numbers are equal or not
pub same_or : (x y : ℕ) → (x ≡ y) ⊎ (x ≡ y → ⊥)
same_or x y = go (eqb x y) refl
  where
    go : (b : Bool) → eqb x y ≡ b → (x ≡ y) ⊎ (x ≡ y → ⊥)
    go true e = inl (eqb→eq x y (eq→T (eqb x y) e))
    go false e = inr (λ p. eq→not (eqb x y) e (subst (λ (k : ℕ). T (eqb x k)) p (eqb_refl x)))
