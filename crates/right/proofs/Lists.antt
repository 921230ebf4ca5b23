-- Members and tests of lists that were cut, joined and stored into. Assumes nothing.
use mathlib.Core.Path.{◌≡◌, sym}
use mathlib.Core.Bool.{Bool}
use mathlib.Core.Logic.{◌⊎◌, inl, inr, ⊎_elim}
use mathlib.Core.List.{List, [], ◌∷◌, ◌++◌, map}
use Prim.Native.Nat.{ℕ, zero, suc, ◌+◌, ◌≤◌, ◌<◌}
use native.Mathlib.Omega.{arith}
use lib.Dec.{T, eqb, leb, eqb→eq, leb→le, le→leb}
use lib.ListN.{length, get_or, set, take, drop}
use Rattle.ways.specs.Ways.{is, has}
use Rattle.rules.specs.Tables.{all, times, joined}
use Rattle.rules.specs.Store.{in_use}
use Rattle.right.specs.Ledger.{Each}
use Rattle.ways.proofs.Frame.{sums_append}
use Rattle.ways.proofs.Tests.{and_l, and_r, and_i, or_e, or_l, or_r}
use Rattle.ways.proofs.Members.{has_pos, pos_has}

-- ---- members

pub times_take : (x n : ℕ) (l : List ℕ) → times x (take n l) ≤ times x l
times_take x zero l = omega arith
times_take x (suc n) [] = omega arith
times_take x (suc n) (y ∷ ys) = omega (arith, times_take x n ys)

pub times_drop : (x n : ℕ) (l : List ℕ) → times x (drop n l) ≤ times x l
times_drop x zero l = omega arith
times_drop x (suc n) [] = omega arith
times_drop x (suc n) (y ∷ ys) = omega (arith, times_drop x n ys)

pub has_take : (x n : ℕ) (l : List ℕ) → T (has x (take n l)) → T (has x l)
has_take x n l t = pos_has x l (omega (arith, times_take x n l, has_pos x (take n l) t))

pub has_drop : (x n : ℕ) (l : List ℕ) → T (has x (drop n l)) → T (has x l)
has_drop x n l t = pos_has x l (omega (arith, times_drop x n l, has_pos x (drop n l) t))

pub has_set : (x i a : ℕ) (l : List ℕ) → T (has x (set l i a)) → (x ≡ a) ⊎ T (has x l)
has_set x i a [] t = inr t
has_set x zero a (y ∷ ys) t =
    ⊎_elim (λ (q : T (eqb a x)). inl (sym (eqb→eq a x q))) (λ (q : T (has x ys)). inr (or_r (eqb y x) (has x ys) q)) (or_e (eqb a x) (has x ys) t)
has_set x (suc i) a (y ∷ ys) t =
    ⊎_elim
    (λ (q : T (eqb y x)). inr (or_l (eqb y x) (has x ys) q))
    (λ (q : T (has x (set ys i a))). ⊎_elim (λ e. inl e) (λ h. inr (or_r (eqb y x) (has x ys) h)) (has_set x i a ys q))
    (or_e (eqb y x) (has x (set ys i a)) t)

-- ---- tests of all members

module _ {A : Type 0} (f : A → Bool) where
  pub all_append : (xs ys : List A) → T (all f xs) → T (all f ys) → T (all f (xs ++ ys))
  all_append [] ys a b = b
  all_append (x ∷ xs) ys a b = and_i (f x) (all f (xs ++ ys)) (and_l (f x) (all f xs) a) (all_append xs ys (and_r (f x) (all f xs) a) b)

  pub all_right : (xs ys : List A) → T (all f (xs ++ ys)) → T (all f ys)
  all_right [] ys a = a
  all_right (x ∷ xs) ys a = all_right xs ys (and_r (f x) (all f (xs ++ ys)) a)

  pub all_take : (n : ℕ) (l : List A) → T (all f l) → T (all f (take n l))
  all_take zero l a = tt
  all_take (suc n) [] a = tt
  all_take (suc n) (x ∷ xs) a = and_i (f x) (all f (take n xs)) (and_l (f x) (all f xs) a) (all_take n xs (and_r (f x) (all f xs) a))

  pub all_drop : (n : ℕ) (l : List A) → T (all f l) → T (all f (drop n l))
  all_drop zero l a = a
  all_drop (suc n) [] a = tt
  all_drop (suc n) (x ∷ xs) a = all_drop n xs (and_r (f x) (all f xs) a)

  pub all_set : (i : ℕ) (y : A) (l : List A) → T (f y) → T (all f l) → T (all f (set l i y))
  all_set i y [] h a = tt
  all_set zero y (x ∷ xs) h a = and_i (f y) (all f xs) h (and_r (f x) (all f xs) a)
  all_set (suc i) y (x ∷ xs) h a = and_i (f x) (all f (set xs i y)) (and_l (f x) (all f xs) a) (all_set i y xs h (and_r (f x) (all f xs) a))

  pub all_get : (i : ℕ) (z : A) (l : List A) → T (f z) → T (all f l) → T (f (get_or l i z))
  all_get i z [] h a = h
  all_get zero z (x ∷ xs) h a = and_l (f x) (all f xs) a
  all_get (suc i) z (x ∷ xs) h a = all_get i z xs h (and_r (f x) (all f xs) a)

  -- a test that follows from another, of what a function makes
  pub all_map : (g : A → Bool) (m : A → A) → ((x : A) → T (g x) → T (f (m x))) → (l : List A) → T (all g l) → T (all f (map m l))
  all_map g m h [] a = tt
  all_map g m h (x ∷ xs) a = and_i (f (m x)) (all f (map m xs)) (h x (and_l (g x) (all g xs) a)) (all_map g m h xs (and_r (g x) (all g xs) a))

  pub all_from : (g : A → Bool) → ((x : A) → T (g x) → T (f x)) → (l : List A) → T (all g l) → T (all f l)
  all_from g h [] a = tt
  all_from g h (x ∷ xs) a = and_i (f x) (all f xs) (h x (and_l (g x) (all g xs) a)) (all_from g h xs (and_r (g x) (all g xs) a))

-- the units of a list of slots of which one is replaced
pub joined_set : {A : Type 0} (g : A → List ℕ) (u i : ℕ) (z y : A) (l : List A) → i < length l
    → times u (joined g (set l i y)) + times u (g (get_or l i z)) ≡ times u (joined g l) + times u (g y)
joined_set g u i z y [] h = absurd (omega arith)
joined_set g u zero z y (x ∷ xs) h = omega (arith, sums_append (is u) (g y) (joined g xs), sums_append (is u) (g x) (joined g xs))
joined_set g u (suc i) z y (x ∷ xs) h =
    omega (arith, sums_append (is u) (g x) (joined g (set xs i y)), sums_append (is u) (g x) (joined g xs), joined_set g u i z y xs (omega arith))

pub weaker : (m n : ℕ) → m ≤ n → (l : List ℕ) → T (all (λ o. leb o m) l) → T (all (λ o. leb o n) l)
weaker m n h = all_from (λ o. leb o n) (λ o. leb o m) (λ o t. le→leb o n (omega (arith, leb→le o m t)))

pub in_use_set : (b i : ℕ) (y : List ℕ) (ls : List (List ℕ)) → T (in_use (set ls i y) b) → T (has b y) ⊎ T (in_use ls b)
in_use_set b i y [] t = inr t
in_use_set b zero y (l ∷ ls) t =
    ⊎_elim (λ q. inl q) (λ (q : T (in_use ls b)). inr (or_r (has b l) (in_use ls b) q)) (or_e (has b y) (in_use ls b) t)
in_use_set b (suc i) y (l ∷ ls) t =
    ⊎_elim
    (λ (q : T (has b l)). inr (or_l (has b l) (in_use ls b) q))
    (λ (q : T (in_use (set ls i y) b)). ⊎_elim (λ e. inl e) (λ h. inr (or_r (has b l) (in_use ls b) h)) (in_use_set b i y ls q))
    (or_e (has b l) (in_use (set ls i y) b) t)

module _ {A : Type 0} (P : ℕ → A → Type 0) where
  pub each_append : (es fs : List (ℕ × A)) → Each P es → Each P fs → Each P (es ++ fs)
  each_append [] fs a b = b
  each_append (e ∷ es) fs a b = (a.0, each_append es fs a.1 b)
