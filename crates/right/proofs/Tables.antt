-- Tests, tables and lists as the store uses them. Assumes nothing.
use mathlib.Core.Path.{◌≡◌, refl, sym, ap, ◌∙◌, subst}
use mathlib.Core.Bool.{Bool, true, false, ◌||◌, not, true≢false}
use mathlib.Core.Logic.{⊎_elim}
use mathlib.Core.List.{List, [], ◌∷◌, ◌++◌}
use mathlib.Core.Option.{Option, none, some}
use Prim.Native.Nat.{ℕ, ◌≤◌}
use native.Mathlib.Omega.{arith}
use lib.Dec.{T, eqb, eqb_refl, eqb→eq}
use Rattle.ways.specs.Ways.{is, one, has}
use Rattle.rules.specs.Tables.{put, puts, keep, keys, times, all, distinct}
use Rattle.right.specs.Ledger.{Holds}
use Rattle.ways.proofs.Tests.{T→eq, F→eq, not→eq, eq→not, and_l, and_r, or_e, same?}
use Rattle.ways.proofs.Members.{sums_none}

-- what a test of all members says of one
pub all_in : (f : ℕ → Bool) (l : List ℕ) (x : ℕ) → T (all f l) → T (has x l) → T (f x)
all_in f [] x a t = absurd t
all_in f (y ∷ ys) x a t =
    ⊎_elim
    (λ (q : T (eqb y x)). subst (λ (k : ℕ). T (f k)) (eqb→eq y x q) (and_l (f y) (all f ys) a))
    (λ (q : T (has x ys)). all_in f ys x (and_r (f y) (all f ys) a) q)
    (or_e (eqb y x) (has x ys) t)

-- in a list whose members are distinct each stands at most once
pub distinct_once : (l : List ℕ) → T (distinct l) → (x : ℕ) → times x l ≤ 1
distinct_once [] t x = omega arith
distinct_once (y ∷ ys) t x =
    ⊎_elim
    (λ (e : y ≡ x).
    let z : has x ys ≡ false = subst (λ (k : ℕ). has k ys ≡ false) e (not→eq (has y ys) (and_l (not (has y ys)) (distinct ys) t)) in
    let n : times x ys ≡ 0 = none_of x ys z in
    omega (arith, le_one (eqb y x)))
    (λ (e : eqb y x ≡ false). omega (arith, ap one e, distinct_once ys (and_r (not (has y ys)) (distinct ys) t) x))
    (same? y x)
  where
    le_one : (b : Bool) → one b ≤ 1
    le_one true = omega arith
    le_one false = omega arith

    none_of : (x : ℕ) (l : List ℕ) → has x l ≡ false → times x l ≡ 0
    none_of x l e = sums_none (is x) l (λ c h. ⊎_elim (λ (q : c ≡ x). absurd (eq→not (has x l) e (subst (λ (k : ℕ). T (has k l)) q h))) (λ (q : eqb c x ≡ false). ap one q) (same? c x))

-- ---- tables

module _ {A : Type 0} where
  pub put_same : (t : ℕ → Option A) (e : ℕ × A) → put t e e.0 ≡ some e.1
  put_same t e = rw (T→eq (eqb e.0 e.0) (eqb_refl e.0))

  pub put_other : (t : ℕ → Option A) (e : ℕ × A) (v : ℕ) → eqb e.0 v ≡ false → put t e v ≡ t v
  put_other t e v h = rw (eqb_flip v e.0 ∙ h)
    where
      eqb_flip : (m n : ℕ) → eqb m n ≡ eqb n m
      eqb_flip m n = ⊎_elim (λ (q : m ≡ n). rw q) (λ (q : eqb m n ≡ false). q ∙ sym (F→eq (eqb n m) (λ t. eq→not (eqb m n) q (subst (λ (k : ℕ). T (eqb k n)) (eqb→eq n m t) (eqb_refl n))))) (same? m n)

  pub puts_other : (es : List (ℕ × A)) (t : ℕ → Option A) (v : ℕ) → has v (keys es) ≡ false → puts t es v ≡ t v
  puts_other [] t v h = refl
  puts_other (e ∷ es) t v h =
      puts_other es (put t e) v (or_false_r (eqb e.0 v) (has v (keys es)) h) ∙ put_other t e v (or_false_l (eqb e.0 v) (has v (keys es)) h)
    where
      or_false_l : (a b : Bool) → (a || b) ≡ false → a ≡ false
      or_false_l true b e = absurd (true≢false e)
      or_false_l false b e = refl

      or_false_r : (a b : Bool) → (a || b) ≡ false → b ≡ false
      or_false_r true b e = absurd (true≢false e)
      or_false_r false b e = e

  pub puts_holds : (es : List (ℕ × A)) (t : ℕ → Option A) → T (distinct (keys es)) → Holds (puts t es) es
  puts_holds [] t h = tt
  puts_holds (e ∷ es) t h = (
    puts_other es (put t e) e.0 (not→eq (has e.0 (keys es)) (and_l (not (has e.0 (keys es))) (distinct (keys es)) h)) ∙ put_same t e,
    puts_holds es (put t e) (and_r (not (has e.0 (keys es))) (distinct (keys es)) h),
  )

  pub holds_append : (t : ℕ → Option A) (es fs : List (ℕ × A)) → Holds t (es ++ fs) → Holds t es × Holds t fs
  holds_append t [] fs h = (tt, h)
  holds_append t (e ∷ es) fs h = let r = holds_append t es fs h.1 in ((h.0, r.0), r.1)

  pub keys_append : (es fs : List (ℕ × A)) → keys (es ++ fs) ≡ keys es ++ keys fs
  keys_append [] fs = refl
  keys_append (e ∷ es) fs = ap (λ (l : List ℕ). e.0 ∷ l) (keys_append es fs)

  pub keep_in : (f : ℕ → Bool) (t : ℕ → Option A) (v : ℕ) → T (f v) → keep f t v ≡ t v
  keep_in f t v h = rw (T→eq (f v) h)

  pub keep_out : (f : ℕ → Bool) (t : ℕ → Option A) (v : ℕ) → f v ≡ false → keep f t v ≡ none
  keep_out f t v h = rw h
