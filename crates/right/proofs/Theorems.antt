-- The theorems of the store, from the record's bytes. Assumes nothing.
use mathlib.Core.Path.{◌≡◌, refl, sym, ap, subst}
use mathlib.Core.Bool.{Bool, true, false, ◌&&◌, not, cond}
use mathlib.Core.Logic.{◌↔◌}
use mathlib.Core.List.{List, [], ◌∷◌}
use Prim.Native.Nat.{ℕ, zero, suc, ◌+◌, ◌≤◌}
use native.Mathlib.Omega.{arith}
use lib.Dec.{T, eqb, leb, eqb→eq}
use lib.ListN.{length, get_or, take, drop, length-take, length-drop}
use Rattle.ways.specs.Ways.{sums, walk, visits, is, has, flat, deep}
use Rattle.rules.specs.Tables.{times, sift, slice}
use Rattle.rules.specs.Store.{units, Store, empty_store, owned}
use Rattle.right.specs.Ledger.{disowned, owns}
use Rattle.rules.specs.Steps.{accepted, decide, Step, no_step, change, steps, step}
use Rattle.units.specs.Bodies.{body_parts, body_length, sum_of}
use Rattle.rules.specs.Right.{Right}
use Rattle.ways.proofs.Tests.{eq→T, F→eq, eq→not, and_l, and_r, and_i}
use Rattle.ways.proofs.Members.{has_pos, pos_has}
use Rattle.right.proofs.Ledger.{has_unit}
use Rattle.right.proofs.Steps.{need_ok, Even, change_right}
use Rattle.right.specs.Counts.{Counted}
use Rattle.right.proofs.Counts.{counted}

-- ---- a record's path has as many units as indexes

cuts : (d a c n : ℕ) (b : List ℕ) → length b ≡ n → a + 7 ≤ n → c + 7 ≤ n → length (take d (slice a 7 b)) ≡ length (take d (slice c 7 b))
cuts d a c n b h ha hc =
    omega (arith, length-take d (slice a 7 b), length-take d (slice c 7 b), length-take 7 (drop a b), length-take 7 (drop c b), length-drop a b, length-drop c b)

Pairs : List ℕ → List Step → List (List ℕ) → Type 0
Pairs b [] ls = Unit {0}
Pairs b (m ∷ ms) [] = ⊥
Pairs b (m ∷ ms) (l ∷ ls) = (length b ≡ sum_of l → Even m) × Pairs b ms ls

pick : (b : List ℕ) (ms : List Step) (ls : List (List ℕ)) → Pairs b ms ls → (k : ℕ) → length b ≡ sum_of (get_or ls k []) → Even (get_or ms k no_step)
unfolding Pairs Even
pick b [] ls p k h = tt
pick b (m ∷ ms) [] p k h = absurd p
pick b (m ∷ ms) (l ∷ ls) p zero h = p.0 h
pick b (m ∷ ms) (l ∷ ls) p (suc k) h = pick b ms ls p.1 k h

even_step : (b : List ℕ) (k : ℕ) → length b ≡ body_length k → Even (get_or (steps b) k no_step)
unfolding Pairs Even
even_step b k h =
    pick b (steps b) body_parts (
      λ e. tt,
      (
        λ e. tt,
        (
          λ e. tt,
          (
            λ e. tt,
            (
              λ e. tt,
              (
                λ e. tt,
                (
                  λ e. cuts (get_or b 0 0) 8 1 20 b e (omega arith) (omega arith),
                  (
                    λ e. cuts (get_or b 0 0) 8 1 19 b e (omega arith) (omega arith),
                    (λ e. tt, (λ e. cuts (get_or b 2 0) 10 3 20 b e (omega arith) (omega arith), (λ e. tt, tt))),
                  ),
                ),
              ),
            ),
          ),
        ),
      ),
    )
    k h

-- ---- what an accepted record says

pub record Read (s : Store) (r : List ℕ) (s' : Store) : Type 0 where
  pub said : Step
  pub even : Even said
  pub decided : decide s (change s said) ≡ accepted s'

pub read : (s : Store) (r : List ℕ) (s' : Store) → step s r ≡ accepted s' → Read s r s'
unfolding step
read s [] s' e = absurd (let z : ◌≡◌ {A = ℕ} 0 1 = cc in omega arith)
read s (k ∷ b) s' e =
    let a2 = need_ok (leb 1 k && leb k 10) 2 _ s' e in
    let a3 = need_ok (eqb (length b) (body_length k)) 3 _ s' a2.1 in
    record { said = get_or (steps b) k no_step; even = even_step b k (eqb→eq (length b) (body_length k) a3.0); decided = a3.1 }

-- THEOREM 1. The empty store is right, and each accepted step leads from a right store to a right one
pub step_right : (s : Store) → Right s → (r : List ℕ) (s' : Store) → step s r ≡ accepted s' → Right s'
step_right s h r s' e = let d : Read s r s' = read s r s' e in change_right s h d.said d.even s' d.decided

pub empty_right : Right empty_store
unfolding owned units
empty_right =
    record {
      sound = record {
        rooted = λ r t. absurd t;
        node = λ u n e. absurd (let z : ◌≡◌ {A = ℕ} 0 1 = cc in omega arith);
        branch = λ b us e. absurd (let z : ◌≡◌ {A = ℕ} 0 1 = cc in omega arith);
        slot_number = refl;
        slot = tt;
        input_number = refl;
        input = tt;
        input_named = λ b t. absurd t;
        single = λ u. omega arith;
        node_unit = λ u t. absurd t;
        branch_unit = λ b t. absurd t;
        unit = λ u t. absurd t;
        low = refl;
      };
      live_node = λ u t. absurd t;
      live_branch = λ b t. absurd t;
      few = λ b t. absurd t;
      few_ways = λ u. omega arith;
    }

-- THEOREM 2. The counts after a step are those before it, with what came and without what went
pub step_counts : (s : Store) → Right s → (r : List ℕ) (s' : Store) (e : step s r ≡ accepted s') → Counted s s' (change s (read s r s' e).said)
step_counts s h r s' e = let d : Read s r s' = read s r s' e in counted s h d.said d.even s' d.decided

-- THEOREM 3. A unit is freed just when it was held and is not
sift_yes : (f : ℕ → Bool) (x : ℕ) → T (f x) → (l : List ℕ) → times x (sift f l) ≡ times x l
sift_yes f x h [] = refl
sift_yes f x h (y ∷ ys) = go (sift_yes f x h ys) (f y) refl
  where
    go : times x (sift f ys) ≡ times x ys → (b : Bool) → f y ≡ b → times x (cond b (y ∷ sift f ys) (sift f ys)) ≡ times x (y ∷ ys)
    go ih true e = omega arith
    go ih false e =
        omega (
          arith,
          ap Rattle.ways.specs.Ways.one (F→eq (eqb y x) (λ t. eq→not (f y) e (subst (λ (k : ℕ). T (f k)) (sym (eqb→eq y x t)) h))),
        )

sift_no : (f : ℕ → Bool) (x : ℕ) → f x ≡ false → (l : List ℕ) → times x (sift f l) ≡ 0
sift_no f x h [] = refl
sift_no f x h (y ∷ ys) = go (sift_no f x h ys) (f y) refl
  where
    go : times x (sift f ys) ≡ 0 → (b : Bool) → f y ≡ b → times x (cond b (y ∷ sift f ys) (sift f ys)) ≡ 0
    go ih true e =
        omega (
          arith,
          ap Rattle.ways.specs.Ways.one (F→eq (eqb y x) (λ t. eq→not (f x) h (subst (λ (k : ℕ). T (f k)) (eqb→eq y x t) (subst (λ (c : Bool). T c) (sym e) tt)))),
        )
    go ih false e = ih

pub disowned_iff : (s s' : Store) → Right s → (u : ℕ) → T (has u (disowned s s')) ↔ (T (owns s u) × T (not (owns s' u)))
unfolding disowned
disowned_iff s s' r u = (there, back)
  where
    f : ℕ → Bool
    f v = has v (owned s) && not (has v (owned s'))

    there : T (has u (sift f units)) → T (owns s u) × T (not (owns s' u))
    there t = go (f u) refl
      where
        go : (b : Bool) → f u ≡ b → T (owns s u) × T (not (owns s' u))
        go true e = (and_l (owns s u) (not (owns s' u)) (eq→T (f u) e), and_r (owns s u) (not (owns s' u)) (eq→T (f u) e))
        go false e = absurd (omega (arith, has_pos u (sift f units) t, sift_no f u e units))

    back : T (owns s u) × T (not (owns s' u)) → T (has u (sift f units))
    back h =
        let i = r.sound.unit u h.0 in
        pos_has u (sift f units) (omega (arith, sift_yes f u (and_i (owns s u) (not (owns s' u)) h.0 h.1) units, has_pos u units (has_unit u i.0 i.1)))
