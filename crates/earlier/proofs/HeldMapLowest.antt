-- Laws of held_map for loops and answers that src/ no longer has. Assumes nothing.
use mathlib.Core.Bool.{cond}
use mathlib.Core.Logic.{⊎_elim}
use mathlib.Core.Path.{◌≡◌, refl, ◌∙◌}
use mathlib.Core.List.{List}
use Prim.Native.Nat.{ℕ, zero, suc, ◌+◌, ◌-◌, ◌*◌, ◌/◌, ◌%◌, ◌^◌, ◌≤◌, ◌<◌, max}
use native.Mathlib.Nat.{eq-or-lt_of_le}
use native.Mathlib.Omega.{arith}
use lib.Count.{count_trailing_zeros, under, trailing_le}
use lib.ListN.{get_or}
use Rattle.std.specs.Int.Bits.{bit_or, or_step, or_zero_r}
use Rattle.held_map.specs.Bits.{bit, is_set, with_bit, LowestZero}
use Rattle.held_map.proofs.Bits.{bit_zero, bit_suc}
use Rattle.held_map.proofs.Lowest.{word_from1, Ones}
use Rattle.earlier.proofs.HeldMapBits.{bit_not}

-- a run of zeros and the one above it
record Run (n w t : ℕ) : Type 0 where
  zeros : (j : ℕ) → j < t → bit w j ≡ 0
  one : t < n → bit w t ≡ 1

run : (n w : ℕ) → Run n w (count_trailing_zeros n w)
unfolding count_trailing_zeros
run zero w = record { zeros = λ j h. absurd (omega arith); one = λ h. absurd (omega arith) }
run (suc n) w = go (w % 2) refl (run n (w / 2))
  where
    go : (r : ℕ) → w % 2 ≡ r → Run n (w / 2) (count_trailing_zeros n (w / 2)) → Run (suc n) w (under (w % 2) (count_trailing_zeros n (w / 2)))
    go zero e q =
        let t = count_trailing_zeros n (w / 2) in
        let z : (j : ℕ) → j < suc t → bit w j ≡ 0 = λ j h. low j h in
        rw e (record { zeros = z; one = λ h. bit_suc w t ∙ q.one (omega arith) })
      where
        low : (j : ℕ) → j < suc (count_trailing_zeros n (w / 2)) → bit w j ≡ 0
        low zero h = bit_zero w ∙ e
        low (suc j) h = bit_suc w j ∙ q.zeros j (omega arith)
    go (suc r) e q =
        let o : w % 2 ≡ 1 = omega arith in
        rw o (record { zeros = λ j h. absurd (omega arith); one = λ h. bit_zero w ∙ o })

pub lowest_zero : (w : ℕ) → w < 2 ^ 64 → LowestZero w (count_trailing_zeros 64 (18446744073709551615 - w))
lowest_zero w h =
    let v = 18446744073709551615 - w in
    let q = run 64 v in
    let l = trailing_le 64 v in
    record {
      ones = λ j p. omega (arith, bit_not 64 w j h (omega arith), q.zeros j p);
      free = λ p. omega (arith, bit_not 64 w (count_trailing_zeros 64 v) h p, q.one p);
      most = l;
    }

-- bit 0 set by the one form and by the other
with_first : (w : ℕ) → with_bit w 0 ≡ bit_or w 1
unfolding with_bit
with_first w = go (w % 2) refl
  where
    halves : bit_or w 1 ≡ (w / 2) * 2 + max (w % 2) 1
    halves = omega (arith, or_step w 1, or_zero_r (w / 2))

    go : (r : ℕ) → w % 2 ≡ r → cond (is_set w 0) w (w + 1) ≡ bit_or w 1
    go zero e = rw (bit_zero w, e) (omega (arith, halves))
    go (suc r) e = let o : w % 2 ≡ 1 = omega arith in rw (bit_zero w, o) (omega (arith, halves))

pub ones_more : (m : List ℕ) (q : ℕ) {z : ℕ} → Ones m q → LowestZero (word_from1 m q) z → 64 ≤ z → Ones m (suc q)
ones_more m q o f h i j p l =
    ⊎_elim
    (λ (e : i ≡ q). rw e (f.ones j (omega arith)))
    (λ (k : i < q). o i j k l)
    (eq-or-lt_of_le (omega arith))

pub ones_first : (m : List ℕ) {w z : ℕ} → w ≡ with_bit (get_or m 0 0) 0 → LowestZero w z → LowestZero (word_from1 m 0) z
ones_first m e f = rw (← with_first (get_or m 0 0), ← e) f

pub ones_none : (m : List ℕ) → Ones m 0
ones_none m i j p l = absurd (omega arith)
