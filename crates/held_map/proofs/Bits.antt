-- Laws of single bits. A bit that is 0 is set by + 2 ^ k, one that is 1 cleared by - 2 ^ k; each law goes by one bit at a time.
-- Assumes nothing.
use mathlib.Core.Bool.{Bool, true, false, ◌||◌, ◌&&◌, not, cond}
use mathlib.Core.Logic.{◌⊎◌, inl, inr, ⊎_elim}
use mathlib.Core.Path.{◌≡◌, refl, ap, sym, ◌∙◌}
use Prim.Native.Nat.{ℕ, zero, suc, ◌+◌, ◌-◌, ◌*◌, ◌/◌, ◌%◌, ◌^◌, ◌≤◌, ◌<◌, min, max}
use native.Mathlib.Nat.{pow-suc}
use native.Mathlib.Omega.{arith}
use borrow.Author.Tests.{eqb-true, eqb-false, eq-eqb, ne_eqb}
use Rattle.std.specs.Int.{w64, bit_at}
use Rattle.std.specs.Int.Bits.{bit_and, bit_or, and_lt}
use Rattle.std.proofs.Math.Pow.{pow-lt}
use Rattle.std.proofs.lemmas.Nat.{or_lt}
use Rattle.std.proofs.lemmas.Nat.Bits.{bit_at_lowest, bit_at-suc, bit_at_and, bit_at_or, bit_at_not, bit_at-pow_same, bit_at-pow_other, shr_and_one}
use lib.Dec.{eqb}
use Rattle.ways.proofs.Tests.{same_or}
use Rattle.held_map.specs.Bits.{bit, is_set, with_bit, without_bit, Less}

pub bit_zero : (w : ℕ) → bit w 0 ≡ w % 2
unfolding bit
bit_zero w = bit_at_lowest w

pub bit_suc : (w k : ℕ) → bit w (suc k) ≡ bit (w / 2) k
unfolding bit
bit_suc w k = bit_at-suc w k

pub bit_lt : (w k : ℕ) → bit w k < 2
unfolding bit
bit_lt w k = omega arith

pub set_bit : (w k : ℕ) → is_set w k ≡ true → bit w k ≡ 1
set_bit w k e = eqb-true (bit w k) 1 e

pub clear_bit : (w k : ℕ) → is_set w k ≡ false → bit w k ≡ 0
clear_bit w k e =
    let n = eqb-false (bit w k) 1 e in
    let l = bit_lt w k in
    omega arith

-- ---- a bit set

half_add : (w k : ℕ) → (w + 2 ^ suc k) / 2 ≡ w / 2 + 2 ^ k
half_add w k = omega (arith, pow-suc 2 k)

low_add : (w k : ℕ) → (w + 2 ^ suc k) % 2 ≡ w % 2
low_add w k = omega (arith, pow-suc 2 k)

-- within the word
pub add_fits : (n k w : ℕ) → w < 2 ^ n → k < n → bit w k ≡ 0 → w + 2 ^ k < 2 ^ n
add_fits zero k w h l e = absurd (omega arith)
add_fits (suc n) zero w h l e = omega (arith, pow-suc 2 n, bit_zero w)
add_fits (suc n) (suc k) w h l e =
    let q = add_fits n k (w / 2) (omega (arith, pow-suc 2 n)) (omega arith) (sym (bit_suc w k) ∙ e) in
    omega (arith, pow-suc 2 n, pow-suc 2 k)

add_same : (k w : ℕ) → bit w k ≡ 0 → bit (w + 2 ^ k) k ≡ 1
add_same zero w e = omega (arith, bit_zero w, bit_zero (w + 1))
add_same (suc k) w e = rw (bit_suc, half_add) (add_same k (w / 2) (sym (bit_suc w k) ∙ e))

add_other : (k j w : ℕ) → bit w k ≡ 0 → (k ≡ j → ⊥) → bit (w + 2 ^ k) j ≡ bit w j
add_other zero zero w e d = absurd (d refl)
add_other zero (suc j) w e d =
    let q : (w + 1) / 2 ≡ w / 2 = omega (arith, bit_zero w) in
    bit_suc (w + 1) j ∙ ap (λ (x : ℕ). bit x j) q ∙ sym (bit_suc w j)
add_other (suc k) zero w e d = bit_zero (w + 2 ^ suc k) ∙ low_add w k ∙ sym (bit_zero w)
add_other (suc k) (suc j) w e d =
    bit_suc (w + 2 ^ suc k) j ∙ ap (λ (x : ℕ). bit x j) (half_add w k)
    ∙ add_other k j (w / 2) (sym (bit_suc w k) ∙ e) (λ p. d (ap suc p)) ∙ sym (bit_suc w j)

-- ---- a bit cleared

pub sub_le : (k w : ℕ) → bit w k ≡ 1 → 2 ^ k ≤ w
sub_le zero w e = omega (arith, bit_zero w)
sub_le (suc k) w e = let q = sub_le k (w / 2) (sym (bit_suc w k) ∙ e) in omega (arith, pow-suc 2 k)

half_sub : (w k : ℕ) → 2 ^ suc k ≤ w → (w - 2 ^ suc k) / 2 ≡ w / 2 - 2 ^ k
half_sub w k h = omega (arith, pow-suc 2 k)

sub_same : (k w : ℕ) → bit w k ≡ 1 → bit (w - 2 ^ k) k ≡ 0
sub_same zero w e = omega (arith, bit_zero w, bit_zero (w - 1))
sub_same (suc k) w e =
    bit_suc (w - 2 ^ suc k) k ∙ ap (λ (x : ℕ). bit x k) (half_sub w k (sub_le (suc k) w e)) ∙ sub_same k (w / 2) (sym (bit_suc w k) ∙ e)

sub_other : (k j w : ℕ) → bit w k ≡ 1 → (k ≡ j → ⊥) → bit (w - 2 ^ k) j ≡ bit w j
sub_other k j w e d =
    let back : w - 2 ^ k + 2 ^ k ≡ w = omega (arith, sub_le k w e) in
    sym (add_other k j (w - 2 ^ k) (sub_same k w e) d) ∙ ap (λ (x : ℕ). bit x j) back

-- ---- the two as Bool functions of the bit, and that they fit

and_true : (b : Bool) → b ≡ (b && true)
and_true true = refl
and_true false = refl

and_false : (b : Bool) → false ≡ (b && false)
and_false true = refl
and_false false = refl

pub with_set : (w k j : ℕ) → is_set (with_bit w k) j ≡ (eqb k j || is_set w j)
unfolding with_bit
with_set w k j = go (is_set w k) refl (same_or k j)
  where
    go : (b : Bool) → is_set w k ≡ b → (k ≡ j) ⊎ (k ≡ j → ⊥) → is_set (cond b w (w + 2 ^ k)) j ≡ (eqb k j || is_set w j)
    go true e (inl p) = rw (eq-eqb k j p) (ap (λ (i : ℕ). is_set w i) (sym p) ∙ e)
    go true e (inr n) = rw (ne_eqb k j n) refl
    go false e (inl p) = rw (eq-eqb k j p) (rw (← p) (eq-eqb _ 1 (add_same k w (clear_bit w k e))))
    go false e (inr n) = rw (ne_eqb k j n) (ap (λ (x : ℕ). eqb x 1) (add_other k j w (clear_bit w k e) n))

pub without_set : (w k j : ℕ) → is_set (without_bit w k) j ≡ (is_set w j && not (eqb k j))
unfolding without_bit
without_set w k j = go (is_set w k) refl (same_or k j)
  where
    go : (b : Bool) → is_set w k ≡ b → (k ≡ j) ⊎ (k ≡ j → ⊥) → is_set (cond b (w - 2 ^ k) w) j ≡ (is_set w j && not (eqb k j))
    go true e (inl p) =
        rw (eq-eqb k j p) (rw (← p) (ap (λ (x : ℕ). eqb x 1) (sub_same k w (set_bit w k e))) ∙ and_false (is_set w j))
    go true e (inr n) =
        rw (ne_eqb k j n) (ap (λ (x : ℕ). eqb x 1) (sub_other k j w (set_bit w k e) n) ∙ and_true (is_set w j))
    go false e (inl p) = rw (eq-eqb k j p) (ap (λ (i : ℕ). is_set w i) (sym p) ∙ e ∙ and_false (is_set w j))
    go false e (inr n) = rw (ne_eqb k j n) (and_true (is_set w j))

pub with_fits : (n k w : ℕ) → w < 2 ^ n → k < n → with_bit w k < 2 ^ n
unfolding with_bit
with_fits n k w h l = go (is_set w k) refl
  where
    go : (b : Bool) → is_set w k ≡ b → cond b w (w + 2 ^ k) < 2 ^ n
    go true e = h
    go false e = add_fits n k w h l (clear_bit w k e)

pub without_fits : (n k w : ℕ) → w < 2 ^ n → without_bit w k < 2 ^ n
unfolding without_bit
without_fits n k w h = go (is_set w k)
  where
    go : (b : Bool) → cond b (w - 2 ^ k) w < 2 ^ n
    go true = omega arith
    go false = h

-- ---- a word is its bits

pub word_ext : (n w v : ℕ) → w < 2 ^ n → v < 2 ^ n → ((k : ℕ) → k < n → is_set w k ≡ is_set v k) → w ≡ v
word_ext zero w v h l e = omega arith
word_ext (suc n) w v h l e =
    let q = word_ext n (w / 2) (v / 2) (omega (arith, pow-suc 2 n)) (omega (arith, pow-suc 2 n)) (λ k p. up k (e (suc k) (omega arith))) in
    let r = same (w % 2) (v % 2) (omega arith) (omega arith) (low (e 0 (omega arith))) in
    omega arith
  where
    up : (k : ℕ) → is_set w (suc k) ≡ is_set v (suc k) → is_set (w / 2) k ≡ is_set (v / 2) k
    up k p = ap (λ (x : ℕ). eqb x 1) (sym (bit_suc w k)) ∙ p ∙ ap (λ (x : ℕ). eqb x 1) (bit_suc v k)

    low : is_set w 0 ≡ is_set v 0 → eqb (w % 2) 1 ≡ eqb (v % 2) 1
    low p = ap (λ (x : ℕ). eqb x 1) (sym (bit_zero w)) ∙ p ∙ ap (λ (x : ℕ). eqb x 1) (bit_zero v)

    same : (a b : ℕ) → a < 2 → b < 2 → eqb a 1 ≡ eqb b 1 → a ≡ b
    same a b p r s = go (eqb b 1) refl
      where
        go : (t : Bool) → eqb b 1 ≡ t → a ≡ b
        go true f = eqb-true a 1 (s ∙ f) ∙ sym (eqb-true b 1 f)
        go false f = let x = eqb-false a 1 (s ∙ f) in let y = eqb-false b 1 f in omega arith

-- ---- a word's bits with, and without, those of another

bit_not_lem : (w k : ℕ) → w < 2 ^ 64 → k < 64 → bit (18446744073709551615 - w) k ≡ 1 - bit w k
unfolding bit
bit_not_lem w k h l = bit_at_not w64 w k h l

bit_and_lem : (a b k : ℕ) → bit (bit_and a b) k ≡ min (bit a k) (bit b k)
unfolding bit
bit_and_lem a b k = bit_at_and a b k

bit_or_lem : (a b k : ℕ) → bit (bit_or a b) k ≡ max (bit a k) (bit b k)
unfolding bit
bit_or_lem a b k = bit_at_or a b k

less_bit : (x y : ℕ) → x < 2 → y < 2 → eqb (min x (1 - y)) 1 ≡ (eqb x 1 && not (eqb y 1))
less_bit zero zero h l = refl
less_bit zero (suc zero) h l = refl
less_bit (suc zero) zero h l = refl
less_bit (suc zero) (suc zero) h l = refl
less_bit (suc (suc x)) y h l = absurd (omega arith)
less_bit x (suc (suc y)) h l = absurd (omega arith)

more_bit : (x y : ℕ) → x < 2 → y < 2 → eqb (max x y) 1 ≡ (eqb y 1 || eqb x 1)
more_bit zero zero h l = refl
more_bit zero (suc zero) h l = refl
more_bit (suc zero) zero h l = refl
more_bit (suc zero) (suc zero) h l = refl
more_bit (suc (suc x)) y h l = absurd (omega arith)
more_bit x (suc (suc y)) h l = absurd (omega arith)

pub less_set : (a b : ℕ) → b < 2 ^ 64 → Less a b (bit_and a (18446744073709551615 - b))
less_set a b h = record { bits = λ k l. at k l }
  where
    at : (k : ℕ) → k < 64 → is_set (bit_and a (18446744073709551615 - b)) k ≡ (is_set a k && not (is_set b k))
    at k l =
        ap (λ (x : ℕ). eqb x 1) (bit_and_lem a (18446744073709551615 - b) k ∙ ap (min (bit a k)) (bit_not_lem b k h l))
        ∙ less_bit (bit a k) (bit b k) (bit_lt a k) (bit_lt b k)

more_set : (a b k : ℕ) → is_set (bit_or a b) k ≡ (is_set b k || is_set a k)
more_set a b k = ap (λ (x : ℕ). eqb x 1) (bit_or_lem a b k) ∙ more_bit (bit a k) (bit b k) (bit_lt a k) (bit_lt b k)

-- a power is one bit
pow_set : (k j : ℕ) → is_set (2 ^ k) j ≡ eqb k j
unfolding bit
pow_set k j =
    ⊎_elim
    (λ (e : k ≡ j). eq-eqb (bit_at (2 ^ k) j) 1 (rw (← e) (bit_at-pow_same k)) ∙ sym (eq-eqb k j e))
    (λ (n : k ≡ j → ⊥). ap (λ (x : ℕ). eqb x 1) (bit_at-pow_other k j (λ e. n (sym e))) ∙ sym (ne_eqb k j n))
    (same_or k j)

-- the three as code has them
pub or_set : (w k j : ℕ) → is_set (bit_or w (2 ^ k)) j ≡ (eqb k j || is_set w j)
or_set w k j = more_set w (2 ^ k) j ∙ ap (λ (b : Bool). b || is_set w j) (pow_set k j)

shl_one : (k : ℕ) → k < 64 → 1 * 2 ^ k % 2 ^ 64 ≡ 2 ^ k
shl_one k l = let q : 2 ^ k < 2 ^ 64 = pow-lt l in omega (arith, q)

pub set_test : (w k : ℕ) → eqb (bit_and (w / 2 ^ k) 1) 1 ≡ is_set w k
unfolding bit
set_test w k = ap (λ (x : ℕ). eqb x 1) (shr_and_one w k)

pub with_or : (w k : ℕ) → w < 2 ^ 64 → k < 64 → bit_or w (1 * 2 ^ k % 2 ^ 64) ≡ with_bit w k
with_or w k h l =
    ap (bit_or w) (shl_one k l)
    ∙ word_ext 64 (bit_or w (2 ^ k)) (with_bit w k) (or_lt 64 w (2 ^ k) h (pow-lt l)) (with_fits 64 k w h l) (λ j p. or_set w k j ∙ sym (with_set w k j))

pub without_and : (w k : ℕ) → w < 2 ^ 64 → k < 64 → bit_and w (18446744073709551615 - 1 * 2 ^ k % 2 ^ 64) ≡ without_bit w k
without_and w k h l =
    ap (λ (x : ℕ). bit_and w (18446744073709551615 - x)) (shl_one k l)
    ∙ word_ext 64 (bit_and w (18446744073709551615 - 2 ^ k)) (without_bit w k) (and_lt 64 w (18446744073709551615 - 2 ^ k) h (omega arith)) (without_fits 64 k w h)
    (λ j p. (less_set w (2 ^ k) (pow-lt l)).bits j p ∙ ap (λ (b : Bool). is_set w j && not b) (pow_set k j) ∙ sym (without_set w k j))
