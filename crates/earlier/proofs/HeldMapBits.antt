-- Laws of held_map for loops and answers that src/ no longer has. Assumes nothing.
use mathlib.Core.Bool.{◌&&◌, not}
use mathlib.Core.Path.{◌≡◌, refl}
use Prim.Native.Nat.{ℕ, zero, suc, ◌+◌, ◌-◌, ◌/◌, ◌^◌, ◌<◌, min}
use native.Mathlib.Nat.{pow-suc}
use native.Mathlib.Omega.{arith}
use lib.Dec.{eqb}
use Rattle.held_map.specs.Bits.{bit}
use Rattle.held_map.proofs.Bits.{bit_zero, bit_suc}

-- the complement
pub bit_not : (n w k : ℕ) → w < 2 ^ n → k < n → bit (2 ^ n - 1 - w) k + bit w k ≡ 1
bit_not zero w k h l = absurd (omega arith)
bit_not (suc n) w zero h l = omega (arith, pow-suc 2 n, bit_zero w, bit_zero (2 ^ suc n - 1 - w))
bit_not (suc n) w (suc k) h l =
    let q = bit_not n (w / 2) k (omega (arith, pow-suc 2 n)) (omega arith) in
    let e : (2 ^ suc n - 1 - w) / 2 ≡ 2 ^ n - 1 - w / 2 = omega (arith, pow-suc 2 n) in
    rw (bit_suc (2 ^ suc n - 1 - w) k, bit_suc w k, e) q

one_bit : (x y n : ℕ) → x < 2 → y < 2 → n + y ≡ 1 → (eqb x 1 && not (eqb y 1)) ≡ eqb (min x n) 1
one_bit zero zero n h l e = let p : n ≡ 1 = omega arith in rw p refl
one_bit zero (suc zero) n h l e = let p : n ≡ 0 = omega arith in rw p refl
one_bit (suc zero) zero n h l e = let p : n ≡ 1 = omega arith in rw p refl
one_bit (suc zero) (suc zero) n h l e = let p : n ≡ 0 = omega arith in rw p refl
one_bit (suc (suc x)) y n h l e = absurd (omega arith)
one_bit zero (suc (suc y)) n h l e = absurd (omega arith)
one_bit (suc zero) (suc (suc y)) n h l e = absurd (omega arith)
