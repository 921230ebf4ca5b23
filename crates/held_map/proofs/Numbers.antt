-- The number of ones in the four words is the number of units that the map holds. Assumes nothing.
use mathlib.Core.Bool.{Bool, true, false, cond}
use mathlib.Core.Path.{◌≡◌, refl, ap, ◌∙◌}
use mathlib.Core.List.{List, [], ◌∷◌}
use Prim.Native.Nat.{ℕ, zero, suc, ◌+◌, ◌*◌, ◌/◌, ◌%◌, ◌^◌, ◌≤◌, ◌<◌}
use native.Mathlib.Nat.{pow-suc}
use native.Mathlib.Omega.{arith}
use Rattle.std.specs.List.{fold, sum_by}
use lib.Count.{ones, ones_step, ones-le}
use lib.ListN.{length, get_or}
use Rattle.ways.specs.Ways.{sums, one}
use Rattle.rules.specs.Tables.{sift, range}
use Rattle.rules.specs.Store.{units}
use Rattle.held_map.specs.Map.{Words, held_in, held_number}
use Rattle.held_map.specs.Lists.{with_low, bits_of, four_of}
use Rattle.held_map.proofs.Map.{held_word}
use Rattle.held_map.proofs.Lists.{four_sift, four_length}

-- each word adds at most 64
few : (m : List ℕ) (n : ℕ) → ((i : ℕ) → get_or m i 0 < 2 ^ 64) → fold (λ a w. a + ones w) n m ≤ n + 64 * length m
few [] n h = omega arith
few (w ∷ m) n h = omega (arith, ones-le 64 w (h 0), few m (n + ones w) (λ i. h (suc i)))

pub number_fits : (m : List ℕ) → length m ≡ 4 → ((i : ℕ) → get_or m i 0 < 2 ^ 64) → sum_by ones m < 2 ^ 32
number_fits m e h = omega (arith, few m 0 h)

pub number_sum : (m : List ℕ) → length m ≡ 4 → sum_by ones m ≡ held_number m
unfolding held_number
number_sum [] e = absurd (omega arith)
number_sum (a ∷ []) e = absurd (omega arith)
number_sum (a ∷ b ∷ []) e = absurd (omega arith)
number_sum (a ∷ b ∷ c ∷ []) e = absurd (omega arith)
number_sum (a ∷ b ∷ c ∷ d ∷ []) e = omega arith
number_sum (a ∷ b ∷ c ∷ d ∷ x ∷ m) e = absurd (omega arith)

-- the ones of a word are its set bits
ones_bits : (n b w : ℕ) → w < 2 ^ n → ones w ≡ length (bits_of n b w)
unfolding bits_of
ones_bits zero b w h = omega (arith, ones-le 0 w h)
ones_bits (suc n) b w h =
    let q = ones_bits n (suc b) (w / 2) (omega (arith, pow-suc 2 n)) in
    omega (arith, ones_step w, low (w % 2) (bits_of n (suc b) (w / 2)) (omega arith))
  where
    low : (d : ℕ) (l : List ℕ) → d < 2 → length (with_low d b l) ≡ d + length l
    low zero l p = omega arith
    low (suc zero) l p = omega arith
    low (suc (suc d)) l p = absurd (omega arith)

pub sift_number : (f : ℕ → Bool) (l : List ℕ) → length (sift f l) ≡ sums (λ u. one (f u)) l
sift_number f [] = refl
sift_number f (x ∷ xs) = go (f x) (sift_number f xs)
  where
    go : (b : Bool) → length (sift f xs) ≡ sums (λ u. one (f u)) xs → length (cond b (x ∷ sift f xs) (sift f xs)) ≡ one b + sums (λ u. one (f u)) xs
    go true e = omega arith
    go false e = omega arith

number_four : (m : List ℕ) → Words m → held_number m ≡ length (four_of m)
unfolding held_number
number_four m ws =
    omega (
      arith,
      four_length m,
      ones_bits 64 0 (get_or m 0 0) (ws.fits 0),
      ones_bits 64 64 (get_or m 1 0) (ws.fits 1),
      ones_bits 64 128 (get_or m 2 0) (ws.fits 2),
      ones_bits 64 192 (get_or m 3 0) (ws.fits 3),
    )

pub number_is : (m : List ℕ) → Words m → held_number m ≡ sums (λ u. one (held_in m u)) (range 256 0)
number_is m ws =
    number_four m ws
    ∙ ap length (four_sift (held_in m) m (held_word m 1) (held_word m 2) (held_word m 3) (held_word m 0))
    ∙ sift_number (held_in m) (range 256 0)

-- unit 0 apart
pub number_units : (m : List ℕ) → Words m → held_in m 0 ≡ false → held_number m ≡ sums (λ u. one (held_in m u)) units
unfolding units
number_units m ws z = number_is m ws ∙ drop_zero (held_in m 0) (sums (λ u. one (held_in m u)) (range 255 1)) z
  where
    drop_zero : (b : Bool) (n : ℕ) → b ≡ false → one b + n ≡ n
    drop_zero b n e = rw e (omega arith)
