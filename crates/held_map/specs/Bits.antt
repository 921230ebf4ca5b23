-- Single bits of a word, by arithmetic. Assumes nothing.
use Rattle.std.specs.Prelude.{Bool, ◌&&◌, not, cond, ◌≡◌, ℕ, ◌+◌, ◌-◌, ◌/◌, ◌%◌, ◌^◌, ◌≤◌, ◌<◌, eqb}

unfoldable pub bit : ℕ → ℕ → ℕ
bit w k = w / 2 ^ k % 2

abbrev pub is_set : ℕ → ℕ → Bool
is_set w k = eqb (bit w k) 1

-- the word with bit k set, and with bit k clear, whatever it was
unfoldable pub with_bit : ℕ → ℕ → ℕ
with_bit w k = cond (is_set w k) w (w + 2 ^ k)

unfoldable pub without_bit : ℕ → ℕ → ℕ
without_bit w k = cond (is_set w k) (w - 2 ^ k) w

-- r has the bits of a that b has not
pub record Less (a b r : ℕ) : Type 0 where
  pub bits : (k : ℕ) → k < 64 → is_set r k ≡ (is_set a k && not (is_set b k))

-- z is the lowest bit that is 0, or 64
pub record LowestZero (w z : ℕ) : Type 0 where
  pub ones : (j : ℕ) → j < z → bit w j ≡ 1
  pub free : z < 64 → bit w z ≡ 0
  pub most : z ≤ 64
