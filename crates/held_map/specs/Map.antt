-- The map of held units in four words: unit u is bit u % 64 of word u / 64. Assumes nothing.
use Rattle.std.specs.Prelude.{Bool, not, ◌&&◌, cond, ◌≡◌, List, [], ◌∷◌, ℕ, ◌+◌, ◌/◌, ◌%◌, ◌^◌, ◌<◌, length, get_or, set}
use Rattle.std.specs.Int.Count.{ones}
use Rattle.rules.specs.Tables.{sift}
use Rattle.rules.specs.Store.{units}
use Rattle.held_map.specs.Bits.{is_set, with_bit, without_bit}

-- four words of 64 bits
pub record Words (m : List ℕ) : Type 0 where
  pub long : length m ≡ 4
  pub fits : (i : ℕ) → get_or m i 0 < 2 ^ 64

abbrev pub empty_map : List ℕ
empty_map = 0 ∷ 0 ∷ 0 ∷ 0 ∷ []

unfoldable pub held_in : List ℕ → ℕ → Bool
held_in m u = is_set (get_or m (u / 64) 0) (u % 64)

-- the map with a unit held, and with a unit not held, whether it was or not
unfoldable pub mark : List ℕ → ℕ → List ℕ
mark m u = set m (u / 64) (with_bit (get_or m (u / 64) 0) (u % 64))

unfoldable pub clear : List ℕ → ℕ → List ℕ
clear m u = set m (u / 64) (without_bit (get_or m (u / 64) 0) (u % 64))

-- each a byte
abbrev pub Bytes : List ℕ → Type 0
Bytes [] = Unit {0}
Bytes (u ∷ us) = (u < 256) × Bytes us

abbrev pub clears : List ℕ → List ℕ → List ℕ
clears m [] = m
clears m (u ∷ us) = clears (clear m u) us

unfoldable pub held_number : List ℕ → ℕ
held_number m = ones (get_or m 0 0) + ones (get_or m 1 0) + ones (get_or m 2 0) + ones (get_or m 3 0)

-- the first member that passes, 0 where none does
abbrev pub first : (ℕ → Bool) → List ℕ → ℕ
first f [] = 0
first f (x ∷ xs) = let r = first f xs in cond (f x) x r

-- the lowest unit that is not held, 0 where all are
unfoldable pub lowest_free : List ℕ → ℕ
lowest_free m = first (λ u. not (held_in m u)) units

-- the units held in a and not in b, ascending
unfoldable pub gone : List ℕ → List ℕ → List ℕ
gone a b = sift (λ u. held_in a u && not (held_in b u)) units
