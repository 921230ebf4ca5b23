-- The set bits of words as a list of units, and a list stored into another. Assumes nothing.
use Rattle.std.specs.Prelude.{List, [], ◌∷◌, ◌++◌, ℕ, zero, suc, ◌+◌, ◌/◌, ◌%◌, get_or, set}

-- b in front where the bit d is set
abbrev pub with_low : ℕ → ℕ → List ℕ → List ℕ
with_low zero b l = l
with_low (suc d) b l = b ∷ l

-- the set bits of a word of n bits, lowest first, the lowest bit standing for b
unfoldable pub bits_of : ℕ → ℕ → ℕ → List ℕ
bits_of zero b w = []
bits_of (suc n) b w = with_low (w % 2) b (bits_of n (suc b) (w / 2))

-- those of four words
unfoldable pub four_of : List ℕ → List ℕ
four_of d = bits_of 64 0 (get_or d 0 0) ++ (bits_of 64 64 (get_or d 1 0) ++ (bits_of 64 128 (get_or d 2 0) ++ bits_of 64 192 (get_or d 3 0)))

-- d with r from `at` on
unfoldable pub inserted : List ℕ → ℕ → List ℕ → List ℕ
inserted d at [] = d
inserted d at (x ∷ r) = inserted (set d at x) (at + 1) r
