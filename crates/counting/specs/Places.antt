-- The places of the branches in the buffers, counted at 256 + root: one more, one less, and so for each buffer of a list.
-- Assumes nothing.
use Rattle.std.specs.Prelude.{◌≡◌, ◌≤◌, cond, List, ℕ, ◌+◌, ◌-◌, ltb, get_or, set}
use Rattle.units.specs.Limits.{room, most_count}
use Rattle.counting.specs.Change.{each}

-- where a branch's count stands
abbrev pub place_of : ℕ → ℕ
place_of b = 256 + b

-- the highest count stays
unfoldable pub one_more : ℕ → ℕ
one_more c = cond (ltb c most_count) (c + 1) c

-- the count of a branch becomes what g makes of it, and so for each of a list
abbrev pub change_place : (ℕ → ℕ) → List ℕ → ℕ → List ℕ
change_place g counts b = set counts (place_of b) (g (get_or counts (place_of b) 0))

abbrev pub change_places : (ℕ → ℕ) → List ℕ → List ℕ → List ℕ
change_places g counts bs = each (change_place g) counts bs

-- what a call may give is what g gives, at every count
abbrev pub Computes : (ℕ → ℕ → Type 0) → (ℕ → ℕ) → Type 0
Computes outcome g = (c r : ℕ) → c ≤ most_count → outcome c r → r ≡ g c

unfoldable pub add_place : List ℕ → ℕ → List ℕ
add_place counts b = set counts (place_of b) (one_more (get_or counts (place_of b) 0))

unfoldable pub drop_place : List ℕ → ℕ → List ℕ
drop_place counts b = set counts (place_of b) (get_or counts (place_of b) 0 - 1)

abbrev pub add_places : List ℕ → List ℕ → List ℕ
add_places counts bs = each add_place counts bs

abbrev pub drop_places : List ℕ → List ℕ → List ℕ
drop_places counts bs = each drop_place counts bs

-- the end of a run of places in a node's list, which has eight
unfoldable pub up_to : ℕ → ℕ
up_to to = cond (ltb to room) to room
