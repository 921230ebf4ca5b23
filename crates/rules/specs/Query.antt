-- "A query for a unit": who owns it, and that owner's count.
-- Assumes nothing.
use Rattle.std.specs.Prelude.{ℕ, suc, Bool, cond, List, [], ◌∷◌, eqb}
use Rattle.std.proofs.Math.Option.{Option, none, some}
use Rattle.ways.specs.Ways.{has}
use Rattle.rules.specs.Tables.{is_some}
use Rattle.rules.specs.Store.{Slot, Store, units, units_of, slot_units, ways, places}

-- a node with its count, a branch with its root and its count, a slot with its number (its count is 0)
pub data Owner : Type 0 where
  reserved free : Owner
  a_node : ℕ → Owner
  a_branch : ℕ → ℕ → Owner
  a_slot : ℕ → Owner

-- document 01's number for each answer, the branch's root or the slot's number, and the count
abbrev pub owner_numbers : Owner → List ℕ
owner_numbers reserved = 0 ∷ 0 ∷ 0 ∷ []
owner_numbers free = 1 ∷ 0 ∷ 0 ∷ []
owner_numbers (a_node c) = 2 ∷ 0 ∷ c ∷ []
owner_numbers (a_branch b c) = 3 ∷ b ∷ c ∷ []
owner_numbers (a_slot k) = 4 ∷ k ∷ 0 ∷ []

abbrev pub first_that : (ℕ → Bool) → List ℕ → Option ℕ
first_that f [] = none
first_that f (x ∷ xs) = let r = first_that f xs in cond (f x) (some x) r

-- the slot that has the unit
abbrev pub slot_with : ℕ → ℕ → List Slot → Owner
slot_with u k [] = free
slot_with u k (x ∷ xs) = let r = slot_with u (suc k) xs in cond (has u (slot_units x)) (a_slot k) r

abbrev pub branch_or : Store → Owner → Option ℕ → Owner
branch_or s other none = other
branch_or s other (some b) = a_branch b (places s b)

unfoldable pub query : Store → ℕ → Owner
query s u =
    cond (eqb u 0) reserved
    (cond (is_some (s.nodes u)) (a_node (ways s u))
    (branch_or s (slot_with u 0 s.slots) (first_that (λ b. has u (units_of s b)) units)))
