-- Branches, unfinished slots and compactors' inputs in the lent array: where each row stands, what code reads and stores there, how the
-- lists and slots of the rules are written, and when an array holds them. Assumes nothing.
use Rattle.std.specs.Prelude.{Bool, cond, ◌≡◌, List, [], ◌∷◌, map, ℕ, ◌+◌, ◌*◌, ◌≤◌, ◌<◌, ltb, length, get_or, take}
use Rattle.std.proofs.Math.Option.{Option}
use Rattle.units.specs.Limits.{last_unit, room, slot_count, compactor_count}
use Rattle.rules.specs.Tables.{or_else, range}
use Rattle.rules.specs.Store.{empty, opened, sealed, slot_units, in_use}
use Rattle.records.specs.Rows.{Row, eight, eight_at, poured}
use Rattle.tables.specs.declared.Branch.{Branch}
use Rattle.tables.specs.declared.Slot.{Slot}
use Rattle.tables.specs.declared.Input.{Input}

-- ---- places

-- a number and a list's places
abbrev pub branch_stride : ℕ
branch_stride = 1 + room

-- a state besides
abbrev pub slot_stride : ℕ
slot_stride = 2 + room

abbrev pub input_stride : ℕ
input_stride = 1 + room

abbrev pub branch_place : ℕ → ℕ
branch_place b = b * branch_stride

-- behind the rows of 0 and of every unit
abbrev pub slot_place : ℕ → ℕ
slot_place k = (1 + last_unit) * branch_stride + k * slot_stride

-- behind the slots
abbrev pub input_place : ℕ → ℕ
input_place k = slot_place slot_count + k * input_stride

abbrev pub hold_length : ℕ
hold_length = input_place compactor_count

-- ---- the rows of the rules' records; of a record that is not there, zeros

abbrev pub list_bytes : List ℕ → List ℕ
list_bytes us = length us ∷ eight us

abbrev pub slot_state : Rattle.rules.specs.Store.Slot → ℕ
slot_state empty = 0
slot_state (opened us) = 1
slot_state (sealed us) = 2

abbrev pub slot_bytes : Rattle.rules.specs.Store.Slot → List ℕ
slot_bytes x = slot_state x ∷ length (slot_units x) ∷ eight (slot_units x)

-- the array holds these branches, slots and inputs
pub record HoldIs (branches : ℕ → Option (List ℕ)) (slots : List Rattle.rules.specs.Store.Slot) (inputs : List (List ℕ)) (hold : List ℕ) : Type 0 where
  pub long : length hold ≡ hold_length
  pub branch : (b : ℕ) → b ≤ last_unit → Row hold (branch_place b) (list_bytes (or_else [] (branches b)))
  pub slot : (k : ℕ) → k < slot_count → Row hold (slot_place k) (slot_bytes (get_or slots k empty))
  pub input : (k : ℕ) → k < compactor_count → Row hold (input_place k) (list_bytes (get_or inputs k []))

-- ---- the rules' records as code has them: places that are not used are 0

abbrev pub coded_branch : List ℕ → Branch
coded_branch us = record { number = length us; units = eight us }

abbrev pub coded_slot : Rattle.rules.specs.Store.Slot → Slot
coded_slot x = record { state = slot_state x; number = length (slot_units x); units = eight (slot_units x) }

abbrev pub coded_input : List ℕ → Input
coded_input l = record { number = length l; roots = eight l }

-- ---- what code reads; of a slot that does not exist, zeros

unfoldable pub branch_in : List ℕ → ℕ → Branch
branch_in l b = record { number = get_or l (branch_place b) 0; units = eight_at l (branch_place b + 1) }

unfoldable pub slot_in : List ℕ → ℕ → Slot
slot_in l k =
    cond (ltb k slot_count)
    (record { state = get_or l (slot_place k) 0; number = get_or l (slot_place k + 1) 0; units = eight_at l (slot_place k + 2) })
    (coded_slot empty)

unfoldable pub input_in : List ℕ → ℕ → Input
input_in l k =
    cond (ltb k compactor_count) (record { number = get_or l (input_place k) 0; roots = eight_at l (input_place k + 1) }) (coded_input [])

-- ---- what code stores; in a slot that does not exist, nothing

abbrev pub branch_row : Branch → List ℕ
branch_row x = x.number ∷ eight x.units

abbrev pub slot_row : Slot → List ℕ
slot_row x = x.state ∷ x.number ∷ eight x.units

abbrev pub input_row : Input → List ℕ
input_row x = x.number ∷ eight x.roots

unfoldable pub put_branch : List ℕ → ℕ → Branch → List ℕ
put_branch l b x = poured l (branch_place b) (branch_row x)

unfoldable pub put_slot : List ℕ → ℕ → Slot → List ℕ
put_slot l k x = cond (ltb k slot_count) (poured l (slot_place k) (slot_row x)) l

unfoldable pub put_input : List ℕ → ℕ → Input → List ℕ
put_input l k x = cond (ltb k compactor_count) (poured l (input_place k) (input_row x)) l

-- ---- branches in use

-- the roots that an input names; it has no more than its places
abbrev pub roots_of : Input → List ℕ
roots_of x = take x.number x.roots

-- n inputs from k on
abbrev pub inputs_from : List ℕ → ℕ → ℕ → List (List ℕ)
inputs_from l n k = map (λ j. roots_of (input_in l j)) (range n k)

-- some input names the branch
unfoldable pub in_use_in : List ℕ → ℕ → Bool
in_use_in l b = in_use (inputs_from l compactor_count 0) b
