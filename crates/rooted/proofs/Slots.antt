-- A sealed slot of a right store: its first unit is a unit, no branch's root, and has no place in any buffer; and where its units become
-- a branch, branches and slots hold together what they held. Assumes nothing.
use mathlib.Core.Path.{◌≡◌, refl, ap, subst}
use mathlib.Core.List.{List, []}
use mathlib.Core.Option.{Option, none, some}
use Prim.Native.Nat.{ℕ, ◌+◌, ◌≤◌, ◌<◌}
use native.Mathlib.Omega.{arith}
use lib.Dec.{T, leb, leb→le}
use lib.ListN.{length, get_or, set}
use Rattle.units.specs.Limits.{last_unit, room, slot_count}
use Rattle.ways.specs.Ways.{has}
use Rattle.ways.proofs.Tests.{and_l, and_r}
use Rattle.ways.proofs.Members.{has_pos, pos_has}
use Rattle.rules.specs.Tables.{times, put, or_else, joined}
use Rattle.rules.specs.Store.{units, Slot, empty, opened, sealed, Store, slot_units, owned, places}
use Rattle.rules.specs.Steps.{is_sealed, slot_at}
use Rattle.rules.specs.Right.{slot_ok, BranchOk, Right}
use Rattle.right.proofs.Lists.{all_get, joined_set}
use Rattle.right.proofs.Ledger.{has_at, has_unit}
use Rattle.right.proofs.Prune.{member_le}
use Rattle.right.proofs.Extended.{over, branch_part, owned_parts, slot_owned}
use Rattle.right.proofs.After.{unplaced, over_branch}

-- a slot's units, and the first of them
abbrev pub units_in : Store → ℕ → List ℕ
units_in s k = slot_units (slot_at s k)

abbrev pub slot_root : Store → ℕ → ℕ
slot_root s k = get_or (units_in s k) 0 0

module _ (s : Store) (r : Right s) (k : ℕ) (low : k < slot_count) (t : T (is_sealed (slot_at s k))) where
  few : (1 ≤ length (units_in s k)) × (length (units_in s k) ≤ room)
  few = go (slot_at s k) t (all_get slot_ok k empty s.slots tt r.sound.slot)
    where
      go : (x : Slot) → T (is_sealed x) → T (slot_ok x) → (1 ≤ length (slot_units x)) × (length (slot_units x) ≤ room)
      go empty t w = absurd t
      go (opened vs) t w = absurd t
      go (sealed vs) t w =
          (leb→le 1 (length vs) (and_l (leb 1 (length vs)) (leb (length vs) room) w), leb→le (length vs) room (and_r (leb 1 (length vs)) (leb (length vs) room) w))

  in_slot_lem : 1 ≤ times (slot_root s k) (units_in s k)
  in_slot_lem = has_pos (slot_root s k) (units_in s k) (has_at (units_in s k) 0 (omega (arith, few.0)))

  in_slots : 1 ≤ times (slot_root s k) (joined slot_units s.slots)
  in_slots = omega (arith, in_slot_lem, joined_set slot_units (slot_root s k) k empty empty s.slots (omega (arith, r.sound.slot_number)))

  pub first_unit : (1 ≤ slot_root s k) × (slot_root s k ≤ last_unit)
  first_unit = r.sound.unit (slot_root s k) (pos_has (slot_root s k) (owned s) (omega (arith, in_slots, slot_owned s (slot_root s k))))

  pub no_branch : s.branches (slot_root s k) ≡ none
  unfolding over branch_part
  no_branch = go (s.branches (slot_root s k)) refl
    where
      go : (o : Option (List ℕ)) → s.branches (slot_root s k) ≡ o → o ≡ none
      go none e = refl
      go (some vs) e =
          let bo : BranchOk (slot_root s k) vs = r.sound.branch (slot_root s k) vs e in
          let in-vs : T (has (slot_root s k) vs) = subst (λ (x : ℕ). T (has x vs)) bo.first (has_at vs 0 (omega (arith, bo.least))) in
          let z : times (slot_root s k) (or_else [] (s.branches (slot_root s k))) ≤ over (branch_part (slot_root s k)) s.branches =
          member_le (λ c. times (slot_root s k) (or_else [] (s.branches c))) (slot_root s k) units (has_unit (slot_root s k) first_unit.0 first_unit.1) in
          absurd (omega (arith, z, ap (λ (o : Option (List ℕ)). times (slot_root s k) (or_else [] o)) e, has_pos (slot_root s k) vs in-vs, in_slots, owned_parts s (slot_root s k), r.sound.single (slot_root s k)))

  pub no_place : places s (slot_root s k) ≡ 0
  no_place = unplaced s r.sound (slot_root s k) no_branch

  pub branch_moves : (v : ℕ)
      → over (branch_part v) (put s.branches (slot_root s k, units_in s k)) + times v (joined slot_units (set s.slots k empty))
      ≡ over (branch_part v) s.branches + times v (joined slot_units s.slots)
  branch_moves v =
      omega (
        arith,
        over_branch s.branches (slot_root s k) (units_in s k) v first_unit.0 first_unit.1 no_branch,
        joined_set slot_units v k empty empty s.slots (omega (arith, r.sound.slot_number)),
      )
