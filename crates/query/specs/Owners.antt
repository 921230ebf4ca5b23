-- Who owns a unit, by the lent arrays: its stored count is above 0, or it stands in the row of a branch or of a slot.
-- Assumes nothing.
use Rattle.std.specs.Prelude.{Bool, cond, List, ℕ, eqb, ltb, get_or, take, Option, Some, None, find, map}
use Rattle.units.specs.Limits.{last_unit, slot_count}
use Rattle.units.specs.declared.BranchRoot.{BranchRoot}
use Rattle.units.specs.declared.UnfinishedSlot.{UnfinishedSlot}
use Rattle.ways.specs.Ways.{has}
use Rattle.rules.specs.Tables.{range}
use Rattle.rules.specs.Query.{reserved, free, a_node, a_branch, a_slot}
use Rattle.counting.specs.Places.{place_of}
use Rattle.tables.specs.Hold.{branch_in, slot_in}
use Rattle.query.specs.declared.Owner.{Owner}
use Rattle.query.specs.declared.Owner.TheVariants.{Reserved, Free, Node, Branch, Slot}

unfoldable pub in_branch : List ℕ → ℕ → ℕ → Bool
in_branch hold u b = has u (take (branch_in hold b).number (branch_in hold b).units)

unfoldable pub in_slot : List ℕ → ℕ → ℕ → Bool
in_slot hold u k = has u (take (slot_in hold k).number (slot_in hold k).units)

-- the lowest root
unfoldable pub branch_with : List ℕ → ℕ → Option BranchRoot
branch_with hold u = find (λ b. in_branch hold u b.0) (map (λ b. record { 0 = b }) (range last_unit 1))

-- the first slot
unfoldable pub slot_with : List ℕ → ℕ → Option UnfinishedSlot
slot_with hold u = find (λ k. in_slot hold u k.0) (map (λ k. record { 0 = k }) (range slot_count 0))

abbrev pub slot_or : Option UnfinishedSlot → Owner
slot_or None = Free
slot_or (Some k) = Slot k

abbrev pub branch_or : List ℕ → Option BranchRoot → Owner → Owner
branch_or counts None other = other
branch_or counts (Some b) other = Branch b (record { 0 = get_or counts (place_of b.0) 0 })

abbrev pub node_or : ℕ → Owner → Owner
node_or count other = cond (ltb 0 count) (Node (record { 0 = count })) other

unfoldable pub query_in : List ℕ → List ℕ → ℕ → Owner
query_in counts hold u = cond (eqb u 0) Reserved (node_or (get_or counts u 0) (branch_or counts (branch_with hold u) (slot_or (slot_with hold u))))

-- the answer of the rules, as code gives it
abbrev pub owner_of : Rattle.rules.specs.Query.Owner → Owner
owner_of reserved = Reserved
owner_of free = Free
owner_of (a_node c) = Node (record { 0 = c })
owner_of (a_branch b c) = Branch (record { 0 = b }) (record { 0 = c })
owner_of (a_slot k) = Slot (record { 0 = k })
