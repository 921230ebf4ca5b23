-- What the code finds in the arrays of a right state is what the rules say of the store that stands in them: the owner of every unit, and
-- the number of held units. Assumes nothing.
use mathlib.Core.Bool.{Bool, true, false, cond}
use mathlib.Core.Path.{◌≡◌, refl, ap, sym, ◌∙◌, subst}
use mathlib.Core.List.{List, [], ◌∷◌, map}
use mathlib.Core.Option.{Option, none, some}
use Prim.Native.Nat.{ℕ, zero, suc, ◌+◌, ◌-◌, ◌≤◌, ◌<◌}
use native.Mathlib.Omega.{arith}
use lib.Dec.{T, eqb, leb}
use lib.ListN.{length, get_or, take}
use borrow.Author.Tests.{leb-true}
use Rattle.std.specs.Prelude.{Some, None, find}
use Rattle.std.specs.Prelude as code
use Rattle.units.specs.Limits.{last_unit, room, slot_count}
use Rattle.units.specs.declared.BranchRoot.{BranchRoot}
use Rattle.units.specs.declared.UnfinishedSlot.{UnfinishedSlot}
use Rattle.ways.specs.Ways.{sums, one, has}
use Rattle.ways.proofs.Tests.{T→eq, F→eq, and_l, and_r}
use Rattle.rules.specs.Tables.{all, range, is_some, or_else}
use Rattle.rules.specs.Store.{Store, Slot, empty, opened, sealed, units, units_of, slot_units, ways, held}
use Rattle.rules.specs.Right.{Right, slot_ok}
use Rattle.rules.specs.Query.{Owner, reserved, a_node, a_slot, first_that, query}
use Rattle.rules.specs.Query as rules
use Rattle.right.proofs.Held.{reached_node, held_owns}
use Rattle.records.specs.Rows.{eight, eight_whole}
use Rattle.held_map.specs.Map.{held_in, held_number}
use Rattle.held_map.proofs.Numbers.{number_units}
use Rattle.tables.proofs.Kept.{branch_read_lem, slot_read_lem}
use Rattle.state.specs.Stands.{Arrays, Stands}
use Rattle.query.specs.Owners.{in_branch, in_slot, branch_with, slot_with, slot_or, branch_or, node_or, query_in, owner_of}

-- the used places of a record are its list
used : (us : List ℕ) → length us ≤ room → take (length us) (eight us) ≡ us
used us h =
    let e : length us - 0 ≡ length us = omega arith in
    rw e at (eight_whole us h)

-- ---- the first that passes

-- a root that the rules found, as code gives it
abbrev root_of : Option ℕ → code.Option BranchRoot
root_of none = None
root_of (some b) = Some (record { 0 = b })

first_that_lem : (n k : ℕ) (f g : ℕ → Bool) → ((b : ℕ) → k ≤ b → b < k + n → f b ≡ g b)
    → find (λ (b : BranchRoot). f b.0) (map (λ b. record { 0 = b }) (range n k)) ≡ root_of (first_that g (range n k))
first_that_lem zero k f g h = refl
first_that_lem (suc n) k f g h =
    ap (λ (b : Bool). cond b (Some (record { 0 = k })) (later (suc k))) (h k (omega arith) (omega arith))
    ∙ go (g k) (first_that_lem n (suc k) f g (λ b p q. h b (omega arith) (omega arith)))
  where
    later : ℕ → code.Option BranchRoot
    later k = find (λ (b : BranchRoot). f b.0) (map (λ b. record { 0 = b }) (range n k))

    go : (b : Bool) → later (suc k) ≡ root_of (first_that g (range n (suc k)))
        → cond b (Some (record { 0 = k })) (later (suc k)) ≡ root_of (cond b (some k) (first_that g (range n (suc k))))
    go true e = refl
    go false e = e

first_in_lem : (n k : ℕ) (g : ℕ → Bool) (b : ℕ) → first_that g (range n k) ≡ some b → (k ≤ b) × (b < k + n)
first_in_lem zero k g b e = absurd (subst (λ (o : Option ℕ). T (is_some o)) (sym e) tt)
first_in_lem (suc n) k g b e = go (g k) e (first_in_lem n (suc k) g b)
  where
    go : (x : Bool) → cond x (some k) (first_that g (range n (suc k))) ≡ some b → (first_that g (range n (suc k)) ≡ some b → (suc k ≤ b) × (b < suc k + n)) → (k ≤ b) × (b < k + suc n)
    go true e ih = let q : k ≡ b = cc in (omega arith, omega arith)
    go false e ih = let w = ih e in (omega (arith, w.0), omega (arith, w.1))

slots_that : (f : ℕ → Bool) (u k : ℕ) (xs : List Slot) → ((j : ℕ) → j < length xs → f (k + j) ≡ has u (slot_units (get_or xs j empty)))
    → slot_or (find (λ (x : UnfinishedSlot). f x.0) (map (λ j. record { 0 = j }) (range (length xs) k))) ≡ owner_of (rules.slot_with u k xs)
slots_that f u k [] h = refl
slots_that f u k (x ∷ xs) h =
    let z : k + 0 ≡ k = omega arith in
    let s : (j : ℕ) → suc k + j ≡ k + suc j = λ j. omega arith in
    ap (λ (b : Bool). slot_or (cond b (Some (record { 0 = k })) later)) (ap f (sym z) ∙ h 0 (omega arith))
    ∙ go (has u (slot_units x)) (slots_that f u (suc k) xs (λ j q. ap f (s j) ∙ h (suc j) (omega arith)))
  where
    later : code.Option UnfinishedSlot
    later = find (λ (x : UnfinishedSlot). f x.0) (map (λ j. record { 0 = j }) (range (length xs) (suc k)))

    go : (b : Bool) → slot_or later ≡ owner_of (rules.slot_with u (suc k) xs)
        → slot_or (cond b (Some (record { 0 = k })) later) ≡ owner_of (cond b (a_slot k) (rules.slot_with u (suc k) xs))
    go true e = refl
    go false e = e

-- ---- the owner

-- branches, then slots
abbrev listed : Store → ℕ → Owner
listed s u = rules.branch_or s (rules.slot_with u 0 s.slots) (first_that (λ b. has u (units_of s b)) (range last_unit 1))

either : (b : Bool) (x y : Owner) → cond b (owner_of x) (owner_of y) ≡ owner_of (cond b x y)
either true x y = refl
either false x y = refl

module _ (s : Store) (r : Right s) (a : Arrays) (st : Stands s a) where
  in_branch_lem : (u b : ℕ) → b ≤ last_unit → in_branch a.hold u b ≡ has u (units_of s b)
  unfolding in_branch
  in_branch_lem u b q = rw (branch_read_lem st.hold b q) (ap (has u) (used (units_of s b) (few (s.branches b) refl)))
    where
      few : (o : Option (List ℕ)) → s.branches b ≡ o → length (or_else [] o) ≤ room
      few none e = omega arith
      few (some us) e = (r.sound.branch b us e).most

  in_slot_lem : (u k : ℕ) → k < slot_count → in_slot a.hold u k ≡ has u (slot_units (get_or s.slots k empty))
  unfolding in_slot
  in_slot_lem u k q = rw (slot_read_lem st.hold k q) (ap (has u) (used (slot_units (get_or s.slots k empty)) (few s.slots k r.sound.slot)))
    where
      one_few : (x : Slot) → T (slot_ok x) → length (slot_units x) ≤ room
      one_few empty t = omega arith
      one_few (opened us) t = leb-true (length us) room (T→eq (leb (length us) room) (and_r (leb 1 (length us)) (leb (length us) room) t))
      one_few (sealed us) t = leb-true (length us) room (T→eq (leb (length us) room) (and_r (leb 1 (length us)) (leb (length us) room) t))

      few : (xs : List Slot) (k : ℕ) → T (all slot_ok xs) → length (slot_units (get_or xs k empty)) ≤ room
      few [] k t = omega arith
      few (x ∷ xs) zero t = one_few x (and_l (slot_ok x) (all slot_ok xs) t)
      few (x ∷ xs) (suc k) t = few xs k (and_r (slot_ok x) (all slot_ok xs) t)

  branch_with_lem : (u : ℕ) → branch_with a.hold u ≡ root_of (first_that (λ b. has u (units_of s b)) (range last_unit 1))
  unfolding branch_with
  branch_with_lem u = first_that_lem last_unit 1 (in_branch a.hold u) (λ b. has u (units_of s b)) (λ b p q. in_branch_lem u b (omega arith))

  slot_with_lem : (u : ℕ) → slot_or (slot_with a.hold u) ≡ owner_of (rules.slot_with u 0 s.slots)
  unfolding slot_with
  slot_with_lem u =
      let n : length s.slots ≡ slot_count = r.sound.slot_number in
      let z : (j : ℕ) → 0 + j ≡ j = λ j. omega arith in
      ap (λ (m : ℕ). slot_or (find (λ (x : UnfinishedSlot). in_slot a.hold u x.0) (map (λ j. record { 0 = j }) (range m 0)))) (sym n)
      ∙ slots_that (in_slot a.hold u) u 0 s.slots (λ j q. ap (in_slot a.hold u) (z j) ∙ in_slot_lem u j (omega arith))

  branch_or_lem : (u : ℕ) → branch_or a.counts (branch_with a.hold u) (slot_or (slot_with a.hold u)) ≡ owner_of (listed s u)
  branch_or_lem u =
      ap (λ (b : code.Option BranchRoot). branch_or a.counts b (slot_or (slot_with a.hold u))) (branch_with_lem u)
      ∙ go (first_that (λ b. has u (units_of s b)) (range last_unit 1)) refl
    where
      go : (o : Option ℕ) → first_that (λ b. has u (units_of s b)) (range last_unit 1) ≡ o
          → branch_or a.counts (root_of o) (slot_or (slot_with a.hold u)) ≡ owner_of (rules.branch_or s (rules.slot_with u 0 s.slots) o)
      go none e = slot_with_lem u
      go (some b) e =
          let w = first_in_lem last_unit 1 (λ b. has u (units_of s b)) b e in
          rw (st.counts.place b (omega (arith, w.1)))

  node_or_lem : (u : ℕ) → u ≤ last_unit
      → node_or (get_or a.counts u 0) (branch_or a.counts (branch_with a.hold u) (slot_or (slot_with a.hold u)))
      ≡ owner_of (cond (is_some (s.nodes u)) (a_node (ways s u)) (listed s u))
  node_or_lem u q =
      ap (λ (c : ℕ). node_or c (branch_or a.counts (branch_with a.hold u) (slot_or (slot_with a.hold u)))) (st.counts.way u q)
      ∙ ap (node_or (ways s u)) (branch_or_lem u)
      ∙ ap (λ (b : Bool). cond b (owner_of (a_node (ways s u))) (owner_of (listed s u))) (reached_node s r u)
      ∙ either (is_some (s.nodes u)) (a_node (ways s u)) (listed s u)

  -- THEOREM: "A query for a unit"
  pub query_is : (u : ℕ) → u ≤ last_unit → query_in a.counts a.hold u ≡ owner_of (query s u)
  unfolding query_in query units
  query_is u q =
      ap (cond (eqb u 0) (owner_of reserved)) (node_or_lem u q)
      ∙ either (eqb u 0) reserved (cond (is_some (s.nodes u)) (a_node (ways s u)) (listed s u))

  -- THEOREM: "the number of held units"
  pub held_is : held_number a.map ≡ sums (λ u. one (held s u)) units
  unfolding units
  held_is =
      number_units a.map st.map.words (st.map.marks 0 (omega arith) ∙ zero_free)
      ∙ each last_unit 1 (λ u p. ap one (st.map.marks u (omega arith)))
    where
      zero_free : held s 0 ≡ false
      zero_free = F→eq (held s 0) (λ t. let w = r.sound.unit 0 (subst (λ (b : Bool). T b) (held_owns s r 0) t) in omega (arith, w.0))

      each : (n k : ℕ) → ((u : ℕ) → u < k + n → one (held_in a.map u) ≡ one (held s u)) → sums (λ u. one (held_in a.map u)) (range n k) ≡ sums (λ u. one (held s u)) (range n k)
      each zero k h = refl
      each (suc n) k h = omega (arith, h k (omega arith), each n (suc k) (λ u p. h u (omega arith)))
