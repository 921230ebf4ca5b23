-- What code finds and makes by value, told of the rules: the inputs that stand in the array and the branches in use, a slot that is taken
-- into, a slot that is sealed. Assumes nothing.
use mathlib.Core.Bool.{Bool}
use mathlib.Core.Path.{◌≡◌, refl, ap, sym, ◌∙◌}
use mathlib.Core.List.{List, [], ◌∷◌, ◌++◌, map}
use mathlib.Core.Option.{Option}
use Prim.Native.Nat.{ℕ, zero, suc, ◌+◌, ◌-◌, ◌≤◌, ◌<◌}
use native.Mathlib.Omega.{arith}
use native.Mathlib.Nat.{add-zero}
use lib.Dec.{T, leb}
use lib.ListN.{length, get_or, take, replicate, length-append}
use lib.Seq.{take-length, take-append-le, length-take-le}
use borrow.Author.Tests.{lt-ltb, leb-true}
use Rattle.units.specs.Limits.{room, compactor_count}
use Rattle.ways.proofs.Tests.{T→eq, and_l, and_r}
use Rattle.rules.specs.Tables.{all, range}
use Rattle.rules.specs.Store.{opened, sealed, slot_units, in_use}
use Rattle.records.specs.Rows.{eight, eight_snoc}
use Rattle.tables.specs.Hold.{HoldIs, coded_slot, input_in, roots_of, inputs_from, in_use_in}
use Rattle.tables.specs.Slots.{taken_slot, front, sealed_slot}
use Rattle.tables.proofs.Kept.{input_read_lem}

-- the eight places are the list and zeros behind it
padded : (us : List ℕ) → length us ≤ room → eight us ≡ us ++ replicate (room - length us) 0
padded [] h = refl
padded (a ∷ []) h = refl
padded (a ∷ b ∷ []) h = refl
padded (a ∷ b ∷ c ∷ []) h = refl
padded (a ∷ b ∷ c ∷ d ∷ []) h = refl
padded (a ∷ b ∷ c ∷ d ∷ e ∷ []) h = refl
padded (a ∷ b ∷ c ∷ d ∷ e ∷ f ∷ []) h = refl
padded (a ∷ b ∷ c ∷ d ∷ e ∷ f ∷ g ∷ []) h = refl
padded (a ∷ b ∷ c ∷ d ∷ e ∷ f ∷ g ∷ x ∷ []) h = refl
padded (a ∷ b ∷ c ∷ d ∷ e ∷ f ∷ g ∷ x ∷ y ∷ r) h = absurd (omega arith)

-- the first of the eight places are the first of the list
first_eight : (us : List ℕ) (n : ℕ) → length us ≤ room → n ≤ length us → take n (eight us) ≡ take n us
first_eight us n h q = ap (take n) (padded us h) ∙ take-append-le n us (replicate (room - length us) 0) q

-- ---- branches in use

all_at : (f : List ℕ → Bool) (is : List (List ℕ)) (j : ℕ) → T (all f is) → j < length is → T (f (get_or is j []))
all_at f [] j t q = absurd (omega arith)
all_at f (i ∷ is) zero t q = and_l (f i) (all f is) t
all_at f (i ∷ is) (suc j) t q = all_at f is j (and_r (f i) (all f is) t) (omega arith)

map_range : (g : ℕ → List ℕ) (is : List (List ℕ)) (k : ℕ) → ((j : ℕ) → j < length is → g (k + j) ≡ get_or is j []) → map g (range (length is) k) ≡ is
map_range g [] k h = refl
map_range g (i ∷ is) k h =
    let e : g k ≡ i = ap g (sym (add-zero k)) ∙ h 0 (omega arith) in
    let s : (j : ℕ) → suc k + j ≡ k + suc j = λ j. omega arith in
    rw (e, map_range g is (suc k) (λ j q. ap g (s j) ∙ h (suc j) (omega arith)))

module _ {bs : ℕ → Option (List ℕ)} {xs : List Rattle.rules.specs.Store.Slot} {is : List (List ℕ)} {l : List ℕ} (h : HoldIs bs xs is l) (n : length is ≡ compactor_count) (few : T (all (λ us. leb (length us) room) is)) where
  -- the lists that stand in the array are the inputs
  pub inputs_are : inputs_from l compactor_count 0 ≡ is
  inputs_are =
      ap (λ (m : ℕ). inputs_from l m 0) (sym n) ∙ map_range (λ k. roots_of (input_in l k)) is 0 (λ j q. ap (λ (k : ℕ). roots_of (input_in l k)) (zero_is j) ∙ roots j q)
    where
      zero_is : (j : ℕ) → 0 + j ≡ j
      zero_is j = omega arith

      roots : (j : ℕ) → j < length is → roots_of (input_in l j) ≡ get_or is j []
      roots j q =
          let us : List ℕ = get_or is j [] in
          let r : length us ≤ room = leb-true (length us) room (T→eq (leb (length us) room) (all_at (λ us. leb (length us) room) is j few q)) in
          ap roots_of (input_read_lem h j (omega arith)) ∙ first_eight us (length us) r (omega arith) ∙ take-length us

  pub in_use_is : (b : ℕ) → in_use_in l b ≡ in_use is b
  unfolding in_use_in
  in_use_is b = ap (λ (is : List (List ℕ)). in_use is b) inputs_are

-- ---- slots

-- kind 1, "take"
pub taken_is : (y : Rattle.rules.specs.Store.Slot) (u : ℕ) → length (slot_units y) < room → taken_slot (coded_slot y) u ≡ coded_slot (opened (slot_units y ++ (u ∷ [])))
unfolding taken_slot
taken_is y u h =
    let us : List ℕ = slot_units y in
    rw (lt-ltb (length us) room h, eight_snoc us u h, length-append us (u ∷ []))

-- kind 2, "seal": "keeps the first k units"
pub sealed_is : (y : Rattle.rules.specs.Store.Slot) (n : ℕ) → length (slot_units y) ≤ room → n ≤ length (slot_units y) → sealed_slot (coded_slot y) n ≡ coded_slot (sealed (take n (slot_units y)))
unfolding front
sealed_is y n h q =
    let us : List ℕ = slot_units y in
    let e : length (take n us) ≡ n = length-take-le n us q in
    rw (first_eight us n h q, padded (take n us) (omega (arith, e)), e)
