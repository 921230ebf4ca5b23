-- The laws of the array that holds branches, slots and inputs: what is read in it, what it holds after a row is stored, that zeros hold
-- nothing, and that what it holds fixes its bytes. Assumes nothing.
use mathlib.Core.Bool.{Bool, true, false, cond}
use mathlib.Core.Logic.{◌⊎◌, inl, inr, ⊎_elim}
use mathlib.Core.Path.{◌≡◌, refl, ap, sym, subst, ◌∙◌}
use mathlib.Core.List.{List, []}
use mathlib.Core.Option.{Option, none}
use Prim.Native.Nat.{ℕ, zero, suc, ◌+◌, ◌-◌, ◌*◌, ◌/◌, ◌%◌, ◌≤◌, ◌<◌}
use native.Mathlib.Omega.{arith}
use native.Mathlib.Nat.{add-zero, zero-add, div-add-mod', div-lt_iff_lt-mul, mod-lt}
use lib.Dec.{eqb, ltb}
use lib.ListN.{length, get_or, set, replicate, length-replicate, get_or-replicate}
use lib.Seq.{get_or-set_same, get_or-set_other, ext_get_or}
use borrow.Author.Tests.{lt-ltb, ltb-true, ltb-false, eq-eqb, ne_eqb}
use Rattle.units.specs.Limits.{last_unit, slot_count, compactor_count}
use Rattle.rules.specs.Tables.{or_else, put}
use Rattle.rules.specs.Store.{empty}
use Rattle.records.specs.Rows.{Row, Apart, poured, poured_length, poured_row, poured_beside, rows_apart, apart_from, eight_read}
use Rattle.ways.proofs.Tests.{same_or}
use Rattle.tables.specs.Hold.{branch_stride, slot_stride, input_stride, branch_place, slot_place, input_place, hold_length, list_bytes, slot_bytes, HoldIs}
use Rattle.tables.specs.Hold.{coded_branch, coded_slot, coded_input, branch_in, slot_in, input_in, put_branch, put_slot, put_input}

abbrev Branches : Type 0
Branches = ℕ → Option (List ℕ)

abbrev Slots : Type 0
Slots = List Rattle.rules.specs.Store.Slot

-- ---- rows

row_first : (l : List ℕ) (p : ℕ) (ws : List ℕ) → 0 < length ws → Row l p ws → get_or l p 0 ≡ get_or ws 0 0
row_first l p ws h r = ap (λ (j : ℕ). get_or l j 0) (sym (add-zero p)) ∙ r 0 h

-- rows of any kinds are apart where one ends before the other begins
sides_apart : (b n c m : ℕ) → (b + n ≤ c) ⊎ (c + m ≤ b) → Apart b n c m
sides_apart b n c m s j k p q e = ⊎_elim (λ (h : b + n ≤ c). omega arith) (λ (h : c + m ≤ b). omega arith) s

row_kept : (l : List ℕ) (p : ℕ) (ws : List ℕ) (c : ℕ) (vs : List ℕ) → (c + length vs ≤ p) ⊎ (p + length ws ≤ c) → Row l c vs → Row (poured l p ws) c vs
row_kept l p ws c vs s r = poured_beside l p ws c vs (sides_apart c (length vs) p (length ws) s) r

-- rows of one kind, `width` each: row k is stored, the others stay
module _ (place : ℕ → ℕ) (width : ℕ) (apart : (j k : ℕ) → (j ≡ k → ⊥) → Apart (place j) width (place k) width) where
  rows_put : (before after : ℕ → List ℕ) → ((j : ℕ) → length (after j) ≡ width) → (l : List ℕ) (k : ℕ) → place k + width ≤ length l
      → ((j : ℕ) → (j ≡ k → ⊥) → after j ≡ before j)
      → (j : ℕ) → Row l (place j) (before j) → Row (poured l (place k) (after k)) (place j) (after j)
  rows_put before after wide l k fits same j r =
      ⊎_elim
      (λ (e : j ≡ k). rw e (poured_row l (place k) (after k) (omega (arith, wide k))))
      (λ (d : j ≡ k → ⊥). poured_beside l (place k) (after k) (place j) (after j) (rw (wide j, wide k) (apart j k d)) (rw (same j d) r))
      (same_or j k)

slots_apart : (j k : ℕ) → (j ≡ k → ⊥) → Apart (slot_place j) slot_stride (slot_place k) slot_stride
slots_apart j k d = apart_from (slot_place 0) (j * slot_stride) slot_stride (k * slot_stride) slot_stride (rows_apart slot_stride j k d)

inputs_apart : (j k : ℕ) → (j ≡ k → ⊥) → Apart (input_place j) input_stride (input_place k) input_stride
inputs_apart j k d = apart_from (input_place 0) (j * input_stride) input_stride (k * input_stride) input_stride (rows_apart input_stride j k d)

-- ---- the laws of an array that holds these

module _ {bs : Branches} {xs : Slots} {is : List (List ℕ)} {l : List ℕ} (h : HoldIs bs xs is l) where
  -- ---- what is read

  pub branch_read_lem : (b : ℕ) → b ≤ last_unit → branch_in l b ≡ coded_branch (or_else [] (bs b))
  unfolding branch_in
  branch_read_lem b q =
      let ws : List ℕ = list_bytes (or_else [] (bs b)) in
      let r : Row l (branch_place b) ws = h.branch b q in
      rw (row_first l (branch_place b) ws (omega arith) r, eight_read l (branch_place b) 1 ws r (omega arith))

  pub slot_read_lem : (k : ℕ) → k < slot_count → slot_in l k ≡ coded_slot (get_or xs k empty)
  unfolding slot_in
  slot_read_lem k q =
      let ws : List ℕ = slot_bytes (get_or xs k empty) in
      let r : Row l (slot_place k) ws = h.slot k q in
      rw (lt-ltb k slot_count q, row_first l (slot_place k) ws (omega arith) r, r 1 (omega arith), eight_read l (slot_place k) 2 ws r (omega arith))

  pub input_read_lem : (k : ℕ) → k < compactor_count → input_in l k ≡ coded_input (get_or is k [])
  unfolding input_in
  input_read_lem k q =
      let ws : List ℕ = list_bytes (get_or is k []) in
      let r : Row l (input_place k) ws = h.input k q in
      rw (lt-ltb k compactor_count q, row_first l (input_place k) ws (omega arith) r, eight_read l (input_place k) 1 ws r (omega arith))

  -- ---- what it holds after a row is stored

  -- a branch's row, for every table that differs in that branch alone
  hold_row : (bs' : Branches) (b : ℕ) (us : List ℕ) → b ≤ last_unit → or_else [] (bs' b) ≡ us
      → ((v : ℕ) → (v ≡ b → ⊥) → bs' v ≡ bs v)
      → HoldIs bs' xs is (put_branch l b (coded_branch us))
  unfolding put_branch
  hold_row bs' b us q e same =
      let p : ℕ = branch_place b in
      let ws : List ℕ = list_bytes us in
      let own : ℕ → List ℕ = λ v. list_bytes (or_else [] (bs' v)) in
      record {
        long = poured_length l p ws ∙ h.long;
        branch = λ v w.
            rw e at (rows_put branch_place branch_stride (rows_apart branch_stride) (λ v. list_bytes (or_else [] (bs v))) own (λ v. refl) l b (omega (arith, h.long)) (λ v d. rw (same v d) refl) v (h.branch v w));
        slot = λ k w. row_kept l p ws (slot_place k) (slot_bytes (get_or xs k empty)) (inr (omega arith)) (h.slot k w);
        input = λ k w. row_kept l p ws (input_place k) (list_bytes (get_or is k [])) (inr (omega arith)) (h.input k w);
      }

  pub hold_branch : (b : ℕ) (us : List ℕ) → b ≤ last_unit → HoldIs (put bs (b, us)) xs is (put_branch l b (coded_branch us))
  hold_branch b us q = hold_row (put bs (b, us)) b us q (rw (eq-eqb b b refl) refl) (λ v d. rw (ne_eqb v b d) refl)

  pub hold_blank : (b : ℕ) → b ≤ last_unit → HoldIs (λ v. cond (eqb v b) none (bs v)) xs is (put_branch l b (coded_branch []))
  hold_blank b q = hold_row (λ v. cond (eqb v b) none (bs v)) b [] q (rw (eq-eqb b b refl) refl) (λ v d. rw (ne_eqb v b d) refl)

  pub hold_slot : (k : ℕ) (x : Rattle.rules.specs.Store.Slot) → k < slot_count → length xs ≡ slot_count → HoldIs bs (set xs k x) is (put_slot l k (coded_slot x))
  unfolding put_slot
  hold_slot k x q n =
      let p : ℕ = slot_place k in
      let ws : List ℕ = slot_bytes x in
      let e : get_or (set xs k x) k empty ≡ x = get_or-set_same xs k x empty (omega arith) in
      rw (lt-ltb k slot_count q)
      (record {
        long = poured_length l p ws ∙ h.long;
        branch = λ b w. row_kept l p ws (branch_place b) (list_bytes (or_else [] (bs b))) (inl (omega arith)) (h.branch b w);
        slot = λ j w.
            rw e at (rows_put slot_place slot_stride slots_apart (λ j. slot_bytes (get_or xs j empty)) (λ j. slot_bytes (get_or (set xs k x) j empty)) (λ j. refl) l k (omega (arith, h.long)) (λ j d. rw (get_or-set_other xs k j x empty d) refl) j (h.slot j w));
        input = λ j w. row_kept l p ws (input_place j) (list_bytes (get_or is j [])) (inr (omega arith)) (h.input j w);
      })

  pub hold_input : (k : ℕ) (us : List ℕ) → k < compactor_count → length is ≡ compactor_count → HoldIs bs xs (set is k us) (put_input l k (coded_input us))
  unfolding put_input
  hold_input k us q n =
      let p : ℕ = input_place k in
      let ws : List ℕ = list_bytes us in
      let e : get_or (set is k us) k [] ≡ us = get_or-set_same is k us [] (omega arith) in
      rw (lt-ltb k compactor_count q)
      (record {
        long = poured_length l p ws ∙ h.long;
        branch = λ b w. row_kept l p ws (branch_place b) (list_bytes (or_else [] (bs b))) (inl (omega arith)) (h.branch b w);
        slot = λ j w. row_kept l p ws (slot_place j) (slot_bytes (get_or xs j empty)) (inl (omega arith)) (h.slot j w);
        input = λ j w.
            rw e at (rows_put input_place input_stride inputs_apart (λ j. list_bytes (get_or is j [])) (λ j. list_bytes (get_or (set is k us) j [])) (λ j. refl) l k (omega (arith, h.long)) (λ j d. rw (get_or-set_other is k j us [] d) refl) j (h.input j w));
      })

  -- another table of the same units
  pub hold_same : (bs' : Branches) → ((b : ℕ) → b ≤ last_unit → or_else [] (bs b) ≡ or_else [] (bs' b)) → HoldIs bs' xs is l
  hold_same bs' e = record { long = h.long; branch = λ b w. subst (λ (us : List ℕ). Row l (branch_place b) (list_bytes us)) (e b w) (h.branch b w); slot = h.slot; input = h.input }

-- ---- zeros hold nothing

abbrev zeros : ℕ → List ℕ
zeros n = replicate n 0

zero_row : (n p m : ℕ) → Row (zeros n) p (zeros m)
zero_row n p m k q = zero_at n (p + k) ∙ sym (zero_at m k)
  where
    zero_at : (n j : ℕ) → get_or (zeros n) j 0 ≡ 0
    zero_at zero j = refl
    zero_at (suc n) zero = refl
    zero_at (suc n) (suc j) = zero_at n j

pub hold_empty : HoldIs (λ v. none) (replicate slot_count empty) (replicate compactor_count []) (replicate hold_length 0)
hold_empty =
    record {
      long = length-replicate {A = ℕ} hold_length 0;
      branch = λ b w. zero_row hold_length (branch_place b) branch_stride;
      slot = λ k w.
          subst (λ (x : Rattle.rules.specs.Store.Slot). Row (zeros hold_length) (slot_place k) (slot_bytes x)) (sym (get_or-replicate slot_count k empty empty w)) (zero_row hold_length (slot_place k) slot_stride);
      input = λ k w.
          subst (λ (us : List ℕ). Row (zeros hold_length) (input_place k) (list_bytes us)) (sym (get_or-replicate compactor_count k [] [] w)) (zero_row hold_length (input_place k) input_stride);
    }

-- ---- what it holds fixes its bytes

-- the rows of one kind, from `start` on
rows_fix : (l l' : List ℕ) (start width count : ℕ) → 0 < width
    → ((k : ℕ) → k < count → (j : ℕ) → j < width → get_or l (start + k * width + j) 0 ≡ get_or l' (start + k * width + j) 0)
    → (i : ℕ) → start ≤ i → i < start + count * width → get_or l i 0 ≡ get_or l' i 0
rows_fix l l' start width count w h i p q =
    let d : ℕ = i - start in
    let e : start + d / width * width + d % width ≡ i = omega (arith, div-add-mod' d width) in
    subst (λ (j : ℕ). get_or l j 0 ≡ get_or l' j 0) e (h (d / width) ((div-lt_iff_lt-mul w).1 (omega arith)) (d % width) (mod-lt d w))

pub hold_ext : {bs : Branches} {xs : Slots} {is : List (List ℕ)} {l l' : List ℕ} → HoldIs bs xs is l → HoldIs bs xs is l' → l ≡ l'
hold_ext {bs} {xs} {is} {l} {l'} h h' = ext_get_or 0 l l' (h.long ∙ sym h'.long) (λ i q. at i (omega (arith, h.long)))
  where
    at : (i : ℕ) → i < hold_length → get_or l i 0 ≡ get_or l' i 0
    at i q = go (ltb i (slot_place 0)) (ltb i (input_place 0)) refl refl
      where
        go : (s t : Bool) → ltb i (slot_place 0) ≡ s → ltb i (input_place 0) ≡ t → get_or l i 0 ≡ get_or l' i 0
        go true t e f =
            rows_fix l l' 0 branch_stride (suc last_unit) (omega arith) (λ k p j r. rw zero-add (h.branch k (omega arith) j r ∙ sym (h'.branch k (omega arith) j r))) i (omega arith) (ltb-true i (slot_place 0) e)
        go false true e f =
            rows_fix l l' (slot_place 0) slot_stride slot_count (omega arith) (λ k p j r. h.slot k p j r ∙ sym (h'.slot k p j r)) i (ltb-false i (slot_place 0) e) (ltb-true i (input_place 0) f)
        go false false e f =
            rows_fix l l' (input_place 0) input_stride compactor_count (omega arith) (λ k p j r. h.input k p j r ∙ sym (h'.input k p j r)) i (ltb-false i (input_place 0) f) q
