-- The kinds that leave the tree as it is keep to the rules. Assumes nothing.
use mathlib.Core.Path.{◌≡◌, refl, sym, ap, ◌∙◌, subst}
use mathlib.Core.Bool.{Bool, true, ◌||◌, ◌&&◌}
use mathlib.Core.Logic.{⊎_elim}
use mathlib.Core.List.{List, [], ◌∷◌, ◌++◌}
use mathlib.Core.Option.{Option}
use Prim.Native.Nat.{ℕ, ◌+◌, ◌-◌, ◌≤◌, ◌<◌, min}
use native.Mathlib.Omega.{arith}
use lib.Dec.{T, leb, ltb, leb→le, le→leb, ltb→lt}
use lib.ListN.{length, take, drop, length-set, length-take, length-append, length-drop}
use Rattle.units.specs.Limits.{slot_count}
use Rattle.ways.specs.Ways.{sums, nothing, is, has, follow}
use Rattle.rules.specs.Tables.{keys, times, all, joined, is_some, or_else, slice}
use Rattle.rules.specs.Store.{Node, Slot, empty, opened, sealed, Store, blank, node_at, children_of, buffers_of, slot_units, root_list, in_use}
use Rattle.rules.specs.Steps.{quiet, is_slot, Change, extended, take_change, seal_change, abandon_change, begin_change, abort_change, slot_at, is_open, is_empty}
use Rattle.right.specs.Ledger.{unused, Each}
use Rattle.rules.specs.Right.{NodeOk, BranchOk, slot_ok, Sound}
use Rattle.ways.proofs.Frame.{sums_append}
use Rattle.ways.proofs.Tests.{and_l, and_r, and_i}
use Rattle.right.proofs.Ledger.{some_of_lem}
use Rattle.right.proofs.Ledgers.{quiet_ledger, AtNode, at_node}
use Rattle.right.proofs.Extended.{Lawful, joining, node_still, branch_still}
use Rattle.right.proofs.Lists.{all_set, all_get, joined_set, in_use_set, has_take, has_drop, times_take}

pub sums_nothing : (l : List ℕ) → sums nothing l ≡ 0
sums_nothing [] = refl
sums_nothing (x ∷ xs) = omega (arith, sums_nothing xs)

-- the node at a unit that is named
pub node_ok : (s : Store) → Sound s → (u : ℕ) → T (is_some (s.nodes u)) → NodeOk s (node_at s u)
node_ok s ok u t =
    let n = some_of_lem (s.nodes u) t in
    subst (λ (m : Node). NodeOk s m) (sym (ap (λ (o : Option Node). or_else blank o) n.1)) (ok.node u n.0 n.1)

module _ (s : Store) (ok : Sound s) (p : Change) (er : p.root ≡ s.root) (ea : p.adds ≡ []) (ej : p.joins ≡ []) where
  pub quiet_lawful : T (unused s p.proposed) → length p.slots ≡ 4 → T (all slot_ok p.slots) → length p.inputs ≡ 4
      → T (all (λ l. leb (length l) 8) p.inputs) → ((b : ℕ) → T (in_use p.inputs b) → T (is_some (s.branches b)))
      → ((u : ℕ) → times u (joined slot_units p.slots) ≤ times u (joined slot_units s.slots) + times u p.proposed)
      → Lawful s p
  unfolding joining
  quiet_lawful new l4 so i4 io named own =
      record {
        root_named = λ r t. node_still s ok p r (ok.rooted r ((subst (λ (x : ℕ). T (has r (root_list x))) er t)));
        nodes_ok = subst (λ (es : List (ℕ × Node)). Each (λ u n. NodeOk (extended s p) n) es) (sym ea) tt;
        joins_ok = subst (λ (es : List (ℕ × List ℕ)). Each BranchOk es) (sym ej) tt;
        join_unit = subst (λ (es : List (ℕ × List ℕ)). Each (λ b us. (1 ≤ b) × (b ≤ 255)) es) (sym ej) tt;
        slot_number = l4;
        slot = so;
        input_number = i4;
        input = io;
        input_named = λ b t. branch_still s ok p b (named b t);
        adds_proposed = λ v t. absurd (subst (λ (es : List (ℕ × Node)). T (has v (keys es))) ea t);
        owns = λ u. omega (arith, own u, ap (λ (es : List (ℕ × Node)). times u (keys es)) ea, ap (λ (es : List (ℕ × List ℕ)). times u (joining es)) ej);
        low = omega (arith, quiet_ledger s ok p er ea p.proposed new 1 nothing nothing (λ v h. refl), ok.low);
      }

module _ (s : Store) (ok : Sound s) where
  slot_in_lem : (k : ℕ) → T (is_slot k) → k < length s.slots
  slot_in_lem k t = omega (arith, ltb→lt k slot_count t, ok.slot_number)

  slot_ok_lem : (k : ℕ) → T (slot_ok (slot_at s k))
  slot_ok_lem k = all_get slot_ok k empty s.slots tt ok.slot

  same_inputs : (b : ℕ) → T (in_use s.inputs b) → T (is_some (s.branches b))
  same_inputs = ok.input_named

  pub take_lawful : (k u : ℕ) → let P : Change = take_change s k u in T P.shape → T P.slot → T (unused s P.proposed) → Lawful s P
  take_lawful k u a b new =
      quiet_lawful s ok (take_change s k u) refl refl refl new
      (length-set s.slots k _ ∙ ok.slot_number)
      (all_set slot_ok k (opened (slot_units (slot_at s k) ++ (u ∷ []))) s.slots (room (slot_at s k) b) ok.slot)
      ok.input_number ok.input same_inputs
      (λ v. omega (arith, joined_set slot_units v k empty (opened (slot_units (slot_at s k) ++ (u ∷ []))) s.slots (slot_in_lem k a), sums_append (is v) (slot_units (slot_at s k)) (u ∷ [])))
    where
      sized : (l : List ℕ) → length l < 8 → T (leb 1 (length (l ++ (u ∷ []))) && leb (length (l ++ (u ∷ []))) 8)
      sized l h =
          and_i (leb 1 (length (l ++ (u ∷ [])))) (leb (length (l ++ (u ∷ []))) 8)
          (le→leb 1 (length (l ++ (u ∷ []))) (omega (arith, length-append l (u ∷ []))))
          (le→leb (length (l ++ (u ∷ []))) 8 (omega (arith, length-append l (u ∷ []))))

      room : (x : Slot) → T (is_empty x || (is_open x && ltb (length (slot_units x)) 8)) → T (slot_ok (opened (slot_units x ++ (u ∷ []))))
      room empty t = sized [] (omega arith)
      room (opened us) t = sized us (ltb→lt (length us) 8 t)
      room (sealed us) t = absurd t

  pub seal_lawful : (k n : ℕ) → let P : Change = seal_change s k n in T P.shape → T P.slot → T P.range → T (unused s P.proposed) → Lawful s P
  seal_lawful k n a b r new =
      quiet_lawful s ok (seal_change s k n) refl refl refl new
      (length-set s.slots k _ ∙ ok.slot_number)
      (all_set slot_ok k (sealed (take n (slot_units (slot_at s k)))) s.slots (cut (slot_at s k) (slot_ok_lem k) b r) ok.slot)
      ok.input_number ok.input same_inputs
      (λ v. omega (arith, joined_set slot_units v k empty (sealed (take n (slot_units (slot_at s k)))) s.slots (slot_in_lem k a), times_take v n (slot_units (slot_at s k))))
    where
      cut : (x : Slot) → T (slot_ok x) → T (is_open x) → T (leb 1 n && leb n (length (slot_units x))) → T (slot_ok (sealed (take n (slot_units x))))
      cut empty o t r = absurd t
      cut (opened us) o t r =
          let l : length (take n us) ≡ min n (length us) = length-take n us in
          let n1 : 1 ≤ n = leb→le 1 n (and_l (leb 1 n) (leb n (length us)) r) in
          let n2 : n ≤ length us = leb→le n (length us) (and_r (leb 1 n) (leb n (length us)) r) in
          let n3 : length us ≤ 8 = leb→le (length us) 8 (and_r (leb 1 (length us)) (leb (length us) 8) o) in
          and_i (leb 1 (length (take n us))) (leb (length (take n us)) 8) (le→leb 1 (length (take n us)) (omega arith)) (le→leb (length (take n us)) 8 (omega arith))
      cut (sealed us) o t r = absurd t

  pub abandon_lawful : (k : ℕ) → let P : Change = abandon_change s k in T P.shape → T (unused s P.proposed) → Lawful s P
  abandon_lawful k a new =
      quiet_lawful s ok (abandon_change s k) refl refl refl new
      (length-set s.slots k _ ∙ ok.slot_number)
      (all_set slot_ok k empty s.slots tt ok.slot)
      ok.input_number ok.input same_inputs
      (λ v. omega (arith, joined_set slot_units v k empty empty s.slots (slot_in_lem k a)))

  short_list : List ℕ → Bool
  short_list l = leb (length l) 8

  pub abort_lawful : (k : ℕ) → let P : Change = abort_change s k in T (unused s P.proposed) → Lawful s P
  unfolding short_list
  abort_lawful k new =
      quiet_lawful s ok (abort_change s k) refl refl refl new ok.slot_number ok.slot
      (length-set s.inputs k _ ∙ ok.input_number)
      (all_set short_list k [] s.inputs tt ok.input)
      (λ b t. ⊎_elim (λ (q : ⊥). absurd q) (λ q. ok.input_named b q) (in_use_set b k [] s.inputs t))
      (λ v. omega arith)

  pub begin_lawful : (k d : ℕ) (idx : List ℕ) (a e : ℕ) → let P : Change = begin_change s k d idx a e in T P.path → T (unused s P.proposed) → Lawful s P
  unfolding short_list
  begin_lawful k d idx a e t new =
      let p : List ℕ = take d idx in
      let u : ℕ = follow (children_of s) p s.root in
      let at : AtNode s p = at_node s p ok t in
      let o : NodeOk s (node_at s u) = node_ok s ok u at.named in
      let l : List ℕ = slice a (e - a) (buffers_of s u) in
      quiet_lawful s ok (begin_change s k d idx a e) refl refl refl new ok.slot_number ok.slot
      (length-set s.inputs k _ ∙ ok.input_number)
      (all_set short_list k l s.inputs (le→leb (length l) 8 (omega (arith, length-take (e - a) (drop a (buffers_of s u)), length-drop a (buffers_of s u), o.few_buffers))) ok.input)
      (λ b h.
      ⊎_elim
      (λ (q : T (has b l)). o.buffers_named b (has_drop b a (buffers_of s u) (has_take b (e - a) (drop a (buffers_of s u)) q)))
      (λ q. ok.input_named b q)
      (in_use_set b k l s.inputs h))
      (λ v. omega arith)

  pub stay_lawful : let P : Change = quiet s true true true true [] s.slots s.inputs in T (unused s P.proposed) → Lawful s P
  stay_lawful new = quiet_lawful s ok (quiet s true true true true [] s.slots s.inputs) refl refl refl new ok.slot_number ok.slot ok.input_number ok.input same_inputs (λ v. omega arith)
