-- Take, seal and abandon over the arrays are those of the rules. Assumes nothing.
use mathlib.Core.Path.{◌≡◌, refl, sym, ap, ◌∙◌}
use mathlib.Core.Bool.{Bool, true, false, ◌||◌, ◌&&◌, not}
use mathlib.Core.List.{List, [], ◌∷◌, ◌++◌}
use Prim.Native.Nat.{ℕ, ◌+◌, ◌-◌, ◌≤◌, ◌<◌}
use native.Mathlib.Omega.{arith}
use lib.Dec.{T, eqb, leb, ltb, leb→le}
use lib.ListN.{length, set, take, drop, replicate, length-drop, take-append-drop}
use lib.Seq.{take-append-le}
use borrow.Author.Tests.{ltb-true, eq-eqb}
use Rattle.units.specs.Limits.{last_unit, room, slot_count}
use Rattle.ways.specs.Ways.{is}
use Rattle.rules.specs.Tables.{times}
use Rattle.rules.specs.Store.{empty, opened, sealed, Store, slot_units}
use Rattle.rules.specs.Steps.{accepted, fresh, decide, Take, Seal, Abandon, change, is_empty, is_open, slot_at}
use Rattle.rules.specs.Right.{slot_ok, Right}
use Rattle.ways.proofs.Tests.{T→eq, eq→T, and_r, or_l}
use Rattle.ways.proofs.Frame.{sums_append}
use Rattle.right.proofs.Lists.{all_get}
use Rattle.right.proofs.Ledger.{fresh_unit}
use Rattle.right.proofs.Steps.{Even, passed}
use Rattle.lines.specs.Lines.{tests_of, Agree}
use Rattle.held_map.specs.Map.{mark}
use Rattle.records.specs.Rows.{eight, eight_pad}
use Rattle.tables.specs.declared.Slot.{Slot}
use Rattle.tables.specs.Hold.{slot_in, coded_slot}
use Rattle.tables.proofs.Kept.{slot_read_lem}
use Rattle.tables.proofs.Values.{taken_is, sealed_is}
use Rattle.state.specs.Stands.{Arrays, Stands}
use Rattle.allocation.proofs.Going.{eight_times}
use Rattle.allocation.proofs.Fresh.{fresh_is}
use Rattle.eights.specs.Eights.{replaced}
use Rattle.quiet.specs.Slots.{not_empty, is_open_slot, has_room, keeps_some, take_tests, take_hold, seal_tests, seal_hold, seal_map, abandon_tests, abandon_hold, abandon_map}
use Rattle.quiet.proofs.Quiet.{quiet_fit, slot_lets_go, slot_takes}

-- a slot has at most eight units
slot_few : (s : Store) → Right s → (k : ℕ) → length (slot_units (slot_at s k)) ≤ room
slot_few s r k = go (slot_at s k) (all_get slot_ok k empty s.slots tt r.sound.slot)
  where
    go : (x : Rattle.rules.specs.Store.Slot) → T (slot_ok x) → length (slot_units x) ≤ room
    go empty t = omega arith
    go (opened us) t = leb→le (length us) room (and_r (leb 1 (length us)) (leb (length us) room) t)
    go (sealed us) t = leb→le (length us) room (and_r (leb 1 (length us)) (leb (length us) room) t)

module _ (s : Store) (r : Right s) (a : Arrays) (st : Stands s a) (k : ℕ) where
  -- a test of the slot as code has it is that of the rules
  slot_test : (f : Slot → Bool) (g : Rattle.rules.specs.Store.Slot → Bool) → ((y : Rattle.rules.specs.Store.Slot) → f (coded_slot y) ≡ g y) → ltb k slot_count ≡ true → f (slot_in a.hold k) ≡ g (slot_at s k)
  slot_test f g same h = ap f (slot_read_lem st.hold k (ltb-true k slot_count h)) ∙ same (slot_at s k)

  -- ---- 3 abandon

  not_empty_lem : (y : Rattle.rules.specs.Store.Slot) → not_empty (coded_slot y) ≡ not (is_empty y)
  not_empty_lem empty = refl
  not_empty_lem (opened us) = refl
  not_empty_lem (sealed us) = refl

  pub abandon_agree : Agree (abandon_tests a.hold k) (tests_of s (change s (Abandon k)))
  unfolding change fresh abandon_tests
  abandon_agree =
      (refl, λ h. (slot_test not_empty (λ y. not (is_empty y)) not_empty_lem h, λ _. (refl, λ _. (refl, λ _. (refl, λ _. (refl, λ _. (refl, λ _. (refl, λ _. (sym (quiet_fit s r _ _ true true [] (set s.slots k empty) s.inputs), λ _. tt)))))))))

  pub abandon_stands : (s' : Store) → decide s (change s (Abandon k)) ≡ accepted s'
      → Stands s' (record { tree = a.tree; counts = a.counts; hold = abandon_hold a.hold k; map = abandon_map a.hold a.map k })
  unfolding change abandon_hold abandon_map Even
  abandon_stands s' e =
      let ok = (passed s r (change s (Abandon k)) s' e).0 in
      let q : k < slot_count = ltb-true k slot_count (T→eq (ltb k slot_count) ok.shape) in
      rw (slot_read_lem st.hold k q)
      (slot_lets_go s r a st (Abandon k) tt s' e refl refl refl refl k q empty refl refl (eight (slot_units (slot_at s k)))
      (λ v p. omega (arith, eight_times v p (slot_units (slot_at s k)) (slot_few s r k))))

  -- ---- 1 take

  has_room_lem : (y : Rattle.rules.specs.Store.Slot) → has_room (coded_slot y) ≡ (is_empty y || (is_open y && ltb (length (slot_units y)) room))
  unfolding has_room
  has_room_lem empty = refl
  has_room_lem (opened us) = refl
  has_room_lem (sealed us) = refl

  pub take_agree : (u : ℕ) → u ≤ last_unit → Agree (take_tests a.hold a.map k u) (tests_of s (change s (Take k u)))
  unfolding change take_tests
  take_agree u q =
      let y : Rattle.rules.specs.Store.Slot = opened (slot_units (slot_at s k) ++ (u ∷ [])) in
      (refl, λ h. (slot_test has_room (λ y. is_empty y || (is_open y && ltb (length (slot_units y)) room)) has_room_lem h, λ _. (refl, λ _. (refl, λ _. (refl, λ _. (refl, λ _. (refl, λ _. (fresh_is s (u ∷ []) a.map (q, tt) st.map, λ _. (sym (quiet_fit s r _ _ true true (u ∷ []) (set s.slots k y) s.inputs), λ _. tt)))))))))

  pub take_stands : (u : ℕ) → (s' : Store) → decide s (change s (Take k u)) ≡ accepted s'
      → Stands s' (record { tree = a.tree; counts = a.counts; hold = take_hold a.hold k u; map = mark a.map u })
  unfolding change take_hold Even
  take_stands u s' e =
      let ok = (passed s r (change s (Take k u)) s' e).0 in
      let q : k < slot_count = ltb-true k slot_count (T→eq (ltb k slot_count) ok.shape) in
      let few : length (slot_units (slot_at s k)) < room = left_in (slot_at s k) ok.slot in
      let new = fresh_unit s (u ∷ []) ok.new u (or_l (eqb u u) false (eq→T (eqb u u) (eq-eqb u u refl))) in
      rw (slot_read_lem st.hold k q, taken_is (slot_at s k) u few)
      (slot_takes s r a st (Take k u) tt s' e refl refl refl refl k q (opened (slot_units (slot_at s k) ++ (u ∷ []))) refl refl u new.least new.most
      (λ v. sums_append (is v) (slot_units (slot_at s k)) (u ∷ [])))
    where
      left_in : (y : Rattle.rules.specs.Store.Slot) → T (is_empty y || (is_open y && ltb (length (slot_units y)) room)) → length (slot_units y) < room
      left_in empty t = omega arith
      left_in (opened us) t = ltb-true (length us) room (T→eq (ltb (length us) room) t)
      left_in (sealed us) t = absurd t

  -- ---- 2 seal

  is_open_lem : (y : Rattle.rules.specs.Store.Slot) → is_open_slot (coded_slot y) ≡ is_open y
  is_open_lem empty = refl
  is_open_lem (opened us) = refl
  is_open_lem (sealed us) = refl

  pub seal_agree : (n : ℕ) → Agree (seal_tests a.hold k n) (tests_of s (change s (Seal k n)))
  unfolding change fresh seal_tests keeps_some
  seal_agree n =
      (refl, λ h. (slot_test is_open_slot is_open is_open_lem h, λ _. (refl, λ _. (slot_test (λ x. leb 1 n && leb n x.number) (λ y. leb 1 n && leb n (length (slot_units y))) (λ y. refl) h, λ _. (refl, λ _. (refl, λ _. (refl, λ _. (refl, λ _. (sym (quiet_fit s r _ _ true _ [] (set s.slots k (sealed (take n (slot_units (slot_at s k))))) s.inputs), λ _. tt)))))))))

  pub seal_stands : (n : ℕ) → (s' : Store) → decide s (change s (Seal k n)) ≡ accepted s'
      → Stands s' (record { tree = a.tree; counts = a.counts; hold = seal_hold a.hold k n; map = seal_map a.hold a.map k n })
  unfolding change seal_hold seal_map Even
  seal_stands n s' e =
      let us : List ℕ = slot_units (slot_at s k) in
      let ok = (passed s r (change s (Seal k n)) s' e).0 in
      let q : k < slot_count = ltb-true k slot_count (T→eq (ltb k slot_count) ok.shape) in
      let few : n ≤ length us = leb→le n (length us) (and_r (leb 1 n) (leb n (length us)) ok.range) in
      rw (slot_read_lem st.hold k q, sealed_is (slot_at s k) n (slot_few s r k) few)
      (slot_lets_go s r a st (Seal k n) tt s' e refl refl refl refl k q (sealed (take n us)) refl refl (eight (replaced (eight us) 0 n []))
      (λ v p. behind us n (slot_few s r k) few v p))
    where
      behind : (us : List ℕ) (n : ℕ) → length us ≤ room → n ≤ length us → (v : ℕ) → 1 ≤ v → times v (take n us) + times v (eight (replaced (eight us) 0 n [])) ≡ times v us
      behind us n h few v p =
          let z : 0 + n ≡ n = omega arith in
          let front : take n (eight us) ≡ take n us = ap (take n) (eight_pad us h) ∙ take-append-le n us (replicate (room - length us) 0) few in
          omega (
            arith,
            eight_times v p (drop (0 + n) (eight us)) (omega (arith, length-drop (0 + n) (eight us))),
            ap (λ (i : ℕ). times v (drop i (eight us))) z,
            ap (times v) front,
            ap (times v) (take-append-drop n (eight us)),
            sums_append (is v) (take n (eight us)) (drop n (eight us)),
            eight_times v p us h,
          )
