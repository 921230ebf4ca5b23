-- Laws of tables for loops and answers that src/ no longer has. Assumes nothing.
use mathlib.Core.Bool.{Bool, true, false, ◌||◌}
use mathlib.Core.Path.{◌≡◌, refl, ap, sym, ◌∙◌}
use mathlib.Core.List.{List, [], ◌∷◌, ◌++◌}
use Prim.Native.Nat.{ℕ, suc, ◌+◌, ◌-◌, ◌≤◌, ◌<◌}
use native.Mathlib.Omega.{arith}
use native.Mathlib.Numerals.{add-one}
use lib.Dec.{eqb}
use lib.ListN.{length, get_or, set, take, replicate, drop_of_length-le}
use lib.Seq.{drop-cons, take-suc-set, take_all, append_snoc, take-nil}
use Rattle.units.specs.Limits.{room, compactor_count}
use Rattle.ways.specs.Ways.{has}
use Rattle.rules.specs.Tables.{slice}
use Rattle.rules.specs.Store.{in_use}
use Rattle.tables.specs.Hold.{roots_of, input_in, inputs_from, in_use_in}
use Rattle.tables.specs.Slots.{front}
use Rattle.tables.specs.declared.Input.{Input}

-- ---- zeros behind the units that stay

pub front_turn : (us : List ℕ) (i : ℕ) → length us ≡ room → i < room → front (set us i 0) (i + 1) ≡ front us i
unfolding front
front_turn us i h p =
    let q : i < length us = omega arith in
    let e : room - i ≡ suc (room - suc i) = omega arith in
    rw (add-one, take-suc-set us i 0 q, e) (append_snoc (take i us) 0 (replicate (room - suc i) 0))

pub front_end : (us : List ℕ) (i : ℕ) → length us ≡ room → room ≤ i → front us i ≡ us
unfolding front
front_end us i h p =
    let q : length us ≤ i = omega arith in
    let e : room - i ≡ 0 = omega arith in
    rw (take_all i us q, e) (append_nil us)
  where
    append_nil : (l : List ℕ) → l ++ [] ≡ l
    append_nil [] = refl
    append_nil (x ∷ l) = ap (λ (r : List ℕ). x ∷ r) (append_nil l)

-- ---- the places that an input's number counts

-- from i on
abbrev pub rest : List ℕ → ℕ → ℕ → List ℕ
rest us n i = slice i (n - i) us

pub rest_start : (us : List ℕ) (n : ℕ) → rest us n 0 ≡ take n us
rest_start us n =
    let e : n - 0 ≡ n = omega arith in
    rw e refl

pub rest_turn : (us : List ℕ) (n i : ℕ) → i < n → i < length us → rest us n i ≡ get_or us i 0 ∷ rest us n (i + 1)
rest_turn us n i p q =
    let e : n - i ≡ suc (n - (i + 1)) = omega arith in
    rw (e, drop-cons us i 0 q, add-one) refl

pub rest_end : (us : List ℕ) (n i : ℕ) → n ≤ i → rest us n i ≡ []
rest_end us n i p =
    let e : n - i ≡ 0 = omega arith in
    rw e refl

pub rest_past : (us : List ℕ) (n i : ℕ) → length us ≤ i → rest us n i ≡ []
rest_past us n i p = rw (drop_of_length-le us p) (take-nil (n - i))

module _ (us : List ℕ) (n i b : ℕ) (r : Bool) (h : has b (rest us n i) ≡ r) where
  pub names_hit : i < n → i < length us → eqb (get_or us i 0) b ≡ true → true ≡ r
  names_hit p q e = sym (ap (λ (t : Bool). t || has b (rest us n (i + 1))) e) ∙ ap (has b) (sym (rest_turn us n i p q)) ∙ h

  pub names_miss : i < n → i < length us → eqb (get_or us i 0) b ≡ false → has b (rest us n (i + 1)) ≡ r
  names_miss p q e = sym (ap (λ (t : Bool). t || has b (rest us n (i + 1))) e) ∙ ap (has b) (sym (rest_turn us n i p q)) ∙ h

  pub names_none : rest us n i ≡ [] → false ≡ r
  names_none e = ap (has b) (sym e) ∙ h

-- ---- the inputs from k on

abbrev pub left : List ℕ → ℕ → ℕ → Bool
left l b k = in_use (inputs_from l (compactor_count - k) k) b

left_turn : (l : List ℕ) (b k : ℕ) → k < compactor_count → left l b k ≡ (has b (roots_of (input_in l k)) || left l b (k + 1))
left_turn l b k p =
    let e : compactor_count - k ≡ suc (compactor_count - (k + 1)) = omega arith in
    rw (e, add-one) refl

pub in_use_start : (l : List ℕ) (b : ℕ) → left l b 0 ≡ in_use_in l b
unfolding in_use_in
in_use_start l b = refl

-- what the code found of an input
pub found : (l : List ℕ) (b k : ℕ) (x : Input) (t v : Bool) → x ≡ input_in l k → t ≡ has b (roots_of x) → t ≡ v → has b (roots_of (input_in l k)) ≡ v
found l b k x t v e f g = rw (← e) (sym f ∙ g)

module _ (l : List ℕ) (b k : ℕ) (r : Bool) (h : left l b k ≡ r) where
  pub in_use_hit : k < compactor_count → has b (roots_of (input_in l k)) ≡ true → true ≡ r
  in_use_hit p e = sym (ap (λ (t : Bool). t || left l b (k + 1)) e) ∙ sym (left_turn l b k p) ∙ h

  pub in_use_miss : k < compactor_count → has b (roots_of (input_in l k)) ≡ false → left l b (k + 1) ≡ r
  in_use_miss p e = sym (ap (λ (t : Bool). t || left l b (k + 1)) e) ∙ sym (left_turn l b k p) ∙ h

  pub in_use_end : compactor_count ≤ k → false ≡ r
  in_use_end p =
      let e : compactor_count - k ≡ 0 = omega arith in
      ap (λ (n : ℕ). in_use (inputs_from l n k) b) (sym e) ∙ h
