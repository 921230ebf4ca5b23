-- Laws of allocation for loops and answers that src/ no longer has. Assumes nothing.
use mathlib.Core.Bool.{Bool, true, false, ◌&&◌, not, cond}
use mathlib.Core.Path.{◌≡◌, refl, ap, sym, ◌∙◌}
use mathlib.Core.List.{List, [], ◌∷◌}
use Prim.Native.Nat.{ℕ, ◌+◌, ◌-◌, ◌≤◌, ◌<◌}
use native.Mathlib.Omega.{arith}
use native.Mathlib.Numerals.{add-one}
use lib.Dec.{eqb, leb, ltb}
use lib.ListN.{length, get_or, take, drop, length-drop, length-take, drop_of_length-le}
use lib.Seq.{drop-cons}
use borrow.Author.Tests.{ltb-true, ltb-false, le-leb, lt-leb}
use Rattle.units.specs.Limits.{room, most_count}
use Rattle.ways.specs.Ways.{one}
use Rattle.rules.specs.Tables.{all, times, slice}
use Rattle.held_map.specs.Map.{held_in, mark}
use Rattle.counting.specs.Change.{drop_tree, drop_count, drop_trees, drop_counts}
use Rattle.counting.specs.Places.{place_of, up_to}
use Rattle.state.specs.Standing.{marks}
use Rattle.allocation.specs.Going.{let_go_map, let_go_maps}
use Rattle.allocation.specs.Fresh.{new_in, fresh_in, fresh_marks}
use Rattle.allocation.specs.Gains.{gain_fits, gains_fit}
use Rattle.allocation.specs.Sweep.{swept_hold, swept_map, sweep_hold, sweep_map}
use Rattle.allocation.proofs.Loops.{FreshLoop, GoLoop, SweepLoop}
use Rattle.earlier.proofs.CountingEach.{run_start, run_turn, run_end}

module _ {A : Type 0} (f : List ℕ → A) (us : List ℕ) (i : ℕ) (a : A) (h : f (drop i us) ≡ a) where
  pub rest_turn : i < length us → f (get_or us i 0 ∷ drop (i + 1) us) ≡ a
  rest_turn q = rw add-one (ap f (sym (drop-cons us i 0 q)) ∙ h)

  pub rest_end : length us ≤ i → f [] ≡ a
  rest_end q = ap f (sym (drop_of_length-le us {i = i} q)) ∙ h

-- ways that go
pub go_turn : {t c m us t' c' m' : List ℕ} {i : ℕ} {t'' c'' m'' : List ℕ} → GoLoop t c m us t' c' m' i → i < room
    → t'' ≡ drop_tree t' c' (get_or us i 0) → c'' ≡ drop_count c' (get_or us i 0) → m'' ≡ let_go_map m' c' (get_or us i 0)
    → GoLoop t c m us t'' c'' m'' (i + 1)
go_turn {t} {c} {m} {us} {t'} {c'} {m'} {i} l q et ec em =
    let r : i < length us = omega (arith, l.eight) in
    record {
      eight = l.eight;
      tree = rw (et, ec) (rest_turn (drop_trees t' c') us i (drop_trees t c us) l.tree r);
      counts = rw ec (rest_turn (drop_counts c') us i (drop_counts c us) l.counts r);
      map = rw (em, ec) (rest_turn (let_go_maps m' c') us i (let_go_maps m c us) l.map r);
    }

pub go_end : {t c m us t' c' m' : List ℕ} {i : ℕ} → GoLoop t c m us t' c' m' i → room ≤ i
    → (t' ≡ drop_trees t c us) × (c' ≡ drop_counts c us) × (m' ≡ let_go_maps m c us)
go_end {t} {c} {m} {us} {t'} {c'} {m'} {i} l q =
    let r : length us ≤ i = omega (arith, l.eight) in
    (rest_end (drop_trees t' c') us i (drop_trees t c us) l.tree r, rest_end (drop_counts c') us i (drop_counts c us) l.counts r, rest_end (let_go_maps m' c') us i (let_go_maps m c us) l.map r)

-- dead branches
pub sweep_turn : {c h m us h' m' : List ℕ} {i : ℕ} {h'' m'' : List ℕ} → SweepLoop c h m us h' m' i → i < room
    → h'' ≡ swept_hold c h' (get_or us i 0) → m'' ≡ swept_map c h' m' (get_or us i 0)
    → SweepLoop c h m us h'' m'' (i + 1)
sweep_turn {c} {h} {m} {us} {h'} {m'} {i} l q eh em =
    let r : i < length us = omega (arith, l.eight) in
    record {
      eight = l.eight;
      hold = rw eh (rest_turn (sweep_hold c h') us i (sweep_hold c h us) l.hold r);
      map = rw (eh, em) (rest_turn (sweep_map c h' m') us i (sweep_map c h m us) l.map r);
    }

pub sweep_end : {c h m us h' m' : List ℕ} {i : ℕ} → SweepLoop c h m us h' m' i → room ≤ i → (h' ≡ sweep_hold c h us) × (m' ≡ sweep_map c h m us)
sweep_end {c} {h} {m} {us} {h'} {m'} {i} l q =
    let r : length us ≤ i = omega (arith, l.eight) in
    (rest_end (sweep_hold c h') us i (sweep_hold c h us) l.hold r, rest_end (sweep_map c h' m') us i (sweep_map c h m us) l.map r)

-- units that come
pub hold_turn : (m us m' m'' : List ℕ) (i : ℕ) → marks m' (drop i us) ≡ marks m us → i < length us → m'' ≡ mark m' (get_or us i 0) → marks m'' (drop (i + 1) us) ≡ marks m us
hold_turn m us m' m'' i l q e = rw e (rest_turn (marks m') us i (marks m us) l q)

pub hold_end : (m us m' : List ℕ) (i : ℕ) → marks m' (drop i us) ≡ marks m us → length us ≤ i → m' ≡ marks m us
hold_end m us m' i l q = rest_end (marks m') us i (marks m us) l q

-- fresh units
module _ {m us s : List ℕ} {i : ℕ} (l : FreshLoop m us s i) where
  -- by whether the next unit is new
  next_answer : (b : Bool) → i < length us → new_in s (get_or us i 0) ≡ b → (b && fresh_in (mark s (get_or us i 0)) (drop (i + 1) us)) ≡ fresh_in m us
  next_answer b q e = sym (ap (λ (b : Bool). b && fresh_in (mark s (get_or us i 0)) (drop (i + 1) us)) e) ∙ rest_turn (fresh_in s) us i (fresh_in m us) l.answer q

  next_seen : (b : Bool) → i < length us → new_in s (get_or us i 0) ≡ b → cond b (fresh_marks (mark s (get_or us i 0)) (drop (i + 1) us)) s ≡ fresh_marks m us
  next_seen b q e = sym (ap (λ (b : Bool). cond b (fresh_marks (mark s (get_or us i 0)) (drop (i + 1) us)) s) e) ∙ rest_turn (fresh_marks s) us i (fresh_marks m us) l.seen q

  pub fresh_no : i < length us → new_in s (get_or us i 0) ≡ false → (false ≡ fresh_in m us) × (s ≡ fresh_marks m us)
  fresh_no q e = (next_answer false q e, next_seen false q e)

  pub fresh_turn : (s' : List ℕ) → i < length us → new_in s (get_or us i 0) ≡ true → s' ≡ mark s (get_or us i 0) → FreshLoop m us s' (i + 1)
  fresh_turn s' q e es = record { answer = rw es (next_answer true q e); seen = rw es (next_seen true q e) }

  pub fresh_end : length us ≤ i → (true ≡ fresh_in m us) × (s ≡ fresh_marks m us)
  fresh_end q = (rest_end (fresh_in s) us i (fresh_in m us) l.answer q, rest_end (fresh_marks s) us i (fresh_marks m us) l.seen q)

-- 0 is not new, nor is a held unit; every other is
module _ (m : List ℕ) (u : ℕ) where
  pub new_zero : eqb u 0 ≡ true → new_in m u ≡ false
  new_zero e = rw e refl

  pub new_held : held_in m u ≡ true → new_in m u ≡ false
  new_held e = rw e (go (eqb u 0))
    where
      go : (b : Bool) → (not b && false) ≡ false
      go true = refl
      go false = refl

  pub new_both : eqb u 0 ≡ false → held_in m u ≡ false → new_in m u ≡ true
  new_both e h = rw (e, h) refl

-- ---- over a run of eight places

at_most : (t : Bool) → one t ≤ 1
at_most true = omega arith
at_most false = omega arith

times_few : (b : ℕ) (l : List ℕ) → times b l ≤ length l
times_few b [] = omega arith
times_few b (x ∷ l) = omega (arith, at_most (eqb x b), times_few b l)

pub run_few : (bs : List ℕ) (from n b : ℕ) → length bs ≡ room → times b (slice from n bs) ≤ room
run_few bs from n b e = omega (arith, times_few b (slice from n bs), length-take n (drop from bs), length-drop from bs)

module _ {A : Type 0} (f : List ℕ → A) (bs : List ℕ) where
  pub run_from : (from to end : ℕ) → length bs ≡ room → end ≡ up_to to → f (slice from (end - from) bs) ≡ f (slice from (to - from) bs)
  run_from from to end h e = rw (e, run_start bs from to h) refl

  pub run_next : (i end : ℕ) (a : A) → i < end → end ≤ length bs → f (slice i (end - i) bs) ≡ a → f (get_or bs i 0 ∷ slice (i + 1) (end - (i + 1)) bs) ≡ a
  run_next i end a p q h = ap f (sym (run_turn bs i end p q)) ∙ h

  pub run_last : (i end : ℕ) (a : A) → end ≤ i → f (slice i (end - i) bs) ≡ a → f [] ≡ a
  run_last i end a p h = ap f (sym (run_end bs i end p)) ∙ h

-- the members counted so far, and those that are left
pub record TimesLoop (bs : List ℕ) (b : ℕ) (whole end n i : ℕ) : Type 0 where
  pub eight : length bs ≡ room
  pub short : end ≤ room
  pub few : n ≤ i
  pub left : n + times b (slice i (end - i) bs) ≡ whole

pub times_turn : {bs : List ℕ} {b whole end n i n' : ℕ} → TimesLoop bs b whole end n i → i < end → n' ≡ n + one (eqb (get_or bs i 0) b) → TimesLoop bs b whole end n' (i + 1)
times_turn {bs} {b} {whole} {end} {n} {i} l q e =
    record {
      eight = l.eight;
      short = l.short;
      few = omega (arith, l.few, at_most (eqb (get_or bs i 0) b));
      left = omega (arith, e, run_next (λ (us : List ℕ). n + times b us) bs i end whole q (omega (arith, l.eight, l.short)) l.left);
    }

pub times_end : {bs : List ℕ} {b whole end n i : ℕ} → TimesLoop bs b whole end n i → end ≤ i → n ≡ whole
times_end {bs} {b} {whole} {end} {n} {i} l q = omega (arith, run_last (λ (us : List ℕ). n + times b us) bs i end whole q l.left)

-- whether all of a run pass
module _ (f : ℕ → Bool) (bs : List ℕ) (i end : ℕ) (a : Bool) (h : all f (slice i (end - i) bs) ≡ a) where
  all_next : (b : Bool) → i < end → end ≤ length bs → f (get_or bs i 0) ≡ b → (b && all f (slice (i + 1) (end - (i + 1)) bs)) ≡ a
  all_next b p q e = sym (ap (λ (b : Bool). b && all f (slice (i + 1) (end - (i + 1)) bs)) e) ∙ run_next (all f) bs i end a p q h

  pub all_no : i < end → end ≤ length bs → f (get_or bs i 0) ≡ false → false ≡ a
  all_no p q e = all_next false p q e

  pub all_turn : i < end → end ≤ length bs → f (get_or bs i 0) ≡ true → all f (slice (i + 1) (end - (i + 1)) bs) ≡ a
  all_turn p q e = all_next true p q e

  pub all_end : end ≤ i → true ≡ a
  all_end p = run_last (all f) bs i end a p h

-- ---- one count

-- eight places more are still a count
pub gain_low : (counts bs : List ℕ) (gc from to b : ℕ) (places : ℕ) → length bs ≡ room → places ≡ get_or counts (place_of b) 0 → places + room ≤ most_count → false ≡ not (gain_fits counts (slice from (to - from) bs) (take gc bs) b)
unfolding gain_fits
gain_low counts bs gc from to b places n e h =
    ap not (sym (le-leb ((get_or counts (place_of b) 0 + times b (slice from (to - from) bs)) - times b (take gc bs)) most_count (omega (arith, run_few bs from (to - from) b n))))

pub gain_test : (counts bs : List ℕ) (gc from to b places more less : ℕ) (r : Bool) → places ≡ get_or counts (place_of b) 0 → more ≡ times b (slice from (to - from) bs) → less ≡ times b (slice 0 (gc - 0) bs)
    → r ≡ not (leb ((places + more) - less) most_count) → r ≡ not (gain_fits counts (slice from (to - from) bs) (take gc bs) b)
unfolding gain_fits
gain_test counts bs gc from to b places more less r ep em el er =
    let z : gc - 0 ≡ gc = omega arith in
    let e : less ≡ times b (take gc bs) = el ∙ ap (λ (n : ℕ). times b (slice 0 n bs)) z in
    rw (er, ep, em, e) refl

pub gains_start : (counts bs : List ℕ) (gc from to end : ℕ) → length bs ≡ room → end ≡ up_to to → all (gain_fits counts (slice from (to - from) bs) (take gc bs)) (slice from (end - from) bs) ≡ gains_fit counts (slice from (to - from) bs) (take gc bs)
unfolding gains_fit
gains_start counts bs gc from to end h e = run_from (all (gain_fits counts (slice from (to - from) bs) (take gc bs))) bs from to end h e

-- a test found true or false
pub not_true : (a r : Bool) → r ≡ not a → r ≡ true → a ≡ false
not_true true r e q = absurd (let y : ◌≡◌ {A = ℕ} 0 1 = cc in omega arith)
not_true false r e q = refl

pub not_false : (a r : Bool) → r ≡ not a → r ≡ false → a ≡ true
not_false true r e q = refl
not_false false r e q = absurd (let y : ◌≡◌ {A = ℕ} 0 1 = cc in omega arith)

-- a count that gains and then loses, without a difference
pub above_test : (p m l : ℕ) → ltb (most_count + l) (p + m) ≡ not (leb ((p + m) - l) most_count)
above_test p m l = go (ltb (most_count + l) (p + m)) refl
  where
    go : (b : Bool) → ltb (most_count + l) (p + m) ≡ b → b ≡ not (leb ((p + m) - l) most_count)
    go true e = ap not (sym (lt-leb ((p + m) - l) most_count (omega (arith, ltb-true (most_count + l) (p + m) e))))
    go false e = ap not (sym (le-leb ((p + m) - l) most_count (omega (arith, ltb-false (most_count + l) (p + m) e))))
