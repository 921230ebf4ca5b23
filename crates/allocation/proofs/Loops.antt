-- The loops: what is left, done from here, gives what was asked. Assumes nothing.
use mathlib.Core.Bool.{Bool, true, false, cond}
use mathlib.Core.Path.{◌≡◌, refl, sym}
use mathlib.Core.List.{List}
use Prim.Native.Nat.{ℕ, ◌+◌, ◌-◌, ◌≤◌, ◌<◌}
use native.Mathlib.Omega.{arith}
use lib.Dec.{leb}
use lib.ListN.{length, get_or, drop}
use Rattle.std.specs.Prelude.{◌==◌}
use Rattle.std.specs.List.{count_by}
use Rattle.std.proofs.lemmas.List.Sums.{count_by-le-length}
use Rattle.std.proofs.lemmas.List.Recursion.{is_count_by}
use borrow.Author.Tests.{leb-true, leb-false, le-leb, lt-leb}
use Rattle.units.specs.Limits.{room, most_count}
use Rattle.ways.specs.Ways.{one}
use Rattle.rules.specs.Tables.{times}
use Rattle.counting.specs.Change.{drop_trees, drop_counts}
use Rattle.counting.specs.Places.{place_of}
use Rattle.allocation.specs.Going.{let_go_maps}
use Rattle.allocation.specs.Fresh.{fresh_in, fresh_marks}
use Rattle.allocation.specs.Gains.{gain_fits}
use Rattle.allocation.specs.Sweep.{sweep_hold, sweep_map}

-- ways that go
pub record GoLoop (t c m us t' c' m' : List ℕ) (i : ℕ) : Type 0 where
  pub eight : length us ≡ room
  pub tree : drop_trees t' c' (drop i us) ≡ drop_trees t c us
  pub counts : drop_counts c' (drop i us) ≡ drop_counts c us
  pub map : let_go_maps m' c' (drop i us) ≡ let_go_maps m c us

-- dead branches
pub record SweepLoop (c h m us h' m' : List ℕ) (i : ℕ) : Type 0 where
  pub eight : length us ≡ room
  pub hold : sweep_hold c h' (drop i us) ≡ sweep_hold c h us
  pub map : sweep_map c h' m' (drop i us) ≡ sweep_map c h m us

-- fresh units
pub record FreshLoop (m us s : List ℕ) (i : ℕ) : Type 0 where
  pub answer : fresh_in s (drop i us) ≡ fresh_in m us
  pub seen : fresh_marks s (drop i us) ≡ fresh_marks m us

-- the places of b by the library's count
by_one : (t : Bool) (n : ℕ) → one t + n ≡ cond t (1 + n) n
by_one true n = refl
by_one false n = omega arith

pub times_counted : (b : ℕ) (l : List ℕ) → count_by (λ x. x == b) l ≡ times b l
times_counted b l = sym (is_count_by (times b) (λ x. x == b) refl (λ x xs. by_one (x == b) (times b xs)) l)

times_few : (b : ℕ) (l : List ℕ) → times b l ≤ length l
times_few b l = rw (← times_counted b l) (count_by-le-length (λ x. x == b) l)

-- two tests that pass alike
tests_same : (a b c d : ℕ) → (a ≤ b → c ≤ d) → (b < a → d < c) → leb a b ≡ leb c d
tests_same a b c d up over = go (leb a b) refl
  where
    go : (t : Bool) → leb a b ≡ t → t ≡ leb c d
    go true e = sym (le-leb c d (up (leb-true a b e)))
    go false e = sym (lt-leb c d (over (leb-false a b e)))

-- a count that gains and then loses, by the room above it; it gains no more than the list has
module _ (counts gs ls : List ℕ) (b places room : ℕ) (e : places ≡ get_or counts (place_of b) 0) (r : room ≡ most_count - places) (low : places ≤ most_count) where
  pub gain_few : length gs ≤ room → leb (length gs) room ≡ gain_fits counts gs ls b
  unfolding gain_fits
  gain_few h = rw (← e) (tests_same (length gs) room ((places + times b gs) - times b ls) most_count (λ q. omega (arith, times_few b gs)) (λ q. omega arith))

  pub gain_test : leb (times b gs) (room + times b ls) ≡ gain_fits counts gs ls b
  unfolding gain_fits
  gain_test = rw (← e) (tests_same (times b gs) (room + times b ls) ((places + times b gs) - times b ls) most_count (λ q. omega arith) (λ q. omega arith))
