-- The lowest unit that is not held, by words and by trailing zeros. Assumes nothing.
use mathlib.Core.Bool.{Bool, true, false, ◌||◌, not, cond}
use mathlib.Core.Logic.{◌⊎◌, inl, inr, ⊎_elim}
use mathlib.Core.Path.{◌≡◌, refl, ap, sym, ◌∙◌}
use mathlib.Core.List.{List}
use Prim.Native.Nat.{ℕ, zero, suc, ◌+◌, ◌-◌, ◌*◌, ◌/◌, ◌%◌, ◌^◌, ◌≤◌, ◌<◌}
use native.Mathlib.Nat.{eq-or-lt_of_le}
use native.Mathlib.Omega.{arith}
use borrow.Author.Tests.{eq-eqb, ne_eqb, not-true, not-false}
use Rattle.std.specs.Int.{w64, trailing_ones}
use Rattle.std.specs.Int.Count.{trailing_of_zero}
use Rattle.std.proofs.lemmas.Nat.Bits.{bit_at_ones, bit_at-trailing_ones}
use lib.Bits.{bit_or}
use lib.ListN.{get_or}
use Rattle.rules.specs.Tables.{range}
use Rattle.rules.specs.Store.{units}
use Rattle.held_map.specs.Bits.{bit, is_set, LowestZero}
use Rattle.held_map.specs.Map.{held_in, first, lowest_free}
use Rattle.held_map.proofs.Bits.{or_set, set_bit}

-- ---- the first of a range that passes

-- u is the first, or 0 as there is none
pub record Found (f : ℕ → Bool) (n b u : ℕ) : Type 0 where
  pub from : b ≤ u
  pub upto : u < b + n
  pub passes : f u ≡ true
  pub before : (v : ℕ) → b ≤ v → v < u → f v ≡ false

abbrev pub Never : (ℕ → Bool) → ℕ → ℕ → Type 0
Never f n b = (v : ℕ) → b ≤ v → v < b + n → f v ≡ false

later : (f : ℕ → Bool) (n b v : ℕ) → f b ≡ false → (suc b ≤ v → f v ≡ false) → b ≤ v → f v ≡ false
later f n b v e h l = ⊎_elim (λ p. ap f (sym p) ∙ e) (λ p. h (omega arith)) (eq-or-lt_of_le l)

pub first_found : (f : ℕ → Bool) (n b u : ℕ) → Found f n b u → first f (range n b) ≡ u
first_found f zero b u h = absurd (omega (arith, h.from, h.upto))
first_found f (suc n) b u h = ⊎_elim
    (λ (p : b ≡ u). rw (ap f p ∙ h.passes) p)
    (λ (p : b < u). rw (h.before b (omega arith) p)
    (first_found f n (suc b) u (record { from = omega arith; upto = omega (arith, h.upto); passes = h.passes; before = λ v l k. h.before v (omega arith) k })))
    (eq-or-lt_of_le h.from)

pub first_never : (f : ℕ → Bool) (n b : ℕ) → Never f n b → first f (range n b) ≡ 0
first_never f zero b h = refl
first_never f (suc n) b h = rw (h b (omega arith) (omega arith)) (first_never f n (suc b) (λ v l k. h v (omega arith) (omega arith)))

pub first_is : (f : ℕ → Bool) (n b : ℕ) → ((first f (range n b) ≡ 0) × Never f n b) ⊎ Found f n b (first f (range n b))
first_is f zero b = inl (refl, λ v l k. absurd (omega arith))
first_is f (suc n) b = go (f b) refl (first_is f n (suc b))
  where
    go : (y : Bool) → f b ≡ y
        → ((first f (range n (suc b)) ≡ 0) × Never f n (suc b)) ⊎ Found f n (suc b) (first f (range n (suc b)))
        → ((cond y b (first f (range n (suc b))) ≡ 0) × Never f (suc n) b) ⊎ Found f (suc n) b (cond y b (first f (range n (suc b))))
    go true e q = inr (record { from = omega arith; upto = omega arith; passes = e; before = λ v l k. absurd (omega arith) })
    go false e (inl q) = inl (q.0, λ v l k. later f n b v e (λ p. q.1 v p (omega arith)) l)
    go false e (inr q) =
        inr (record {
          from = omega (arith, q.from);
          upto = omega (arith, q.upto);
          passes = q.passes;
          before = λ v l k. later f n b v e (λ p. q.before v p k) l;
        })

-- ---- the lowest unit that is not held

pub record Lowest (m : List ℕ) (u : ℕ) : Type 0 where
  pub from : 1 ≤ u
  pub upto : u ≤ 255
  pub free : held_in m u ≡ false
  pub below : (v : ℕ) → 1 ≤ v → v < u → held_in m v ≡ true

abbrev pub Full : List ℕ → Type 0
Full m = (v : ℕ) → 1 ≤ v → v ≤ 255 → held_in m v ≡ true

pub lowest_free_is : (m : List ℕ) → ((lowest_free m ≡ 0) × Full m) ⊎ Lowest m (lowest_free m)
unfolding lowest_free units
lowest_free_is m = go (first (λ u. not (held_in m u)) (range 255 1)) (first_is (λ u. not (held_in m u)) 255 1)
  where
    go : (r : ℕ) → ((r ≡ 0) × Never (λ u. not (held_in m u)) 255 1) ⊎ Found (λ u. not (held_in m u)) 255 1 r → ((r ≡ 0) × Full m) ⊎ Lowest m r
    go r (inl q) = inl (q.0, λ v l k. not-false (held_in m v) (q.1 v l (omega arith)))
    go r (inr q) =
        inr (record {
          from = q.from;
          upto = omega (arith, q.upto);
          free = not-true (held_in m r) q.passes;
          below = λ v l k. not-false (held_in m v) (q.before v l k);
        })

pub lowest_is : (m : List ℕ) (u : ℕ) → Lowest m u → lowest_free m ≡ u
unfolding lowest_free units
lowest_is m u h =
    first_found (λ v. not (held_in m v)) 255 1 u (record { from = h.from; upto = omega (arith, h.upto); passes = ap not h.free; before = λ v l k. ap not (h.below v l k) })

pub full_is : (m : List ℕ) → Full m → lowest_free m ≡ 0
unfolding lowest_free units
full_is m h = first_never (λ v. not (held_in m v)) 255 1 (λ v l k. ap not (h v l (omega arith)))

-- ---- the lowest bit of a word that is 0

pub lowest_zero : (w : ℕ) → w < 2 ^ 64 → LowestZero w (trailing_ones w64 w)
unfolding bit
lowest_zero w h = ⊎_elim all some (eq-or-lt_of_le h)
  where
    all : suc w ≡ 2 ^ 64 → LowestZero w (trailing_ones w64 w)
    all e =
        let z : 18446744073709551615 - w ≡ 0 = omega arith in
        let t : trailing_ones w64 w ≡ 64 = rw (z, trailing_of_zero) refl in
        let m : w ≡ 2 ^ 64 - 1 = omega arith in
        rw t (record { ones = λ j p. rw m (bit_at_ones 64 j p); free = λ p. absurd (omega arith); most = omega arith })

    some : suc w < 2 ^ 64 → LowestZero w (trailing_ones w64 w)
    some l =
        let t = bit_at-trailing_ones w64 w (omega arith) in
        record { ones = t.2; free = λ p. t.1; most = omega (arith, t.0) }

-- ---- over the four words

-- word q, with unit 0 as held
abbrev pub word_from1 : List ℕ → ℕ → ℕ
word_from1 m zero = bit_or (get_or m 0 0) 1
word_from1 m (suc q) = get_or m (suc q) 0

held_from_1 : (m : List ℕ) (u : ℕ) → 1 ≤ u → held_in m u ≡ is_set (word_from1 m (u / 64)) (u % 64)
unfolding held_in
held_from_1 m u h = go (u / 64) refl
  where
    go : (q : ℕ) → u / 64 ≡ q → is_set (get_or m q 0) (u % 64) ≡ is_set (word_from1 m q) (u % 64)
    go zero e = sym (or_set (get_or m 0 0) 0 (u % 64) ∙ ap (λ (b : Bool). b || is_set (get_or m 0 0) (u % 64)) (ne_eqb 0 (u % 64) (λ p. omega arith)))
    go (suc q) e = refl

-- the words below q are all ones
abbrev pub Ones : List ℕ → ℕ → Type 0
Ones m q = (i j : ℕ) → i < q → j < 64 → bit (word_from1 m i) j ≡ 1

-- as code reads it
pub first_word : (m : List ℕ) (q w : ℕ) → q ≡ 0 → w ≡ bit_or (get_or m q 0) 1 → w ≡ word_from1 m q
first_word m q w z e = rw z (e ∙ ap (λ (k : ℕ). bit_or (get_or m k 0) 1) z)

pub other_word : (m : List ℕ) (q w : ℕ) → (q ≡ 0 → ⊥) → w ≡ get_or m q 0 → w ≡ word_from1 m q
other_word m zero w d e = absurd (d refl)
other_word m (suc q) w d e = e

ones_held : (m : List ℕ) (q v : ℕ) → Ones m q → 1 ≤ v → v < q * 64 → held_in m v ≡ true
ones_held m q v o h l = held_from_1 m v h ∙ eq-eqb _ 1 (o (v / 64) (v % 64) (omega arith) (omega arith))

-- the lowest zero of the first word that has one
pub lowest_word : (m : List ℕ) (q : ℕ) {z : ℕ} → q < 4 → Ones m q → LowestZero (word_from1 m q) z → z < 64 → q * 64 + z ≡ lowest_free m
lowest_word m q {z} hq o f hz = sym (lowest_is m (q * 64 + z) (record { from = above q f; upto = omega arith; free = free; below = below }))
  where
    above : (q : ℕ) → LowestZero (word_from1 m q) z → 1 ≤ q * 64 + z
    above zero g = up z g.free
      where
        up : (y : ℕ) → (y < 64 → bit (bit_or (get_or m 0 0) 1) y ≡ 0) → 1 ≤ 0 * 64 + y
        up zero k = absurd (omega (arith, k (omega arith), set_bit (bit_or (get_or m 0 0) 1) 0 (or_set (get_or m 0 0) 0 0)))
        up (suc y) k = omega arith
    above (suc p) g = omega arith

    word : (q * 64 + z) / 64 ≡ q
    word = omega arith

    place : (q * 64 + z) % 64 ≡ z
    place = omega arith

    free : held_in m (q * 64 + z) ≡ false
    free = held_from_1 m (q * 64 + z) (above q f) ∙ rw (word, place, f.free hz) refl

    below : (v : ℕ) → 1 ≤ v → v < q * 64 + z → held_in m v ≡ true
    below v h l =
        ⊎_elim
        (λ (p : v / 64 ≡ q). held_from_1 m v h ∙ eq-eqb (bit (word_from1 m (v / 64)) (v % 64)) 1 (rw p (f.ones (v % 64) (omega arith))))
        (λ (p : v / 64 < q). ones_held m q v o h (omega arith))
        (eq-or-lt_of_le (omega arith))

pub all_words : (m : List ℕ) → Ones m 4 → 0 ≡ lowest_free m
all_words m o = sym (full_is m (λ v h l. ones_held m 4 v o h (omega arith)))
