-- Laws of the map: what is held after a unit is marked or cleared, and that the map is what it holds. Assumes nothing.
use mathlib.Core.Bool.{Bool, true, false, ◌||◌, ◌&&◌, not}
use mathlib.Core.Logic.{◌⊎◌, inl, inr}
use mathlib.Core.Path.{◌≡◌, refl, ap, sym, ◌∙◌}
use mathlib.Core.List.{List, [], ◌∷◌}
use Prim.Native.Nat.{ℕ, zero, suc, ◌+◌, ◌*◌, ◌/◌, ◌%◌, ◌^◌, ◌<◌}
use native.Mathlib.Omega.{arith}
use borrow.Author.Tests.{eq-eqb, ne_eqb}
use lib.Dec.{eqb}
use lib.ListN.{length, get_or, set, length-set}
use lib.Seq.{get_or-set_same, get_or-set_other, set-get_or, ext_get_or}
use Rattle.ways.specs.Ways.{has}
use Rattle.held_map.specs.Bits.{bit, is_set, with_bit, without_bit}
use Rattle.held_map.specs.Map.{Words, empty_map, held_in, mark, clear, clears, Bytes}
use Rattle.held_map.proofs.Bits.{bit_zero, bit_suc, with_set, without_set, with_fits, without_fits, word_ext}
use Rattle.ways.proofs.Tests.{same_or}

-- ---- four words stay four words

pub mark_length : (m : List ℕ) (u : ℕ) → length (mark m u) ≡ length m
unfolding mark
mark_length m u = length-set m _ _

pub clear_length : (m : List ℕ) (u : ℕ) → length (clear m u) ≡ length m
unfolding clear
clear_length m u = length-set m _ _

set_fits : (m : List ℕ) (i w : ℕ) → ((j : ℕ) → get_or m j 0 < 2 ^ 64) → w < 2 ^ 64 → (j : ℕ) → get_or (set m i w) j 0 < 2 ^ 64
set_fits [] i w h l j = h j
set_fits (x ∷ xs) zero w h l zero = l
set_fits (x ∷ xs) zero w h l (suc j) = h (suc j)
set_fits (x ∷ xs) (suc i) w h l zero = h 0
set_fits (x ∷ xs) (suc i) w h l (suc j) = set_fits xs i w (λ k. h (suc k)) l j

pub mark_words : (m : List ℕ) (u : ℕ) → Words m → Words (mark m u)
unfolding mark
mark_words m u ws =
    record {
      long = length-set m _ _ ∙ ws.long;
      fits = set_fits m (u / 64) _ ws.fits (with_fits 64 (u % 64) (get_or m (u / 64) 0) (ws.fits (u / 64)) (omega arith));
    }

pub clear_words : (m : List ℕ) (u : ℕ) → Words m → Words (clear m u)
unfolding clear
clear_words m u ws =
    record {
      long = length-set m _ _ ∙ ws.long;
      fits = set_fits m (u / 64) _ ws.fits (without_fits 64 (u % 64) (get_or m (u / 64) 0) (ws.fits (u / 64)));
    }

pub clears_words : (us m : List ℕ) → Words m → Words (clears m us)
clears_words [] m ws = ws
clears_words (u ∷ us) m ws = clears_words us (clear m u) (clear_words m u ws)

-- ---- what is held after

-- a change f of u's word that changes the bits by g, and no bit but u's
change_held : (f : ℕ → ℕ → ℕ) (g : Bool → Bool → Bool) → ((w k j : ℕ) → is_set (f w k) j ≡ g (eqb k j) (is_set w j)) → ((b : Bool) → g false b ≡ b)
    → (m : List ℕ) (u v : ℕ) → length m ≡ 4 → u < 256
    → held_in (set m (u / 64) (f (get_or m (u / 64) 0) (u % 64))) v ≡ g (eqb u v) (held_in m v)
unfolding held_in
change_held f g fg keep m u v four hu = go (same_or (u / 64) (v / 64))
  where
    same : u / 64 ≡ v / 64 → (u % 64 ≡ v % 64) ⊎ (u % 64 ≡ v % 64 → ⊥) → eqb (u % 64) (v % 64) ≡ eqb u v
    same p (inl e) = eq-eqb _ _ e ∙ sym (eq-eqb u v (omega arith))
    same p (inr n) = ne_eqb _ _ n ∙ sym (ne_eqb u v (λ e. n (ap (λ (x : ℕ). x % 64) e)))

    go : (u / 64 ≡ v / 64) ⊎ (u / 64 ≡ v / 64 → ⊥)
        → is_set (get_or (set m (u / 64) (f (get_or m (u / 64) 0) (u % 64))) (v / 64) 0) (v % 64) ≡ g (eqb u v) (is_set (get_or m (v / 64) 0) (v % 64))
    go (inl p) =
        rw (← p, get_or-set_same m (u / 64) (f (get_or m (u / 64) 0) (u % 64)) 0 (omega arith))
        (fg (get_or m (u / 64) 0) (u % 64) (v % 64) ∙ ap (λ (b : Bool). g b (is_set (get_or m (u / 64) 0) (v % 64))) (same p (same_or (u % 64) (v % 64))))
    go (inr n) =
        rw (get_or-set_other m (u / 64) (v / 64) (f (get_or m (u / 64) 0) (u % 64)) 0 (λ p. n (sym p)), ne_eqb u v (λ e. n (ap (λ (x : ℕ). x / 64) e)))
        (sym (keep (is_set (get_or m (v / 64) 0) (v % 64))))

pub held_mark : (m : List ℕ) (u v : ℕ) → length m ≡ 4 → u < 256 → held_in (mark m u) v ≡ (eqb u v || held_in m v)
unfolding mark
held_mark m u v four hu = change_held with_bit (λ e b. e || b) with_set (λ b. refl) m u v four hu

and_true : (b : Bool) → (b && true) ≡ b
and_true true = refl
and_true false = refl

pub held_clear : (m : List ℕ) (u v : ℕ) → length m ≡ 4 → u < 256 → held_in (clear m u) v ≡ (held_in m v && not (eqb u v))
unfolding clear
held_clear m u v four hu = change_held without_bit (λ e b. b && not e) without_set and_true m u v four hu

pub held_clears : (us m : List ℕ) (v : ℕ) → length m ≡ 4 → Bytes us → held_in (clears m us) v ≡ (held_in m v && not (has v us))
held_clears [] m v four hs = sym (and_true (held_in m v))
held_clears (u ∷ us) m v four hs =
    held_clears us (clear m u) v (clear_length m u ∙ four) hs.1
    ∙ ap (λ (b : Bool). b && not (has v us)) (held_clear m u v four hs.0)
    ∙ tidy (held_in m v) (eqb u v) (has v us)
  where
    tidy : (a b c : Bool) → ((a && not b) && not c) ≡ (a && not (b || c))
    tidy true true c = refl
    tidy true false c = refl
    tidy false b c = refl

-- what is so already changes nothing
pub mark_held : (m : List ℕ) (u : ℕ) → held_in m u ≡ true → mark m u ≡ m
unfolding held_in mark with_bit
mark_held m u e = rw e (set-get_or m (u / 64) 0)

pub clear_free : (m : List ℕ) (u : ℕ) → held_in m u ≡ false → clear m u ≡ m
unfolding held_in clear without_bit
clear_free m u e = rw e (set-get_or m (u / 64) 0)

-- ---- the map is what it holds

-- bit i of word q
pub held_word : (m : List ℕ) (q i : ℕ) → i < 64 → held_in m (q * 64 + i) ≡ is_set (get_or m q 0) i
unfolding held_in
held_word m q i h =
    let a : (q * 64 + i) / 64 ≡ q = omega arith in
    let b : (q * 64 + i) % 64 ≡ i = omega arith in
    rw (a, b) refl

pub map_ext : (m m' : List ℕ) → Words m → Words m' → ((u : ℕ) → u < 256 → held_in m u ≡ held_in m' u) → m ≡ m'
map_ext m m' ws ws' e =
    ext_get_or 0 m m' (ws.long ∙ sym ws'.long)
    (λ i h. word_ext 64 (get_or m i 0) (get_or m' i 0) (ws.fits i) (ws'.fits i)
    (λ k l. sym (held_word m i k l) ∙ e (i * 64 + k) (omega (arith, ws.long)) ∙ held_word m' i k l))

-- ---- the empty map

empty_at : (i : ℕ) → get_or empty_map i 0 ≡ 0
empty_at zero = refl
empty_at (suc zero) = refl
empty_at (suc (suc zero)) = refl
empty_at (suc (suc (suc zero))) = refl
empty_at (suc (suc (suc (suc i)))) = refl

bit_of_zero : (k : ℕ) → bit 0 k ≡ 0
bit_of_zero zero = bit_zero 0
bit_of_zero (suc k) = bit_suc 0 k ∙ bit_of_zero k

pub empty_words : Words empty_map
empty_words = record { long = refl; fits = λ i. omega (arith, empty_at i) }

pub empty_held : (u : ℕ) → held_in empty_map u ≡ false
unfolding held_in
empty_held u = rw (empty_at (u / 64), bit_of_zero (u % 64)) refl
