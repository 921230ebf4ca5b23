-- Laws of held_map for loops and answers that src/ no longer has. Assumes nothing.
use mathlib.Core.Bool.{◌&&◌, not}
use mathlib.Core.Path.{◌≡◌, refl, ap, sym, ◌∙◌}
use mathlib.Core.List.{List, [], ◌∷◌, ◌++◌}
use Prim.Native.Nat.{ℕ, zero, suc, ◌+◌, ◌-◌, ◌/◌, ◌%◌, ◌^◌, ◌≤◌, ◌<◌}
use native.Mathlib.Omega.{arith}
use native.Mathlib.Nat.{pow-suc, add-zero}
use lib.Count.{count_trailing_zeros, under}
use lib.ListN.{length, get_or, set, length-set}
use Rattle.held_map.specs.Bits.{bit, Less}
use Rattle.held_map.specs.Map.{held_in, gone}
use Rattle.held_map.specs.Lists.{bits_of, four_of, inserted}
use Rattle.held_map.proofs.Bits.{bit_zero, bit_suc, sub_le}
use Rattle.held_map.proofs.Lists.{bits_none, four_length, units_sift, less_told, inserted_two}

-- the lowest set bit goes first, and the others are those of the word without it
pub record Lowest (n b w t : ℕ) : Type 0 where
  pub within : t < n
  pub set_there : bit w t ≡ 1
  pub front : bits_of n b w ≡ (b + t) ∷ bits_of n b (w - 2 ^ t)

pub lowest : (n b w : ℕ) → 0 < w → w < 2 ^ n → Lowest n b w (count_trailing_zeros n w)
unfolding bits_of count_trailing_zeros
lowest zero b w p h = absurd (omega arith)
lowest (suc n) b w p h = go (w % 2) refl (λ x y. lowest n (suc b) (w / 2) x y)
  where
    go : (r : ℕ) → w % 2 ≡ r → (0 < w / 2 → w / 2 < 2 ^ n → Lowest n (suc b) (w / 2) (count_trailing_zeros n (w / 2)))
        → Lowest (suc n) b w (under (w % 2) (count_trailing_zeros n (w / 2)))
    go zero e ih =
        let q = ih (omega arith) (omega (arith, pow-suc 2 n)) in
        let t = count_trailing_zeros n (w / 2) in
        let s : bit w (suc t) ≡ 1 = bit_suc w t ∙ q.set_there in
        let l = sub_le (suc t) w s in
        let f : (w - 2 ^ suc t) % 2 ≡ 0 = omega (arith, pow-suc 2 t) in
        let g : (w - 2 ^ suc t) / 2 ≡ w / 2 - 2 ^ t = omega (arith, pow-suc 2 t) in
        let k : suc b + t ≡ b + suc t = omega arith in
        rw e (record { within = omega (arith, q.within); set_there = s; front = rw (e, f, g, ← k) q.front })
    go (suc r) e ih =
        let o : w % 2 ≡ 1 = omega arith in
        let f : (w - 1) % 2 ≡ 0 = omega arith in
        let g : (w - 1) / 2 ≡ w / 2 = omega arith in
        rw o (record { within = omega arith; set_there = bit_zero w ∙ o; front = rw (o, f, g, add-zero) refl })

-- the words of a map less those of another
pub gone_four : (a b : List ℕ) (d0 d1 d2 d3 : ℕ) → Less (get_or a 0 0) (get_or b 0 0) d0 → Less (get_or a 1 0) (get_or b 1 0) d1
    → Less (get_or a 2 0) (get_or b 2 0) d2 → Less (get_or a 3 0) (get_or b 3 0) d3
    → four_of ((d0 - d0 % 2) ∷ d1 ∷ d2 ∷ d3 ∷ []) ≡ gone a b
unfolding gone
gone_four a b d0 d1 d2 d3 l0 l1 l2 l3 =
    units_sift (λ u. held_in a u && not (held_in b u)) ((d0 - d0 % 2) ∷ d1 ∷ d2 ∷ d3 ∷ [])
    (less_told a b 1 d1 l1) (less_told a b 2 d2 l2) (less_told a b 3 d3 l3) d0 refl (less_told a b 0 d0 l0)

-- ---- a list stored

pub inserted_length : (r d : List ℕ) (at : ℕ) → length (inserted d at r) ≡ length d
unfolding inserted
inserted_length [] d at = refl
inserted_length (x ∷ r) d at = inserted_length r (set d at x) (at + 1) ∙ length-set d at x

-- ---- the loop over a word's bits: what is left to do, done from here, gives what was asked

pub record WordLoop (base : ℕ) (d : List ℕ) (at word : ℕ) (out : List ℕ) (n w : ℕ) : Type 0 where
  pub low : base ≤ 192
  pub small : w < 2 ^ 64
  pub room : n + length (bits_of 64 base w) ≤ length d
  pub long : length out ≡ length d
  pub same_list : inserted out n (bits_of 64 base w) ≡ inserted d at (bits_of 64 base word)
  pub same_next : n + length (bits_of 64 base w) ≡ at + length (bits_of 64 base word)

pub word_start : {base : ℕ} {d : List ℕ} {at word : ℕ} → base ≤ 192 → at + length (bits_of 64 base word) ≤ length d → word < 2 ^ 64
    → WordLoop base d at word d at word
word_start b h s = record { low = b; small = s; room = h; long = refl; same_list = refl; same_next = refl }

pub record WordTurn (base : ℕ) (d : List ℕ) (at word : ℕ) (out : List ℕ) (n w k : ℕ) : Type 0 where
  pub below : k < 64
  pub place : n < length out
  pub sub : 2 ^ k ≤ w
  pub again : WordLoop base d at word (set out n (base + k)) (n + 1) (w - 2 ^ k)

pub word_turn : {base : ℕ} {d : List ℕ} {at word : ℕ} {out : List ℕ} {n w k : ℕ} → WordLoop base d at word out n w → (w ≡ 0 → ⊥)
    → k ≡ count_trailing_zeros 64 w → WordTurn base d at word out n w k
unfolding inserted
word_turn {base} {d} {at} {word} {out} {n} {w} {k} i z ek =
    let q : Lowest 64 base w k = rw ek (lowest 64 base w (omega arith) i.small) in
    let r = bits_of 64 base (w - 2 ^ k) in
    let f : bits_of 64 base w ≡ (base + k) ∷ r = q.front in
    let fl : length (bits_of 64 base w) ≡ suc (length r) = ap length f in
    let a : WordLoop base d at word (set out n (base + k)) (n + 1) (w - 2 ^ k) = record {
      low = i.low;
      small = omega (arith, i.small);
      room = omega (arith, i.room);
      long = length-set out n (base + k) ∙ i.long;
      same_list = sym (ap (λ (x : List ℕ). inserted out n x) f) ∙ i.same_list;
      same_next = omega (arith, i.same_next);
    } in
    record { below = q.within; place = omega (arith, i.room, i.long); sub = sub_le k w q.set_there; again = a }

pub word_end : {base : ℕ} {d : List ℕ} {at word : ℕ} {out : List ℕ} {n w : ℕ} → WordLoop base d at word out n w → w ≡ 0
    → (out ≡ inserted d at (bits_of 64 base word)) × (n ≡ at + length (bits_of 64 base word))
unfolding inserted
word_end {base} {d} {at} {word} {out} {n} {w} i e =
    let b : bits_of 64 base w ≡ [] = rw e (bits_none 64 base) in
    (sym (ap (λ (x : List ℕ). inserted out n x) b) ∙ i.same_list, omega (arith, i.same_next, ap length b))

-- ---- four words one after another, and the outcome of the whole

behind : (w r o o1 : List ℕ) (at a : ℕ) → o1 ≡ inserted o at w → a ≡ at + length w → inserted o1 a r ≡ inserted o at (w ++ r)
behind w r o o1 at a e f = rw (e, f) (inserted_two w r o at)

pub four_in : (o d : List ℕ) {o1 o2 o3 o4 : List ℕ} {a b c e : ℕ}
    → o1 ≡ inserted o 0 (bits_of 64 0 (get_or d 0 0)) → a ≡ 0 + length (bits_of 64 0 (get_or d 0 0))
    → o2 ≡ inserted o1 a (bits_of 64 64 (get_or d 1 0)) → b ≡ a + length (bits_of 64 64 (get_or d 1 0))
    → o3 ≡ inserted o2 b (bits_of 64 128 (get_or d 2 0)) → c ≡ b + length (bits_of 64 128 (get_or d 2 0))
    → o4 ≡ inserted o3 c (bits_of 64 192 (get_or d 3 0)) → e ≡ c + length (bits_of 64 192 (get_or d 3 0))
    → (o4 ≡ inserted o 0 (four_of d)) × (e ≡ length (four_of d))
unfolding four_of
four_in o d {o1} {o2} {o3} {o4} {a} {b} {c} p1 q1 p2 q2 p3 q3 p4 q4 =
    let w0 = bits_of 64 0 (get_or d 0 0) in
    let w1 = bits_of 64 64 (get_or d 1 0) in
    let w2 = bits_of 64 128 (get_or d 2 0) in
    let w3 = bits_of 64 192 (get_or d 3 0) in (
      p4 ∙ behind w2 w3 o2 o3 b c p3 q3 ∙ behind w1 (w2 ++ w3) o1 o2 a b p2 q2 ∙ behind w0 (w1 ++ (w2 ++ w3)) o o1 0 a p1 q1,
      omega (arith, four_length d),
    )
