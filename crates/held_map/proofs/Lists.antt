-- The set bits of words, listed lowest first, are the units that a test picks; and the laws of storing a list. Assumes nothing.
use mathlib.Core.Bool.{Bool, true, false, ◌&&◌, not, cond}
use mathlib.Core.Path.{◌≡◌, refl, ap, ap₂, sym, ◌∙◌}
use mathlib.Core.List.{List, [], ◌∷◌, ◌++◌}
use Prim.Native.Nat.{ℕ, zero, suc, ◌+◌, ◌-◌, ◌*◌, ◌/◌, ◌%◌, ◌^◌, ◌≤◌, ◌<◌}
use native.Mathlib.Omega.{arith}
use native.Mathlib.Numerals.{add-one}
use native.Mathlib.Nat.{pow-suc, add-zero}
use lib.Bits.{bit_and, and_step, and_self}
use lib.Count.{count_trailing_zeros, under}
use lib.Dec.{eqb}
use lib.ListN.{length, get_or, set, drop, length-append}
use lib.Seq.{set-append_seam, append_snoc}
use Rattle.rules.specs.Tables.{sift, range}
use Rattle.rules.specs.Store.{units}
use Rattle.held_map.specs.Bits.{is_set, Less}
use Rattle.held_map.specs.Map.{held_in, gone}
use Rattle.held_map.specs.Lists.{with_low, bits_of, four_of, inserted}
use Rattle.held_map.proofs.Bits.{bit_zero, bit_suc}
use Rattle.held_map.proofs.Map.{held_word}

-- ---- ranges, sifted

pub sift_le : (f : ℕ → Bool) (n b : ℕ) → length (sift f (range n b)) ≤ n
sift_le f zero b = omega arith
sift_le f (suc n) b = go (f b) (sift f (range n (suc b))) (sift_le f n (suc b))
  where
    go : (y : Bool) (l : List ℕ) → length l ≤ n → length (cond y (b ∷ l) l) ≤ suc n
    go true l h = omega arith
    go false l h = omega arith

pick_append : (y : Bool) (b : ℕ) (l r : List ℕ) → cond y (b ∷ l) l ++ r ≡ cond y (b ∷ (l ++ r)) (l ++ r)
pick_append true b l r = refl
pick_append false b l r = refl

pub sift_range : (f : ℕ → Bool) (n m b : ℕ) → sift f (range n b) ++ sift f (range m (b + n)) ≡ sift f (range (n + m) b)
sift_range f zero m b =
    let p : b + 0 ≡ b = omega arith in
    let q : 0 + m ≡ m = omega arith in
    ap₂ (λ (x y : ℕ). sift f (range y x)) p (sym q)
sift_range f (suc n) m b =
    let p : b + suc n ≡ suc b + n = omega arith in
    let q : suc n + m ≡ suc (n + m) = omega arith in
    rw (p, q) (pick_append (f b) b (sift f (range n (suc b))) (sift f (range m (suc b + n))) ∙ ap (λ (l : List ℕ). cond (f b) (b ∷ l) l) (sift_range f n m (suc b)))

-- ---- the bits of a word

pub bits_none : (n b : ℕ) → bits_of n b 0 ≡ []
unfolding bits_of
bits_none zero b = refl
bits_none (suc n) b = bits_none n (suc b)

-- the lowest set bit goes first, and `w & (w - 1)` has the others
pub lowest : (n b w : ℕ) → 0 < w → w < 2 ^ n → bits_of n b w ≡ (b + count_trailing_zeros n w) ∷ bits_of n b (bit_and w (w - 1))
unfolding bits_of count_trailing_zeros
lowest zero b w p h = absurd (omega arith)
lowest (suc n) b w p h = go (w % 2) refl (λ x y. lowest n (suc b) (w / 2) x y)
  where
    go : (r : ℕ) → w % 2 ≡ r
        → (0 < w / 2 → w / 2 < 2 ^ n → bits_of n (suc b) (w / 2) ≡ (suc b + count_trailing_zeros n (w / 2)) ∷ bits_of n (suc b) (bit_and (w / 2) (w / 2 - 1)))
        → with_low (w % 2) b (bits_of n (suc b) (w / 2))
        ≡ (b + under (w % 2) (count_trailing_zeros n (w / 2))) ∷ with_low (bit_and w (w - 1) % 2) b (bits_of n (suc b) (bit_and w (w - 1) / 2))
    go zero e ih =
        let h' : (w - 1) / 2 ≡ w / 2 - 1 = omega arith in
        let s : bit_and w (w - 1) ≡ bit_and (w / 2) (w / 2 - 1) * 2 = omega (arith, and_step w (w - 1), ap (bit_and (w / 2)) h') in
        let f : bit_and w (w - 1) % 2 ≡ 0 = omega (arith, s) in
        let g : bit_and w (w - 1) / 2 ≡ bit_and (w / 2) (w / 2 - 1) = omega (arith, s) in
        let k : suc b + count_trailing_zeros n (w / 2) ≡ b + suc (count_trailing_zeros n (w / 2)) = omega arith in
        rw (e, f, g, ← k) (ih (omega arith) (omega (arith, pow-suc 2 n)))
    go (suc r) e ih =
        let o : w % 2 ≡ 1 = omega arith in
        let h' : (w - 1) / 2 ≡ w / 2 = omega arith in
        let s : bit_and w (w - 1) ≡ w / 2 * 2 = omega (arith, and_step w (w - 1), ap (bit_and (w / 2)) h' ∙ and_self (w / 2)) in
        let f : bit_and w (w - 1) % 2 ≡ 0 = omega (arith, s) in
        let g : bit_and w (w - 1) / 2 ≡ w / 2 = omega (arith, s) in
        rw (o, f, g, add-zero) refl

-- bit i of w is what g says of b + i
abbrev pub Told : (ℕ → Bool) → ℕ → ℕ → ℕ → Type 0
Told g n b w = (i : ℕ) → i < n → g (b + i) ≡ is_set w i

pub bits_sift : (n b w : ℕ) (g : ℕ → Bool) → Told g n b w → bits_of n b w ≡ sift g (range n b)
unfolding bits_of
bits_sift zero b w g h = refl
bits_sift (suc n) b w g h =
    let front : g b ≡ eqb (w % 2) 1 = ap g (sym (add-zero b)) ∙ h 0 (omega arith) ∙ ap (λ (x : ℕ). eqb x 1) (bit_zero w) in
    pick (w % 2) (g b) (bits_of n (suc b) (w / 2)) (omega arith) front
    ∙ ap (λ (l : List ℕ). cond (g b) (b ∷ l) l) (bits_sift n (suc b) (w / 2) g (λ i p. up i (h (suc i) (omega arith))))
  where
    pick : (d : ℕ) (y : Bool) (l : List ℕ) → d < 2 → y ≡ eqb d 1 → with_low d b l ≡ cond y (b ∷ l) l
    pick zero y l h e = rw e refl
    pick (suc zero) y l h e = rw e refl
    pick (suc (suc d)) y l h e = absurd (omega arith)

    up : (i : ℕ) → g (b + suc i) ≡ is_set w (suc i) → g (suc b + i) ≡ is_set (w / 2) i
    up i e =
        let p : suc b + i ≡ b + suc i = omega arith in
        ap g p ∙ e ∙ ap (λ (x : ℕ). eqb x 1) (bit_suc w i)

-- without bit 0
bits_above : (n b w : ℕ) → bits_of (suc n) b (w - w % 2) ≡ bits_of n (suc b) (w / 2)
unfolding bits_of
bits_above n b w =
    let p : (w - w % 2) % 2 ≡ 0 = omega arith in
    let q : (w - w % 2) / 2 ≡ w / 2 = omega arith in
    rw (p, q) refl

-- ---- the bits of four words

pub four_length : (d : List ℕ)
    → length (four_of d)
    ≡ length (bits_of 64 0 (get_or d 0 0)) + (length (bits_of 64 64 (get_or d 1 0)) + (length (bits_of 64 128 (get_or d 2 0)) + length (bits_of 64 192 (get_or d 3 0))))
unfolding four_of
four_length d = simp length-append

module _ (g : ℕ → Bool) (d : List ℕ) (t1 : Told g 64 64 (get_or d 1 0)) (t2 : Told g 64 128 (get_or d 2 0)) (t3 : Told g 64 192 (get_or d 3 0)) where
  upper : bits_of 64 64 (get_or d 1 0) ++ (bits_of 64 128 (get_or d 2 0) ++ bits_of 64 192 (get_or d 3 0)) ≡ sift g (range 192 64)
  upper =
      rw (bits_sift 64 64 (get_or d 1 0) g t1, bits_sift 64 128 (get_or d 2 0) g t2, bits_sift 64 192 (get_or d 3 0) g t3)
      (ap (λ (l : List ℕ). sift g (range 64 64) ++ l) (sift_range g 64 64 128) ∙ sift_range g 64 128 64)

  pub four_sift : Told g 64 0 (get_or d 0 0) → four_of d ≡ sift g (range 256 0)
  unfolding four_of
  four_sift t0 = ap₂ (λ (x y : List ℕ). x ++ y) (bits_sift 64 0 (get_or d 0 0) g t0) upper ∙ sift_range g 64 192 0

  -- where the first word is w without bit 0
  pub units_sift : (w : ℕ) → get_or d 0 0 ≡ w - w % 2 → Told g 64 0 w → four_of d ≡ sift g units
  unfolding four_of units
  units_sift w e t0 =
      ap₂ (λ (x y : List ℕ). x ++ y) (ap (bits_of 64 0) e ∙ bits_above 63 0 w ∙ bits_sift 63 1 (w / 2) g told) upper ∙ sift_range g 63 192 1
    where
      told : Told g 63 1 (w / 2)
      told i h =
          let p : 1 + i ≡ 0 + suc i = omega arith in
          ap g p ∙ t0 (suc i) (omega arith) ∙ ap (λ (x : ℕ). eqb x 1) (bit_suc w i)

-- the words of a map less those of another
pub less_told : (a b : List ℕ) (q r : ℕ) → Less (get_or a q 0) (get_or b q 0) r → Told (λ u. held_in a u && not (held_in b u)) 64 (q * 64) r
less_told a b q r l i h = ap₂ (λ (x y : Bool). x && not y) (held_word a q i h) (held_word b q i h) ∙ sym (l.bits i h)

-- the words of the one map without those of the other
abbrev pub AllLess : List ℕ → List ℕ → List ℕ → Type 0
AllLess a b d = (i : ℕ) → i < 4 → Less (get_or a i 0) (get_or b i 0) (get_or d i 0)

pub gone_four : (a b d : List ℕ) → length d ≡ 4 → AllLess a b d → four_of (set d 0 (get_or d 0 0 - get_or d 0 0 % 2)) ≡ gone a b
unfolding gone
gone_four a b [] e l = absurd (omega arith)
gone_four a b (w ∷ ws) e l =
    units_sift (λ u. held_in a u && not (held_in b u)) ((w - w % 2) ∷ ws)
    (less_told a b 1 _ (l 1 (omega arith))) (less_told a b 2 _ (l 2 (omega arith))) (less_told a b 3 _ (l 3 (omega arith))) w refl
    (less_told a b 0 w (l 0 (omega arith)))

pub gone_le : (a b : List ℕ) → length (gone a b) ≤ 255
unfolding gone units
gone_le a b = sift_le (λ u. held_in a u && not (held_in b u)) 255 1

-- ---- a list stored

-- one list after another
pub inserted_two : (a b d : List ℕ) (at : ℕ) → inserted (inserted d at a) (at + length a) b ≡ inserted d at (a ++ b)
unfolding inserted
inserted_two [] b d at = ap (λ (x : ℕ). inserted d x b) (add-zero at)
inserted_two (x ∷ a) b d at =
    let p : at + suc (length a) ≡ at + 1 + length a = omega arith in
    ap (λ (y : ℕ). inserted (inserted (set d at x) (at + 1) a) y b) p ∙ inserted_two a b (set d at x) (at + 1)

-- at the front
inserted_behind : (l p d : List ℕ) → length l ≤ length d → inserted (p ++ d) (length p) l ≡ p ++ (l ++ drop (length l) d)
unfolding inserted
inserted_behind [] p d h = refl
inserted_behind (x ∷ l) p [] h = absurd (omega arith)
inserted_behind (x ∷ l) p (y ∷ d) h =
    let e : set (p ++ y ∷ d) (length p) x ≡ (p ++ (x ∷ [])) ++ d = set-append_seam p y d x ∙ sym (append_snoc p x d) in
    let n : length p + 1 ≡ length (p ++ (x ∷ [])) = sym (length-append p (x ∷ [])) in
    ap₂ (λ (s : List ℕ) (k : ℕ). inserted s k l) e n ∙ inserted_behind l (p ++ (x ∷ [])) d (omega arith) ∙ append_snoc p x (l ++ drop (length l) d)

pub inserted_front : (l d : List ℕ) → length l ≤ length d → inserted d 0 l ≡ l ++ drop (length l) d
inserted_front l d h = inserted_behind l [] d h

-- ---- a list stored one by one: what is left of it, stored from here, gives what was asked

pub record ListLoop (d : List ℕ) (at : ℕ) (all out : List ℕ) (n : ℕ) (rest : List ℕ) : Type 0 where
  pub room : n + length rest ≤ length out
  pub list : inserted out n rest ≡ inserted d at all
  pub next : n + length rest ≡ at + length all

-- ---- four words one after another, and the outcome of the whole

-- the place behind what the first words list, and the list with that stored
abbrev pub placed : List ℕ → ℕ → ℕ
placed d zero = 0
placed d (suc i) = placed d i + length (bits_of 64 (i * 64) (get_or d i 0))

abbrev pub stored : List ℕ → List ℕ → ℕ → List ℕ
stored o d zero = o
stored o d (suc i) = inserted (stored o d i) (placed d i) (bits_of 64 (i * 64) (get_or d i 0))

pub record FourLoop (o d out : List ℕ) (n i : ℕ) : Type 0 where
  pub list : out ≡ stored o d i
  pub next : n ≡ placed d i

pub four_turn : {o d out out' : List ℕ} {n n' i : ℕ} → FourLoop o d out n i → out' ≡ inserted out n (bits_of 64 (i * 64) (get_or d i 0))
    → n' ≡ n + length (bits_of 64 (i * 64) (get_or d i 0)) → FourLoop o d out' n' (i + 1)
four_turn l p q = record { list = rw (add-one, p, l.list, l.next) refl; next = rw (add-one, q, l.next) refl }

-- there is room for each
pub four_room : (d : List ℕ) (i : ℕ) → i < 4 → placed d i + length (bits_of 64 (i * 64) (get_or d i 0)) ≤ length (four_of d)
four_room d zero h = omega (arith, four_length d)
four_room d (suc zero) h = omega (arith, four_length d)
four_room d (suc (suc zero)) h = omega (arith, four_length d)
four_room d (suc (suc (suc zero))) h = omega (arith, four_length d)
four_room d (suc (suc (suc (suc i)))) h = absurd (omega arith)

pub four_end : {o d out : List ℕ} {n i : ℕ} → FourLoop o d out n i → i ≡ 4 → (out ≡ inserted o 0 (four_of d)) × (n ≡ length (four_of d))
unfolding four_of
four_end {o} {d} l e =
    let w0 = bits_of 64 0 (get_or d 0 0) in
    let w1 = bits_of 64 64 (get_or d 1 0) in
    let w2 = bits_of 64 128 (get_or d 2 0) in
    let w3 = bits_of 64 192 (get_or d 3 0) in (
      l.list ∙ ap (stored o d) e
          ∙ inserted_two w2 w3 (stored o d 2) (placed d 2)
          ∙ inserted_two w1 (w2 ++ w3) (stored o d 1) (placed d 1)
          ∙ inserted_two w0 (w1 ++ (w2 ++ w3)) o 0,
      l.next ∙ ap (placed d) e ∙ omega (arith, four_length d),
    )

pub gone_out : (o : List ℕ) {l g o' : List ℕ} {n : ℕ} → l ≡ g → length g ≤ length o → o' ≡ inserted o 0 l → n ≡ length l
    → (o' ≡ g ++ drop (length g) o) × (n ≡ length g)
gone_out o {l} {g} e h p q = (p ∙ ap (inserted o 0) e ∙ inserted_front g o h, q ∙ ap length e)
