-- A row is a run of bytes that stands at a place of a list. Pouring stores a row: it then stands there, and a row apart from it stands
-- as before. Every record of the lent arrays is read and stored through these. Assumes nothing.
use Rattle.std.specs.Prelude.{◌⊎◌, Bool, true, false, ◌≡◌, refl, List, [], ◌∷◌, ◌++◌, ℕ, zero, suc, ◌+◌, ◌-◌, ◌*◌, ◌≤◌, ◌<◌, ltb, length, get_or, set, take, drop, replicate}
use Rattle.std.proofs.Common.{inl, inr, ⊎_elim, ap, sym, ◌∙◌, eq-or-lt_of_le, mul-le-mul_right, suc-mul, add-one, arith, length-set, length-drop, get_or-set_same, get_or-set_other, take_all, append-nil, ltb-true, ltb-false}
use Rattle.std.proofs.Math.Seq.{paste}
use Rattle.std.proofs.lemmas.List.{take-append-le, drop-append-le}
use Rattle.std.proofs.lemmas.List.Edits.{paste_none, paste_more}
use Rattle.ways.proofs.Tests.{same_or}
use Rattle.units.specs.Limits.{room}
use Rattle.rules.specs.Tables.{slice}

-- the bytes ws stand from b on
abbrev pub Row : List ℕ → ℕ → List ℕ → Type 0
Row l b ws = (k : ℕ) → k < length ws → get_or l (b + k) 0 ≡ get_or ws k 0

-- each is a byte
pub record AllBytes (l : List ℕ) : Type 0 where
  pub small : (i : ℕ) → get_or l i 0 < 256

pub no_bytes : (l : List ℕ) → length l ≡ 0 → AllBytes l
no_bytes [] e = record { small = λ i. omega arith }
no_bytes (x ∷ xs) e = absurd (omega arith)

-- n places from b on and m places from c on do not meet
abbrev pub Apart : ℕ → ℕ → ℕ → ℕ → Type 0
Apart b n c m = (j k : ℕ) → j < n → k < m → b + j ≡ c + k → ⊥

-- eight places: the list, then zeros
abbrev pub eight : List ℕ → List ℕ
eight l = get_or l 0 0 ∷ get_or l 1 0 ∷ get_or l 2 0 ∷ get_or l 3 0 ∷ get_or l 4 0 ∷ get_or l 5 0 ∷ get_or l 6 0 ∷ get_or l 7 0 ∷ []

-- the eight bytes from `at` on, as code reads them
abbrev pub eight_at : List ℕ → ℕ → List ℕ
eight_at l at = get_or l at 0 ∷ get_or l (at + 1) 0 ∷ get_or l (at + 2) 0 ∷ get_or l (at + 3) 0 ∷ get_or l (at + 4) 0 ∷ get_or l (at + 5) 0 ∷ get_or l (at + 6) 0 ∷ get_or l (at + 7) 0 ∷ []

-- the first n of src stored from `at` on: what stands after n turns
unfoldable pub poured_to : List ℕ → ℕ → List ℕ → ℕ → List ℕ
poured_to l at src zero = l
poured_to l at src (suc n) = set (poured_to l at src n) (at + n) (get_or src n 0)

unfoldable pub poured : List ℕ → ℕ → List ℕ → List ℕ
poured l at src = poured_to l at src (length src)

-- ---- byte after byte

pub poured_start : (l : List ℕ) (at : ℕ) (src : List ℕ) → l ≡ poured_to l at src 0
unfolding poured_to
poured_start l at src = refl

pub poured_turn : (l : List ℕ) (at : ℕ) (src b : List ℕ) (n : ℕ) → b ≡ poured_to l at src n → set b (at + n) (get_or src n 0) ≡ poured_to l at src (n + 1)
unfolding poured_to
poured_turn l at src b n e = rw (e, add-one) refl

pub poured_end : (l : List ℕ) (at : ℕ) (src b : List ℕ) (n : ℕ) → n ≡ length src → b ≡ poured_to l at src n → b ≡ poured l at src
unfolding poured
poured_end l at src b n q e = rw (← q) e

-- ---- it is the library's paste

to_paste : (l : List ℕ) (at : ℕ) (src : List ℕ) (n : ℕ) → at + n ≤ length l → n ≤ length src → poured_to l at src n ≡ paste l at src n
unfolding poured_to
to_paste l at src zero h q = paste_none l at src
to_paste l at src (suc n) h q =
    ap (λ (x : List ℕ). set x (at + n) (get_or src n 0)) (to_paste l at src n (omega arith) (omega arith))
    ∙ paste_more l at src n 0 (omega arith) (omega arith)
    ∙ ap (paste l at src) (add-one n)

pub poured_paste : (l : List ℕ) (at : ℕ) (src : List ℕ) → at + length src ≤ length l → poured l at src ≡ paste l at src (length src)
unfolding poured
poured_paste l at src h = to_paste l at src (length src) h (omega arith)

-- ---- what stands after it

to_length : (l : List ℕ) (at : ℕ) (src : List ℕ) (n : ℕ) → length (poured_to l at src n) ≡ length l
unfolding poured_to
to_length l at src zero = refl
to_length l at src (suc n) = length-set (poured_to l at src n) (at + n) (get_or src n 0) ∙ to_length l at src n

to_other : (l : List ℕ) (at : ℕ) (src : List ℕ) (n j : ℕ) → ((m : ℕ) → m < n → j ≡ at + m → ⊥) → get_or (poured_to l at src n) j 0 ≡ get_or l j 0
unfolding poured_to
to_other l at src zero j h = refl
to_other l at src (suc n) j h =
    get_or-set_other (poured_to l at src n) (at + n) j (get_or src n 0) 0 (λ e. h n (omega arith) e)
    ∙ to_other l at src n j (λ m p e. h m (omega arith) e)

to_same : (l : List ℕ) (at : ℕ) (src : List ℕ) (n m : ℕ) → m < n → at + n ≤ length l → get_or (poured_to l at src n) (at + m) 0 ≡ get_or src m 0
unfolding poured_to
to_same l at src zero m p q = absurd (omega arith)
to_same l at src (suc n) m p q =
    let e : m ≤ n = omega arith in
    ⊎_elim
    (λ e. rw e (get_or-set_same (poured_to l at src n) (at + n) (get_or src n 0) 0 (omega (arith, to_length l at src n))))
    (λ r. get_or-set_other (poured_to l at src n) (at + n) (at + m) (get_or src n 0) 0 (λ e. omega arith) ∙ to_same l at src n m r (omega arith))
    (eq-or-lt_of_le e)

pub poured_length : (l : List ℕ) (at : ℕ) (src : List ℕ) → length (poured l at src) ≡ length l
unfolding poured
poured_length l at src = to_length l at src (length src)

-- a place that it does not hit
pub poured_other : (l : List ℕ) (at : ℕ) (src : List ℕ) (j : ℕ) → ((m : ℕ) → m < length src → j ≡ at + m → ⊥) → get_or (poured l at src) j 0 ≡ get_or l j 0
unfolding poured
poured_other l at src j h = to_other l at src (length src) j h

-- the row that was poured
pub poured_row : (l : List ℕ) (at : ℕ) (src : List ℕ) → at + length src ≤ length l → Row (poured l at src) at src
unfolding poured
poured_row l at src h k p = to_same l at src (length src) k p h

-- a row apart from it
pub poured_beside : (l : List ℕ) (at : ℕ) (src : List ℕ) (b : ℕ) (ws : List ℕ) → Apart b (length ws) at (length src) → Row l b ws → Row (poured l at src) b ws
poured_beside l at src b ws d r k p = poured_other l at src (b + k) (λ m q e. d k m p q e) ∙ r k p

-- ---- one store

-- in the row
pub row_set : (l : List ℕ) (b i v : ℕ) (ws : List ℕ) → i < length ws → b + i < length l → Row l b ws → Row (set l (b + i) v) b (set ws i v)
row_set l b i v ws h q r k p =
    ⊎_elim
    (λ (e : k ≡ i). rw e (get_or-set_same l (b + i) v 0 q ∙ sym (get_or-set_same ws i v 0 h)))
    (λ (n : k ≡ i → ⊥). get_or-set_other l (b + i) (b + k) v 0 (λ e. n (omega arith)) ∙ r k (omega (arith, length-set ws i v)) ∙ sym (get_or-set_other ws i k v 0 n))
    (same_or k i)

-- beside the row
pub row_beside : (l : List ℕ) (b j v : ℕ) (ws : List ℕ) → ((k : ℕ) → k < length ws → j ≡ b + k → ⊥) → Row l b ws → Row (set l j v) b ws
row_beside l b j v ws h r k p = get_or-set_other l j (b + k) v 0 (λ e. h k p (sym e)) ∙ r k p

-- ---- rows of one stride

pub rows_apart : (n i j : ℕ) → (i ≡ j → ⊥) → Apart (i * n) n (j * n) n
rows_apart n i j d a b p q e =
    ⊎_elim (λ h. below i j h a b p e) (λ h. below j i h b a q (sym e)) (sides i j d)
  where
    below : (i j : ℕ) → i < j → (a b : ℕ) → a < n → i * n + a ≡ j * n + b → ⊥
    below i j h a b p e =
        let m : suc i * n ≤ j * n = mul-le-mul_right n (omega arith) in
        omega (arith, suc-mul i n)

    sides : (i j : ℕ) → (i ≡ j → ⊥) → (i < j) ⊎ (j < i)
    sides i j d = go (ltb i j) refl
      where
        go : (x : Bool) → ltb i j ≡ x → (i < j) ⊎ (j < i)
        go true w = inl (ltb-true i j w)
        go false w = ⊎_elim (λ e. absurd (d (sym e))) inr (eq-or-lt_of_le (ltb-false i j w))

-- the same behind a common start
pub apart_from : (c b n b' m : ℕ) → Apart b n b' m → Apart (c + b) n (c + b') m
apart_from c b n b' m d j k p q e = d j k p q (omega arith)

-- ---- eight places

-- eight bytes that stand in a row, as code reads them
pub eight_read : (l : List ℕ) (b k : ℕ) (ws : List ℕ) → Row l b ws → k + room ≤ length ws → eight_at l (b + k) ≡ eight_at ws k
eight_read l b k ws r h =
    let at : (i : ℕ) → i < room → get_or l (b + k + i) 0 ≡ get_or ws (k + i) 0 = λ i q. ap (λ (j : ℕ). get_or l j 0) (omega arith) ∙ r (k + i) (omega arith) in
    let z : get_or l (b + k) 0 ≡ get_or ws k 0 = r k (omega arith) in
    rw (z, at 1 (omega arith), at 2 (omega arith), at 3 (omega arith), at 4 (omega arith), at 5 (omega arith), at 6 (omega arith), at 7 (omega arith))

-- one more in the eight places
pub eight_snoc : (us : List ℕ) (u : ℕ) → length us < room → set (eight us) (length us) u ≡ eight (us ++ (u ∷ []))
eight_snoc [] u h = refl
eight_snoc (a ∷ []) u h = refl
eight_snoc (a ∷ b ∷ []) u h = refl
eight_snoc (a ∷ b ∷ c ∷ []) u h = refl
eight_snoc (a ∷ b ∷ c ∷ d ∷ []) u h = refl
eight_snoc (a ∷ b ∷ c ∷ d ∷ e ∷ []) u h = refl
eight_snoc (a ∷ b ∷ c ∷ d ∷ e ∷ f ∷ []) u h = refl
eight_snoc (a ∷ b ∷ c ∷ d ∷ e ∷ f ∷ g ∷ []) u h = refl
eight_snoc (a ∷ b ∷ c ∷ d ∷ e ∷ f ∷ g ∷ x ∷ r) u h = absurd (omega arith)

pub eight_pad : (l : List ℕ) → length l ≤ room → eight l ≡ l ++ replicate (room - length l) 0
eight_pad [] h = refl
eight_pad (a ∷ []) h = refl
eight_pad (a ∷ b ∷ []) h = refl
eight_pad (a ∷ b ∷ c ∷ []) h = refl
eight_pad (a ∷ b ∷ c ∷ d ∷ []) h = refl
eight_pad (a ∷ b ∷ c ∷ d ∷ e ∷ []) h = refl
eight_pad (a ∷ b ∷ c ∷ d ∷ e ∷ f ∷ []) h = refl
eight_pad (a ∷ b ∷ c ∷ d ∷ e ∷ f ∷ g ∷ []) h = refl
eight_pad (a ∷ b ∷ c ∷ d ∷ e ∷ f ∷ g ∷ x ∷ []) h = refl
eight_pad (a ∷ b ∷ c ∷ d ∷ e ∷ f ∷ g ∷ x ∷ y ∷ r) h = absurd (omega arith)

pub eight_all : (l : List ℕ) → length l ≡ room → l ≡ eight l
eight_all l e =
    let none : room - length l ≡ 0 = omega arith in
    sym (eight_pad l (omega arith) ∙ ap (λ (k : ℕ). l ++ replicate k 0) none ∙ append-nil l)

-- a run of the used places is a run of the list
pub eight_slice : (l : List ℕ) (from to : ℕ) → length l ≤ room → from ≤ to → to ≤ length l → slice from (to - from) (eight l) ≡ slice from (to - from) l
eight_slice l from to h p q =
    ap (slice from (to - from)) (eight_pad l h)
    ∙ ap (take (to - from)) (drop-append-le from l (replicate (room - length l) 0) (omega arith))
    ∙ take-append-le (to - from) (drop from l) (replicate (room - length l) 0) (omega (arith, length-drop from l))

-- all of them are the list
pub eight_whole : (l : List ℕ) → length l ≤ room → slice 0 (length l - 0) (eight l) ≡ l
eight_whole l h = eight_slice l 0 (length l) h (omega arith) (omega arith) ∙ take_all (length l - 0) l (omega arith)
