-- Laws of images for loops and answers that src/ no longer has. Assumes nothing.
use mathlib.Core.Path.{◌≡◌, sym, ap, ◌∙◌}
use mathlib.Core.Bool.{Bool, true, false, ◌&&◌}
use mathlib.Core.List.{List}
use Prim.Native.Nat.{ℕ, suc, ◌+◌, ◌≤◌, ◌<◌}
use native.Mathlib.Omega.{arith}
use lib.Dec.{eqb, leb, ltb, eqb→eq, leb→le, le→leb}
use borrow.Author.Tests.{lt-ltb, le-ltb}
use lib.ListN.{length, get_or, drop, length-take, length-drop, drop_of_length-le}
use lib.Seq.{drop-cons}
use Rattle.rules.specs.Tables.{zeros, slice}
use Rattle.ways.proofs.Tests.{T→eq, F→eq}
use Rattle.images.specs.Passes.{blanked_at}
use Rattle.images.proofs.Passes.{byte_at}

-- the padding's loop: the places from i on are left
pub zeros_turn : (b : List ℕ) (p i : ℕ) → p + 8 ≤ length b → i < 8 → get_or b (p + i) 0 ≡ 0 → zeros (drop i (slice p 8 b)) ≡ zeros (drop (i + 1) (slice p 8 b))
zeros_turn b p i h l z = at_place b p i h l ∙ ap (λ (x : ℕ). eqb x 0 && zeros (drop (i + 1) (slice p 8 b))) z
  where
    at_place : (b : List ℕ) (p i : ℕ) → p + 8 ≤ length b → i < 8 → zeros (drop i (slice p 8 b)) ≡ (eqb (get_or b (p + i) 0) 0 && zeros (drop (i + 1) (slice p 8 b)))
    at_place b p i h l =
        let len : length (slice p 8 b) ≡ 8 = omega (arith, length-take 8 (drop p b), length-drop p b) in
        let e : suc i ≡ i + 1 = omega arith in
        ap zeros (drop-cons (slice p 8 b) i 0 (omega arith)) ∙ (λ j. eqb (byte_at 8 i p b l j) 0 && zeros (drop (e j) (slice p 8 b)))

pub zeros_stop : (b : List ℕ) (p i : ℕ) → p + 8 ≤ length b → i < 8 → (get_or b (p + i) 0 ≡ 0 → ⊥) → zeros (drop i (slice p 8 b)) ≡ false
zeros_stop b p i h l z =
    let len : length (slice p 8 b) ≡ 8 = omega (arith, length-take 8 (drop p b), length-drop p b) in
    ap zeros (drop-cons (slice p 8 b) i 0 (omega arith))
    ∙ (λ j. eqb (byte_at 8 i p b l j) 0 && zeros (drop (suc i) (slice p 8 b)))
    ∙ ap (λ (t : Bool). t && zeros (drop (suc i) (slice p 8 b))) (F→eq (eqb (get_or b (p + i) 0) 0) (λ t. z (eqb→eq (get_or b (p + i) 0) 0 t)))

pub zeros_end : (b : List ℕ) (p i : ℕ) → 8 ≤ i → zeros (drop i (slice p 8 b)) ≡ true
zeros_end b p i h = ap zeros (drop_of_length-le (slice p 8 b) {i = i} (omega (arith, length-take 8 (drop p b))))

pub padded_many : (p n : ℕ) (b : List ℕ) → 8 < n → false ≡ blanked_at p n b
padded_many p n b h = ap (λ (t : Bool). t && zeros (drop n (slice p 8 b))) (sym (F→eq (leb n 8) (λ t. omega (arith, leb→le n 8 t))))

-- a test before another
pub under_no : (n m : ℕ) (t : Bool) → m ≤ n → false ≡ (ltb n m && t)
under_no n m t h = sym (ap (λ (b : Bool). b && t) (le-ltb n m h))

pub under_yes : (n m : ℕ) (r t : Bool) → n < m → r ≡ t → r ≡ (ltb n m && t)
under_yes n m r t h e = e ∙ sym (ap (λ (b : Bool). b && t) (lt-ltb n m h))

pub test_no : (m n : ℕ) (t : Bool) → n < m → false ≡ (leb m n && t)
test_no m n t h = ap (λ (x : Bool). x && t) (sym (F→eq (leb m n) (λ q. omega (arith, leb→le m n q))))

pub test_yes : (m n : ℕ) (r t : Bool) → m ≤ n → r ≡ t → r ≡ (leb m n && t)
test_yes m n r t h e = e ∙ ap (λ (x : Bool). x && t) (sym (T→eq (leb m n) (le→leb m n h)))
