-- Laws of images for loops and answers that src/ no longer has. Assumes nothing.
use mathlib.Core.Path.{◌≡◌, refl, sym, ap, ◌∙◌}
use mathlib.Core.Bool.{Bool, true, false, ◌||◌, ◌&&◌, not, cond, true≢false}
use mathlib.Core.Logic.{⊎_elim}
use mathlib.Core.List.{List}
use Prim.Native.Nat.{ℕ, zero, suc, ◌+◌, ◌-◌, ◌*◌, ◌≤◌, ◌<◌}
use native.Mathlib.Omega.{arith}
use lib.Dec.{T, eqb, leb, eqb→eq, leb→le, le→leb}
use lib.ListN.{length, get_or, drop, length-take, length-drop, drop_of_length-le}
use lib.Seq.{get_or-take, drop-cons, length-take-le}
use Rattle.rules.specs.Tables.{all, slice}
use Rattle.rules.specs.Loads.{every}
use Rattle.ways.proofs.Tests.{T→eq, eq→T, F→eq, eq→not, and_l, or_e}
use Rattle.images.specs.Passes.{run_of, used_at, blanked_at, size_of, node_laid_at, branch_laid_at, slot_laid_at, input_laid_at, laid_at, section_ok, n33, p34, n34, p35, n35, p36, n36, end, layout_lines, layout_at}
use Rattle.images.proofs.Loaded.{nth}
use Rattle.images.proofs.Passes.{byte_at}
use Rattle.images.proofs.Laying.{other, leb_yes, eqb_yes, SectionLoop}
use Rattle.earlier.proofs.ImagesPasses.{test_no}

-- the offsets' loop: those from i on are left
within_at : (b : List ℕ) (p n i q : ℕ) → p + 8 ≤ length b → n ≤ 8 → i < n
    → all (λ o. leb o q) (drop i (used_at p n b)) ≡ (leb (get_or b (p + i) 0) q && all (λ o. leb o q) (drop (i + 1) (used_at p n b)))
within_at b p n i q h hn l =
    let len : length (slice p 8 b) ≡ 8 = omega (arith, length-take 8 (drop p b), length-drop p b) in
    let len' : length (used_at p n b) ≡ n = length-take-le n (slice p 8 b) (omega arith) in
    let e : suc i ≡ i + 1 = omega arith in
    let x : get_or (used_at p n b) i 0 ≡ get_or b (p + i) 0 = get_or-take n (slice p 8 b) i 0 l ∙ byte_at 8 i p b (omega arith) in
    ap (all (λ o. leb o q)) (drop-cons (used_at p n b) i 0 (omega arith)) ∙ (λ j. leb (x j) q && all (λ o. leb o q) (drop (e j) (used_at p n b)))

pub within_turn : (b : List ℕ) (p n i q : ℕ) → p + 8 ≤ length b → n ≤ 8 → i < n → get_or b (p + i) 0 ≤ q
    → all (λ o. leb o q) (drop i (used_at p n b)) ≡ all (λ o. leb o q) (drop (i + 1) (used_at p n b))
within_turn b p n i q h hn l z = within_at b p n i q h hn l ∙ ap (λ (t : Bool). t && all (λ o. leb o q) (drop (i + 1) (used_at p n b))) (T→eq (leb (get_or b (p + i) 0) q) (le→leb (get_or b (p + i) 0) q z))

pub within_stop : (b : List ℕ) (p n i q : ℕ) → p + 8 ≤ length b → n ≤ 8 → i < n → q < get_or b (p + i) 0 → all (λ o. leb o q) (drop i (used_at p n b)) ≡ false
within_stop b p n i q h hn l z = within_at b p n i q h hn l ∙ sym (test_no (get_or b (p + i) 0) q (all (λ o. leb o q) (drop (i + 1) (used_at p n b))) z)

pub within_end : (b : List ℕ) (p n i q : ℕ) → n ≤ i → all (λ o. leb o q) (drop i (used_at p n b)) ≡ true
within_end b p n i q h = ap (all (λ o. leb o q)) (drop_of_length-le (used_at p n b) {i = i} (omega (arith, length-take n (slice p 8 b))))

-- the section's loop
pub section_end : (k n o : ℕ) (b : List ℕ) (p at i next m : ℕ) → SectionLoop k n o b p at i next → i ≡ m → true ≡ section_ok k n o b p m
section_end k n o b p at i next m l e = sym (ap (section_ok k n o b p) (sym e) ∙ l.so_far)

pub and_no : (x t : Bool) → x ≡ false → false ≡ (x && t)
and_no x t e = ap (λ (y : Bool). y && t) (sym e)

pub and_yes : (x r t : Bool) → x ≡ true → r ≡ t → r ≡ (x && t)
and_yes x r t e q = q ∙ ap (λ (y : Bool). y && t) (sym e)

pub state_yes : (s : ℕ) → 1 ≤ s → s ≤ 2 → (eqb s 1 || eqb s 2) ≡ true
state_yes zero h l = absurd (omega arith)
state_yes (suc zero) h l = refl
state_yes (suc (suc zero)) h l = refl
state_yes (suc (suc (suc s))) h l = absurd (omega arith)

pub state_low : (s : ℕ) → s < 1 → (eqb s 1 || eqb s 2) ≡ false
state_low zero h = refl
state_low (suc s) h = absurd (omega arith)

pub state_high : (s : ℕ) → 2 < s → (eqb s 1 || eqb s 2) ≡ false
state_high s h = F→eq (eqb s 1 || eqb s 2) (λ t. ⊎_elim (λ (q : T (eqb s 1)). omega (arith, eqb→eq s 1 q)) (λ (q : T (eqb s 2)). omega (arith, eqb→eq s 2 q)) (or_e (eqb s 1) (eqb s 2) t))

pub padded_low : (p n : ℕ) (b : List ℕ) → blanked_at p n b ≡ true → n ≤ 8
padded_low p n b e = leb→le n 8 (and_l (leb n 8) _ (eq→T (blanked_at p n b) e))

pub size_33 : (k : ℕ) → k ≡ 33 → size_of k ≡ 30
size_33 k e = ap size_of e

pub size_34 : (k : ℕ) → k ≡ 34 → size_of k ≡ 12
size_34 k e = ap size_of e

pub size_35 : (k : ℕ) → k ≡ 35 → size_of k ≡ 12
size_35 k e = ap size_of e

pub size_least : (k : ℕ) → 11 ≤ size_of k
size_least k = go (eqb k 33) (eqb k 36)
  where
    go : (x y : Bool) → 11 ≤ cond x 30 (cond y 11 12)
    go true y = omega arith
    go false true = omega arith
    go false false = omega arith

-- a test made by a function: refused, and passed
pub and_not : (r p t : Bool) → not r ≡ true → r ≡ p → false ≡ (p && t)
and_not true p t n e = absurd (true≢false (sym n))
and_not false p t n e = ap (λ (x : Bool). x && t) e

pub and_pass : (r p q t : Bool) → not r ≡ false → r ≡ p → q ≡ t → q ≡ (p && t)
and_pass true p q t n e k = k ∙ ap (λ (x : Bool). x && t) e
and_pass false p q t n e k = absurd (true≢false n)

pub passed : (r p : Bool) → not r ≡ false → r ≡ p → p ≡ true
passed true p n e = sym e
passed false p n e = absurd (true≢false n)

pub failed : (r p : Bool) → not r ≡ true → r ≡ p → p ≡ false
failed true p n e = absurd (true≢false (sym n))
failed false p n e = sym e

-- the record's test by its kind
pub kind_33 : (k at : ℕ) (b : List ℕ) (r : Bool) → k ≡ 33 → r ≡ node_laid_at b at → r ≡ laid_at k b at
kind_33 k at b r e q = q ∙ ap (λ (x : ℕ). laid_at x b at) (sym e)

pub kind_34 : (k at : ℕ) (b : List ℕ) (r : Bool) → k ≡ 34 → r ≡ branch_laid_at b at → r ≡ laid_at k b at
kind_34 k at b r e q = q ∙ ap (λ (x : ℕ). laid_at x b at) (sym e)

pub kind_35 : (k at : ℕ) (b : List ℕ) (r : Bool) → k ≡ 35 → r ≡ slot_laid_at b at → r ≡ laid_at k b at
kind_35 k at b r e q = q ∙ ap (λ (x : ℕ). laid_at x b at) (sym e)

pub kind_36 : (k at : ℕ) (b : List ℕ) (r : Bool) → (k ≡ 33 → ⊥) → (k ≡ 34 → ⊥) → (k ≡ 35 → ⊥) → r ≡ input_laid_at b at → r ≡ laid_at k b at
kind_36 k at b r n3 n4 n5 q =
    q ∙ (λ i. cond (sym (other k 33 n3) i) (node_laid_at b at) (cond (sym (other k 34 n4) i) (branch_laid_at b at) (cond (sym (other k 35 n5) i) (slot_laid_at b at) (input_laid_at b at))))

-- a record that is not the last ends within its section
pub room : (p n i m at l : ℕ) → at ≡ p + n * i → i < m → p + n * m ≤ l → at + n ≤ l
room p n i m at l e h b =
    let d : m ≡ (i + 1) + (m - (i + 1)) = omega arith in
    omega (arith, ap (λ (x : ℕ). n * x) d)

-- ---- the counts as a program has them

pub leb_no : (m n : ℕ) → n < m → leb m n ≡ false
leb_no m n h = F→eq (leb m n) (λ t. omega (arith, leb→le m n t))

module _ (b : List ℕ) where
  pub count_34 : (n m : ℕ) → n ≡ n33 b → m ≡ run_of 34 12 (length b) b (2 + 30 * n) → m ≡ n34 b
  count_34 n m en e = e ∙ (λ j. run_of 34 12 (length b) b (2 + 30 * en j))

  pub count_35 : (n m s : ℕ) → n ≡ n33 b → m ≡ n34 b → s ≡ run_of 35 12 (length b) b ((2 + 30 * n) + 12 * m) → s ≡ n35 b
  count_35 n m s en em e = e ∙ (λ j. run_of 35 12 (length b) b ((2 + 30 * en j) + 12 * em j))

  pub count_36 : (n m s i : ℕ) → n ≡ n33 b → m ≡ n34 b → s ≡ n35 b → i ≡ run_of 36 11 (length b) b (((2 + 30 * n) + 12 * m) + 12 * s) → i ≡ n36 b
  count_36 n m s i en em es e = e ∙ (λ j. run_of 36 11 (length b) b (((2 + 30 * en j) + 12 * em j) + 12 * es j))

  every_no : (ts : List Bool) (j : ℕ) → get_or ts j true ≡ false → every ts ≡ false
  every_no ts j e = F→eq (every ts) (λ t. eq→not (get_or ts j true) e (nth ts j t))

  pub layout_no : (j : ℕ) → get_or (layout_lines b) j true ≡ false → false ≡ layout_at b
  unfolding layout_at
  layout_no j e = sym (every_no (layout_lines b) j e)

  -- the sections' tests as a program has them
  pub line_6 : (n : ℕ) (x : Bool) → n ≡ n33 b → section_ok 33 30 1 b 2 n ≡ x → section_ok 33 30 1 b 2 (n33 b) ≡ x
  line_6 n x en e = sym (ap (section_ok 33 30 1 b 2) en) ∙ e

  pub line_7 : (n m : ℕ) (x : Bool) → n ≡ n33 b → m ≡ n34 b → section_ok 34 12 2 b (2 + 30 * n) m ≡ x → section_ok 34 12 2 b (p34 b) (n34 b) ≡ x
  line_7 n m x en em e = sym (λ j. section_ok 34 12 2 b (2 + 30 * en j) (em j)) ∙ e

  pub line_8 : (n m s : ℕ) (x : Bool) → n ≡ n33 b → m ≡ n34 b → s ≡ n35 b → section_ok 35 12 1 b ((2 + 30 * n) + 12 * m) s ≡ x → section_ok 35 12 1 b (p35 b) (n35 b) ≡ x
  line_8 n m s x en em es e = sym (λ j. section_ok 35 12 1 b ((2 + 30 * en j) + 12 * em j) (es j)) ∙ e

  pub line_9 : (n m s i : ℕ) (x : Bool) → n ≡ n33 b → m ≡ n34 b → s ≡ n35 b → i ≡ n36 b → x ≡ section_ok 36 11 1 b (((2 + 30 * n) + 12 * m) + 12 * s) i → x ≡ section_ok 36 11 1 b (p36 b) (n36 b)
  line_9 n m s i x en em es ei e = e ∙ (λ j. section_ok 36 11 1 b (((2 + 30 * en j) + 12 * em j) + 12 * es j) (ei j))

  pub layout_last : (x : Bool) → 2 ≤ length b → get_or b 0 0 ≡ 32 → p34 b ≤ length b → p35 b ≤ length b → p36 b ≤ length b → end b ≡ length b
      → section_ok 33 30 1 b 2 (n33 b) ≡ true → section_ok 34 12 2 b (p34 b) (n34 b) ≡ true → section_ok 35 12 1 b (p35 b) (n35 b) ≡ true → x ≡ section_ok 36 11 1 b (p36 b) (n36 b) → x ≡ layout_at b
  unfolding layout_at
  layout_last x h0 h1 h2 h3 h4 h5 h6 h7 h8 e =
      e
      ∙ sym (true_and (section_ok 36 11 1 b (p36 b) (n36 b)))
      ∙ (λ j. sym (leb_yes 2 (length b) h0) j && (sym (eqb_yes (get_or b 0 0) 32 h1) j && (sym (leb_yes (p34 b) (length b) h2) j && (sym (leb_yes (p35 b) (length b) h3) j && (sym (leb_yes (p36 b) (length b) h4) j && (sym (eqb_yes (end b) (length b) h5) j && (sym h6 j && (sym h7 j && (sym h8 j && (section_ok 36 11 1 b (p36 b) (n36 b) && true))))))))))
    where
      true_and : (y : Bool) → (y && true) ≡ y
      true_and true = refl
      true_and false = refl
