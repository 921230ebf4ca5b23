-- What a program's passes compute is what document 01's definitions say: sections by positions, records in place, tests and tables
-- built up record by record, levels as sets. Assumes nothing.
use mathlib.Core.Path.{◌≡◌, refl, sym, ap, ap₂, ◌∙◌, subst, fun_ext}
use mathlib.Core.Bool.{Bool, true, false, ◌||◌, ◌&&◌, not, cond, true≢false}
use mathlib.Core.Logic.{◌⊎◌, inl, inr, ⊎_elim}
use mathlib.Core.List.{List, [], ◌∷◌, ◌++◌, map, append_assoc, append-nil}
use mathlib.Core.Option.{Option, none, some}
use Prim.Native.Nat.{ℕ, zero, suc, ◌+◌, ◌-◌, ◌*◌, ◌≤◌, ◌<◌}
use native.Mathlib.Omega.{arith}
use lib.Dec.{T, eqb, leb, ltb, eqb_refl, eqb→eq, le→leb, ltb→lt, nltb→le}
use lib.ListN.{length, get_or, take, drop, length-take, length-drop, get_or-eq_default}
use lib.Seq.{get_or-take, get_or-drop, take-take, drop-drop}
use Rattle.units.specs.Limits.{slot_count, compactor_count}
use Rattle.ways.specs.Ways.{has}
use Rattle.rules.specs.Tables.{all, put, puts, keys, joined, distinct, zeros, slice, rising, find}
use Rattle.rules.specs.Store.{opened, sealed}
use Rattle.ways.proofs.Tests.{T→eq, eq→T, F→eq, eq→not, and_l, and_r, and_i, same?}
use Rattle.rules.specs.Loads.{Cutting, leading, cut, node_of, node_laid, node_count, branch_of, branch_laid, branch_count, slot_of, slot_laid, input_of, input_laid}
use Rattle.images.proofs.Listing.{find_below}
use Rattle.images.specs.Passes.{run_of, records_at, n33, p34, n34, p35, n35, p36, n36, end, cut_at, blanked_at, node_read, node_laid_at, node_count_at, branch_read, branch_laid_at, branch_count_at, slot_read, slot_laid_at, input_read, input_laid_at, next_key}

-- ---- sections

pub lead_at : (k n f : ℕ) (b : List ℕ) (p : ℕ) → leading k n f (drop p b) ≡ (records_at n b p (run_of k n f b p), drop (p + n * run_of k n f b p) b)
unfolding leading run_of records_at
lead_at k n zero b p = let e : p ≡ p + n * 0 = omega arith in λ i. ([], drop (e i) b)
lead_at k n (suc f) b p =
    let h : eqb (get_or (drop p b) 0 0) k ≡ eqb (get_or b p 0) k = ap (λ (x : ℕ). eqb x k) (get_or-drop p b 0 0 ∙ ap (λ (x : ℕ). get_or b x 0) at) in
    let x : Cutting = leading k n f (drop n (drop p b)) in
    ap (λ (t : Bool). cond {A = Cutting} t (take n (drop p b) ∷ x.0, x.1) ([], drop p b)) h
    ∙ go (eqb (get_or b p 0) k) x (ap (leading k n f) (drop-drop n p b) ∙ lead_at k n f b (p + n))
  where
    at : p + 0 ≡ p
    at = omega arith

    m : ℕ
    m = run_of k n f b (p + n)

    more : (p + n) + n * m ≡ p + n * suc m
    more = omega arith

    no_more : p ≡ p + n * 0
    no_more = omega arith

    go : (t : Bool) (x : Cutting) → x ≡ (records_at n b (p + n) m, drop ((p + n) + n * m) b)
        → cond {A = Cutting} t (take n (drop p b) ∷ x.0, x.1) ([], drop p b) ≡ (records_at n b p (cond t (suc m) 0), drop (p + n * cond t (suc m) 0) b)
    go true x ih = (λ i. (slice p n b ∷ (ih i).0, (ih i).1)) ∙ (λ i. (slice p n b ∷ records_at n b (p + n) m, drop (more i) b))
    go false x ih = λ i. ([], drop (no_more i) b)

pub cut_at_lem : (b : List ℕ) → cut b ≡ cut_at b
unfolding cut cut_at
cut_at_lem b =
    let f : ℕ = length b in
    let e1 : leading 33 30 f (drop 2 b) ≡ (records_at 30 b 2 (n33 b), drop (p34 b) b) = lead_at 33 30 f b 2 in
    let e2 : leading 34 12 f (leading 33 30 f (drop 2 b)).1 ≡ (records_at 12 b (p34 b) (n34 b), drop (p35 b) b) = ap (λ (x : Cutting). leading 34 12 f x.1) e1 ∙ lead_at 34 12 f b (p34 b) in
    let e3 : leading 35 12 f (leading 34 12 f (leading 33 30 f (drop 2 b)).1).1 ≡ (records_at 12 b (p35 b) (n35 b), drop (p36 b) b) = ap (λ (x : Cutting). leading 35 12 f x.1) e2 ∙ lead_at 35 12 f b (p35 b) in
    let e4 : leading 36 11 f (leading 35 12 f (leading 34 12 f (leading 33 30 f (drop 2 b)).1).1).1 ≡ (records_at 11 b (p36 b) (n36 b), drop (end b) b) =
    ap (λ (x : Cutting). leading 36 11 f x.1) e3 ∙ lead_at 36 11 f b (p36 b) in
    λ j. record { root = take 2 b; nodes = (e1 j).0; branches = (e2 j).0; slots = (e3 j).0; inputs = (e4 j).0; rest = (e4 j).1 }

-- the records in the order of a loop: one more at the end
pub records_more : (n : ℕ) (b : List ℕ) (p m : ℕ) → records_at n b p (suc m) ≡ records_at n b p m ++ (slice (p + n * m) n b ∷ [])
unfolding records_at
records_more n b p zero = let e : p ≡ p + n * 0 = omega arith in λ i. slice (e i) n b ∷ []
records_more n b p (suc m) =
    let e : (p + n) + n * m ≡ p + n * suc m = omega arith in
    ap (λ (l : List (List ℕ)). slice p n b ∷ l) (records_more n b (p + n) m ∙ (λ i. records_at n b (p + n) m ++ (slice (e i) n b ∷ [])))

-- the records are whole exactly when the section ends within the image
pub records_whole : (n : ℕ) (b : List ℕ) (p m : ℕ) → p + n * m ≤ length b → T (all (λ r. eqb (length r) n) (records_at n b p m))
unfolding records_at
records_whole n b p zero h = tt
records_whole n b p (suc m) h =
    let e : length (slice p n b) ≡ n = omega (arith, length-take n (drop p b), length-drop p b) in
    and_i (eqb (length (slice p n b)) n) (all (λ r. eqb (length r) n) (records_at n b (p + n) m)) (subst (λ (x : ℕ). T (eqb x n)) (sym e) (eqb_refl n)) (records_whole n b (p + n) m (omega arith))

pub whole_records : (n : ℕ) (b : List ℕ) (p m : ℕ) → 1 ≤ n → 1 ≤ m → T (all (λ r. eqb (length r) n) (records_at n b p m)) → p + n * m ≤ length b
unfolding records_at
whole_records n b p zero pn pm t = absurd (omega arith)
whole_records n b p (suc zero) pn pm t =
    omega (arith, eqb→eq (length (slice p n b)) n (and_l (eqb (length (slice p n b)) n) true t), length-take n (drop p b), length-drop p b)
whole_records n b p (suc (suc m)) pn pm t =
    let h : (p + n) + n * suc m ≤ length b = whole_records n b (p + n) (suc m) pn (omega arith) (and_r (eqb (length (slice p n b)) n) (all (λ r. eqb (length r) n) (records_at n b (p + n) (suc m))) t) in
    omega arith

-- ---- a record in place

pub byte_at : (n k at : ℕ) (b : List ℕ) → k < n → get_or (slice at n b) k 0 ≡ get_or b (at + k) 0
byte_at n k at b h = get_or-take n (drop at b) k 0 h ∙ get_or-drop at b k 0

drop_take : {A : Type 0} (p n : ℕ) (l : List A) → drop p (take (p + n) l) ≡ take n (drop p l)
drop_take zero n l = let e : 0 + n ≡ n = omega arith in ap (λ (k : ℕ). take k l) e
drop_take (suc p) n [] = let e : suc p + n ≡ suc (p + n) = omega arith in ap (λ (k : ℕ). drop (suc p) (take k [])) e ∙ sym (nil n)
  where
    nil : {A : Type 0} (n : ℕ) → ◌≡◌ {A = List A} (take n []) []
    nil zero = refl
    nil (suc n) = refl
drop_take (suc p) n (x ∷ xs) = let e : suc p + n ≡ suc (p + n) = omega arith in ap (λ (k : ℕ). drop (suc p) (take k (x ∷ xs))) e ∙ drop_take p n xs

pub part_at : (n p m at : ℕ) (b : List ℕ) → p + m ≤ n → slice p m (slice at n b) ≡ slice (at + p) m b
part_at n p m at b h =
    let e : n ≡ p + (n - p) = omega arith in
    ap (λ (k : ℕ). take m (drop p (take k (drop at b)))) e ∙ ap (take m) (drop_take p (n - p) (drop at b)) ∙ take-take m (n - p) (drop p (drop at b)) (omega arith) ∙ ap (take m) (drop-drop p at b)

module _ (b : List ℕ) (at : ℕ) where
  long : (n : ℕ) → at + n ≤ length b → eqb (length (slice at n b)) n ≡ true
  long n h =
      let e : length (slice at n b) ≡ n = omega (arith, length-take n (drop at b), length-drop at b) in
      T→eq (eqb (length (slice at n b)) n) (subst (λ (x : ℕ). T (eqb x n)) (sym e) (eqb_refl n))

  e30 : (k : ℕ) → k < 30 → get_or (slice at 30 b) k 0 ≡ get_or b (at + k) 0
  e30 k h = byte_at 30 k at b h

  s30 : (p : ℕ) → p + 8 ≤ 30 → slice p 8 (slice at 30 b) ≡ slice (at + p) 8 b
  s30 p h = part_at 30 p 8 at b h

  pub node_at_lem : node_of (slice at 30 b) ≡ node_read b at
  node_at_lem =
      let nb = e30 2 (omega arith) in
      let nk = e30 11 (omega arith) in
      let un = e30 1 (omega arith) in
      let x = s30 3 (omega arith) in
      let y = s30 12 (omega arith) in
      let z = s30 20 (omega arith) in
      λ i. (un i, record { buffers = take (nb i) (x i); children = take (nk i) (y i); offsets = take (nk i) (z i) })

  pub node_laid_at_lem : at + 30 ≤ length b → node_laid (slice at 30 b) ≡ node_laid_at b at
  node_laid_at_lem h =
      let nb = e30 2 (omega arith) in
      let nk = e30 11 (omega arith) in
      let x = s30 3 (omega arith) in
      let y = s30 12 (omega arith) in
      let z = s30 20 (omega arith) in
      let l = long 30 h in
      λ i. l i && ((leb (nb i) 8 && zeros (drop (nb i) (x i))) && ((leb (nk i) 8 && zeros (drop (nk i) (y i))) && ((leb (nk i) 8 && zeros (drop (nk i) (z i))) && all (λ o. leb o (nb i)) (take (nk i) (z i)))))

  pub node_count_at_lem : node_count (slice at 30 b) ≡ node_count_at b at
  node_count_at_lem = let lo = e30 28 (omega arith) in let hi = e30 29 (omega arith) in λ i. lo i + 256 * hi i

  pub branch_at : branch_of (slice at 12 b) ≡ branch_read b at
  branch_at =
      let n = byte_at 12 1 at b (omega arith) in
      let f = byte_at 12 2 at b (omega arith) in
      let x = part_at 12 2 8 at b (omega arith) in
      λ i. (f i, take (n i) (x i))

  pub branch_laid_at_lem : at + 12 ≤ length b → branch_laid (slice at 12 b) ≡ branch_laid_at b at
  branch_laid_at_lem h =
      let n = byte_at 12 1 at b (omega arith) in
      let x = part_at 12 2 8 at b (omega arith) in
      let l = long 12 h in
      λ i. l i && (leb 1 (n i) && (leb (n i) 8 && zeros (drop (n i) (x i))))

  pub branch_count_at_lem : branch_count (slice at 12 b) ≡ branch_count_at b at
  branch_count_at_lem = let lo = byte_at 12 10 at b (omega arith) in let hi = byte_at 12 11 at b (omega arith) in λ i. lo i + 256 * hi i

  pub slot_at : slot_of (slice at 12 b) ≡ slot_read b at
  slot_at =
      let k = byte_at 12 1 at b (omega arith) in
      let t = byte_at 12 2 at b (omega arith) in
      let n = byte_at 12 3 at b (omega arith) in
      let x = part_at 12 4 8 at b (omega arith) in
      λ i. (k i, cond (eqb (t i) 1) (opened (take (n i) (x i))) (sealed (take (n i) (x i))))

  pub slot_laid_at_lem : at + 12 ≤ length b → slot_laid (slice at 12 b) ≡ slot_laid_at b at
  slot_laid_at_lem h =
      let k = byte_at 12 1 at b (omega arith) in
      let t = byte_at 12 2 at b (omega arith) in
      let n = byte_at 12 3 at b (omega arith) in
      let x = part_at 12 4 8 at b (omega arith) in
      let l = long 12 h in
      λ i. l i && (ltb (k i) slot_count && ((eqb (t i) 1 || eqb (t i) 2) && (leb 1 (n i) && (leb (n i) 8 && zeros (drop (n i) (x i))))))

  pub input_at_lem : input_of (slice at 11 b) ≡ input_read b at
  input_at_lem =
      let k = byte_at 11 1 at b (omega arith) in
      let n = byte_at 11 2 at b (omega arith) in
      let x = part_at 11 3 8 at b (omega arith) in
      λ i. (k i, take (n i) (x i))

  pub input_laid_at_lem : at + 11 ≤ length b → input_laid (slice at 11 b) ≡ input_laid_at b at
  input_laid_at_lem h =
      let k = byte_at 11 1 at b (omega arith) in
      let n = byte_at 11 2 at b (omega arith) in
      let x = part_at 11 3 8 at b (omega arith) in
      let l = long 11 h in
      λ i. l i && (ltb (k i) compactor_count && (leb 1 (n i) && (leb (n i) 8 && zeros (drop (n i) (x i)))))

-- ---- record by record: what one more at the end does to a test, an order, a list, a table

and_true : (a : Bool) → (a && true) ≡ a
and_true true = refl
and_true false = refl

and_assoc : (a b c : Bool) → (a && (b && c)) ≡ ((a && b) && c)
and_assoc true b c = refl
and_assoc false b c = refl

module _ {A : Type 0} where
  pub all_more : (f : A → Bool) (xs : List A) (x : A) → all f (xs ++ (x ∷ [])) ≡ (all f xs && f x)
  all_more f [] x = and_true (f x)
  all_more f (y ∷ ys) x = ap (λ (t : Bool). f y && t) (all_more f ys x) ∙ and_assoc (f y) (all f ys) (f x)

  pub map_more : {B : Type 0} (f : A → B) (xs : List A) (x : A) → map f (xs ++ (x ∷ [])) ≡ map f xs ++ (f x ∷ [])
  map_more {B} f [] x = refl
  map_more {B} f (y ∷ ys) x = ap (λ (l : List B). f y ∷ l) (map_more f ys x)

  pub keys_more : (es : List (ℕ × A)) (e : ℕ × A) → keys (es ++ (e ∷ [])) ≡ keys es ++ (e.0 ∷ [])
  keys_more [] e = refl
  keys_more (x ∷ es) e = ap (λ (l : List ℕ). x.0 ∷ l) (keys_more es e)

  pub joined_more : (f : A → List ℕ) (xs : List A) (x : A) → joined f (xs ++ (x ∷ [])) ≡ joined f xs ++ f x
  joined_more f [] x = append-nil (f x)
  joined_more f (y ∷ ys) x = ap (λ (l : List ℕ). f y ++ l) (joined_more f ys x) ∙ sym (append_assoc (f y) (joined f ys) (f x))

  pub puts_more : (t : ℕ → Option A) (es : List (ℕ × A)) (e : ℕ × A) → puts t (es ++ (e ∷ [])) ≡ put (puts t es) e
  puts_more t [] e = refl
  puts_more t (x ∷ es) e = puts_more (put t x) es e

-- the table of a rising list is the one that its entries make, put one after another
pub find_puts : {A : Type 0} (lo : ℕ) (es : List (ℕ × A)) → T (rising lo (keys es)) → find es ≡ puts (λ v. none) es
find_puts {A} lo es r = fun_ext (λ v. sym (go lo es (λ v. none) v r ∙ or_none (find es v)))
  where
    or : Option A → Option A → Option A
    or none x = x
    or (some a) x = some a

    or_none : (o : Option A) → or o none ≡ o
    or_none none = refl
    or_none (some a) = refl

    at : (t : ℕ → Option A) (e : ℕ × A) (o : Option A) (v : ℕ) (b : Bool) → (T b → o ≡ none) → or o (cond b (some e.1) (t v)) ≡ or (cond b (some e.1) o) (t v)
    at t e o v true h = ap (λ (x : Option A). or x (some e.1)) (h tt)
    at t e o v false h = refl

    go : (lo : ℕ) (es : List (ℕ × A)) (t : ℕ → Option A) (v : ℕ) → T (rising lo (keys es)) → puts t es v ≡ or (find es v) (t v)
    go lo [] t v r = refl
    go lo (e ∷ es) t v r =
        let tail : T (rising (suc e.0) (keys es)) = and_r (leb lo e.0) (rising (suc e.0) (keys es)) r in
        go (suc e.0) es (put t e) v tail
        ∙ at t e (find es v) v (eqb v e.0) (λ q. let z : v ≡ e.0 = eqb→eq v e.0 q in find_below es (suc e.0) v tail (omega arith))

pub rising_more : (lo : ℕ) (ks : List ℕ) (k : ℕ) → rising lo (ks ++ (k ∷ [])) ≡ (rising lo ks && leb (next_key lo ks) k)
rising_more lo [] k = and_true (leb lo k)
rising_more lo (x ∷ ks) k = ap (λ (t : Bool). leb lo x && t) (rising_more (suc x) ks k) ∙ and_assoc (leb lo x) (rising (suc x) ks) (leb (next_key (suc x) ks) k)

pub next_more : (lo : ℕ) (ks : List ℕ) (k : ℕ) → next_key lo (ks ++ (k ∷ [])) ≡ suc k
next_more lo [] k = refl
next_more lo (x ∷ ks) k = next_more (suc x) ks k

-- 22, unit by unit: in range, and not yet owned
abbrev pub free : List ℕ → Bool
free l = all (λ u. leb 1 u && leb u 255) l && distinct l

eqb_flip : (x y : ℕ) → eqb x y ≡ eqb y x
eqb_flip x y = ⊎_elim (λ (e : x ≡ y). ap₂ eqb e (sym e)) (λ (e : eqb x y ≡ false). e ∙ sym (F→eq (eqb y x) (λ t. eq→not (eqb x y) e (subst (λ (k : ℕ). T (eqb k y)) (eqb→eq y x t) (eqb_refl y))))) (same? x y)

has_more : (y : ℕ) (ys : List ℕ) (x : ℕ) → has y (ys ++ (x ∷ [])) ≡ (has y ys || eqb y x)
has_more y [] x = or_false (eqb x y) ∙ eqb_flip x y
  where
    or_false : (a : Bool) → (a || false) ≡ a
    or_false true = refl
    or_false false = refl
has_more y (z ∷ ys) x = ap (λ (t : Bool). eqb z y || t) (has_more y ys x) ∙ or_assoc (eqb z y) (has y ys) (eqb y x)
  where
    or_assoc : (a b c : Bool) → (a || (b || c)) ≡ ((a || b) || c)
    or_assoc true b c = refl
    or_assoc false b c = refl

pub distinct_more : (l : List ℕ) (x : ℕ) → distinct (l ++ (x ∷ [])) ≡ (distinct l && not (has x l))
distinct_more [] x = refl
distinct_more (y ∷ ys) x =
    ap₂ (λ (a d : Bool). not a && d) (has_more y ys x) (distinct_more ys x) ∙ algebra (has y ys) (eqb y x) (distinct ys) (has x ys)
  where
    algebra : (a e d c : Bool) → (not (a || e) && (d && not c)) ≡ ((not a && d) && not (e || c))
    algebra true e d c = refl
    algebra false true true c = refl
    algebra false true false c = refl
    algebra false false d c = refl

pub free_more : (l : List ℕ) (x : ℕ) → free (l ++ (x ∷ [])) ≡ (free l && ((leb 1 x && leb x 255) && not (has x l)))
free_more l x =
    ap₂ (λ (a d : Bool). a && d) (all_more (λ u. leb 1 u && leb u 255) l x) (distinct_more l x)
    ∙ swap (all (λ u. leb 1 u && leb u 255) l) (leb 1 x && leb x 255) (distinct l) (not (has x l))
  where
    swap : (a r d h : Bool) → ((a && r) && (d && h)) ≡ ((a && d) && (r && h))
    swap true true d h = refl
    swap true false true h = refl
    swap true false false h = refl
    swap false r d h = refl

-- ---- loops

-- past the end stands no kind
pub past_kind : (b : List ℕ) (at k : ℕ) → 1 ≤ k → length b ≤ at → false ≡ eqb (get_or b at 0) k
past_kind b at k h l =
    sym (F→eq (eqb (get_or b at 0) k) (λ t. omega (arith, eqb→eq (get_or b at 0) k t, get_or-eq_default b 0 l)))

-- a section's loop: i records passed, the place is `at`, and what is left from there adds up to the whole
pub record RunLoop (b : List ℕ) (p k n at i : ℕ) : Type 0 where
  pub slow : i ≤ at
  pub near : at ≤ length b + 255
  pub place : at ≡ p + n * i
  pub left : i + run_of k n (length b - i) b at ≡ run_of k n (length b) b p

pub run_start : (b : List ℕ) (p k n : ℕ) → p ≤ length b → RunLoop b p k n p 0
run_start b p k n h =
    let e : length b - 0 ≡ length b = omega arith in
    record { slow = omega arith; near = omega arith; place = omega arith; left = omega (arith, ap (λ (f : ℕ). run_of k n f b p) e) }

run_step : (k n f : ℕ) (b : List ℕ) (p : ℕ) → eqb (get_or b p 0) k ≡ true → run_of k n (suc f) b p ≡ suc (run_of k n f b (p + n))
unfolding run_of
run_step k n f b p e = ap (λ (t : Bool). cond t (suc (run_of k n f b (p + n))) 0) e

run_stop : (k n f : ℕ) (b : List ℕ) (p : ℕ) → eqb (get_or b p 0) k ≡ false → run_of k n f b p ≡ 0
unfolding run_of
run_stop k n zero b p e = refl
run_stop k n (suc f) b p e = ap (λ (t : Bool). cond t (suc (run_of k n f b (p + n))) 0) e

pub run_near : (b : List ℕ) (at k : ℕ) → 1 ≤ k → eqb (get_or b at 0) k ≡ true → at < length b
run_near b at k h e =
    ⊎_elim (λ (t : T (ltb at (length b))). ltb→lt at (length b) t)
    (λ (q : ltb at (length b) ≡ false). absurd (true≢false (sym e ∙ sym (past_kind b at k h (nltb→le at (length b) (subst (λ (x : Bool). T (not x)) (sym q) tt))))))
    (split (ltb at (length b)) refl)
  where
    split : (x : Bool) → ltb at (length b) ≡ x → T (ltb at (length b)) ⊎ (ltb at (length b) ≡ false)
    split true q = inl (eq→T (ltb at (length b)) q)
    split false q = inr q

pub run_turn : (b : List ℕ) (p k n at i : ℕ) → 1 ≤ k → 1 ≤ n → n ≤ 255 → RunLoop b p k n at i → eqb (get_or b at 0) k ≡ true → RunLoop b p k n (at + n) (i + 1)
run_turn b p k n at i hk h1 h2 l e =
    let near : at < length b = run_near b at k hk e in
    let f : length b - i ≡ suc (length b - (i + 1)) = omega (arith, l.slow) in
    record {
      slow = omega (arith, l.slow);
      near = omega arith;
      place = omega (arith, l.place);
      left = omega (arith, l.left, ap (λ (x : ℕ). run_of k n x b at) f, run_step k n (length b - (i + 1)) b at e);
    }

pub run_end : (b : List ℕ) (p k n at i : ℕ) → RunLoop b p k n at i → eqb (get_or b at 0) k ≡ false → i ≡ run_of k n (length b) b p
run_end b p k n at i l e = omega (arith, l.left, run_stop k n (length b - i) b at e)

-- the padding of few places
pub padded_few : (p n : ℕ) (b : List ℕ) → n ≤ 8 → blanked_at p n b ≡ zeros (drop n (slice p 8 b))
padded_few p n b h = ap (λ (t : Bool). t && zeros (drop n (slice p 8 b))) (T→eq (leb n 8) (le→leb n 8 h))
