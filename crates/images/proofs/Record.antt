-- A record is read as what was written, and written as what was read: each kind both ways. Assumes nothing.
use mathlib.Core.Path.{◌≡◌, refl, sym, ap, ◌∙◌, subst}
use mathlib.Core.Bool.{Bool, true, false, ◌||◌, ◌&&◌, cond}
use mathlib.Core.List.{List, [], ◌∷◌, ◌++◌}
use mathlib.Core.Option.{Option, none, some}
use Prim.Native.Nat.{ℕ, zero, suc, ◌+◌, ◌-◌, ◌*◌, ◌/◌, ◌%◌, ◌≤◌, ◌<◌}
use native.Mathlib.Omega.{arith}
use lib.Dec.{T, eqb, leb, ltb, eqb→eq, leb→le, le→leb, lt→ltb}
use lib.ListN.{length, get_or, take, drop, replicate, length-append, length-replicate, length-take, length-drop}
use lib.Seq.{length-take-le, take-append_seam, drop-append_seam}
use Rattle.units.specs.Limits.{slot_count}
use Rattle.rules.specs.Tables.{all, zeros, slice}
use Rattle.rules.specs.Store.{Node, Slot, opened, sealed}
use Rattle.rules.specs.Images.{padded, low_first, node_image, branch_image, slot_image}
use Rattle.ways.proofs.Tests.{and_l, and_r, and_i}
use Rattle.rules.specs.Loads.{used, blanked, node_of, node_laid, node_count, branch_of, branch_laid, branch_count, slot_of, slot_laid, input_of, input_laid}

-- ---- a list of known length, spelled out

abbrev pub spell : ℕ → List ℕ → List ℕ
spell zero l = []
spell (suc n) l = get_or l 0 0 ∷ spell n (drop 1 l)

pub spelled : (n : ℕ) (l : List ℕ) → length l ≡ n → spell n l ≡ l
spelled zero [] e = refl
spelled zero (x ∷ xs) e = absurd (omega arith)
spelled (suc n) [] e = absurd (omega arith)
spelled (suc n) (x ∷ xs) e = ap (λ (l : List ℕ). x ∷ l) (spelled n xs (omega arith))

-- ---- eight places

zero_rep : (x : List ℕ) → T (zeros x) → replicate (length x) 0 ≡ x
zero_rep [] t = refl
zero_rep (y ∷ ys) t = λ i. sym (eqb→eq y 0 (and_l (eqb y 0) (zeros ys) t)) i ∷ zero_rep ys (and_r (eqb y 0) (zeros ys) t) i

rep_zero : (n : ℕ) → T (zeros (replicate n 0))
rep_zero zero = tt
rep_zero (suc n) = rep_zero n

refill : (n : ℕ) (x : List ℕ) → n ≤ length x → T (zeros (drop n x)) → take n x ++ replicate (length x - n) 0 ≡ x
refill zero x h t =
    let e : length x - zero ≡ length x = omega arith in
    ap (λ (k : ℕ). replicate k 0) e ∙ zero_rep x t
refill (suc n) [] h t = absurd (omega arith)
refill (suc n) (y ∷ ys) h t =
    let e : length (y ∷ ys) - suc n ≡ length ys - n = omega arith in
    ap (λ (l : List ℕ). y ∷ l) (ap (λ (k : ℕ). take n ys ++ replicate k 0) e ∙ refill n ys (omega arith) t)

pub record Again (p n : ℕ) (r : List ℕ) : Type 0 where
  pub number : length (used p n r) ≡ n
  pub places : padded (used p n r) ≡ slice p 8 r

pub again : (p n : ℕ) (r : List ℕ) → p + 8 ≤ length r → T (blanked p n r) → Again p n r
again p n r h t =
    let few : n ≤ 8 = leb→le n 8 (and_l (leb n 8) (zeros (drop n (slice p 8 r))) t) in
    let len : length (slice p 8 r) ≡ 8 = omega (arith, length-take 8 (drop p r), length-drop p r) in
    let num : length (used p n r) ≡ n = length-take-le n (slice p 8 r) (omega arith) in
    let gap : 8 - length (used p n r) ≡ length (slice p 8 r) - n = omega arith in
    record {
      number = num;
      places = ap (λ (k : ℕ). used p n r ++ replicate k 0) gap ∙ refill n (slice p 8 r) (omega arith) (and_r (leb n 8) (zeros (drop n (slice p 8 r))) t);
    }

pub length_pad : (l : List ℕ) → length l ≤ 8 → length (padded l) ≡ 8
length_pad l h = omega (arith, length-append l (replicate (8 - length l) 0), length-replicate {A = ℕ} (8 - length l) 0)

pub record Read (p n : ℕ) (r l : List ℕ) : Type 0 where
  pub same : used p n r ≡ l
  pub fits : T (blanked p n r)

pub read : (p n : ℕ) (r l : List ℕ) → n ≡ length l → length l ≤ 8 → slice p 8 r ≡ padded l → Read p n r l
read p n r l e h s =
    record {
      same = (λ i. take (e i) (s i)) ∙ take-append_seam l (replicate (8 - length l) 0);
      fits = and_i (leb n 8) (zeros (drop n (slice p 8 r))) (le→leb n 8 (omega arith))
          (subst (λ (x : List ℕ). T (zeros x)) (sym ((λ i. drop (e i) (s i)) ∙ drop-append_seam l (replicate (8 - length l) 0))) (rep_zero (8 - length l)));
    }

-- ---- two bytes

pub pair_two : (c a b : ℕ) → a ≤ 255 → a + 256 * b ≡ c → low_first c ≡ a ∷ b ∷ []
pair_two c a b h e = λ i. lo i ∷ hi i ∷ []
  where
    lo : c % 256 ≡ a
    lo = omega arith

    hi : c / 256 ≡ b
    hi = omega arith

pub two_pair : (c : ℕ) → (c % 256) + 256 * (c / 256) ≡ c
two_pair c = omega arith

-- ---- 33

whole_node : (r : List ℕ) → length r ≡ 30
    → get_or r 0 0 ∷ get_or r 1 0 ∷ get_or r 2 0 ∷ (slice 3 8 r ++ (get_or r 11 0 ∷ (slice 12 8 r ++ (slice 20 8 r ++ (get_or r 28 0 ∷ get_or r 29 0 ∷ []))))) ≡ r
whole_node r e =
    subst (λ (x : List ℕ). get_or x 0 0 ∷ get_or x 1 0 ∷ get_or x 2 0 ∷ (slice 3 8 x ++ (get_or x 11 0 ∷ (slice 12 8 x ++ (slice 20 8 x ++ (get_or x 28 0 ∷ get_or x 29 0 ∷ []))))) ≡ x)
    (spelled 30 r e) refl

pub node_again : (vs : ℕ → ℕ) (r : List ℕ) → T (node_laid r) → get_or r 0 0 ≡ 33 → get_or r 28 0 ≤ 255 → node_count r ≡ vs (node_of r).0
    → node_image vs (node_of r).0 (some (node_of r).1) ≡ r
node_again vs r t e0 small c = go (eqb→eq (length r) 30 (and_l (eqb (length r) 30) (rest1) t))
  where
    nb : ℕ
    nb = get_or r 2 0

    nk : ℕ
    nk = get_or r 11 0

    rest4 : Bool
    rest4 = all (λ o. leb o nb) (used 20 nk r)

    rest3 : Bool
    rest3 = blanked 20 nk r && rest4

    rest2 : Bool
    rest2 = blanked 12 nk r && rest3

    rest1 : Bool
    rest1 = blanked 3 nb r && rest2

    t1 : T rest1
    t1 = and_r (eqb (length r) 30) rest1 t

    t2 : T rest2
    t2 = and_r (blanked 3 nb r) rest2 t1

    t3 : T rest3
    t3 = and_r (blanked 12 nk r) rest3 t2

    go : length r ≡ 30 → node_image vs (node_of r).0 (some (node_of r).1) ≡ r
    go len =
        let b : Again 3 nb r = again 3 nb r (omega arith) (and_l (blanked 3 nb r) rest2 t1) in
        let k : Again 12 nk r = again 12 nk r (omega arith) (and_l (blanked 12 nk r) rest3 t2) in
        let o : Again 20 nk r = again 20 nk r (omega arith) (and_l (blanked 20 nk r) rest4 t3) in
        let w : low_first (vs (get_or r 1 0)) ≡ get_or r 28 0 ∷ get_or r 29 0 ∷ [] = pair_two (vs (get_or r 1 0)) (get_or r 28 0) (get_or r 29 0) small c in
        (λ i. sym e0 i ∷ get_or r 1 0 ∷ b.number i ∷ (b.places i ++ (k.number i ∷ (k.places i ++ (o.places i ++ w i)))))
        ∙ whole_node r len

pub record NodeParts (u nb nk : ℕ) (x y z w r : List ℕ) : Type 0 where
  pub buffers : slice 3 8 r ≡ x
  pub children : slice 12 8 r ≡ y
  pub offsets : slice 20 8 r ≡ z
  pub number : get_or r 11 0 ≡ nk
  pub low : get_or r 28 0 ≡ get_or w 0 0
  pub high : get_or r 29 0 ≡ get_or w 1 0
  pub long : length r ≡ 30

node_parts : (u nb nk : ℕ) (x y z w : List ℕ) → length x ≡ 8 → length y ≡ 8 → length z ≡ 8 → length w ≡ 2
    → NodeParts u nb nk x y z w (33 ∷ u ∷ nb ∷ (x ++ (nk ∷ (y ++ (z ++ w)))))
node_parts u nb nk x y z w ex ey ez ew =
    subst (λ (x : List ℕ). NodeParts u nb nk x y z w (33 ∷ u ∷ nb ∷ (x ++ (nk ∷ (y ++ (z ++ w)))))) (spelled 8 x ex)
    (subst (λ (y : List ℕ). NodeParts u nb nk (spell 8 x) y z w (33 ∷ u ∷ nb ∷ (spell 8 x ++ (nk ∷ (y ++ (z ++ w)))))) (spelled 8 y ey)
    (subst (λ (z : List ℕ). NodeParts u nb nk (spell 8 x) (spell 8 y) z w (33 ∷ u ∷ nb ∷ (spell 8 x ++ (nk ∷ (spell 8 y ++ (z ++ w)))))) (spelled 8 z ez)
    (subst (λ (w : List ℕ). NodeParts u nb nk (spell 8 x) (spell 8 y) (spell 8 z) w (33 ∷ u ∷ nb ∷ (spell 8 x ++ (nk ∷ (spell 8 y ++ (spell 8 z ++ w)))))) (spelled 2 w ew)
    (record { buffers = refl; children = refl; offsets = refl; number = refl; low = refl; high = refl; long = refl }))))

pub record NodeRead (vs : ℕ → ℕ) (u : ℕ) (n : Node) (r : List ℕ) : Type 0 where
  pub same : node_of r ≡ (u, n)
  pub shape : T (node_laid r)
  pub count : node_count r ≡ vs u
  pub long : length r ≡ 30

pub node_read_lem : (vs : ℕ → ℕ) (u : ℕ) (n : Node) → length n.buffers ≤ 8 → length n.children ≤ 8 → length n.offsets ≡ length n.children
    → T (all (λ o. leb o (length n.buffers)) n.offsets) → NodeRead vs u n (node_image vs u (some n))
node_read_lem vs u n hb hk ho hw =
    let r : List ℕ = node_image vs u (some n) in
    let p : NodeParts u (length n.buffers) (length n.children) (padded n.buffers) (padded n.children) (padded n.offsets) (low_first (vs u)) r =
    node_parts u (length n.buffers) (length n.children) (padded n.buffers) (padded n.children) (padded n.offsets) (low_first (vs u))
    (length_pad n.buffers hb) (length_pad n.children hk) (length_pad n.offsets (omega arith)) refl in
    let b : Read 3 (get_or r 2 0) r n.buffers = read 3 (get_or r 2 0) r n.buffers refl hb p.buffers in
    let k : Read 12 (get_or r 11 0) r n.children = read 12 (get_or r 11 0) r n.children p.number hk p.children in
    let o : Read 20 (get_or r 11 0) r n.offsets = read 20 (get_or r 11 0) r n.offsets (p.number ∙ sym ho) (omega arith) p.offsets in
    let w : T (all (λ o. leb o (length n.buffers)) (used 20 (get_or r 11 0) r)) = subst (λ (l : List ℕ). T (all (λ o. leb o (length n.buffers)) l)) (sym o.same) hw in
    record {
      same = λ i. (u, record { buffers = b.same i; children = k.same i; offsets = o.same i });
      shape = shaped r p.long b.fits k.fits o.fits w;
      count = omega (arith, p.low, p.high, two_pair (vs u));
      long = p.long;
    }
  where
    shaped : (r : List ℕ) → length r ≡ 30 → T (blanked 3 (get_or r 2 0) r) → T (blanked 12 (get_or r 11 0) r) → T (blanked 20 (get_or r 11 0) r)
        → T (all (λ o. leb o (get_or r 2 0)) (used 20 (get_or r 11 0) r)) → T (node_laid r)
    shaped r e a b c d =
        let r4 : Bool = all (λ o. leb o (get_or r 2 0)) (used 20 (get_or r 11 0) r) in
        let r3 : Bool = blanked 20 (get_or r 11 0) r && r4 in
        let r2 : Bool = blanked 12 (get_or r 11 0) r && r3 in
        and_i (eqb (length r) 30) (blanked 3 (get_or r 2 0) r && r2) (subst (λ (k : ℕ). T (eqb k 30)) (sym e) tt)
        (and_i (blanked 3 (get_or r 2 0) r) r2 a (and_i (blanked 12 (get_or r 11 0) r) r3 b (and_i (blanked 20 (get_or r 11 0) r) r4 c d)))

-- ---- 34

whole_branch : (r : List ℕ) → length r ≡ 12 → get_or r 0 0 ∷ get_or r 1 0 ∷ (slice 2 8 r ++ (get_or r 10 0 ∷ get_or r 11 0 ∷ [])) ≡ r
whole_branch r e = subst (λ (x : List ℕ). get_or x 0 0 ∷ get_or x 1 0 ∷ (slice 2 8 x ++ (get_or x 10 0 ∷ get_or x 11 0 ∷ [])) ≡ x) (spelled 12 r e) refl

pub branch_again : (bs : ℕ → ℕ) (r : List ℕ) → T (branch_laid r) → get_or r 0 0 ≡ 34 → get_or r 10 0 ≤ 255 → branch_count r ≡ bs (branch_of r).0
    → branch_image bs (branch_of r).0 (some (branch_of r).1) ≡ r
branch_again bs r t e0 small c =
    let n : ℕ = get_or r 1 0 in
    let len : length r ≡ 12 = eqb→eq (length r) 12 (and_l (eqb (length r) 12) (leb 1 n && blanked 2 n r) t) in
    let b : Again 2 n r = again 2 n r (omega arith) (and_r (leb 1 n) (blanked 2 n r) (and_r (eqb (length r) 12) (leb 1 n && blanked 2 n r) t)) in
    let w : low_first (bs (get_or r 2 0)) ≡ get_or r 10 0 ∷ get_or r 11 0 ∷ [] = pair_two (bs (get_or r 2 0)) (get_or r 10 0) (get_or r 11 0) small c in
    (λ i. sym e0 i ∷ b.number i ∷ (b.places i ++ w i)) ∙ whole_branch r len

pub record BranchParts (n : ℕ) (x w r : List ℕ) : Type 0 where
  pub units : slice 2 8 r ≡ x
  pub first : get_or r 2 0 ≡ get_or x 0 0
  pub low : get_or r 10 0 ≡ get_or w 0 0
  pub high : get_or r 11 0 ≡ get_or w 1 0
  pub long : length r ≡ 12

branch_parts : (n : ℕ) (x w : List ℕ) → length x ≡ 8 → length w ≡ 2 → BranchParts n x w (34 ∷ n ∷ (x ++ w))
branch_parts n x w ex ew =
    subst (λ (x : List ℕ). BranchParts n x w (34 ∷ n ∷ (x ++ w))) (spelled 8 x ex)
    (subst (λ (w : List ℕ). BranchParts n (spell 8 x) w (34 ∷ n ∷ (spell 8 x ++ w))) (spelled 2 w ew)
    (record { units = refl; first = refl; low = refl; high = refl; long = refl }))

pub record BranchRead (bs : ℕ → ℕ) (b : ℕ) (us r : List ℕ) : Type 0 where
  pub same : branch_of r ≡ (b, us)
  pub shape : T (branch_laid r)
  pub count : branch_count r ≡ bs b
  pub long : length r ≡ 12

pub branch_read_lem : (bs : ℕ → ℕ) (b : ℕ) (us : List ℕ) → 1 ≤ length us → length us ≤ 8 → get_or us 0 0 ≡ b → BranchRead bs b us (branch_image bs b (some us))
branch_read_lem bs b us h1 h8 hf =
    let r : List ℕ = branch_image bs b (some us) in
    let p : BranchParts (length us) (padded us) (low_first (bs b)) r = branch_parts (length us) (padded us) (low_first (bs b)) (length_pad us h8) refl in
    let u : Read 2 (get_or r 1 0) r us = read 2 (get_or r 1 0) r us refl h8 p.units in
    let f : get_or r 2 0 ≡ b = p.first ∙ (List·first us h1 ∙ hf) in
    record {
      same = λ i. (f i, u.same i);
      shape = and_i (eqb (length r) 12) (leb 1 (get_or r 1 0) && blanked 2 (get_or r 1 0) r) (subst (λ (k : ℕ). T (eqb k 12)) (sym p.long) tt) (and_i (leb 1 (get_or r 1 0)) (blanked 2 (get_or r 1 0) r) (le→leb 1 (length us) h1) u.fits);
      count = omega (arith, p.low, p.high, two_pair (bs b));
      long = p.long;
    }
  where
    List·first : (l : List ℕ) → 1 ≤ length l → get_or (padded l) 0 0 ≡ get_or l 0 0
    List·first [] h = absurd (omega arith)
    List·first (x ∷ xs) h = refl

-- ---- 35

whole_slot : (r : List ℕ) → length r ≡ 12 → get_or r 0 0 ∷ get_or r 1 0 ∷ get_or r 2 0 ∷ get_or r 3 0 ∷ slice 4 8 r ≡ r
whole_slot r e = subst (λ (x : List ℕ). get_or x 0 0 ∷ get_or x 1 0 ∷ get_or x 2 0 ∷ get_or x 3 0 ∷ slice 4 8 x ≡ x) (spelled 12 r e) refl

pub slot_again : (r : List ℕ) → T (slot_laid r) → get_or r 0 0 ≡ 35 → slot_image (slot_of r).0 (slot_of r).1 ≡ r
slot_again r t e0 =
    let n : ℕ = get_or r 3 0 in
    let t1 : T (leb 1 n && blanked 4 n r) = and_r state (leb 1 n && blanked 4 n r) (and_r (ltb (get_or r 1 0) slot_count) (state && (leb 1 n && blanked 4 n r)) (and_r (eqb (length r) 12) (ltb (get_or r 1 0) slot_count && (state && (leb 1 n && blanked 4 n r))) t)) in
    let st : T state = and_l state (leb 1 n && blanked 4 n r) (and_r (ltb (get_or r 1 0) slot_count) (state && (leb 1 n && blanked 4 n r)) (and_r (eqb (length r) 12) (ltb (get_or r 1 0) slot_count && (state && (leb 1 n && blanked 4 n r))) t)) in
    let len : length r ≡ 12 = eqb→eq (length r) 12 (and_l (eqb (length r) 12) (ltb (get_or r 1 0) slot_count && (state && (leb 1 n && blanked 4 n r))) t) in
    let a : Again 4 n r = again 4 n r (omega arith) (and_r (leb 1 n) (blanked 4 n r) t1) in
    go (eqb (get_or r 2 0) 1) refl st ∙ (λ i. sym e0 i ∷ get_or r 1 0 ∷ get_or r 2 0 ∷ a.number i ∷ a.places i) ∙ whole_slot r len
  where
    state : Bool
    state = eqb (get_or r 2 0) 1 || eqb (get_or r 2 0) 2

    us : List ℕ
    us = used 4 (get_or r 3 0) r

    go : (b : Bool) → eqb (get_or r 2 0) 1 ≡ b → T (b || eqb (get_or r 2 0) 2) → slot_image (get_or r 1 0) (cond b (opened us) (sealed us)) ≡ 35 ∷ get_or r 1 0 ∷ get_or r 2 0 ∷ length us ∷ padded us
    go true e q = ap (λ (k : ℕ). 35 ∷ get_or r 1 0 ∷ k ∷ length us ∷ padded us) (sym (eqb→eq (get_or r 2 0) 1 (subst (λ (b : Bool). T b) (sym e) tt)))
    go false e q = ap (λ (k : ℕ). 35 ∷ get_or r 1 0 ∷ k ∷ length us ∷ padded us) (sym (eqb→eq (get_or r 2 0) 2 q))

pub record SlotRead (k : ℕ) (x : Slot) (r : List ℕ) : Type 0 where
  pub same : slot_of r ≡ (k, x)
  pub shape : T (slot_laid r)
  pub long : length r ≡ 12

slot_read_lem : (k st : ℕ) (us : List ℕ) → k < slot_count → T (eqb st 1 || eqb st 2) → 1 ≤ length us → length us ≤ 8
    → let r : List ℕ = 35 ∷ k ∷ st ∷ length us ∷ padded us in Read 4 (length us) r us × T (slot_laid r) × (length r ≡ 12)
slot_read_lem k st us hk hs h1 h8 =
    let r : List ℕ = 35 ∷ k ∷ st ∷ length us ∷ padded us in
    let long : length r ≡ 12 = omega (arith, length_pad us h8) in
    let a : slice 4 8 r ≡ padded us = subst (λ (x : List ℕ). take 8 x ≡ x) (spelled 8 (padded us) (length_pad us h8)) refl in
    let u : Read 4 (length us) r us = read 4 (length us) r us refl h8 a in (
      u,
      and_i (eqb (length r) 12) (ltb k slot_count && ((eqb st 1 || eqb st 2) && (leb 1 (length us) && blanked 4 (length us) r))) (subst (λ (k : ℕ). T (eqb k 12)) (sym long) tt)
          (and_i (ltb k slot_count) ((eqb st 1 || eqb st 2) && (leb 1 (length us) && blanked 4 (length us) r)) (lt→ltb k slot_count hk)
          (and_i (eqb st 1 || eqb st 2) (leb 1 (length us) && blanked 4 (length us) r) hs
          (and_i (leb 1 (length us)) (blanked 4 (length us) r) (le→leb 1 (length us) h1) u.fits))),
      long,
    )

pub taken_read : (k : ℕ) (us : List ℕ) → k < slot_count → 1 ≤ length us → length us ≤ 8 → SlotRead k (opened us) (slot_image k (opened us))
taken_read k us hk h1 h8 = let p = slot_read_lem k 1 us hk tt h1 h8 in record { same = λ i. (k, opened (p.0.same i)); shape = p.1; long = p.2 }

pub sealed_read : (k : ℕ) (us : List ℕ) → k < slot_count → 1 ≤ length us → length us ≤ 8 → SlotRead k (sealed us) (slot_image k (sealed us))
sealed_read k us hk h1 h8 = let p = slot_read_lem k 2 us hk tt h1 h8 in record { same = λ i. (k, sealed (p.0.same i)); shape = p.1; long = p.2 }

-- ---- 36

abbrev pub input_image : ℕ → Option (List ℕ) → List ℕ
input_image k none = []
input_image k (some us) = 36 ∷ k ∷ length us ∷ padded us

whole_input : (r : List ℕ) → length r ≡ 11 → get_or r 0 0 ∷ get_or r 1 0 ∷ get_or r 2 0 ∷ slice 3 8 r ≡ r
whole_input r e = subst (λ (x : List ℕ). get_or x 0 0 ∷ get_or x 1 0 ∷ get_or x 2 0 ∷ slice 3 8 x ≡ x) (spelled 11 r e) refl

pub input_again : (r : List ℕ) → T (input_laid r) → get_or r 0 0 ≡ 36 → input_image (input_of r).0 (some (input_of r).1) ≡ r
input_again r t e0 =
    let n : ℕ = get_or r 2 0 in
    let t1 : T (leb 1 n && blanked 3 n r) = and_r (ltb (get_or r 1 0) slot_count) (leb 1 n && blanked 3 n r) (and_r (eqb (length r) 11) (ltb (get_or r 1 0) slot_count && (leb 1 n && blanked 3 n r)) t) in
    let len : length r ≡ 11 = eqb→eq (length r) 11 (and_l (eqb (length r) 11) (ltb (get_or r 1 0) slot_count && (leb 1 n && blanked 3 n r)) t) in
    let a : Again 3 n r = again 3 n r (omega arith) (and_r (leb 1 n) (blanked 3 n r) t1) in
    (λ i. sym e0 i ∷ get_or r 1 0 ∷ a.number i ∷ a.places i) ∙ whole_input r len

pub record InputRead (k : ℕ) (us r : List ℕ) : Type 0 where
  pub same : input_of r ≡ (k, us)
  pub shape : T (input_laid r)
  pub long : length r ≡ 11

pub input_read_lem : (k : ℕ) (us : List ℕ) → k < slot_count → 1 ≤ length us → length us ≤ 8 → InputRead k us (input_image k (some us))
input_read_lem k us hk h1 h8 =
    let r : List ℕ = input_image k (some us) in
    let long : length r ≡ 11 = omega (arith, length_pad us h8) in
    let a : slice 3 8 r ≡ padded us = subst (λ (x : List ℕ). take 8 x ≡ x) (spelled 8 (padded us) (length_pad us h8)) refl in
    let u : Read 3 (length us) r us = read 3 (length us) r us refl h8 a in
    record {
      same = λ i. (k, u.same i);
      shape = and_i (eqb (length r) 11) (ltb k slot_count && (leb 1 (length us) && blanked 3 (length us) r)) (subst (λ (k : ℕ). T (eqb k 11)) (sym long) tt)
          (and_i (ltb k slot_count) (leb 1 (length us) && blanked 3 (length us) r) (lt→ltb k slot_count hk) (and_i (leb 1 (length us)) (blanked 3 (length us) r) (le→leb 1 (length us) h1) u.fits));
      long = long;
    }
