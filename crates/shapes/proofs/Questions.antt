-- What code asks of nodes of the rules is what the rules ask: lines 7, 8 and 9 of the table. Assumes nothing.
use mathlib.Core.Bool.{Bool, true, false, ◌&&◌, cond, and-true, and-false}
use mathlib.Core.Path.{◌≡◌, refl, ap, sym, ◌∙◌}
use mathlib.Core.List.{List, [], ◌∷◌, ◌++◌, map}
use Prim.Native.Nat.{ℕ, zero, suc, ◌+◌, ◌-◌, ◌≤◌, ◌<◌}
use native.Mathlib.Omega.{arith}
use lib.Dec.{eqb, leb, ltb}
use lib.ListN.{length, get_or, take, drop, length-append, length-drop, length-set}
use lib.Seq.{get_or-drop, length-take-le}
use Rattle.std.specs.List.{list_all, zip}
use borrow.Author.Tests.{eqb-true, eqb-false, le-leb}
use Rattle.ways.specs.Ways.{top}
use Rattle.rules.specs.Tables.{all, eqs, range, slice}
use Rattle.rules.specs.Store.{Node, Store, node_at}
use Rattle.rules.specs.Steps.{small, copies, flushed_offsets, split_ends, flush_ends, commit_ends}
use Rattle.records.specs.Rows.{eight}
use Rattle.counting.specs.Nodes.{coded}
use Rattle.eights.specs.Eights.{replaced}
use Rattle.eights.proofs.Places.{eight_alike, eight_take, eight_all, replaced_eight, replaced_back, replaced_set}
use Rattle.shapes.specs.Ends.{Fits, buffer_last, over_root, child_set, split_left, split_right, flush_target, commit_target}
use Rattle.shapes.specs.Questions.{split_share_fits, gc_fits, part_fits, part_is, room_for_buffer, room_for_child, flush_room}
use Rattle.shapes.proofs.Shapes.{offset_coded}

-- ---- 7

pub split_share : (m : Node) (a : ℕ) → split_share_fits (coded m) a ≡ cond (eqb (length m.children) 0) (eqb a 0) (leb 1 a && ltb a (length m.children))
unfolding split_share_fits
split_share m a = refl

pub gc_fits_lem : (n : Node) → Fits n → (c gc : ℕ) → c < length n.children → gc_fits (coded n) c gc ≡ all (λ o. leb gc o) (flushed_offsets n c) && leb gc (length n.buffers)
unfolding gc_fits
gc_fits_lem n f c gc h =
    let b : ℕ = length n.buffers in
    let os : List ℕ = flushed_offsets n c in
    let p : c < length n.offsets = omega (arith, f.paired) in
    let e : eight (replaced (eight n.offsets) c 1 (b ∷ [])) ≡ eight os
    = replaced_eight n.offsets c 1 (b ∷ []) (omega (arith, f.paired, f.few_children)) (omega arith) ∙ ap eight (replaced_set n.offsets c b p) in
    let k : length os ≡ length n.children = length-set n.offsets c b ∙ f.paired in
    rw (e, ← k, eight_all os (omega (arith, f.few_children)))

pub part_fits_lem : (n : Node) (a e : ℕ) → part_fits (coded n) a e ≡ ltb a e && leb e (length n.buffers)
unfolding part_fits
part_fits_lem n a e = refl

-- ---- 8

differ : (x y : List ℕ) → (length x ≡ length y → ⊥) → eqs x y ≡ false
differ [] [] d = absurd (d refl)
differ [] (b ∷ y) d = refl
differ (a ∷ x) [] d = refl
differ (a ∷ x) (b ∷ y) d = rw (differ x y (λ e. d (ap suc e))) (and-false (eqb a b))

-- n places from k on, asked beside those of ys one after another
each_zip : (l xs ys : List ℕ) (n k : ℕ) → length xs ≡ length ys → ((j : ℕ) → get_or l (k + j) 0 ≡ get_or xs j 0)
    → list_all (λ (p : ℕ × ℕ). eqb (get_or l p.0 0) p.1) (zip (range n k) ys) ≡ eqs (take n xs) (take n ys)
each_zip l xs ys zero k h g = refl
each_zip l [] [] (suc n) k h g = refl
each_zip l [] (y ∷ ys) (suc n) k h g = absurd (omega (arith, h))
each_zip l (x ∷ xs) [] (suc n) k h g = absurd (omega (arith, h))
each_zip l (x ∷ xs) (y ∷ ys) (suc n) k h g =
    let e : get_or l k 0 ≡ x = ap (λ (j : ℕ). get_or l j 0) (omega arith) ∙ g 0 in
    rw e (ap (λ t. eqb x y && t) (each_zip l xs ys n (suc k) (omega (arith, h)) (λ j. ap (λ (i : ℕ). get_or l i 0) (omega arith) ∙ g (suc j))))

pub part_each : (l input : List ℕ) (a n : ℕ) → length l ≡ 8 → length input ≡ 8
    → list_all (λ (p : ℕ × ℕ). eqb (get_or l p.0 0) p.1) (zip (range n a) input) ≡ eqs (take n (eight (replaced l 0 a []))) (take n input)
part_each l input a n h k =
    rw (replaced_back l a)
    (each_zip l (eight (drop a l)) input n a (sym k) (λ j. sym (eight_alike (drop a l) (omega (arith, length-drop a l, h)) j ∙ get_or-drop a l j 0)))

pub part_is_lem : (n : Node) → Fits n → (a e : ℕ) (input : List ℕ) → e ≤ length n.buffers → length input ≤ 8 → part_is (coded n) a e (length input) (eight input) ≡ eqs (slice a (e - a) n.buffers) input
unfolding part_is
part_is_lem n f a e input h k = go (eqb (e - a) (length input)) refl
  where
    part : eight (replaced (eight n.buffers) 0 a []) ≡ eight (drop a n.buffers)
    part = replaced_eight n.buffers 0 a [] f.few_buffers (omega arith) ∙ ap eight (replaced_back n.buffers a)

    go : (t : Bool) → eqb (e - a) (length input) ≡ t → t && eqs (take (length input) (eight (replaced (eight n.buffers) 0 a []))) (take (length input) (eight input)) ≡ eqs (slice a (e - a) n.buffers) input
    go true q =
        let w : e - a ≡ length input = eqb-true (e - a) (length input) q in
        rw (part, w, eight_all input k, eight_take (drop a n.buffers) (length input) (omega (arith, length-drop a n.buffers, f.few_buffers)) (omega (arith, length-drop a n.buffers)))
    go false q =
        sym (differ (slice a (e - a) n.buffers) input (λ w. eqb-false (e - a) (length input) q (sym (length-take-le (e - a) (drop a n.buffers) (omega (arith, length-drop a n.buffers))) ∙ w)))

-- ---- 9

fitting : (u : ℕ) (n : Node) → length n.buffers ≤ 8 → length n.children ≤ 8 → small (u, n) ≡ true
fitting u n p q = rw (le-leb (length n.buffers) 8 p, le-leb (length n.children) 8 q)

-- the copies on a path are as large as the nodes
pub copies_small : (s : Store) → ((u : ℕ) → Fits (node_at s u)) → (p fs : List ℕ) (u t : ℕ) (es : List (ℕ × Node)) → all small (copies s p fs u t ++ es) ≡ all small es
copies_small s h [] fs u t es = refl
copies_small s h (i ∷ p) [] u t es = refl
copies_small s h (i ∷ p) (x ∷ fs) u t es =
    rw (fitting x (child_set (node_at s u) i (top fs t)) (h u).few_buffers (rw length-set (h u).few_children))
    (copies_small s h p fs (get_or (node_at s u).children i 0) t es)

pub grow_small : (r u : ℕ) → all small ((r, over_root u) ∷ []) ≡ true
grow_small r u = go (eqb u 0)
  where
    go : (t : Bool) → all small ((r, record { buffers = []; children = cond t [] (u ∷ []); offsets = map (λ u. 0) (cond t [] (u ∷ [])) }) ∷ []) ≡ true
    go true = refl
    go false = refl

module _ (n : Node) (f : Fits n) where
  pub room_for_buffer_lem : (r b : ℕ) → all small ((r, buffer_last n b) ∷ []) ≡ room_for_buffer (coded n)
  room_for_buffer_lem r b =
      let e : length (n.buffers ++ (b ∷ [])) ≡ suc (length n.buffers) = omega (arith, length-append n.buffers (b ∷ [])) in
      rw (e, le-leb (length n.children) 8 f.few_children, and-true (ltb (length n.buffers) 8)) (and-true (ltb (length n.buffers) 8))

  pub commit_small : (a e b u : ℕ) → a < e → e ≤ length n.buffers → all small (commit_ends n a e b u) ≡ true
  commit_small a e b u p q =
      let w : length (take a n.buffers ++ (b ∷ drop e n.buffers)) ≤ 8
      = omega (arith, length-append (take a n.buffers) (b ∷ drop e n.buffers), length-take-le a n.buffers (omega arith), length-drop e n.buffers, f.few_buffers) in
      rw (fitting u (commit_target n a e b) w f.few_children)

  pub room_for_child_lem : (m : Node) → Fits m → (c a u l r : ℕ) → c < length n.children → a ≤ length m.children → all small (split_ends n m c a u l r) ≡ room_for_child (coded n)
  room_for_child_lem m g c a u l r p q =
      let ch : List ℕ = n.children in
      let e : length (take c ch ++ (l ∷ r ∷ drop (suc c) ch)) ≡ suc (length ch)
      = omega (arith, length-append (take c ch) (l ∷ r ∷ drop (suc c) ch), length-take-le c ch (omega arith), length-drop (suc c) ch) in
      rw (
        le-leb (length n.buffers) 8 f.few_buffers,
        e,
        fitting l (split_left m a) g.few_buffers (omega (arith, length-take-le a m.children q, g.few_children)),
        fitting r (split_right m a) g.few_buffers (omega (arith, length-drop a m.children, g.few_children)),
      )
      (and-true (ltb (length ch) 8))

  pub flush_room_lem : (m : Node) → Fits m → (c gc u v : ℕ) → all small (flush_ends n m c gc u v) ≡ flush_room (coded n) (coded m) c
  flush_room_lem m g c gc u v =
      let o : ℕ = get_or n.offsets c 0 in
      let e : length (m.buffers ++ drop o n.buffers) ≡ length m.buffers + (length n.buffers - o) = omega (arith, length-append m.buffers (drop o n.buffers), length-drop o n.buffers) in
      let k : Bool = leb (length m.buffers + (length n.buffers - o)) 8 in
      rw (
        fitting u (flush_target n c gc v) (omega (arith, length-drop gc n.buffers, f.few_buffers)) (omega (arith, length-set n.children c v, f.few_children)),
        offset_coded n f c,
        e,
        le-leb (length m.children) 8 g.few_children,
        and-true k,
      )
      (and-true k)
