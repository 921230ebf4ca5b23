-- What is accepted is right, and is what the writer writes for it. Assumes nothing.
use mathlib.Core.Path.{◌≡◌, refl, sym, ap, ap₂, ◌∙◌, subst}
use mathlib.Core.Bool.{Bool, true, false, ◌||◌, ◌&&◌, cond}
use mathlib.Core.Logic.{⊎_elim}
use mathlib.Core.List.{List, [], ◌∷◌, ◌++◌, map, append-nil}
use mathlib.Core.Option.{Option, none, some}
use Prim.Native.Nat.{ℕ, zero, suc, ◌+◌, ◌≤◌, ◌<◌}
use native.Mathlib.Omega.{arith}
use lib.Dec.{T, eqb, leb, ltb, eqb_refl, eqb→eq, leb→le, le→leb, ltb→lt, lt→ltb}
use lib.ListN.{length, get_or, take, drop, take-append-drop}
use lib.Seq.{get_or-take, get_or-drop}
use Rattle.units.specs.Limits.{slot_count}
use Rattle.ways.specs.Ways.{sums, deep, flat, has}
use Rattle.rules.specs.Tables.{all, keys, range, times, joined, is_some, or_else, distinct, slice, rising, find}
use Rattle.rules.specs.Store.{units, Node, Slot, empty, opened, sealed, Store, children_of, units_of, slot_units, roots, owned, places, ways, reached, alive, in_use}
use Rattle.right.specs.Ledger.{node_units}
use Rattle.rules.specs.Steps.{accepted}
use Rattle.rules.specs.Images.{node_image, branch_image, slot_image, slot_images, input_images, image}
use Rattle.rules.specs.Right.{NodeOk, BranchOk, slot_ok, Sound, Right}
use Rattle.ways.proofs.Tests.{eq→T, and_l, and_r, and_i, or_e, or_l, or_r}
use Rattle.ways.proofs.Members.{has_left, has_right}
use Rattle.right.proofs.Tables.{all_in, distinct_once}
use Rattle.right.proofs.Lists.{all_right, all_get}
use Rattle.right.proofs.Ledger.{has_at, some_of_lem}
use Rattle.right.proofs.Prune.{not_seen}
use Rattle.right.proofs.Steps.{need_ok}
use Rattle.rules.specs.Loads.{Cutting, Cut, leading, cut, used, blanked, node_of, node_laid, node_count, branch_of, branch_laid, branch_count, slot_of, slot_laid, input_of, input_laid, nodes_in, branches_in, slots_in, inputs_in, built, every, lines, is_node, is_branch, names, laid, claims, owned_once, named, shallow, countable, all_held, counts_agree, judge, load}
use Rattle.images.proofs.Listing.{all_and, to_map, entries, flat_entries, entries_find, found, joint, lead_joint, lead_heads}
use Rattle.images.proofs.Record.{spelled, Again, again, node_again, branch_again, slot_again, input_image, input_again}

-- ---- tests

pub nth : (ts : List Bool) (i : ℕ) → T (every ts) → T (get_or ts i true)
nth [] i t = tt
nth (x ∷ xs) zero t = and_l x (every xs) t
nth (x ∷ xs) (suc i) t = nth xs i (and_r x (every xs) t)

pub all_left : {A : Type 0} (f : A → Bool) (xs ys : List A) → T (all f (xs ++ ys)) → T (all f xs)
all_left f [] ys a = tt
all_left f (x ∷ xs) ys a = and_i (f x) (all f xs) (and_l (f x) (all f (xs ++ ys)) a) (all_left f xs ys (and_r (f x) (all f (xs ++ ys)) a))

pub all_joint : (f : ℕ → Bool) (rs : List (List ℕ)) → T (all f (joint rs)) → T (all (λ r. all f r) rs)
all_joint f [] a = tt
all_joint f (r ∷ rs) a = and_i (all f r) (all (λ r. all f r) rs) (all_left f r (joint rs) a) (all_joint f rs (all_right f r (joint rs) a))

pub rising_from : (lo : ℕ) (ks : List ℕ) → T (rising 0 ks) → T (all (λ k. leb lo k) ks) → T (rising lo ks)
rising_from lo [] r a = tt
rising_from lo (k ∷ ks) r a = and_i (leb lo k) (rising (suc k) ks) (and_l (leb lo k) (all (λ k. leb lo k) ks) a) (and_r (leb 0 k) (rising (suc k) ks) r)

pub all_has : (f : ℕ → Bool) (l : List ℕ) → ((x : ℕ) → T (has x l) → T (f x)) → T (all f l)
all_has f [] h = tt
all_has f (x ∷ xs) h = and_i (f x) (all f xs) (h x (or_l (eqb x x) (has x xs) (eqb_refl x))) (all_has f xs (λ y t. h y (or_r (eqb x y) (has y xs) t)))

-- ---- entries read from records

module _ {A : Type 0} (g : List ℕ → ℕ × A) where
  pub found_record : (f : List ℕ → Bool) (rs : List (List ℕ)) → T (all f rs) → (v : ℕ) (a : A) → find (map g rs) v ≡ some a → (r : List ℕ) × T (f r) × (g r ≡ (v, a))
  found_record f [] t v a e = absurd (subst (λ (o : Option A). T (is_some o)) (sym e) tt)
  found_record f (r ∷ rs) t v a e = go (eqb v (g r).0) refl e (found_record f rs (and_r (f r) (all f rs) t) v a)
    where
      go : (b : Bool) → eqb v (g r).0 ≡ b → cond b (some (g r).1) (find (map g rs) v) ≡ some a
          → (find (map g rs) v ≡ some a → (r : List ℕ) × T (f r) × (g r ≡ (v, a))) → (r : List ℕ) × T (f r) × (g r ≡ (v, a))
      go true q e ih =
          let z : v ≡ (g r).0 = eqb→eq v (g r).0 (eq→T (eqb v (g r).0) q) in
          let y : (g r).1 ≡ a = cc in
          (r, and_l (f r) (all f rs) t, λ i. (sym z i, y i))
      go false q e ih = ih e

  pub joined_again : (p : ℕ × A → List ℕ) (f : List ℕ → Bool) → ((r : List ℕ) → T (f r) → p (g r) ≡ r) → (rs : List (List ℕ)) → T (all f rs) → joined p (map g rs) ≡ joint rs
  joined_again p f h [] t = refl
  joined_again p f h (r ∷ rs) t = ap₂ (λ (a b : List ℕ). a ++ b) (h r (and_l (f r) (all f rs) t)) (joined_again p f h rs (and_r (f r) (all f rs) t))

pub joined_keys : {A : Type 0} (es : List (ℕ × A)) → joined (λ e. e.0 ∷ []) es ≡ keys es
joined_keys [] = refl
joined_keys (e ∷ es) = ap (λ (l : List ℕ). e.0 ∷ l) (joined_keys es)

-- ---- what a record's shape says of what is read

pub record Node8 (n : Node) : Type 0 where
  pub few_buffers : length n.buffers ≤ 8
  pub few_children : length n.children ≤ 8
  pub paired : length n.offsets ≡ length n.children
  pub within : T (all (λ o. leb o (length n.buffers)) n.offsets)

at_most : (p n : ℕ) (r : List ℕ) → T (blanked p n r) → n ≤ 8
at_most p n r t = leb→le n 8 (and_l (leb n 8) _ t)

pub node_shape : (r : List ℕ) → T (node_laid r) → Node8 (node_of r).1
node_shape r t =
    let nb : ℕ = get_or r 2 0 in
    let nk : ℕ = get_or r 11 0 in
    let r4 : Bool = all (λ o. leb o nb) (used 20 nk r) in
    let r3 : Bool = blanked 20 nk r && r4 in
    let r2 : Bool = blanked 12 nk r && r3 in
    let r1 : Bool = blanked 3 nb r && r2 in
    let len : length r ≡ 30 = eqb→eq (length r) 30 (and_l (eqb (length r) 30) r1 t) in
    let t1 : T r1 = and_r (eqb (length r) 30) r1 t in
    let t2 : T r2 = and_r (blanked 3 nb r) r2 t1 in
    let t3 : T r3 = and_r (blanked 12 nk r) r3 t2 in
    let b : Again 3 nb r = again 3 nb r (omega arith) (and_l (blanked 3 nb r) r2 t1) in
    let k : Again 12 nk r = again 12 nk r (omega arith) (and_l (blanked 12 nk r) r3 t2) in
    let o : Again 20 nk r = again 20 nk r (omega arith) (and_l (blanked 20 nk r) r4 t3) in
    record {
      few_buffers = omega (arith, b.number, at_most 3 nb r (and_l (blanked 3 nb r) r2 t1));
      few_children = omega (arith, k.number, at_most 12 nk r (and_l (blanked 12 nk r) r3 t2));
      paired = omega (arith, k.number, o.number);
      within = subst (λ (m : ℕ). T (all (λ o. leb o m) (used 20 nk r))) (sym b.number) (and_r (blanked 20 nk r) r4 t3);
    }

pub branch_shape : (r : List ℕ) → T (branch_laid r) → BranchOk (branch_of r).0 (branch_of r).1
branch_shape r t =
    let n : ℕ = get_or r 1 0 in
    let len : length r ≡ 12 = eqb→eq (length r) 12 (and_l (eqb (length r) 12) (leb 1 n && blanked 2 n r) t) in
    let t1 : T (leb 1 n && blanked 2 n r) = and_r (eqb (length r) 12) (leb 1 n && blanked 2 n r) t in
    let t2 : T (blanked 2 n r) = and_r (leb 1 n) (blanked 2 n r) t1 in
    let least : 1 ≤ n = leb→le 1 n (and_l (leb 1 n) (blanked 2 n r) t1) in
    let b : Again 2 n r = again 2 n r (omega arith) t2 in
    record {
      least = omega (arith, b.number);
      most = omega (arith, b.number, at_most 2 n r t2);
      first = get_or-take n (slice 2 8 r) 0 0 least ∙ get_or-take 8 (drop 2 r) 0 0 (omega arith) ∙ get_or-drop 2 r 0 0;
    }

pub record Small (k : ℕ) (us : List ℕ) : Type 0 where
  pub key : k < slot_count
  pub least : 1 ≤ length us
  pub most : length us ≤ 8

small_of : (p k n : ℕ) (r : List ℕ) → p + 8 ≤ length r → k < slot_count → T (leb 1 n && blanked p n r) → Small k (used p n r)
small_of p k n r h hk t =
    let t2 : T (blanked p n r) = and_r (leb 1 n) (blanked p n r) t in
    let b : Again p n r = again p n r h t2 in
    record { key = hk; least = omega (arith, b.number, leb→le 1 n (and_l (leb 1 n) (blanked p n r) t)); most = omega (arith, b.number, at_most p n r t2) }

pub slot_shape : (r : List ℕ) → T (slot_laid r) → Small (slot_of r).0 (slot_units (slot_of r).1)
slot_shape r t =
    let n : ℕ = get_or r 3 0 in
    let r3 : Bool = leb 1 n && blanked 4 n r in
    let st : Bool = eqb (get_or r 2 0) 1 || eqb (get_or r 2 0) 2 in
    let r1 : Bool = ltb (get_or r 1 0) slot_count && (st && r3) in
    let len : length r ≡ 12 = eqb→eq (length r) 12 (and_l (eqb (length r) 12) r1 t) in
    let t1 : T r1 = and_r (eqb (length r) 12) r1 t in
    go (eqb (get_or r 2 0) 1)
    (small_of 4 (get_or r 1 0) n r (omega arith) (ltb→lt (get_or r 1 0) slot_count (and_l (ltb (get_or r 1 0) slot_count) (st && r3) t1)) (and_r st r3 (and_r (ltb (get_or r 1 0) slot_count) (st && r3) t1)))
  where
    us : List ℕ
    us = used 4 (get_or r 3 0) r

    go : (b : Bool) → Small (get_or r 1 0) us → Small (get_or r 1 0) (slot_units (cond b (opened us) (sealed us)))
    go true x = x
    go false x = x

pub input_shape : (r : List ℕ) → T (input_laid r) → Small (input_of r).0 (input_of r).1
input_shape r t =
    let n : ℕ = get_or r 2 0 in
    let r3 : Bool = leb 1 n && blanked 3 n r in
    let r1 : Bool = ltb (get_or r 1 0) slot_count && r3 in
    let len : length r ≡ 11 = eqb→eq (length r) 11 (and_l (eqb (length r) 11) r1 t) in
    let t1 : T r1 = and_r (eqb (length r) 11) r1 t in
    small_of 3 (get_or r 1 0) n r (omega arith) (ltb→lt (get_or r 1 0) slot_count (and_l (ltb (get_or r 1 0) slot_count) r3 t1)) (and_r (ltb (get_or r 1 0) slot_count) r3 t1)

-- ---- the cut's parts

pub record Whole (b : List ℕ) (c : Cut) : Type 0 where
  pub parts : c.root ++ (joint c.nodes ++ (joint c.branches ++ (joint c.slots ++ (joint c.inputs ++ c.rest)))) ≡ b
  pub nodes : T (all (λ r. eqb (get_or r 0 0) 33) c.nodes)
  pub branches : T (all (λ r. eqb (get_or r 0 0) 34) c.branches)
  pub slots : T (all (λ r. eqb (get_or r 0 0) 35) c.slots)
  pub inputs : T (all (λ r. eqb (get_or r 0 0) 36) c.inputs)

pub cut_whole : (b : List ℕ) → Whole b (cut b)
unfolding cut
cut_whole b =
    let f : ℕ = length b in
    let n : Cutting = leading 33 30 f (drop 2 b) in
    let r : Cutting = leading 34 12 f n.1 in
    let s : Cutting = leading 35 12 f r.1 in
    let i : Cutting = leading 36 11 f s.1 in
    record {
      parts =
          ap (λ (x : List ℕ). take 2 b ++ (joint n.0 ++ (joint r.0 ++ (joint s.0 ++ x)))) (lead_joint 36 11 f s.1)
          ∙ ap (λ (x : List ℕ). take 2 b ++ (joint n.0 ++ (joint r.0 ++ x))) (lead_joint 35 12 f r.1)
          ∙ ap (λ (x : List ℕ). take 2 b ++ (joint n.0 ++ x)) (lead_joint 34 12 f n.1)
          ∙ ap (λ (x : List ℕ). take 2 b ++ x) (lead_joint 33 30 f (drop 2 b))
          ∙ take-append-drop 2 b;
      nodes = lead_heads 33 29 f (drop 2 b);
      branches = lead_heads 34 11 f n.1;
      slots = lead_heads 35 11 f r.1;
      inputs = lead_heads 36 10 f s.1;
    }

-- ---- tables over the units and over the slots

module _ {A : Type 0} (es : List (ℕ × A)) (up : T (rising 0 (keys es))) where
  pub unit_entries : ((u : ℕ) → T (has u (keys es)) → (1 ≤ u) × (u ≤ 255)) → entries (find es) units ≡ es
  unfolding units
  unit_entries h =
      entries_find 255 1 256 es (omega arith) (rising_from 1 (keys es) up (all_has (λ k. leb 1 k) (keys es) (λ u t. le→leb 1 u (h u t).0)))
      (all_has (λ v. ltb v 256) (keys es) (λ u t. lt→ltb u 256 (omega (arith, (h u t).1))))

  pub slot_entries : ((u : ℕ) → T (has u (keys es)) → u < slot_count) → entries (find es) (range 4 0) ≡ es
  slot_entries h = entries_find 4 0 4 es (omega arith) up (all_has (λ v. ltb v 4) (keys es) (λ u t. lt→ltb u 4 (omega (arith, h u t))))

  pub found_key : (v : ℕ) → T (is_some (find es v)) → T (has v (keys es))
  found_key v t = let p = some_of_lem (find es v) t in (found (λ e. true) es (yes es) v p.0 p.1).1
    where
      yes : (l : List (ℕ × A)) → T (all (λ e. true) l)
      yes [] = tt
      yes (x ∷ xs) = yes xs

pub keys_small : {A : Type 0} (g : List ℕ → ℕ × A) (f : List ℕ → Bool) → ((r : List ℕ) → T (f r) → (g r).0 < slot_count) → (rs : List (List ℕ)) → T (all f rs) → (u : ℕ) → T (has u (keys (map g rs))) → u < slot_count
keys_small g f h [] t u k = absurd k
keys_small g f h (r ∷ rs) t u k =
    ⊎_elim
    (λ (q : T (eqb (g r).0 u)). omega (arith, eqb→eq (g r).0 u q, h r (and_l (f r) (all f rs) t)))
    (λ (q : T (has u (keys (map g rs)))). keys_small g f h rs (and_r (f r) (all f rs) t) u q)
    (or_e (eqb (g r).0 u) (has u (keys (map g rs))) k)

pub joined_map : {A : Type 0} (f : A → List ℕ) (h : ℕ → A) (l : List ℕ) → joined f (map h l) ≡ flat (λ k. f (h k)) l
joined_map f h [] = refl
joined_map f h (x ∷ xs) = ap (λ (r : List ℕ). f (h x) ++ r) (joined_map f h xs)

pub root_claimed : (rs : List (List ℕ)) → T (all branch_laid rs) → (b : ℕ) → T (has b (keys (map branch_of rs))) → T (has b (joined (λ e. e.1) (map branch_of rs)))
root_claimed [] t b k = absurd k
root_claimed (r ∷ rs) t b k =
    ⊎_elim
    (λ (q : T (eqb (branch_of r).0 b)).
    let o : BranchOk (branch_of r).0 (branch_of r).1 = branch_shape r (and_l (branch_laid r) (all branch_laid rs) t) in
    has_left b (branch_of r).1 (joined (λ e. e.1) (map branch_of rs))
    (subst (λ (k : ℕ). T (has k (branch_of r).1)) (o.first ∙ eqb→eq (branch_of r).0 b q) (has_at (branch_of r).1 0 o.least)))
    (λ (q : T (has b (keys (map branch_of rs)))). has_right b (branch_of r).1 (joined (λ e. e.1) (map branch_of rs)) (root_claimed rs (and_r (branch_laid r) (all branch_laid rs) t) b q))
    (or_e (eqb (branch_of r).0 b) (has b (keys (map branch_of rs))) k)

-- ---- 21 and 22

module _ (b : List ℕ) (c : Cut) (l : T (laid b c)) (one : T (owned_once c)) where
  pub unit_of_lem : (u : ℕ) → T (has u (claims c)) → (1 ≤ u) × (u ≤ 255)
  unfolding owned_once
  unit_of_lem u t =
      let x = all_in (λ u. leb 1 u && leb u 255) (claims c) u (and_l (all (λ u. leb 1 u && leb u 255) (claims c)) (distinct (claims c)) one) t in
      (leb→le 1 u (and_l (leb 1 u) (leb u 255) x), leb→le u 255 (and_r (leb 1 u) (leb u 255) x))

  pub node_key : (u : ℕ) → T (has u (keys (nodes_in c))) → (1 ≤ u) × (u ≤ 255)
  unfolding claims
  node_key u t = unit_of_lem u (has_left u (keys (nodes_in c)) (joined (λ e. e.1) (branches_in c) ++ joined (λ e. slot_units e.1) (slots_in c)) t)

  pub branch_key : (u : ℕ) → T (has u (keys (branches_in c))) → (1 ≤ u) × (u ≤ 255)
  unfolding claims laid
  branch_key u t =
      unit_of_lem u (has_right u (keys (nodes_in c)) (joined (λ e. e.1) (branches_in c) ++ joined (λ e. slot_units e.1) (slots_in c))
      (has_left u (joined (λ e. e.1) (branches_in c)) (joined (λ e. slot_units e.1) (slots_in c)) (root_claimed c.branches (nth (lines b c) 5 l) u t)))

  pub nodes_list : entries (find (nodes_in c)) units ≡ nodes_in c
  unfolding laid
  nodes_list = unit_entries (nodes_in c) (nth (lines b c) 8 l) node_key

  pub branches_list : entries (find (branches_in c)) units ≡ branches_in c
  unfolding laid
  branches_list = unit_entries (branches_in c) (nth (lines b c) 9 l) branch_key

  pub slots_list : entries (find (slots_in c)) (range 4 0) ≡ slots_in c
  unfolding laid
  slots_list = slot_entries (slots_in c) (nth (lines b c) 10 l) (keys_small slot_of slot_laid (λ r t. (slot_shape r t).key) c.slots (nth (lines b c) 6 l))

  pub inputs_list : entries (find (inputs_in c)) (range 4 0) ≡ inputs_in c
  unfolding laid
  inputs_list = slot_entries (inputs_in c) (nth (lines b c) 11 l) (keys_small input_of input_laid (λ r t. (input_shape r t).key) c.inputs (nth (lines b c) 7 l))

  -- what the store owns is what the records claim
  pub owned_claims : owned (built c) ≡ claims c
  unfolding owned built claims
  owned_claims = λ i. ns i ++ (bs i ++ ss i)
    where
      ns : flat (node_units (built c)) units ≡ keys (nodes_in c)
      ns =
          flat_entries (λ u o. cond (is_some o) (u ∷ []) []) (λ u. refl) (find (nodes_in c)) units
          ∙ ap (λ (es : List (ℕ × Node)). joined (λ e. e.0 ∷ []) es) nodes_list
          ∙ joined_keys (nodes_in c)

      bs : flat (units_of (built c)) units ≡ joined (λ e. e.1) (branches_in c)
      bs =
          flat_entries (λ u o. or_else [] o) (λ u. refl) (find (branches_in c)) units
          ∙ ap (λ (es : List (ℕ × List ℕ)). joined (λ e. e.1) es) branches_list

      ss : joined slot_units (map (λ k. or_else empty (find (slots_in c) k)) (range 4 0)) ≡ joined (λ e. slot_units e.1) (slots_in c)
      ss =
          joined_map slot_units (λ k. or_else empty (find (slots_in c) k)) (range 4 0)
          ∙ flat_entries (λ u o. slot_units (or_else empty o)) (λ u. refl) (find (slots_in c)) (range 4 0)
          ∙ ap (λ (es : List (ℕ × Slot)). joined (λ e. slot_units e.1) es) slots_list

-- ---- the writer writes the same bytes

abbrev pub input_part : ℕ → List ℕ → List ℕ
input_part k [] = []
input_part k (x ∷ xs) = input_image k (some (x ∷ xs))

pub input_parts : (k : ℕ) (l : List ℕ) (ls : List (List ℕ)) → input_images k (l ∷ ls) ≡ input_part k l ++ input_images (suc k) ls
input_parts k [] ls = refl
input_parts k (x ∷ xs) ls = refl

pub input_part_lem : (k : ℕ) (l : List ℕ) → 1 ≤ length l → input_part k l ≡ input_image k (some l)
input_part_lem k [] h = absurd (omega arith)
input_part_lem k (x ∷ xs) h = refl

-- inputs by their numbers
pub input_flat : (h : ℕ → List ℕ) (n k : ℕ) → input_images k (map h (range n k)) ≡ flat (λ k. input_part k (h k)) (range n k)
input_flat h zero k = refl
input_flat h (suc n) k = input_parts k (h k) (map h (range n (suc k))) ∙ ap (λ (l : List ℕ). input_part k (h k) ++ l) (input_flat h n (suc k))

pub slot_flat : (h : ℕ → Slot) (n k : ℕ) → slot_images k (map h (range n k)) ≡ flat (λ k. slot_image k (h k)) (range n k)
slot_flat h zero k = refl
slot_flat h (suc n) k = ap (λ (l : List ℕ). slot_image k (h k) ++ l) (slot_flat h n (suc k))

module _ (b : List ℕ) (c : Cut) (whole : Whole b c) (l : T (laid b c)) (one : T (owned_once c)) (eq : T (counts_agree (built c) c)) where
  bytes : T (all (λ x. leb x 255) (joint c.nodes)) × T (all (λ x. leb x 255) (joint c.branches))
  unfolding laid
  bytes =
      let f : ℕ → Bool = λ x. leb x 255 in
      let r2 : List ℕ = joint c.slots ++ (joint c.inputs ++ c.rest) in
      let r1 : List ℕ = joint c.branches ++ r2 in
      let a : T (all f (joint c.nodes ++ r1)) = all_right f c.root (joint c.nodes ++ r1) (subst (λ (x : List ℕ). T (all f x)) (sym whole.parts) (nth (lines b c) 0 l)) in
      (all_left f (joint c.nodes) r1 a, all_left f (joint c.branches) r2 (all_right f (joint c.nodes) r1 a))

  nodes_again : flat (λ u. node_image (ways (built c)) u ((built c).nodes u)) units ≡ joint c.nodes
  unfolding built laid counts_agree
  nodes_again =
      flat_entries (node_image (ways (built c))) (λ u. refl) (find (nodes_in c)) units
      ∙ ap (λ (es : List (ℕ × Node)). joined (λ e. node_image (ways (built c)) e.0 (some e.1)) es) (nodes_list b c l one)
      ∙ joined_again node_of (λ e. node_image (ways (built c)) e.0 (some e.1)) test
      (λ r t.
      let t1 : T (rest1 r) = and_r (node_laid r) (rest1 r) t in
      let t2 : T (rest2 r) = and_r (eqb (get_or r 0 0) 33) (rest2 r) t1 in
      node_again (ways (built c)) r (and_l (node_laid r) (rest1 r) t) (eqb→eq (get_or r 0 0) 33 (and_l (eqb (get_or r 0 0) 33) (rest2 r) t1))
      (leb→le (get_or r 28 0) 255 (all_get (λ x. leb x 255) 28 0 r tt (and_l (all (λ x. leb x 255) r) (eqb (node_count r) (ways (built c) (node_of r).0)) t2)))
      (eqb→eq (node_count r) (ways (built c) (node_of r).0) (and_r (all (λ x. leb x 255) r) (eqb (node_count r) (ways (built c) (node_of r).0)) t2)))
      c.nodes
      (all_and node_laid rest1 c.nodes (nth (lines b c) 4 l)
      (all_and (λ r. eqb (get_or r 0 0) 33) rest2 c.nodes whole.nodes
      (all_and (λ r. all (λ x. leb x 255) r) (λ r. eqb (node_count r) (ways (built c) (node_of r).0)) c.nodes (all_joint (λ x. leb x 255) c.nodes bytes.0)
      (and_l (all (λ r. eqb (node_count r) (ways (built c) (node_of r).0)) c.nodes) (all (λ r. eqb (branch_count r) (places (built c) (branch_of r).0)) c.branches) eq))))
    where
      rest2 : List ℕ → Bool
      rest2 r = all (λ x. leb x 255) r && eqb (node_count r) (ways (built c) (node_of r).0)

      rest1 : List ℕ → Bool
      rest1 r = eqb (get_or r 0 0) 33 && rest2 r

      test : List ℕ → Bool
      test r = node_laid r && rest1 r

  branches_again : flat (λ u. branch_image (places (built c)) u ((built c).branches u)) units ≡ joint c.branches
  unfolding built laid counts_agree
  branches_again =
      flat_entries (branch_image (places (built c))) (λ u. refl) (find (branches_in c)) units
      ∙ ap (λ (es : List (ℕ × List ℕ)). joined (λ e. branch_image (places (built c)) e.0 (some e.1)) es) (branches_list b c l one)
      ∙ joined_again branch_of (λ e. branch_image (places (built c)) e.0 (some e.1)) test
      (λ r t.
      let t1 : T (rest1 r) = and_r (branch_laid r) (rest1 r) t in
      let t2 : T (rest2 r) = and_r (eqb (get_or r 0 0) 34) (rest2 r) t1 in
      branch_again (places (built c)) r (and_l (branch_laid r) (rest1 r) t) (eqb→eq (get_or r 0 0) 34 (and_l (eqb (get_or r 0 0) 34) (rest2 r) t1))
      (leb→le (get_or r 10 0) 255 (all_get (λ x. leb x 255) 10 0 r tt (and_l (all (λ x. leb x 255) r) (eqb (branch_count r) (places (built c) (branch_of r).0)) t2)))
      (eqb→eq (branch_count r) (places (built c) (branch_of r).0) (and_r (all (λ x. leb x 255) r) (eqb (branch_count r) (places (built c) (branch_of r).0)) t2)))
      c.branches
      (all_and branch_laid rest1 c.branches (nth (lines b c) 5 l)
      (all_and (λ r. eqb (get_or r 0 0) 34) rest2 c.branches whole.branches
      (all_and (λ r. all (λ x. leb x 255) r) (λ r. eqb (branch_count r) (places (built c) (branch_of r).0)) c.branches (all_joint (λ x. leb x 255) c.branches bytes.1)
      (and_r (all (λ r. eqb (node_count r) (ways (built c) (node_of r).0)) c.nodes) (all (λ r. eqb (branch_count r) (places (built c) (branch_of r).0)) c.branches) eq))))
    where
      rest2 : List ℕ → Bool
      rest2 r = all (λ x. leb x 255) r && eqb (branch_count r) (places (built c) (branch_of r).0)

      rest1 : List ℕ → Bool
      rest1 r = eqb (get_or r 0 0) 34 && rest2 r

      test : List ℕ → Bool
      test r = branch_laid r && rest1 r

  slots_again : slot_images 0 (built c).slots ≡ joint c.slots
  unfolding built laid
  slots_again =
      slot_flat (λ k. or_else empty (find (slots_in c) k)) 4 0
      ∙ flat_entries (λ k o. slot_image k (or_else empty o)) (λ u. refl) (find (slots_in c)) (range 4 0)
      ∙ ap (λ (es : List (ℕ × Slot)). joined (λ e. slot_image e.0 e.1) es) (slots_list b c l one)
      ∙ joined_again slot_of (λ e. slot_image e.0 e.1) (λ r. slot_laid r && eqb (get_or r 0 0) 35)
      (λ r t. slot_again r (and_l (slot_laid r) (eqb (get_or r 0 0) 35) t) (eqb→eq (get_or r 0 0) 35 (and_r (slot_laid r) (eqb (get_or r 0 0) 35) t)))
      c.slots (all_and slot_laid (λ r. eqb (get_or r 0 0) 35) c.slots (nth (lines b c) 6 l) whole.slots)

  inputs_again : input_images 0 (built c).inputs ≡ joint c.inputs
  unfolding built laid
  inputs_again =
      input_flat (λ k. or_else [] (find (inputs_in c) k)) 4 0
      ∙ flat_entries (λ k o. input_part k (or_else [] o)) (λ u. refl) (find (inputs_in c)) (range 4 0)
      ∙ ap (λ (es : List (ℕ × List ℕ)). joined (λ e. input_part e.0 e.1) es) (inputs_list b c l one)
      ∙ joined_again input_of (λ e. input_part e.0 e.1) (λ r. input_laid r && eqb (get_or r 0 0) 36)
      (λ r t.
      let t0 : T (input_laid r) = and_l (input_laid r) (eqb (get_or r 0 0) 36) t in
      input_part_lem (input_of r).0 (input_of r).1 (input_shape r t0).least ∙ input_again r t0 (eqb→eq (get_or r 0 0) 36 (and_r (input_laid r) (eqb (get_or r 0 0) 36) t)))
      c.inputs (all_and input_laid (λ r. eqb (get_or r 0 0) 36) c.inputs (nth (lines b c) 7 l) whole.inputs)

  pub written : image (built c) ≡ b
  unfolding image laid built
  written = (λ i. root i ++ (nodes_again i ++ (branches_again i ++ (slots_again i ++ inputs_end i)))) ∙ whole.parts
    where
      root : 32 ∷ get_or c.root 1 0 ∷ [] ≡ c.root
      root = pairs c.root (eqb→eq (length c.root) 2 (nth (lines b c) 1 l)) (eqb→eq (get_or c.root 0 0) 32 (nth (lines b c) 2 l))
        where
          pairs : (x : List ℕ) → length x ≡ 2 → get_or x 0 0 ≡ 32 → 32 ∷ get_or x 1 0 ∷ [] ≡ x
          pairs x e q = (λ i. sym q i ∷ get_or x 1 0 ∷ []) ∙ subst (λ (y : List ℕ). get_or y 0 0 ∷ get_or y 1 0 ∷ [] ≡ y) (spelled 2 x e) refl

      inputs_end : input_images 0 (built c).inputs ≡ joint c.inputs ++ c.rest
      inputs_end = inputs_again ∙ sym (ap (λ (x : List ℕ). joint c.inputs ++ x) (none_left c.rest (eqb→eq (length c.rest) 0 (nth (lines b c) 3 l))) ∙ append-nil (joint c.inputs))
        where
          none_left : (x : List ℕ) → length x ≡ 0 → x ≡ []
          none_left [] e = refl
          none_left (y ∷ ys) e = absurd (omega arith)

-- ---- and the store is right

in_use_map : (h : ℕ → List ℕ) (ks : List ℕ) (b : ℕ) (P : Type 0) → ((k : ℕ) → T (has b (h k)) → P) → T (in_use (map h ks) b) → P
in_use_map h [] b P f t = absurd t
in_use_map h (k ∷ ks) b P f t = ⊎_elim (λ (q : T (has b (h k))). f k q) (λ (q : T (in_use (map h ks) b)). in_use_map h ks b P f q) (or_e (has b (h k)) (in_use (map h ks) b) t)

module _ (b : List ℕ) (c : Cut) (l : T (laid b c)) (one : T (owned_once c)) (nm : T (named c)) (dp : T (shallow (built c))) where
  rooted' : (r : ℕ) → T (has r (roots (built c))) → T (is_node c r)
  unfolding built named
  rooted' r t = go (eqb (get_or c.root 1 0) 0) (nth (names c) 0 nm) t
    where
      go : (z : Bool) → T (z || is_node c (get_or c.root 1 0)) → T (has r (cond z [] (get_or c.root 1 0 ∷ []))) → T (is_node c r)
      go true n t = absurd t
      go false n t =
          ⊎_elim
          (λ (q : T (eqb (get_or c.root 1 0) r)). subst (λ (k : ℕ). T (is_node c k)) (eqb→eq (get_or c.root 1 0) r q) n)
          (λ (q : ⊥). absurd q)
          (or_e (eqb (get_or c.root 1 0) r) false t)

  node' : (u : ℕ) (n : Node) → find (nodes_in c) u ≡ some n → NodeOk (built c) n
  unfolding built named laid
  node' u n e =
      let f = found_record node_of node_laid c.nodes (nth (lines b c) 4 l) u n e in
      let k : Node8 n = subst (λ (p : ℕ × Node). Node8 p.1) f.2 (node_shape f.0 f.1) in
      record {
        few_buffers = k.few_buffers;
        few_children = k.few_children;
        paired = k.paired;
        within = k.within;
        children_named = λ x t. all_in (is_node c) n.children x (found (λ e. all (is_node c) e.1.children) (nodes_in c) (nth (names c) 1 nm) u n e).0 t;
        buffers_named = λ x t. all_in (is_branch c) n.buffers x (found (λ e. all (is_branch c) e.1.buffers) (nodes_in c) (nth (names c) 2 nm) u n e).0 t;
      }

  branch' : (x : ℕ) (us : List ℕ) → find (branches_in c) x ≡ some us → BranchOk x us
  unfolding laid
  branch' x us e =
      let f = found_record branch_of branch_laid c.branches (nth (lines b c) 5 l) x us e in
      subst (λ (p : ℕ × List ℕ). BranchOk p.0 p.1) f.2 (branch_shape f.0 f.1)

  slot' : (k : ℕ) (o : Option Slot) → find (slots_in c) k ≡ o → T (slot_ok (or_else empty o))
  unfolding laid
  slot' k none e = tt
  slot' k (some x) e =
      let f = found_record slot_of slot_laid c.slots (nth (lines b c) 6 l) k x e in
      go x (subst (λ (p : ℕ × Slot). Small p.0 (slot_units p.1)) f.2 (slot_shape f.0 f.1))
    where
      go : (x : Slot) → Small k (slot_units x) → T (slot_ok x)
      go empty z = tt
      go (opened us) z = and_i (leb 1 (length us)) (leb (length us) 8) (le→leb 1 (length us) z.least) (le→leb (length us) 8 z.most)
      go (sealed us) z = and_i (leb 1 (length us)) (leb (length us) 8) (le→leb 1 (length us) z.least) (le→leb (length us) 8 z.most)

  input' : (k : ℕ) (o : Option (List ℕ)) → find (inputs_in c) k ≡ o → T (leb (length (or_else [] o)) 8)
  unfolding laid
  input' k none e = tt
  input' k (some us) e =
      let f = found_record input_of input_laid c.inputs (nth (lines b c) 7 l) k us e in
      le→leb (length us) 8 (subst (λ (p : ℕ × List ℕ). Small p.0 p.1) f.2 (input_shape f.0 f.1)).most

  input_named' : (x k : ℕ) (o : Option (List ℕ)) → find (inputs_in c) k ≡ o → T (has x (or_else [] o)) → T (is_branch c x)
  unfolding named
  input_named' x k none e t = absurd t
  input_named' x k (some us) e t = all_in (is_branch c) us x (found (λ e. all (is_branch c) e.1) (inputs_in c) (nth (names c) 3 nm) k us e).0 t

  pub loaded_sound : Sound (built c)
  unfolding built shallow laid owned_once
  loaded_sound =
      record {
        rooted = rooted';
        node = node';
        branch = branch';
        slot_number = refl;
        slot = to_map slot_ok (λ k. or_else empty (find (slots_in c) k)) (range 4 0) (all_has (λ k. slot_ok (or_else empty (find (slots_in c) k))) (range 4 0) (λ k t. slot' k (find (slots_in c) k) refl));
        input_number = refl;
        input =
            to_map (λ us. leb (length us) 8) (λ k. or_else [] (find (inputs_in c) k)) (range 4 0)
            (all_has (λ k. leb (length (or_else [] (find (inputs_in c) k))) 8) (range 4 0) (λ k t. input' k (find (inputs_in c) k) refl));
        input_named = λ x t. in_use_map (λ k. or_else [] (find (inputs_in c) k)) (range 4 0) x (T (is_branch c x)) (λ k q. input_named' x k (find (inputs_in c) k) refl q) t;
        single = λ u. subst (λ (x : List ℕ). times u x ≤ 1) (sym (owned_claims b c l one)) (distinct_once (claims c) (and_r (all (λ u. leb 1 u && leb u 255) (claims c)) (distinct (claims c)) one) u);
        node_unit = λ u t. node_key b c l one u (found_key (nodes_in c) (nth (lines b c) 8 l) u t);
        branch_unit = λ u t. branch_key b c l one u (found_key (branches_in c) (nth (lines b c) 9 l) u t);
        unit = λ u t. unit_of_lem b c l one u (subst (λ (x : List ℕ). T (has u x)) (owned_claims b c l one) t);
        low = eqb→eq (sums (deep (children_of (built c)) 8) (roots (built c))) 0 dp;
      }

  pub loaded_right : T (countable (built c) c) → T (all_held (built c) c) → Right (built c)
  unfolding built countable all_held laid
  loaded_right ft lv =
      record {
        sound = loaded_sound;
        live_node = λ u t. all_in (reached (built c)) (keys (nodes_in c)) u (and_l (all (reached (built c)) (keys (nodes_in c))) (all (alive (built c)) (keys (branches_in c))) lv) (found_key (nodes_in c) (nth (lines b c) 8 l) u t);
        live_branch = λ u t. all_in (alive (built c)) (keys (branches_in c)) u (and_r (all (reached (built c)) (keys (nodes_in c))) (all (alive (built c)) (keys (branches_in c))) lv) (found_key (branches_in c) (nth (lines b c) 9 l) u t);
        few = λ u t. leb→le (places (built c) u) 65535 (all_in fb (keys (branches_in c)) u (and_r (all fn (keys (nodes_in c))) (all fb (keys (branches_in c))) ft) (found_key (branches_in c) (nth (lines b c) 9 l) u t));
        few_ways = λ u. go u (find (nodes_in c) u) refl;
      }
    where
      fn : ℕ → Bool
      fn u = leb (ways (built c) u) 65535

      fb : ℕ → Bool
      fb u = leb (places (built c) u) 65535

      go : (u : ℕ) (o : Option Node) → find (nodes_in c) u ≡ o → ways (built c) u ≤ 65535
      go u none e = omega (arith, not_seen (built c) loaded_sound u e)
      go u (some n) e =
          leb→le (ways (built c) u) 65535
          (all_in fn (keys (nodes_in c)) u (and_l (all fn (keys (nodes_in c))) (all fb (keys (branches_in c))) ft) (found_key (nodes_in c) (nth (lines b c) 8 l) u (subst (λ (o : Option Node). T (is_some o)) (sym e) tt)))

-- ---- THEOREM: what is accepted is right, without saved roots, and is what the writer writes

pub record Taken (b : List ℕ) (s : Store) : Type 0 where
  pub right : Right s
  pub written : image s ≡ b

pub load_taken : (b : List ℕ) (s : Store) → load b ≡ accepted s → Taken b s
unfolding judge load built
load_taken b s e =
    let c : Cut = cut b in
    let a1 = need_ok (laid b c) 21 _ s e in
    let a2 = need_ok (owned_once c) 22 _ s a1.1 in
    let a3 = need_ok (named c) 23 _ s a2.1 in
    let a4 = need_ok (shallow (built c)) 24 _ s a3.1 in
    let a5 = need_ok (countable (built c) c) 25 _ s a4.1 in
    let a6 = need_ok (all_held (built c) c) 26 _ s a5.1 in
    let a7 = need_ok (counts_agree (built c) c) 27 _ s a6.1 in
    let q : accepted (built c) ≡ accepted s = a7.1 in
    let is : built c ≡ s = cc in
    subst (λ (x : Store). Taken b x) is
    (record {
      right = loaded_right b c a1.0 a2.0 a3.0 a4.0 a5.0 a6.0;
      written = written b c (cut_whole b) a1.0 a2.0 a7.0;
    })
