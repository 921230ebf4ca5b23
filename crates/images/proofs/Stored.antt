-- What the writer writes for a right store is loaded as that store. Assumes nothing.
use mathlib.Core.Path.{◌≡◌, refl, sym, ap, ap₂, ◌∙◌, subst, fun_ext}
use mathlib.Core.Bool.{Bool, true, false, ◌||◌, ◌&&◌, not, cond}
use mathlib.Core.Logic.{◌⊎◌, inl, inr, ⊎_elim}
use mathlib.Core.List.{List, [], ◌∷◌, ◌++◌, map, append-nil}
use mathlib.Core.Option.{Option, none, some}
use Prim.Native.Nat.{ℕ, zero, suc, ◌+◌, ◌-◌, ◌/◌, ◌%◌, ◌≤◌, ◌<◌}
use native.Mathlib.Omega.{arith}
use lib.Dec.{T, eqb, leb, ltb, eqb_refl, eqb→eq, leb→le, le→leb, ltb→lt, nltb→le, not_T}
use lib.ListN.{length, get_or, replicate, length-append, get_or-eq_default}
use Rattle.units.specs.Limits.{slot_count}
use Rattle.ways.specs.Ways.{flat, has, one}
use Rattle.rules.specs.Tables.{all, keys, range, times, joined, is_some, or_else, distinct, rising, find}
use Rattle.rules.specs.Store.{units, Node, Slot, empty, opened, sealed, Store, units_of, slot_units, owned, places, ways, reached, alive, in_use}
use Rattle.right.specs.Ledger.{node_units}
use Rattle.rules.specs.Steps.{Outcome, accepted, need}
use Rattle.rules.specs.Images.{padded, low_first, node_image, branch_image, slot_image, slot_images, input_images, image}
use Rattle.rules.specs.Right.{slot_ok, Right}
use Rattle.ways.proofs.Tests.{T→eq, eq→T, and_l, and_r, and_i, or_l, or_r}
use Rattle.ways.proofs.Members.{has_pos, pos_has, has_left, has_right}
use Rattle.right.proofs.Tables.{all_in}
use Rattle.right.proofs.Lists.{all_append, all_get}
use Rattle.right.proofs.Ledger.{has_flat, has_unit}
use Rattle.right.proofs.Extended.{slot_owned}
use Rattle.right.proofs.Ledger.{root_named}
use Rattle.rules.specs.Loads.{Cutting, Cut, leading, cut, node_of, node_laid, node_count, branch_of, branch_laid, branch_count, slot_of, slot_laid, input_of, input_laid, nodes_in, branches_in, slots_in, inputs_in, built, every, lines, is_node, is_branch, names, laid, claims, owned_once, named, shallow, countable, all_held, counts_agree, judge, load}
use Rattle.images.proofs.Listing.{to_map, to_keys, push, entries, flat_entries, rising_entries, find_entries, all_entries, joint, sized, lead_all, After, after, not_after, fewer}
use Rattle.images.proofs.Record.{NodeRead, node_read_lem, BranchRead, branch_read_lem, SlotRead, taken_read, sealed_read, input_image, InputRead, input_read_lem}
use Rattle.images.proofs.Loaded.{all_has, joined_keys, joined_map, input_part, input_flat, slot_flat}

-- ---- tests

abbrev pub each : List Bool → Type 0
each [] = Unit {0}
each (t ∷ ts) = T t × each ts

pub every_of : (ts : List Bool) → each ts → T (every ts)
every_of [] h = tt
every_of (t ∷ ts) h = and_i t (every ts) h.0 (every_of ts h.1)

need_yes : (b : Bool) (n : ℕ) (o : Outcome) → T b → need b n o ≡ o
need_yes true n o t = refl
need_yes false n o t = absurd t

-- ---- lists

joint_map : {A : Type 0} (p : A → List ℕ) (es : List A) → joined p es ≡ joint (map p es)
joint_map p [] = refl
joint_map p (e ∷ es) = ap (λ (l : List ℕ). p e ++ l) (joint_map p es)

read_entries : {A : Type 0} (g : List ℕ → ℕ × A) (p : ℕ × A → List ℕ) (t : ℕ → Option A) (us : List ℕ)
    → ((u : ℕ) (a : A) → t u ≡ some a → g (p (u, a)) ≡ (u, a)) → map g (map p (entries t us)) ≡ entries t us
read_entries g p t [] h = refl
read_entries {A} g p t (u ∷ us) h = go (t u) refl (read_entries g p t us h)
  where
    go : (o : Option A) → t u ≡ o → map g (map p (entries t us)) ≡ entries t us → map g (map p (push u o (entries t us))) ≡ push u o (entries t us)
    go none e ih = ih
    go (some a) e ih = ap₂ (λ (x : ℕ × A) (l : List (ℕ × A)). x ∷ l) (h u a e) ih

four : {A : Type 0} (z : A) (l : List A) → length l ≡ 4 → map (λ k. get_or l k z) (range 4 0) ≡ l
four z [] e = absurd (omega arith)
four z (a ∷ []) e = absurd (omega arith)
four z (a ∷ b ∷ []) e = absurd (omega arith)
four z (a ∷ b ∷ c ∷ []) e = absurd (omega arith)
four z (a ∷ b ∷ c ∷ d ∷ []) e = refl
four z (a ∷ b ∷ c ∷ d ∷ x ∷ l) e = absurd (omega arith)

once_distinct : (l : List ℕ) → ((u : ℕ) → times u l ≤ 1) → T (distinct l)
once_distinct [] h = tt
once_distinct (x ∷ xs) h =
    and_i (not (has x xs)) (distinct xs)
    (not_T (has x xs) (λ t. omega (arith, h x, has_pos x xs t, ap one (T→eq (eqb x x) (eqb_refl x)))))
    (once_distinct xs (λ u. omega (arith, h u)))

-- ---- bytes

bytes_pad : (l : List ℕ) → T (all (λ x. leb x 255) l) → T (all (λ x. leb x 255) (padded l))
bytes_pad l a = all_append (λ x. leb x 255) l (replicate (8 - length l) 0) a (rep (8 - length l))
  where
    rep : (n : ℕ) → T (all (λ x. leb x 255) (replicate n 0))
    rep zero = tt
    rep (suc n) = rep n

bytes_two : (c : ℕ) → c ≤ 65535 → T (all (λ x. leb x 255) (low_first c))
bytes_two c h = and_i (leb (c % 256) 255) (leb (c / 256) 255 && true) (le→leb (c % 256) 255 (omega arith)) (and_i (leb (c / 256) 255) true (le→leb (c / 256) 255 (omega arith)) tt)

bytes_cons : (x : ℕ) (l : List ℕ) → x ≤ 255 → T (all (λ x. leb x 255) l) → T (all (λ x. leb x 255) (x ∷ l))
bytes_cons x l h a = and_i (leb x 255) (all (λ x. leb x 255) l) (le→leb x 255 h) a

of_joint : (f : ℕ → Bool) (rs : List (List ℕ)) → T (all (λ r. all f r) rs) → T (all f (joint rs))
of_joint f [] a = tt
of_joint f (r ∷ rs) a = all_append f r (joint rs) (and_l (all f r) (all (λ r. all f r) rs) a) (of_joint f rs (and_r (all f r) (all (λ r. all f r) rs) a))

-- an index whose entry is not the one past the end
get_in : {A : Type 0} (z : A) (l : List A) (k : ℕ) (P : A → Type 0) → (P z → ⊥) → length l ≡ 4 → P (get_or l k z) → k < 4
get_in z l k P neg h p =
    ⊎_elim (λ (q : T (ltb k slot_count)). ltb→lt k 4 q)
    (λ (q : T (ltb k slot_count) → ⊥). absurd (neg (subst P (get_or-eq_default l z (omega (arith, h, nltb→le k 4 (not_T (ltb k slot_count) q)))) p)))
    (split (ltb k slot_count))
  where
    split : (b : Bool) → T b ⊎ (T b → ⊥)
    split true = inl tt
    split false = inr (λ t. t)

unit_find : {A : Type 0} (t : ℕ → Option A) (v : ℕ) → (T (is_some (t v)) → (1 ≤ v) × (v ≤ 255)) → find (entries t units) v ≡ t v
unfolding units
unit_find t v h = find_entries t 255 1 v (λ z. let w = h z in (w.0, omega (arith, w.1)))

unit_rising : {A : Type 0} (t : ℕ → Option A) → T (rising 0 (keys (entries t units)))
unfolding units
unit_rising t = rising_entries t 255 1 0 (omega arith)

-- ---- a cut of what was joined

module _ (root : ℕ) (ns bs ss is : List (List ℕ)) (hn : T (all (sized 33 30) ns)) (hb : T (all (sized 34 12) bs)) (hs : T (all (sized 35 12) ss)) (hi : T (all (sized 36 11) is)) where
  abbrev r3 : List ℕ
  r3 = joint is ++ []

  abbrev r2 : List ℕ
  r2 = joint ss ++ (joint is ++ [])

  abbrev r1 : List ℕ
  r1 = joint bs ++ (joint ss ++ (joint is ++ []))

  cut_of : cut (32 ∷ root ∷ (joint ns ++ (joint bs ++ (joint ss ++ (joint is ++ [])))))
      ≡ record { root = 32 ∷ root ∷ []; nodes = ns; branches = bs; slots = ss; inputs = is; rest = [] }
  unfolding cut
  cut_of =
      let f : ℕ = length (32 ∷ root ∷ (joint ns ++ r1)) in
      let p3 : After 36 [] = inl refl in
      let p2 : After 35 (joint is ++ []) = after 35 36 11 is [] (omega arith) (omega arith) hi p3 in
      let p1 : After 34 r2 = after 34 35 12 ss (joint is ++ []) (omega arith) (omega arith) hs p2 in
      let p0 : After 33 r1 = after 33 34 12 bs r2 (omega arith) (omega arith) hb p1 in
      let l0 : length (joint ns ++ r1) ≡ length (joint ns) + length r1 = length-append (joint ns) r1 in
      let l1 : length r1 ≡ length (joint bs) + length r2 = length-append (joint bs) r2 in
      let l2 : length r2 ≡ length (joint ss) + length (joint is ++ []) = length-append (joint ss) (joint is ++ []) in
      let l3 : length (joint is ++ []) ≡ length (joint is) + 0 = length-append (joint is) [] in
      let e1 : leading 33 30 f (joint ns ++ r1) ≡ (ns, r1) =
      lead_all 33 30 f ns r1 (omega arith) hn (not_after 33 r1 (omega arith) p0) (omega (arith, fewer 33 30 ns (omega arith) hn)) in
      let e2 : leading 34 12 f (leading 33 30 f (joint ns ++ r1)).1 ≡ (bs, r2) =
      ap (λ (x : Cutting). leading 34 12 f x.1) e1 ∙ lead_all 34 12 f bs r2 (omega arith) hb (not_after 34 r2 (omega arith) p1) (omega (arith, fewer 34 12 bs (omega arith) hb)) in
      let e3 : leading 35 12 f (leading 34 12 f (leading 33 30 f (joint ns ++ r1)).1).1 ≡ (ss, joint is ++ []) =
      ap (λ (x : Cutting). leading 35 12 f x.1) e2 ∙ lead_all 35 12 f ss (joint is ++ []) (omega arith) hs (not_after 35 (joint is ++ []) (omega arith) p2) (omega (arith, fewer 35 12 ss (omega arith) hs)) in
      let e4 : leading 36 11 f (leading 35 12 f (leading 34 12 f (leading 33 30 f (joint ns ++ r1)).1).1).1 ≡ (is, []) =
      ap (λ (x : Cutting). leading 36 11 f x.1) e3 ∙ lead_all 36 11 f is [] (omega arith) hi (not_after 36 [] (omega arith) p3) (omega (arith, fewer 36 11 is (omega arith) hi)) in
      λ i. record { root = 32 ∷ root ∷ []; nodes = (e1 i).0; branches = (e2 i).0; slots = (e3 i).0; inputs = (e4 i).0; rest = (e4 i).1 }

-- ---- slots and inputs as tables

abbrev pub as_slot : Slot → Option Slot
as_slot empty = none
as_slot (opened us) = some (opened us)
as_slot (sealed us) = some (sealed us)

abbrev pub as_input : List ℕ → Option (List ℕ)
as_input [] = none
as_input (x ∷ xs) = some (x ∷ xs)

as_slot_lem : (x : Slot) → or_else empty (as_slot x) ≡ x
as_slot_lem empty = refl
as_slot_lem (opened us) = refl
as_slot_lem (sealed us) = refl

as_input_lem : (l : List ℕ) → or_else [] (as_input l) ≡ l
as_input_lem [] = refl
as_input_lem (x ∷ xs) = refl

some_input : (l us : List ℕ) → as_input l ≡ some us → (l ≡ us) × (1 ≤ length us)
some_input [] us e = absurd (subst (λ (o : Option (List ℕ)). T (is_some o)) (sym e) tt)
some_input (x ∷ xs) us e = let q : x ∷ xs ≡ us = cc in (q, omega (arith, ap length q))

in_use_get : (ls : List (List ℕ)) (k b : ℕ) → T (has b (get_or ls k [])) → T (in_use ls b)
in_use_get [] k b t = absurd t
in_use_get (l ∷ ls) zero b t = or_l (has b l) (in_use ls b) t
in_use_get (l ∷ ls) (suc k) b t = or_r (has b l) (in_use ls b) (in_use_get ls k b t)

joined_get : (xs : List Slot) (k u : ℕ) → T (has u (slot_units (get_or xs k empty))) → T (has u (joined slot_units xs))
joined_get [] k u t = absurd t
joined_get (x ∷ xs) zero u t = has_left u (slot_units x) (joined slot_units xs) t
joined_get (x ∷ xs) (suc k) u t = has_right u (slot_units x) (joined slot_units xs) (joined_get xs k u t)

-- a slot's record
pub record SlotWritten (k : ℕ) (x : Slot) : Type 0 where
  pub read : SlotRead k x (slot_image k x)
  pub head : T (eqb (get_or (slot_image k x) 0 0) 35)
  pub bytes : ((u : ℕ) → T (has u (slot_units x)) → u ≤ 255) → T (all (λ x. leb x 255) (slot_image k x))

slot_written : (k : ℕ) (y x : Slot) → k < slot_count → as_slot y ≡ some x → T (slot_ok y) → SlotWritten k x
slot_written k empty x h e o = absurd (subst (λ (p : Option Slot). T (is_some p)) (sym e) tt)
slot_written k (opened us) x h e o =
    let q : opened us ≡ x = cc in
    let h1 : 1 ≤ length us = leb→le 1 (length us) (and_l (leb 1 (length us)) (leb (length us) 8) o) in
    let h8 : length us ≤ 8 = leb→le (length us) 8 (and_r (leb 1 (length us)) (leb (length us) 8) o) in
    subst (λ (x : Slot). SlotWritten k x) q
    (record {
      read = taken_read k us h h1 h8;
      head = tt;
      bytes = λ f. bytes_cons k (1 ∷ length us ∷ padded us) (omega arith) (bytes_cons (length us) (padded us) (omega arith) (bytes_pad us (all_has (λ x. leb x 255) us (λ u t. le→leb u 255 (f u t)))));
    })
slot_written k (sealed us) x h e o =
    let q : sealed us ≡ x = cc in
    let h1 : 1 ≤ length us = leb→le 1 (length us) (and_l (leb 1 (length us)) (leb (length us) 8) o) in
    let h8 : length us ≤ 8 = leb→le (length us) 8 (and_r (leb 1 (length us)) (leb (length us) 8) o) in
    subst (λ (x : Slot). SlotWritten k x) q
    (record {
      read = sealed_read k us h h1 h8;
      head = tt;
      bytes = λ f. bytes_cons k (2 ∷ length us ∷ padded us) (omega arith) (bytes_cons (length us) (padded us) (omega arith) (bytes_pad us (all_has (λ x. leb x 255) us (λ u t. le→leb u 255 (f u t)))));
    })

-- ---- the store's records

module _ (s : Store) where
  abbrev pub slot_t : ℕ → Option Slot
  slot_t k = as_slot (get_or s.slots k empty)

  abbrev pub input_t : ℕ → Option (List ℕ)
  input_t k = as_input (get_or s.inputs k [])

  abbrev pub paint_n : ℕ × Node → List ℕ
  paint_n e = node_image (ways s) e.0 (some e.1)

  abbrev pub paint_b : ℕ × List ℕ → List ℕ
  paint_b e = branch_image (places s) e.0 (some e.1)

  abbrev pub paint_s : ℕ × Slot → List ℕ
  paint_s e = slot_image e.0 e.1

  abbrev pub paint_i : ℕ × List ℕ → List ℕ
  paint_i e = input_image e.0 (some e.1)

  abbrev pub recs : Cut
  recs =
      record {
        root = 32 ∷ s.root ∷ [];
        nodes = map paint_n (entries s.nodes units);
        branches = map paint_b (entries s.branches units);
        slots = map paint_s (entries slot_t (range 4 0));
        inputs = map paint_i (entries input_t (range 4 0));
        rest = [];
      }

module _ (s : Store) (r : Right s) where
  pub image_parts : image s ≡ 32 ∷ s.root ∷ (joint (recs s).nodes ++ (joint (recs s).branches ++ (joint (recs s).slots ++ (joint (recs s).inputs ++ []))))
  unfolding image
  image_parts = λ i. 32 ∷ s.root ∷ (ns i ++ (bs i ++ (ss i ++ is i)))
    where
      ns : flat (λ u. node_image (ways s) u (s.nodes u)) units ≡ joint (recs s).nodes
      ns = flat_entries (node_image (ways s)) (λ u. refl) s.nodes units ∙ joint_map (paint_n s) (entries s.nodes units)

      bs : flat (λ u. branch_image (places s) u (s.branches u)) units ≡ joint (recs s).branches
      bs = flat_entries (branch_image (places s)) (λ u. refl) s.branches units ∙ joint_map (paint_b s) (entries s.branches units)

      ss : slot_images 0 s.slots ≡ joint (recs s).slots
      ss =
          ap (slot_images 0) (sym (four empty s.slots r.sound.slot_number))
          ∙ slot_flat (λ k. get_or s.slots k empty) 4 0
          ∙ (λ i. flat (λ k. slot_image k (sym (as_slot_lem (get_or s.slots k empty)) i)) (range 4 0))
          ∙ flat_entries (λ k o. slot_image k (or_else empty o)) (λ k. refl) (slot_t s) (range 4 0)
          ∙ joint_map (paint_s s) (entries (slot_t s) (range 4 0))

      whole_part : (k : ℕ) (l : List ℕ) → input_part k l ≡ input_image k (as_input l)
      whole_part k [] = refl
      whole_part k (x ∷ xs) = refl

      is : input_images 0 s.inputs ≡ joint (recs s).inputs ++ []
      is =
          ap (input_images 0) (sym (four [] s.inputs r.sound.input_number))
          ∙ input_flat (λ k. get_or s.inputs k []) 4 0
          ∙ (λ i. flat (λ k. whole_part k (get_or s.inputs k []) i) (range 4 0))
          ∙ flat_entries input_image (λ k. refl) (input_t s) (range 4 0)
          ∙ joint_map (paint_i s) (entries (input_t s) (range 4 0))
          ∙ sym (append-nil (joint (recs s).inputs))

  pub node_w : (u : ℕ) (n : Node) → s.nodes u ≡ some n → NodeRead (ways s) u n (paint_n s (u, n))
  node_w u n e = let o = r.sound.node u n e in node_read_lem (ways s) u n o.few_buffers o.few_children o.paired o.within

  pub branch_w : (b : ℕ) (us : List ℕ) → s.branches b ≡ some us → BranchRead (places s) b us (paint_b s (b, us))
  branch_w b us e = let o = r.sound.branch b us e in branch_read_lem (places s) b us o.least o.most o.first

  slot_w : (k : ℕ) (x : Slot) → k < slot_count → slot_t s k ≡ some x → SlotWritten k x
  slot_w k x h e = slot_written k (get_or s.slots k empty) x h e (all_get slot_ok k empty s.slots tt r.sound.slot)

  input_w : (k : ℕ) (us : List ℕ) → k < slot_count → input_t s k ≡ some us → InputRead k us (paint_i s (k, us))
  input_w k us h e =
      let q = some_input (get_or s.inputs k []) us e in
      input_read_lem k us h q.1
      (leb→le (length us) 8 (subst (λ (l : List ℕ). T (leb (length l) 8)) q.0 (all_get (λ l. leb (length l) 8) k [] s.inputs tt r.sound.input)))

  slot_in_lem : (k : ℕ) → T (is_some (slot_t s k)) → k < 4
  slot_in_lem k t = get_in empty s.slots k (λ x. T (is_some (as_slot x))) (λ z. z) r.sound.slot_number t

  input_in_lem : (k : ℕ) → T (is_some (input_t s k)) → k < 4
  input_in_lem k t = get_in [] s.inputs k (λ x. T (is_some (as_input x))) (λ z. z) r.sound.input_number t

  pub slot_at : (k : ℕ) (x : Slot) → slot_t s k ≡ some x → SlotWritten k x
  slot_at k x e = slot_w k x (let h = slot_in_lem k (subst (λ (o : Option Slot). T (is_some o)) (sym e) tt) in omega arith) e

  pub input_at_lem : (k : ℕ) (us : List ℕ) → input_t s k ≡ some us → InputRead k us (paint_i s (k, us))
  input_at_lem k us e = input_w k us (let h = input_in_lem k (subst (λ (o : Option (List ℕ)). T (is_some o)) (sym e) tt) in omega arith) e

  -- ---- reading gives the entries, and the tables

  nodes_read : nodes_in (recs s) ≡ entries s.nodes units
  nodes_read = read_entries node_of (paint_n s) s.nodes units (λ u n e. (node_w u n e).same)

  branches_read : branches_in (recs s) ≡ entries s.branches units
  branches_read = read_entries branch_of (paint_b s) s.branches units (λ u n e. (branch_w u n e).same)

  slots_read : slots_in (recs s) ≡ entries (slot_t s) (range 4 0)
  slots_read = read_entries slot_of (paint_s s) (slot_t s) (range 4 0) (λ k x e. (slot_at k x e).read.same)

  inputs_read : inputs_in (recs s) ≡ entries (input_t s) (range 4 0)
  inputs_read = read_entries input_of (paint_i s) (input_t s) (range 4 0) (λ k us e. (input_at_lem k us e).same)

  nodes_table : find (nodes_in (recs s)) ≡ s.nodes
  nodes_table = fun_ext (λ v. ap (λ (es : List (ℕ × Node)). find es v) nodes_read ∙ unit_find s.nodes v (r.sound.node_unit v))

  branches_table : find (branches_in (recs s)) ≡ s.branches
  branches_table = fun_ext (λ v. ap (λ (es : List (ℕ × List ℕ)). find es v) branches_read ∙ unit_find s.branches v (r.sound.branch_unit v))

  slots_table : (k : ℕ) → find (slots_in (recs s)) k ≡ slot_t s k
  slots_table k = ap (λ (es : List (ℕ × Slot)). find es k) slots_read ∙ find_entries (slot_t s) 4 0 k (λ t. let h = slot_in_lem k t in (omega arith, omega arith))

  inputs_table : (k : ℕ) → find (inputs_in (recs s)) k ≡ input_t s k
  inputs_table k = ap (λ (es : List (ℕ × List ℕ)). find es k) inputs_read ∙ find_entries (input_t s) 4 0 k (λ t. let h = input_in_lem k t in (omega arith, omega arith))

  slots_back : map (λ k. or_else empty (find (slots_in (recs s)) k)) (range 4 0) ≡ s.slots
  slots_back =
      (λ i. map (λ k. or_else empty (slots_table k i)) (range 4 0))
      ∙ (λ i. map (λ k. as_slot_lem (get_or s.slots k empty) i) (range 4 0))
      ∙ four empty s.slots r.sound.slot_number

  inputs_back : map (λ k. or_else [] (find (inputs_in (recs s)) k)) (range 4 0) ≡ s.inputs
  inputs_back =
      (λ i. map (λ k. or_else [] (inputs_table k i)) (range 4 0))
      ∙ (λ i. map (λ k. as_input_lem (get_or s.inputs k []) i) (range 4 0))
      ∙ four [] s.inputs r.sound.input_number

  pub back : built (recs s) ≡ s
  unfolding built
  back = λ i. record { root = s.root; nodes = nodes_table i; branches = branches_table i; slots = slots_back i; inputs = inputs_back i }

  -- ---- the cut

  sized_all : {A : Type 0} (p : ℕ × A → List ℕ) (k n : ℕ) (t : ℕ → Option A) (us : List ℕ)
      → ((u : ℕ) (a : A) → t u ≡ some a → (length (p (u, a)) ≡ n) × T (eqb (get_or (p (u, a)) 0 0) k)) → T (all (sized k n) (map p (entries t us)))
  sized_all p k n t us h =
      to_map (sized k n) p (entries t us)
      (all_entries (λ e. sized k n (p e)) t us (λ u a z e.
      let w = h u a e in
      and_i (eqb (length (p (u, a))) n) (eqb (get_or (p (u, a)) 0 0) k) (subst (λ (x : ℕ). T (eqb x n)) (sym w.0) (eqb_refl n)) w.1))

  pub cut_image : cut (image s) ≡ recs s
  cut_image =
      ap cut image_parts
      ∙ cut_of s.root (recs s).nodes (recs s).branches (recs s).slots (recs s).inputs
      (sized_all (paint_n s) 33 30 s.nodes units (λ u n e. ((node_w u n e).long, tt)))
      (sized_all (paint_b s) 34 12 s.branches units (λ u n e. ((branch_w u n e).long, tt)))
      (sized_all (paint_s s) 35 12 (slot_t s) (range 4 0) (λ k x e. let w = slot_at k x e in (w.read.long, w.head)))
      (sized_all (paint_i s) 36 11 (input_t s) (range 4 0) (λ k us e. ((input_at_lem k us e).long, tt)))

  -- ---- bytes

  node_most : (u : ℕ) → T (is_some (s.nodes u)) → u ≤ 255
  node_most u t = (r.sound.node_unit u t).1

  branch_most : (u : ℕ) → T (is_some (s.branches u)) → u ≤ 255
  branch_most u t = (r.sound.branch_unit u t).1

  is_some_lem : {A : Type 0} (o : Option A) (a : A) → o ≡ some a → T (is_some o)
  is_some_lem {A} o a e = subst (λ (o : Option A). T (is_some o)) (sym e) tt

  bytes_of : (l : List ℕ) → ((u : ℕ) → T (has u l) → u ≤ 255) → T (all (λ x. leb x 255) (padded l))
  bytes_of l h = bytes_pad l (all_has (λ x. leb x 255) l (λ u t. le→leb u 255 (h u t)))

  node_bytes_lem : (u : ℕ) (n : Node) → s.nodes u ≡ some n → T (all (λ x. leb x 255) (paint_n s (u, n)))
  node_bytes_lem u n e =
      let o = r.sound.node u n e in
      let f : ℕ → Bool = λ x. leb x 255 in
      let l4 : List ℕ = padded n.offsets ++ low_first (ways s u) in
      let l3 : List ℕ = padded n.children ++ l4 in
      let l2 : List ℕ = length n.children ∷ l3 in
      let l1 : List ℕ = padded n.buffers ++ l2 in
      bytes_cons u (length n.buffers ∷ l1) (node_most u (is_some_lem (s.nodes u) n e))
      (bytes_cons (length n.buffers) l1 (omega (arith, o.few_buffers))
      (all_append f (padded n.buffers) l2 (bytes_of n.buffers (λ x t. branch_most x (o.buffers_named x t)))
      (bytes_cons (length n.children) l3 (omega (arith, o.few_children))
      (all_append f (padded n.children) l4 (bytes_of n.children (λ x t. node_most x (o.children_named x t)))
      (all_append f (padded n.offsets) (low_first (ways s u)) (bytes_of n.offsets (λ x t. omega (arith, o.few_buffers, leb→le x (length n.buffers) (all_in (λ o. leb o (length n.buffers)) n.offsets x o.within t))))
      (bytes_two (ways s u) (r.few_ways u)))))))

  branch_unit_of : (b : ℕ) (us : List ℕ) → s.branches b ≡ some us → (u : ℕ) → T (has u us) → T (has u (owned s))
  unfolding owned
  branch_unit_of b us e u t =
      let i = r.sound.branch_unit b (is_some_lem (s.branches b) us e) in
      has_right u (flat (node_units s) units) (flat (units_of s) units ++ joined slot_units s.slots)
      (has_left u (flat (units_of s) units) (joined slot_units s.slots)
      (has_flat (units_of s) u b units (has_unit b i.0 i.1) (subst (λ (x : Option (List ℕ)). T (has u (or_else [] x))) (sym e) t)))

  branch_bytes : (b : ℕ) (us : List ℕ) → s.branches b ≡ some us → T (all (λ x. leb x 255) (paint_b s (b, us)))
  branch_bytes b us e =
      let o = r.sound.branch b us e in
      bytes_cons (length us) (padded us ++ low_first (places s b)) (omega (arith, o.most))
      (all_append (λ x. leb x 255) (padded us) (low_first (places s b)) (bytes_of us (λ u t. (r.sound.unit u (branch_unit_of b us e u t)).1))
      (bytes_two (places s b) (r.few b (is_some_lem (s.branches b) us e))))

  slot_bytes_lem : (k : ℕ) (x : Slot) → slot_t s k ≡ some x → T (all (λ x. leb x 255) (paint_s s (k, x)))
  slot_bytes_lem k x e = (slot_at k x e).bytes (λ u t.
      (r.sound.unit u (pos_has u (owned s) (omega (arith, slot_owned s u, has_pos u (joined slot_units s.slots) (joined_get s.slots k u (subst (λ (y : Slot). T (has u (slot_units y))) (sym (is_slot_lem (get_or s.slots k empty) x e)) t)))))).1)
    where
      is_slot_lem : (y x : Slot) → as_slot y ≡ some x → y ≡ x
      is_slot_lem empty x e = absurd (subst (λ (p : Option Slot). T (is_some p)) (sym e) tt)
      is_slot_lem (opened us) x e = cc
      is_slot_lem (sealed us) x e = cc

  input_bytes : (k : ℕ) (us : List ℕ) → input_t s k ≡ some us → T (all (λ x. leb x 255) (paint_i s (k, us)))
  input_bytes k us e =
      let q = some_input (get_or s.inputs k []) us e in
      let w : length us ≤ 8 = leb→le (length us) 8 (subst (λ (l : List ℕ). T (leb (length l) 8)) q.0 (all_get (λ l. leb (length l) 8) k [] s.inputs tt r.sound.input)) in
      bytes_cons k (length us ∷ padded us) (let h = input_in_lem k (is_some_lem (input_t s k) us e) in omega arith)
      (bytes_cons (length us) (padded us) (omega arith)
      (bytes_of us (λ u t. branch_most u (r.sound.input_named u (in_use_get s.inputs k u (subst (λ (l : List ℕ). T (has u l)) (sym q.0) t))))))

  root_most : s.root ≤ 255
  root_most = go (eqb s.root 0) refl
    where
      go : (b : Bool) → eqb s.root 0 ≡ b → s.root ≤ 255
      go true e = omega (arith, eqb→eq s.root 0 (eq→T (eqb s.root 0) e))
      go false e = node_most s.root (root_named s r.sound e)

  -- ---- the tests

  bytes_entries : {A : Type 0} (p : ℕ × A → List ℕ) (t : ℕ → Option A) (us : List ℕ)
      → ((u : ℕ) (a : A) → t u ≡ some a → T (all (λ x. leb x 255) (p (u, a)))) → T (all (λ x. leb x 255) (joint (map p (entries t us))))
  bytes_entries p t us h =
      of_joint (λ x. leb x 255) (map p (entries t us)) (to_map (λ r. all (λ x. leb x 255) r) p (entries t us) (all_entries (λ e. all (λ x. leb x 255) (p e)) t us (λ u a z e. h u a e)))

  image_bytes : T (all (λ x. leb x 255) (image s))
  image_bytes =
      let f : ℕ → Bool = λ x. leb x 255 in
      let l3 : List ℕ = joint (recs s).inputs ++ [] in
      let l2 : List ℕ = joint (recs s).slots ++ l3 in
      let l1 : List ℕ = joint (recs s).branches ++ l2 in
      subst (λ (l : List ℕ). T (all (λ x. leb x 255) l)) (sym image_parts)
      (bytes_cons s.root (joint (recs s).nodes ++ l1) root_most
      (all_append f (joint (recs s).nodes) l1 (bytes_entries (paint_n s) s.nodes units node_bytes_lem)
      (all_append f (joint (recs s).branches) l2 (bytes_entries (paint_b s) s.branches units branch_bytes)
      (all_append f (joint (recs s).slots) l3 (bytes_entries (paint_s s) (slot_t s) (range 4 0) slot_bytes_lem)
      (all_append f (joint (recs s).inputs) [] (bytes_entries (paint_i s) (input_t s) (range 4 0) input_bytes) tt)))))

  laid_image : T (laid (image s) (recs s))
  unfolding laid
  laid_image =
      every_of (lines (image s) (recs s)) (
        image_bytes,
        (
          tt,
          (
            tt,
            (
              tt,
              (
                to_map node_laid (paint_n s) (entries s.nodes units) (all_entries (λ e. node_laid (paint_n s e)) s.nodes units (λ u n z e. (node_w u n e).shape)),
                (
                  to_map branch_laid (paint_b s) (entries s.branches units) (all_entries (λ e. branch_laid (paint_b s e)) s.branches units (λ u n z e. (branch_w u n e).shape)),
                  (
                    to_map slot_laid (paint_s s) (entries (slot_t s) (range 4 0)) (all_entries (λ e. slot_laid (paint_s s e)) (slot_t s) (range 4 0) (λ u n z e. (slot_at u n e).read.shape)),
                    (
                      to_map input_laid (paint_i s) (entries (input_t s) (range 4 0)) (all_entries (λ e. input_laid (paint_i s e)) (input_t s) (range 4 0) (λ u n z e. (input_at_lem u n e).shape)),
                      (
                        subst (λ (es : List (ℕ × Node)). T (rising 0 (keys es))) (sym nodes_read) (unit_rising s.nodes),
                        (
                          subst (λ (es : List (ℕ × List ℕ)). T (rising 0 (keys es))) (sym branches_read) (unit_rising s.branches),
                          (
                            subst (λ (es : List (ℕ × Slot)). T (rising 0 (keys es))) (sym slots_read) (rising_entries (slot_t s) 4 0 0 (omega arith)),
                            (subst (λ (es : List (ℕ × List ℕ)). T (rising 0 (keys es))) (sym inputs_read) (rising_entries (input_t s) 4 0 0 (omega arith)), tt),
                          ),
                        ),
                      ),
                    ),
                  ),
                ),
              ),
            ),
          ),
        ),
      )

  claims_owned : claims (recs s) ≡ owned s
  unfolding claims owned
  claims_owned = λ i. ns i ++ (bs i ++ ss i)
    where
      ns : keys (nodes_in (recs s)) ≡ flat (node_units s) units
      ns = ap keys nodes_read ∙ sym (flat_entries (λ u o. cond (is_some o) (u ∷ []) []) (λ u. refl) s.nodes units ∙ joined_keys (entries s.nodes units))

      bs : joined (λ e. e.1) (branches_in (recs s)) ≡ flat (units_of s) units
      bs = ap (λ (es : List (ℕ × List ℕ)). joined (λ e. e.1) es) branches_read ∙ sym (flat_entries (λ u o. or_else [] o) (λ u. refl) s.branches units)

      ss : joined (λ e. slot_units e.1) (slots_in (recs s)) ≡ joined slot_units s.slots
      ss =
          ap (λ (es : List (ℕ × Slot)). joined (λ e. slot_units e.1) es) slots_read
          ∙ sym (flat_entries (λ k o. slot_units (or_else empty o)) (λ k. refl) (slot_t s) (range 4 0))
          ∙ (λ i. flat (λ k. slot_units (as_slot_lem (get_or s.slots k empty) i)) (range 4 0))
          ∙ sym (joined_map slot_units (λ k. get_or s.slots k empty) (range 4 0))
          ∙ ap (λ (l : List Slot). joined slot_units l) (four empty s.slots r.sound.slot_number)

  single_image : T (owned_once (recs s))
  unfolding owned_once
  single_image =
      subst (λ (l : List ℕ). T (all (λ u. leb 1 u && leb u 255) l && distinct l)) (sym claims_owned)
      (and_i (all (λ u. leb 1 u && leb u 255) (owned s)) (distinct (owned s))
      (all_has (λ u. leb 1 u && leb u 255) (owned s) (λ u t. let w = r.sound.unit u t in and_i (leb 1 u) (leb u 255) (le→leb 1 u w.0) (le→leb u 255 w.1)))
      (once_distinct (owned s) r.sound.single))

  node_is : (u : ℕ) → T (is_some (s.nodes u)) → T (is_node (recs s) u)
  node_is u t = subst (λ (f : ℕ → Option Node). T (is_some (f u))) (sym nodes_table) t

  branch_is : (u : ℕ) → T (is_some (s.branches u)) → T (is_branch (recs s) u)
  branch_is u t = subst (λ (f : ℕ → Option (List ℕ)). T (is_some (f u))) (sym branches_table) t

  named_image : T (named (recs s))
  unfolding named
  named_image =
      every_of (names (recs s)) (
        root (eqb s.root 0) refl,
        (
          subst (λ (es : List (ℕ × Node)). T (all (λ e. all (is_node (recs s)) e.1.children) es)) (sym nodes_read)
              (all_entries (λ e. all (is_node (recs s)) e.1.children) s.nodes units (λ u n z e. all_has (is_node (recs s)) n.children (λ x t. node_is x ((r.sound.node u n e).children_named x t)))),
          (
            subst (λ (es : List (ℕ × Node)). T (all (λ e. all (is_branch (recs s)) e.1.buffers) es)) (sym nodes_read)
                (all_entries (λ e. all (is_branch (recs s)) e.1.buffers) s.nodes units (λ u n z e. all_has (is_branch (recs s)) n.buffers (λ x t. branch_is x ((r.sound.node u n e).buffers_named x t)))),
            (
              subst (λ (es : List (ℕ × List ℕ)). T (all (λ e. all (is_branch (recs s)) e.1) es)) (sym inputs_read)
                  (all_entries (λ e. all (is_branch (recs s)) e.1) (input_t s) (range 4 0) (λ k us z e. all_has (is_branch (recs s)) us (λ x t.
                  branch_is x (r.sound.input_named x (in_use_get s.inputs k x (subst (λ (l : List ℕ). T (has x l)) (sym (some_input (get_or s.inputs k []) us e).0) t)))))),
              tt,
            ),
          ),
        ),
      )
    where
      root : (b : Bool) → eqb s.root 0 ≡ b → T (b || is_node (recs s) s.root)
      root true e = tt
      root false e = node_is s.root (root_named s r.sound e)

  low_image : T (shallow s)
  unfolding shallow
  low_image = subst (λ (n : ℕ). T (eqb n 0)) (sym r.sound.low) tt

  keys_all : {A : Type 0} (f : ℕ → Bool) (t : ℕ → Option A) (us : List ℕ) → ((u : ℕ) → T (is_some (t u)) → T (f u)) → T (all f (keys (entries t us)))
  keys_all f t us h = to_keys f (entries t us) (all_entries (λ e. f e.0) t us (λ u a z e. h u (is_some_lem (t u) a e)))

  fits_image : T (countable s (recs s))
  unfolding countable
  fits_image =
      and_i (all (λ u. leb (ways s u) 65535) (keys (nodes_in (recs s)))) (all (λ b. leb (places s b) 65535) (keys (branches_in (recs s))))
      (subst (λ (es : List (ℕ × Node)). T (all (λ u. leb (ways s u) 65535) (keys es))) (sym nodes_read) (keys_all (λ u. leb (ways s u) 65535) s.nodes units (λ u t. le→leb (ways s u) 65535 (r.few_ways u))))
      (subst (λ (es : List (ℕ × List ℕ)). T (all (λ u. leb (places s u) 65535) (keys es))) (sym branches_read) (keys_all (λ u. leb (places s u) 65535) s.branches units (λ u t. le→leb (places s u) 65535 (r.few u t))))

  live_image : T (all_held s (recs s))
  unfolding all_held
  live_image =
      and_i (all (reached s) (keys (nodes_in (recs s)))) (all (alive s) (keys (branches_in (recs s))))
      (subst (λ (es : List (ℕ × Node)). T (all (reached s) (keys es))) (sym nodes_read) (keys_all (reached s) s.nodes units r.live_node))
      (subst (λ (es : List (ℕ × List ℕ)). T (all (alive s) (keys es))) (sym branches_read) (keys_all (alive s) s.branches units r.live_branch))

  counted_image : T (counts_agree s (recs s))
  unfolding counts_agree
  counted_image =
      let fn : List ℕ → Bool = λ r. eqb (node_count r) (ways s (node_of r).0) in
      let fb : List ℕ → Bool = λ r. eqb (branch_count r) (places s (branch_of r).0) in
      and_i (all fn (recs s).nodes) (all fb (recs s).branches)
      (to_map fn (paint_n s) (entries s.nodes units) (all_entries (λ e. fn (paint_n s e)) s.nodes units (λ u n z e.
      same (node_count (paint_n s (u, n))) (ways s (node_of (paint_n s (u, n))).0) (node_w u n e).count)))
      (to_map fb (paint_b s) (entries s.branches units) (all_entries (λ e. fb (paint_b s e)) s.branches units (λ b us z e.
      same (branch_count (paint_b s (b, us))) (places s (branch_of (paint_b s (b, us))).0) ((branch_w b us e).count ∙ ap (λ (x : ℕ × List ℕ). places s x.0) (sym (branch_w b us e).same)))))
    where
      same : (x y : ℕ) → x ≡ y → T (eqb x y)
      same x y e = subst (λ (k : ℕ). T (eqb x k)) e (eqb_refl x)

  -- ---- THEOREM: what the writer writes for a right store is loaded as that store

  pub load_image : load (image s) ≡ accepted s
  unfolding load judge
  load_image =
      let c : Cut = recs s in
      let b : built c ≡ s = back in
      ap (judge (image s)) cut_image
      ∙ (need_yes (laid (image s) c) 21 _ laid_image
      ∙ need_yes (owned_once c) 22 _ single_image
      ∙ need_yes (named c) 23 _ named_image
      ∙ need_yes (shallow (built c)) 24 _ (subst (λ (x : Store). T (shallow x)) (sym b) low_image)
      ∙ need_yes (countable (built c) c) 25 _ (subst (λ (x : Store). T (countable x c)) (sym b) fits_image)
      ∙ need_yes (all_held (built c) c) 26 _ (subst (λ (x : Store). T (all_held x c)) (sym b) live_image)
      ∙ need_yes (counts_agree (built c) c) 27 (accepted (built c)) (subst (λ (x : Store). T (counts_agree x c)) (sym b) counted_image))
      ∙ ap accepted b
