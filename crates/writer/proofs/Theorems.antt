-- THEOREM: in a right state the writer writes the image of the store, and answers its length; a short output is turned down and stays.
-- Assumes nothing.
use mathlib.Core.Bool.{Bool}
use mathlib.Core.Path.{◌≡◌, refl, ap, ap₂, sym, ◌∙◌}
use mathlib.Core.List.{List, [], ◌∷◌, ◌++◌, map, append_assoc}
use mathlib.Core.Option.{Option, none, some}
use Rattle.std.specs.Prelude.{Ok, Err}
use Prim.Native.Nat.{ℕ, zero, suc, ◌+◌, ◌≤◌, ◌<◌}
use native.Mathlib.Omega.{arith}
use lib.Dec.{T, leb}
use lib.ListN.{length, get_or, drop}
use borrow.Author.Tests.{lt-ltb, le-ltb, ltb-true, ltb-false, eq-eqb, ne_eqb, leb-true}
use Rattle.units.specs.Limits.{last_unit, room, slot_count, compactor_count, writer_wants}
use Rattle.units.specs.declared.Refusal.TheVariants.{ShortOutput}
use Rattle.ways.specs.Ways.{flat}
use Rattle.ways.proofs.Tests.{T→eq, and_l, and_r}
use Rattle.rules.specs.Tables.{all, range, is_some, or_else}
use Rattle.rules.specs.Store.{Node, Slot, empty, opened, sealed, blank, Store, units, ways, places}
use Rattle.rules.specs.Images.{padded, node_image, branch_image, slot_image, slot_images, input_images, image}
use Rattle.rules.specs.Right.{Right, slot_ok}
use Rattle.right.proofs.Held.{reached_node}
use Rattle.images.proofs.Listing.{joint}
use Rattle.images.proofs.Theorems.{image_length}
use Rattle.records.specs.Rows.{eight_pad, poured}
use Rattle.counting.specs.Nodes.{coded, node_in, root_read}
use Rattle.path.proofs.Trees.{node_of_lem}
use Rattle.tables.specs.Hold.{coded_branch, coded_slot, coded_input}
use Rattle.tables.proofs.Kept.{branch_read_lem, slot_read_lem, input_read_lem}
use Rattle.state.specs.Stands.{Arrays, Stands}
use Rattle.writer.specs.Records.{unless_zero, node_record, branch_record, slot_record, input_record, node_of, branch_of, slot_of, input_of, records_in}
use Rattle.writer.specs.Written.{length_of, write_in}
use Rattle.writer.proofs.Fitting.{poured_front, wrote_fit}

-- ---- lists of records

joint_append : (rs ss : List (List ℕ)) → joint (rs ++ ss) ≡ joint rs ++ joint ss
joint_append [] ss = refl
joint_append (r ∷ rs) ss = ap (λ (x : List ℕ). r ++ x) (joint_append rs ss) ∙ sym (append_assoc r (joint rs) (joint ss))

joint_flat : (f g : ℕ → List ℕ) (n k : ℕ) → ((u : ℕ) → k ≤ u → u < k + n → f u ≡ g u) → joint (map f (range n k)) ≡ flat g (range n k)
joint_flat f g zero k h = refl
joint_flat f g (suc n) k h = ap₂ (λ (a b : List ℕ). a ++ b) (h k (omega arith) (omega arith)) (joint_flat f g n (suc k) (λ u p q. h u (omega arith) (omega arith)))

-- the images of a list's members, from number k on
module _ {A : Type 0} (g : ℕ → A → List ℕ) where
  abbrev images : ℕ → List A → List ℕ
  images k [] = []
  images k (x ∷ xs) = g k x ++ images (suc k) xs

  joint_images : (z : A) (f : ℕ → List ℕ) (k : ℕ) (xs : List A) → ((j : ℕ) → j < length xs → f (k + j) ≡ g (k + j) (get_or xs j z)) → joint (map f (range (length xs) k)) ≡ images k xs
  joint_images z f k [] h = refl
  joint_images z f k (x ∷ xs) h =
      let e : k + 0 ≡ k = omega arith in
      let s : (j : ℕ) → k + suc j ≡ suc k + j = λ j. omega arith in
      ap₂ (λ (a b : List ℕ). a ++ b)
      (rw e at (h 0 (omega arith)))
      (joint_images z f (suc k) xs (λ j q. rw (s j) at (h (suc j) (omega arith))))

slots_image : (k : ℕ) (xs : List Slot) → images slot_image k xs ≡ slot_images k xs
slots_image k [] = refl
slots_image k (x ∷ xs) = ap (λ (l : List ℕ). slot_image k x ++ l) (slots_image (suc k) xs)

abbrev input_image : ℕ → List ℕ → List ℕ
input_image k [] = []
input_image k (x ∷ xs) = 36 ∷ k ∷ length (x ∷ xs) ∷ padded (x ∷ xs)

inputs_image : (k : ℕ) (ls : List (List ℕ)) → images input_image k ls ≡ input_images k ls
inputs_image k [] = refl
inputs_image k ([] ∷ ls) = inputs_image (suc k) ls
inputs_image k ((x ∷ xs) ∷ ls) = ap (λ (l : List ℕ). input_image k (x ∷ xs) ++ l) (inputs_image (suc k) ls)

-- ---- one record

node_image_lem : (count : ℕ → ℕ) (u : ℕ) (n : Node) → length n.buffers ≤ room → length n.children ≤ room → length n.offsets ≤ room
    → node_record u (coded n) (count u) ≡ node_image count u (some n)
node_image_lem count u n b c o = rw (← eight_pad n.buffers b, ← eight_pad n.children c, ← eight_pad n.offsets o)

branch_image_lem : (count : ℕ → ℕ) (b : ℕ) (us : List ℕ) → length us ≤ room → branch_record (coded_branch us) (count b) ≡ branch_image count b (some us)
branch_image_lem count b us h = rw (← eight_pad us h)

slot_image_lem : (k : ℕ) (x : Slot) → T (slot_ok x) → unless_zero (coded_slot x).state (slot_record k (coded_slot x)) ≡ slot_image k x
slot_image_lem k empty t = refl
slot_image_lem k (opened us) t = rw (← eight_pad us (leb-true (length us) room (T→eq (leb (length us) room) (and_r (leb 1 (length us)) (leb (length us) room) t))))
slot_image_lem k (sealed us) t = rw (← eight_pad us (leb-true (length us) room (T→eq (leb (length us) room) (and_r (leb 1 (length us)) (leb (length us) room) t))))

input_image_lem : (k : ℕ) (us : List ℕ) → T (leb (length us) room) → unless_zero (coded_input us).number (input_record k (coded_input us)) ≡ input_image k us
input_image_lem k [] t = refl
input_image_lem k (x ∷ xs) t =
    let h : length (x ∷ xs) ≤ room = leb-true (length (x ∷ xs)) room (T→eq (leb (length (x ∷ xs)) room) t) in
    let d : length (x ∷ xs) ≡ 0 → ⊥ = λ e. omega arith in
    rw (ne_eqb (length (x ∷ xs)) 0 d) (ap (λ (l : List ℕ). 36 ∷ k ∷ length (x ∷ xs) ∷ l) (eight_pad (x ∷ xs) h))

all_at : {A : Type 0} (f : A → Bool) (z : A) (xs : List A) (j : ℕ) → T (all f xs) → j < length xs → T (f (get_or xs j z))
all_at f z [] j t q = absurd (omega arith)
all_at f z (x ∷ xs) zero t q = and_l (f x) (all f xs) t
all_at f z (x ∷ xs) (suc j) t q = all_at f z xs j (and_r (f x) (all f xs) t) (omega arith)

-- ---- the arrays of a right state

module _ (s : Store) (r : Right s) (a : Arrays) (st : Stands s a) where
  abbrev nodes : List (List ℕ)
  nodes = map (node_of a.tree a.counts) (range last_unit 1)

  abbrev branches : List (List ℕ)
  branches = map (branch_of a.counts a.hold) (range last_unit 1)

  abbrev slots : List (List ℕ)
  slots = map (slot_of a.hold) (range slot_count 0)

  abbrev inputs : List (List ℕ)
  inputs = map (input_of a.hold) (range compactor_count 0)

  nodes_are : (u : ℕ) → 1 ≤ u → u ≤ last_unit → node_of a.tree a.counts u ≡ node_image (ways s) u (s.nodes u)
  unfolding node_of
  nodes_are u p q =
      ap (λ (c : ℕ). unless_zero c (node_record u (node_in a.tree u) c)) (st.counts.way u q)
      ∙ ap (λ (n : Rattle.counting.specs.declared.Node.Node). unless_zero (ways s u) (node_record u n (ways s u))) (node_of_lem st.tree u p q)
      ∙ go (s.nodes u) refl
    where
      go : (o : Option Node) → s.nodes u ≡ o → unless_zero (ways s u) (node_record u (coded (or_else blank o)) (ways s u)) ≡ node_image (ways s) u o
      go none e =
          let z : ways s u ≤ 0 = ltb-false 0 (ways s u) (reached_node s r u ∙ ap is_some e) in
          rw (eq-eqb (ways s u) 0 (omega arith))
      go (some n) e =
          let z : 0 < ways s u = ltb-true 0 (ways s u) (reached_node s r u ∙ ap is_some e) in
          let w = r.sound.node u n e in
          rw (ne_eqb (ways s u) 0 (λ x. omega arith)) (node_image_lem (ways s) u n w.few_buffers w.few_children (omega (arith, w.paired, w.few_children)))

  branches_are : (b : ℕ) → b ≤ last_unit → branch_of a.counts a.hold b ≡ branch_image (places s) b (s.branches b)
  unfolding branch_of
  branches_are b q = rw (branch_read_lem st.hold b q, st.counts.place b q) (go (s.branches b) refl)
    where
      go : (o : Option (List ℕ)) → s.branches b ≡ o → unless_zero (length (or_else [] o)) (branch_record (coded_branch (or_else [] o)) (places s b)) ≡ branch_image (places s) b o
      go none e = refl
      go (some us) e =
          let w = r.sound.branch b us e in
          rw (ne_eqb (length us) 0 (λ x. omega (arith, w.least))) (branch_image_lem (places s) b us w.most)

  slots_are : (k : ℕ) → k < slot_count → slot_of a.hold k ≡ slot_image k (get_or s.slots k empty)
  unfolding slot_of
  slots_are k q =
      let n : length s.slots ≡ slot_count = r.sound.slot_number in
      rw (slot_read_lem st.hold k q) (slot_image_lem k (get_or s.slots k empty) (all_at slot_ok empty s.slots k r.sound.slot (omega arith)))

  inputs_are : (k : ℕ) → k < compactor_count → input_of a.hold k ≡ input_image k (get_or s.inputs k [])
  unfolding input_of
  inputs_are k q =
      let n : length s.inputs ≡ compactor_count = r.sound.input_number in
      rw (input_read_lem st.hold k q) (input_image_lem k (get_or s.inputs k []) (all_at (λ l. leb (length l) room) [] s.inputs k r.sound.input (omega arith)))

  -- ---- the records of each kind, and all of them

  all_nodes : joint nodes ≡ flat (λ u. node_image (ways s) u (s.nodes u)) units
  unfolding units
  all_nodes = joint_flat (node_of a.tree a.counts) (λ u. node_image (ways s) u (s.nodes u)) last_unit 1 (λ u p q. nodes_are u p (omega arith))

  all_branches : joint branches ≡ flat (λ b. branch_image (places s) b (s.branches b)) units
  unfolding units
  all_branches = joint_flat (branch_of a.counts a.hold) (λ b. branch_image (places s) b (s.branches b)) last_unit 1 (λ b p q. branches_are b (omega arith))

  all_slots : joint slots ≡ slot_images 0 s.slots
  all_slots =
      let n : length s.slots ≡ slot_count = r.sound.slot_number in
      let z : (j : ℕ) → 0 + j ≡ j = λ j. omega arith in
      ap (λ (m : ℕ). joint (map (slot_of a.hold) (range m 0))) (sym n)
      ∙ joint_images slot_image empty (slot_of a.hold) 0 s.slots (λ j q. rw (z j) (slots_are j (omega arith)))
      ∙ slots_image 0 s.slots

  all_inputs : joint inputs ≡ input_images 0 s.inputs
  all_inputs =
      let n : length s.inputs ≡ compactor_count = r.sound.input_number in
      let z : (j : ℕ) → 0 + j ≡ j = λ j. omega arith in
      ap (λ (m : ℕ). joint (map (input_of a.hold) (range m 0))) (sym n)
      ∙ joint_images input_image [] (input_of a.hold) 0 s.inputs (λ j q. rw (z j) (inputs_are j (omega arith)))
      ∙ inputs_image 0 s.inputs

  records_are : joint (records_in a.tree a.counts a.hold) ≡ image s
  unfolding records_in image
  records_are =
      ap₂ (λ (x : ℕ) (l : List ℕ). 32 ∷ x ∷ l)
      (root_read a.tree s.root st.tree.root_row)
      (split nodes (branches ++ (slots ++ inputs)) all_nodes
      (split branches (slots ++ inputs) all_branches
      (split slots inputs all_slots all_inputs)))
    where
      split : (rs ss : List (List ℕ)) {x y : List ℕ} → joint rs ≡ x → joint ss ≡ y → joint (rs ++ ss) ≡ x ++ y
      split rs ss e f = joint_append rs ss ∙ ap₂ (λ (a b : List ℕ). a ++ b) e f

  -- THEOREM: the image at the front, its length as the answer, the later bytes as they were
  pub write_is : (out : List ℕ) → writer_wants ≤ length out
      → write_in a.tree a.counts a.hold out ≡ (image s ++ drop (length (image s)) out, Ok (length (image s)))
  unfolding write_in
  write_is out h =
      let e : joint (records_in a.tree a.counts a.hold) ≡ image s = records_are in
      let n : length (image s) ≤ writer_wants = image_length s r in
      let z : 0 + length (image s) ≡ length (image s) = omega arith in
      rw (le-ltb (length out) writer_wants h)
      (ap length_of (
      wrote_fit (records_in a.tree a.counts a.hold) out 0 (rw e (omega arith))
      ∙ ap (λ (l : List ℕ). (poured out 0 l, 0 + length l)) e
      ∙ ap₂ (λ (l : List ℕ) (m : ℕ). (l, m)) (poured_front out (image s) (omega arith)) z
      ))

-- THEOREM: refusal 20
pub write_short : (tree counts hold out : List ℕ) → length out < writer_wants → write_in tree counts hold out ≡ (out, Err ShortOutput)
unfolding write_in
write_short tree counts hold out h = rw (lt-ltb (length out) writer_wants h)
