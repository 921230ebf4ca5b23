-- The nodes that code makes of nodes of the rules are the nodes that the rules name. Assumes nothing.
use mathlib.Core.Path.{◌≡◌, ap, ◌∙◌}
use mathlib.Core.List.{List, [], ◌∷◌, ◌++◌}
use Prim.Native.Nat.{ℕ, ◌+◌, ◌-◌, ◌≤◌, ◌<◌}
use native.Mathlib.Omega.{arith}
use native.Mathlib.Numerals.{add-one}
use lib.ListN.{length, get_or, set, take, drop, length-append, length-drop, length-set}
use lib.Seq.{length-take-le, set-get_or}
use Rattle.rules.specs.Store.{Node}
use Rattle.rules.specs.Steps.{moved, flushed_offsets}
use Rattle.records.specs.Rows.{eight}
use Rattle.counting.specs.Nodes.{coded}
use Rattle.eights.specs.Eights.{replaced}
use Rattle.eights.proofs.Places.{eight_alike, eight_all, replaced_eight, replaced_length, number_replaced, map_eight, moved_none, replaced_last, replaced_front, replaced_back, replaced_set}
use Rattle.shapes.specs.Ends.{Fits, buffers_are, children_are, buffer_last, child_set, split_target, split_left, split_right, flush_target, flushed_child, commit_target}
use Rattle.shapes.specs.Shapes.{replace_buffers, replace_children, with_buffer, with_child, split_parent, left_of, right_of, flush_parent, gained, flush_child, commit_node}

-- ---- lists of a node

module _ (n : Node) (f : Fits n) where
  pub buffers_replaced : (at gone : ℕ) (come : List ℕ) → at ≤ length n.buffers → length (replaced n.buffers at gone come) ≤ 8
      → replace_buffers (coded n) at gone come ≡ coded (buffers_are n (replaced n.buffers at gone come))
  unfolding replace_buffers
  buffers_replaced at gone come p h =
      rw (replaced_eight n.buffers at gone come f.few_buffers p, number_replaced n.buffers at gone come p h)

  pub children_replaced : (at gone : ℕ) (come with : List ℕ) → at ≤ length n.children → length (replaced n.children at gone come) ≤ 8
      → replace_children (coded n) at gone come with ≡ coded (children_are n (replaced n.children at gone come) (replaced n.offsets at gone with))
  unfolding replace_children
  children_replaced at gone come with p h =
      rw (replaced_eight n.children at gone come f.few_children p, replaced_eight n.offsets at gone with (omega (arith, f.few_children, f.paired)) (omega (arith, f.paired)), number_replaced n.children at gone come p h)

  -- ---- nodes that come

  pub with_buffer_lem : (b : ℕ) → length n.buffers < 8 → with_buffer (coded n) b ≡ coded (buffer_last n b)
  with_buffer_lem b h =
      let e : replaced n.buffers (length n.buffers) 0 (b ∷ []) ≡ n.buffers ++ (b ∷ []) = replaced_last n.buffers (b ∷ []) in
      buffers_replaced (length n.buffers) 0 (b ∷ []) (omega arith) (rw (e, length-append) (omega arith))
      ∙ ap (λ (l : List ℕ). coded (buffers_are n l)) e

  -- one child, its offset o
  child_set_lem : (i u o : ℕ) → i < length n.children
      → replace_children (coded n) i 1 (u ∷ []) (o ∷ []) ≡ coded (children_are n (set n.children i u) (set n.offsets i o))
  child_set_lem i u o h =
      let e : replaced n.children i 1 (u ∷ []) ≡ set n.children i u = replaced_set n.children i u h in
      let w : replaced n.offsets i 1 (o ∷ []) ≡ set n.offsets i o = replaced_set n.offsets i o (omega (arith, f.paired)) in
      children_replaced i 1 (u ∷ []) (o ∷ []) (omega arith) (rw (e, length-set) f.few_children)
      ∙ rw (e, w)

  pub offset_coded : (c : ℕ) → get_or (eight n.offsets) c 0 ≡ get_or n.offsets c 0
  offset_coded c = eight_alike n.offsets (omega (arith, f.few_children, f.paired)) c

  pub with_child_lem : (i u : ℕ) → i < length n.children → with_child (coded n) i u ≡ coded (child_set n i u)
  with_child_lem i u h = rw (offset_coded i) (child_set_lem i u (get_or n.offsets i 0) h ∙ rw (set-get_or n.offsets i 0))

  pub split_parent_lem : (c l r : ℕ) → c < length n.children → length n.children < 8 → split_parent (coded n) c l r ≡ coded (split_target n c l r)
  split_parent_lem c l r h p =
      let o : ℕ = get_or n.offsets c 0 in
      let e : length (replaced n.children c 1 (l ∷ r ∷ [])) ≡ c + 2 + (length n.children - (c + 1)) = replaced_length n.children c 1 (l ∷ r ∷ []) (omega arith) in
      rw (offset_coded c)
      (children_replaced c 1 (l ∷ r ∷ []) (o ∷ o ∷ []) (omega arith) (rw e (omega arith))
      ∙ rw add-one)

  pub left_of_lem : (a : ℕ) → a ≤ length n.children → left_of (coded n) a ≡ coded (split_left n a)
  left_of_lem a h =
      let e : replaced n.children a (length n.children) [] ≡ take a n.children = replaced_front n.children a in
      let w : replaced n.offsets a (length n.children) [] ≡ take a n.offsets = rw (← f.paired) (replaced_front n.offsets a) in
      children_replaced a (length n.children) [] [] h (rw (e, length-take-le a n.children h) (omega (arith, f.few_children)))
      ∙ rw (e, w)

  pub right_of_lem : (a : ℕ) → right_of (coded n) a ≡ coded (split_right n a)
  right_of_lem a =
      let e : replaced n.children 0 a [] ≡ drop a n.children = replaced_back n.children a in
      let w : replaced n.offsets 0 a [] ≡ drop a n.offsets = replaced_back n.offsets a in
      children_replaced 0 a [] [] (omega arith) (rw (e, length-drop) (omega (arith, f.few_children)))
      ∙ rw (e, w)

  pub commit_node_lem : (a e b : ℕ) → a < e → e ≤ length n.buffers → commit_node (coded n) a e b ≡ coded (commit_target n a e b)
  unfolding commit_node
  commit_node_lem a e b p q =
      let z : a + (e - a) ≡ e = omega arith in
      let h : length (replaced n.buffers a (e - a) (b ∷ [])) ≤ 8 = omega (arith, replaced_length n.buffers a (e - a) (b ∷ []) (omega arith), f.few_buffers) in
      rw (buffers_replaced a (e - a) (b ∷ []) (omega arith) h, map_eight (moved a e) n.offsets (moved_none a e) (omega (arith, f.few_children, f.paired)), z)

-- ---- a flush

pub flush_parent_lem : (n : Node) → Fits n → (c gc g : ℕ) → c < length n.children → flush_parent (coded n) c gc g ≡ coded (flush_target n c gc g)
unfolding flush_parent
flush_parent_lem n f c gc g h =
    let os : List ℕ = flushed_offsets n c in
    let k : Node = children_are n (set n.children c g) os in
    let fk : Fits k = record {
      few_buffers = f.few_buffers;
      few_children = rw (length-set n.children c g) f.few_children;
      paired = rw (length-set n.offsets c (length n.buffers), length-set n.children c g) f.paired;
    } in
    let e : replaced n.buffers 0 gc [] ≡ drop gc n.buffers = replaced_back n.buffers gc in
    rw (
      child_set_lem n f c g (length n.buffers) h,
      buffers_replaced k fk 0 gc [] (omega arith) (rw (e, length-drop) (omega (arith, f.few_buffers))),
      map_eight (λ o. o - gc) os (omega arith) (omega (arith, fk.few_children, fk.paired)),
      e,
    )

module _ (n : Node) (f : Fits n) (m : Node) (g : Fits m) (c : ℕ) where
  gained_coded : gained (coded n) c ≡ eight (drop (get_or n.offsets c 0) n.buffers)
  gained_coded =
      rw (offset_coded n f c)
      (replaced_eight n.buffers 0 (get_or n.offsets c 0) [] f.few_buffers (omega arith)
      ∙ ap eight (replaced_back n.buffers (get_or n.offsets c 0)))

  pub flush_child_lem : length m.buffers + (length n.buffers - get_or n.offsets c 0) ≤ 8 → flush_child (coded n) (coded m) c ≡ coded (flushed_child n m c)
  flush_child_lem h =
      let o : ℕ = get_or n.offsets c 0 in
      let e : replaced m.buffers (length m.buffers) 0 (drop o n.buffers) ≡ m.buffers ++ drop o n.buffers = replaced_last m.buffers (drop o n.buffers) in
      let w : length (drop o n.buffers) ≡ length n.buffers - o = length-drop o n.buffers in
      rw (gained_coded, offset_coded n f c, ← w, eight_all (drop o n.buffers) (omega (arith, f.few_buffers)))
      (buffers_replaced m g (length m.buffers) 0 (drop o n.buffers) (omega arith) (rw (e, length-append) (omega arith))
      ∙ ap (λ (l : List ℕ). coded (buffers_are m l)) e)
