-- Laws of levels for loops and answers that src/ no longer has. Assumes nothing.
use mathlib.Core.Path.{◌≡◌, ap, sym, ◌∙◌}
use mathlib.Core.List.{List, [], ◌++◌}
use Prim.Native.Nat.{ℕ, ◌+◌, ◌-◌, ◌^◌, ◌≤◌, ◌<◌}
use native.Mathlib.Omega.{arith}
use lib.Count.{count_trailing_zeros}
use lib.ListN.{get_or}
use Rattle.ways.specs.Ways.{flat}
use Rattle.ways.proofs.Frame.{flat_append}
use Rattle.rules.specs.Tables.{slice}
use Rattle.held_map.specs.Map.{held_in, mark}
use Rattle.held_map.specs.Lists.{bits_of, four_of}
use Rattle.held_map.proofs.Bits.{sub_le}
use Rattle.held_map.proofs.Map.{held_word}
use Rattle.held_map.proofs.Lists.{bits_none, four_sift}
use Rattle.counting.specs.declared.Node.{Node}
use Rattle.counting.specs.Nodes.{node_in}
use Rattle.counting.specs.Change.{each}
use Rattle.counting.specs.Places.{up_to}
use Rattle.counting.specs.Graph.{children_in, node_children}
use Rattle.counting.proofs.Each.{each_append}
use Rattle.levels.specs.Sets.{marks, below_in}
use Rattle.earlier.proofs.CountingEach.{run_whole}
use Rattle.earlier.proofs.HeldMapLists.{Lowest, lowest}

-- ---- the children of one unit

pub children_start : (l : List ℕ) (u : ℕ) (n : Node) (m : List ℕ) (end : ℕ) → n ≡ node_in l u → end ≡ up_to n.child_number
    → marks m (slice 0 (end - 0) n.children) ≡ marks m (children_in l u)
children_start l u n m end e q =
    let c = node_children l u n e in
    ap (marks m) (run_whole n.children n.child_number end c.0 q ∙ c.1)

-- ---- those of the units in a word: what is left to mark, marked from here, gives what was asked

pub record WordLoop (children : ℕ → List ℕ) (base word : ℕ) (below₀ below : List ℕ) (w : ℕ) : Type 0 where
  pub low : base ≤ 192
  pub small : w < 2 ^ 64
  pub left : marks below (flat children (bits_of 64 base w)) ≡ marks below₀ (flat children (bits_of 64 base word))

module _ {children : ℕ → List ℕ} {base word : ℕ} {below₀ below : List ℕ} {w : ℕ} (i : WordLoop children base word below₀ below w) where
  pub word_lowest : {k : ℕ} → (w ≡ 0 → ⊥) → k ≡ count_trailing_zeros 64 w → (k < 64) × (2 ^ k ≤ w)
  word_lowest {k} z e =
      let q : Lowest 64 base w k = rw e (lowest 64 base w (omega arith) i.small) in
      (q.within, sub_le k w q.set_there)

  pub word_turn : {k : ℕ} {below' : List ℕ} → (w ≡ 0 → ⊥) → k ≡ count_trailing_zeros 64 w → below' ≡ marks below (children (base + k))
      → WordLoop children base word below₀ below' (w - 2 ^ k)
  word_turn {k} z e m =
      let q : Lowest 64 base w k = rw e (lowest 64 base w (omega arith) i.small) in
      let r = bits_of 64 base (w - 2 ^ k) in
      record {
        low = i.low;
        small = omega (arith, i.small);
        left =
            rw m
            (sym (each_append mark (children (base + k)) (flat children r) below)
            ∙ sym (ap (λ (l : List ℕ). marks below (flat children l)) q.front)
            ∙ i.left);
      }

  pub word_end : w ≡ 0 → below ≡ marks below₀ (flat children (bits_of 64 base word))
  word_end e =
      let b : bits_of 64 base w ≡ [] = rw e (bits_none 64 base) in
      sym (ap (λ (l : List ℕ). marks below (flat children l)) b) ∙ i.left

-- ---- those of the units in four words

pub four_marks : (tree level m m1 m2 m3 m4 : List ℕ)
    → m1 ≡ marks m (flat (children_in tree) (bits_of 64 0 (get_or level 0 0))) → m2 ≡ marks m1 (flat (children_in tree) (bits_of 64 64 (get_or level 1 0)))
    → m3 ≡ marks m2 (flat (children_in tree) (bits_of 64 128 (get_or level 2 0))) → m4 ≡ marks m3 (flat (children_in tree) (bits_of 64 192 (get_or level 3 0)))
    → m4 ≡ below_in tree level m
unfolding below_in four_of
four_marks tree level m m1 m2 m3 m4 e1 e2 e3 e4 =
    let f = children_in tree in
    let w0 = bits_of 64 0 (get_or level 0 0) in
    let w1 = bits_of 64 64 (get_or level 1 0) in
    let w2 = bits_of 64 128 (get_or level 2 0) in
    let w3 = bits_of 64 192 (get_or level 3 0) in
    e4
    ∙ step f w2 w3 m2 m3 e3
    ∙ step f w1 (w2 ++ w3) m1 m2 e2
    ∙ step f w0 (w1 ++ (w2 ++ w3)) m m1 e1
    ∙ ap (λ (l : List ℕ). marks m (flat f l)) (four_sift (held_in level) level (held_word level 1) (held_word level 2) (held_word level 3) (held_word level 0))
  where
    step : (f : ℕ → List ℕ) (w r l l' : List ℕ) → l' ≡ marks l (flat f w) → marks l' (flat f r) ≡ marks l (flat f (w ++ r))
    step f w r l l' e = rw e (sym (each_append mark (flat f w) (flat f r) l) ∙ ap (each mark l) (sym (flat_append f w r)))
