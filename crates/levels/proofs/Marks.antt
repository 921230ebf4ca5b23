-- The loops that mark: the children of one unit, of the units in a word, of those in a level. Assumes nothing.
use native.Mathlib.Numerals.{add-one}
use mathlib.Core.Path.{◌≡◌, refl, ap, sym, ◌∙◌}
use mathlib.Core.List.{List, [], ◌∷◌, ◌++◌}
use Prim.Native.Nat.{ℕ, zero, suc, ◌+◌, ◌-◌, ◌*◌, ◌≤◌}
use native.Mathlib.Omega.{arith}
use lib.ListN.{length, get_or, take, drop, drop_of_length-le}
use Rattle.ways.specs.Ways.{flat}
use Rattle.ways.proofs.Frame.{flat_append}
use Rattle.rules.specs.Tables.{slice}
use Rattle.held_map.specs.Map.{held_in, mark}
use Rattle.held_map.specs.Lists.{bits_of, four_of}
use Rattle.held_map.proofs.Map.{held_word}
use Rattle.held_map.proofs.Lists.{four_sift}
use Rattle.counting.specs.declared.Node.{Node}
use Rattle.counting.specs.Nodes.{node_in}
use Rattle.counting.specs.Change.{each}
use Rattle.counting.specs.Graph.{children_in, node_children}
use Rattle.counting.proofs.Each.{each_append}
use Rattle.levels.specs.Sets.{marks, below_in}

-- ---- the children of one unit, once none is left

pub children_end : (l : List ℕ) (u : ℕ) (n : Node) (cs m m' : List ℕ) (i : ℕ) → n ≡ node_in l u → cs ≡ slice 0 (n.child_number - 0) n.children
    → length cs ≤ i → marks m' (drop i cs) ≡ marks m cs → m' ≡ marks m (children_in l u)
children_end l u n cs m m' i e q h v =
    let z : n.child_number - 0 ≡ n.child_number = omega arith in
    let same : cs ≡ children_in l u = q ∙ ap (λ (k : ℕ). take k n.children) z ∙ (node_children l u n e).1 in
    let none : drop i cs ≡ [] = drop_of_length-le cs {i = i} h in
    sym (ap (marks m') none) ∙ v ∙ ap (marks m) same

-- ---- those of the units in a list, one by one

pub mark_turn : (children : ℕ → List ℕ) (end below below' us : List ℕ) {u : ℕ} {rest : List ℕ} → marks below (flat children us) ≡ end → us ≡ u ∷ rest
    → below' ≡ marks below (children u) → marks below' (flat children rest) ≡ end
mark_turn children end below below' us {u} {rest} left e m =
    rw m (sym (each_append mark (children u) (flat children rest) below) ∙ ap (λ (l : List ℕ). marks below (flat children l)) (sym e) ∙ left)

-- ---- those of the units in four words

-- `m`, with the children of the units in the first words
abbrev pub marked : List ℕ → List ℕ → List ℕ → ℕ → List ℕ
marked tree level m zero = m
marked tree level m (suc i) = marks (marked tree level m i) (flat (children_in tree) (bits_of 64 (i * 64) (get_or level i 0)))

pub marked_more : (tree level m below below' : List ℕ) (i : ℕ) → below ≡ marked tree level m i
    → below' ≡ marks below (flat (children_in tree) (bits_of 64 (i * 64) (get_or level i 0))) → below' ≡ marked tree level m (i + 1)
marked_more tree level m below below' i e f = rw (add-one, f, e) refl

pub marked_four : (tree level m : List ℕ) → marked tree level m 4 ≡ below_in tree level m
unfolding below_in four_of
marked_four tree level m =
    let f = children_in tree in
    let w0 = bits_of 64 0 (get_or level 0 0) in
    let w1 = bits_of 64 64 (get_or level 1 0) in
    let w2 = bits_of 64 128 (get_or level 2 0) in
    let w3 = bits_of 64 192 (get_or level 3 0) in
    step f w2 w3 (marked tree level m 2)
    ∙ step f w1 (w2 ++ w3) (marked tree level m 1)
    ∙ step f w0 (w1 ++ (w2 ++ w3)) m
    ∙ ap (λ (l : List ℕ). marks m (flat f l)) (four_sift (held_in level) level (held_word level 1) (held_word level 2) (held_word level 3) (held_word level 0))
  where
    step : (f : ℕ → List ℕ) (w r l : List ℕ) → marks (marks l (flat f w)) (flat f r) ≡ marks l (flat f (w ++ r))
    step f w r l = sym (each_append mark (flat f w) (flat f r) l) ∙ ap (each mark l) (sym (flat_append f w r))
