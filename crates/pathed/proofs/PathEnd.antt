-- The parts of a body that a path uses, and the path's end where a right store stands: line 6, the target and the child. Assumes nothing.
use mathlib.Core.Bool.{Bool, true, false, ◌&&◌, not}
use mathlib.Core.Path.{◌≡◌, refl, sym, ap, ap₂, ◌∙◌}
use mathlib.Core.List.{List, [], ◌∷◌}
use mathlib.Core.Option.{Option, none, some}
use Prim.Native.Nat.{ℕ, zero, suc, ◌+◌, ◌≤◌, ◌<◌, min}
use native.Mathlib.Omega.{arith}
use lib.Dec.{T, eqb, ltb, eqb_refl}
use lib.ListN.{length, get_or, take, drop, length-take, length-drop}
use lib.Seq.{length-take-le}
use Rattle.units.specs.Limits.{last_unit}
use Rattle.units.specs.Bodies.{indexes}
use Rattle.ways.specs.Ways.{follow, has}
use Rattle.ways.proofs.Tests.{T→eq, eq→T, or_l, or_r}
use Rattle.rules.specs.Tables.{slice, is_some, or_else}
use Rattle.rules.specs.Store.{Node, Store, blank, node_at, children_of, buffers_of}
use Rattle.rules.specs.Steps.{valid, leads, leads_to}
use Rattle.rules.specs.Right.{Sound}
use Rattle.right.proofs.Ledger.{child_named, has_at}
use Rattle.right.proofs.Ledgers.{AtNode, AtChild, at_node, at_child}
use Rattle.records.specs.Rows.{AllBytes}
use Rattle.counting.specs.Nodes.{node_in, coded}
use Rattle.counting.proofs.Counts.{Low}
use Rattle.eights.proofs.Places.{eight_all, eight_alike}
use Rattle.path.specs.Standing.{TreeIs}
use Rattle.path.specs.Graph.{found, named}
use Rattle.path.proofs.Paths.{node_in_lem}
use Rattle.shapes.specs.Ends.{sound_fits}
use Rattle.bodies.specs.Bodies.{used_of, used_part, unit_of, is_found}
use Rattle.bodies.proofs.Bodies.{used_is, target_is}
use Rattle.pathed.specs.Pathed.{target_unit, target_node, child_unit, child_node, leads_in, leads_to_in}

-- ---- bytes

pub low_bytes : (l : List ℕ) → ((i : ℕ) → get_or l i 0 ≤ last_unit) → Low l
low_bytes [] h = tt
low_bytes (x ∷ l) h = (h 0, low_bytes l (λ i. h (suc i)))

pub slice_length : (b : List ℕ) (at n : ℕ) → at + n ≤ length b → length (slice at n b) ≡ n
slice_length b at n h = length-take-le n (drop at b) (omega (arith, length-drop at b))

module _ (b : List ℕ) (by : AllBytes b) (d : ℕ) where
  pub used_part_lem : (at : ℕ) → d ≤ indexes → used_part b at d ≡ take d (slice at indexes b)
  used_part_lem at h = ap (λ (n : ℕ). take n (slice at indexes b)) (used_is d (used_of d) refl h)

  pub used_low : (at : ℕ) → Low (take d (slice at indexes b))
  used_low at = low_take d (slice at indexes b) (low_take indexes (drop at b) (low_drop at b (low_bytes b (λ i. omega (arith, by.small i)))))
    where
      low_take : (n : ℕ) (l : List ℕ) → Low l → Low (take n l)
      low_take zero l low = tt
      low_take (suc n) [] low = tt
      low_take (suc n) (x ∷ l) low = (low.0, low_take n l low.1)

      low_drop : (n : ℕ) (l : List ℕ) → Low l → Low (drop n l)
      low_drop zero l low = low
      low_drop (suc n) [] low = tt
      low_drop (suc n) (x ∷ l) low = low_drop n l low.1

-- the two parts that a path uses are alike long
pub even_parts : (b : List ℕ) (x y d : ℕ) → x + indexes ≤ length b → y + indexes ≤ length b → length (take d (slice y indexes b)) ≡ length (take d (slice x indexes b))
even_parts b x y d p q =
    length-take d (slice y indexes b) ∙ ap (min d) (slice_length b y indexes q ∙ sym (slice_length b x indexes p)) ∙ sym (length-take d (slice x indexes b))

pub part_short : (l : List ℕ) (d : ℕ) → d ≤ indexes → length (take d l) ≤ indexes
part_short l d h = omega (arith, length-take d l)

-- ---- a node's buffers are units

module _ (s : Store) (ok : Sound s) (u : ℕ) where
  pub buffer_unit : (x : ℕ) → T (has x (buffers_of s u)) → (1 ≤ x) × (x ≤ last_unit)
  buffer_unit x = go (s.nodes u) refl
    where
      go : (o : Option Node) → s.nodes u ≡ o → T (has x (or_else blank o).buffers) → (1 ≤ x) × (x ≤ last_unit)
      go none e t = absurd t
      go (some n) e t = ok.branch_unit x ((ok.node u n e).buffers_named x t)

  pub buffers_low : Low (buffers_of s u)
  buffers_low = go (buffers_of s u) (λ x t. (buffer_unit x t).1)
    where
      go : (l : List ℕ) → ((x : ℕ) → T (has x l) → x ≤ last_unit) → Low l
      go [] h = tt
      go (x ∷ l) h = (h x (or_l (eqb x x) (has x l) (eqb_refl x)), go l (λ y t. h y (or_r (eqb x y) (has y l) t)))

-- ---- the path's end

module _ (s : Store) (ok : Sound s) (tree : List ℕ) (st : TreeIs s.root s.nodes tree) (p : List ℕ) where
  abbrev goal : ℕ
  goal = follow (children_of s) p s.root

  -- line 6 of a path
  pub leads_is : leads_in tree p ≡ leads s p
  unfolding leads_in
  leads_is = ap is_found (target_is s tree st ok p) ∙ go (leads s p)
    where
      go : (b : Bool) → is_found (found b goal) ≡ b
      go true = refl
      go false = refl

  module _ (t : T (leads s p)) where
    at : AtNode s p
    at = at_node s p ok t

    pub target_unit_lem : target_unit tree p ≡ goal
    unfolding target_unit
    target_unit_lem = ap unit_of (target_is s tree st ok p) ∙ ap (λ (b : Bool). unit_of (found b goal)) (T→eq (leads s p) t)

    pub target_node_lem : target_node tree p ≡ coded (node_at s goal)
    unfolding target_node
    target_node_lem = ap (node_in tree) target_unit_lem ∙ node_in_lem s tree st ok goal at.named

    pub child_unit_lem : (c : ℕ) → child_unit tree p c ≡ get_or (children_of s goal) c 0
    unfolding child_unit
    child_unit_lem c =
        ap (λ (n : Rattle.counting.specs.declared.Node.Node). get_or n.children c 0) target_node_lem
        ∙ eight_alike (children_of s goal) (sound_fits s ok goal).few_children c

    named_is : named (target_node tree p) ≡ children_of s goal
    named_is = ap named target_node_lem ∙ eight_all (children_of s goal) (sound_fits s ok goal).few_children

  -- line 6 of a path and a child
  pub leads_to_is : (c : ℕ) → leads_to_in tree p c ≡ leads_to s p c
  unfolding leads_to_in
  leads_to_is c =
      go (leads s p) refl
      ∙ tidy (not (eqb s.root 0)) (valid (children_of s) p s.root) (ltb c (length (children_of s goal)))
    where
      go : (b : Bool) → leads s p ≡ b → (leads_in tree p && ltb c (length (named (target_node tree p)))) ≡ (leads s p && ltb c (length (children_of s goal)))
      go true e = ap₂ (λ (x : Bool) (l : List ℕ). x && ltb c (length l)) leads_is (named_is (eq→T (leads s p) e))
      go false e =
          ap (λ (x : Bool). x && ltb c (length (named (target_node tree p)))) (leads_is ∙ e)
          ∙ sym (ap (λ (x : Bool). x && ltb c (length (children_of s goal))) e)

      tidy : (x y z : Bool) → ((x && y) && z) ≡ (x && (y && z))
      tidy true y z = refl
      tidy false y z = refl

  module _ (c : ℕ) (t : T (leads_to s p c)) where
    way : AtChild s p c
    way = at_child s p c ok t

    pub leads_first : T (leads s p)
    leads_first = go (eqb s.root 0) way.node.full way.node.way
      where
        go : (b : Bool) → b ≡ false → T (valid (children_of s) p s.root) → T (not b && valid (children_of s) p s.root)
        go true e v = absurd (let z : ◌≡◌ {A = ℕ} 0 1 = cc in omega arith)
        go false e v = v

    pub child_place : c < length (children_of s goal)
    child_place = way.place

    pub child_there : T (is_some (s.nodes (get_or (children_of s goal) c 0)))
    child_there = child_named s ok goal (get_or (children_of s goal) c 0) (has_at (children_of s goal) c way.place)

    pub child_node_lem : child_node tree p c ≡ coded (node_at s (get_or (children_of s goal) c 0))
    unfolding child_node
    child_node_lem = ap (node_in tree) (child_unit_lem leads_first c) ∙ node_in_lem s tree st ok (get_or (children_of s goal) c 0) child_there
