-- The root of a right store that stands in the tree: as code reads it, its node, and the one way to it that goes where another root
-- comes. Assumes nothing.
use mathlib.Core.Path.{◌≡◌, refl, ap, ◌∙◌}
use mathlib.Core.Bool.{Bool, true, false, cond}
use mathlib.Core.List.{List, [], ◌∷◌}
use Prim.Native.Nat.{ℕ, ◌≤◌}
use native.Mathlib.Omega.{arith}
use lib.Dec.{eqb}
use lib.ListN.{get_or}
use borrow.Author.Tests.{eqb-true, ne_eqb}
use Rattle.units.specs.Limits.{last_unit}
use Rattle.ways.specs.Ways.{one, has}
use Rattle.rules.specs.Tables.{times}
use Rattle.rules.specs.Store.{Store, blank, node_at, root_list}
use Rattle.rules.specs.Steps.{root_node}
use Rattle.rules.specs.Right.{Right}
use Rattle.right.proofs.Ledger.{root_named}
use Rattle.counting.specs.Nodes.{node_in, coded, blank_node, root_read}
use Rattle.path.specs.Standing.{TreeIs}
use Rattle.path.proofs.Trees.{node_of_lem}
use Rattle.state.proofs.Changes.{Same}
use Rattle.rooted.specs.Memtable.{root_node_in}

module _ (s : Store) (r : Right s) where
  pub root_low : s.root ≤ last_unit
  root_low = go (eqb s.root 0) refl
    where
      go : (b : Bool) → eqb s.root 0 ≡ b → s.root ≤ last_unit
      go true q = omega (arith, eqb-true s.root 0 q)
      go false q = (r.sound.node_unit s.root (root_named s r.sound q)).1

  -- code lets go of unit 0 where the tree is empty
  pub root_goes : Same (s.root ∷ []) (root_list s.root)
  root_goes = record { low = (root_low, tt); in_list = λ v p. member v p (eqb s.root 0) refl; places_in_lem = λ v p. number v p (eqb s.root 0) refl }
    where
      other : (v : ℕ) → 1 ≤ v → eqb s.root 0 ≡ true → eqb s.root v ≡ false
      other v p q = ne_eqb s.root v (λ e. omega (arith, eqb-true s.root 0 q))

      member : (v : ℕ) → 1 ≤ v → (b : Bool) → eqb s.root 0 ≡ b → has v (s.root ∷ []) ≡ has v (cond b [] (s.root ∷ []))
      member v p true q = rw (other v p q)
      member v p false q = refl

      number : (v : ℕ) → 1 ≤ v → (b : Bool) → eqb s.root 0 ≡ b → times v (s.root ∷ []) ≡ times v (cond b [] (s.root ∷ []))
      number v p true q = omega (arith, ap one (other v p q))
      number v p false q = refl

  module _ (tree : List ℕ) (st : TreeIs s.root s.nodes tree) where
    pub root_is : get_or tree 0 0 ≡ s.root
    root_is = root_read tree s.root st.root_row

    pub root_coded : root_node_in tree ≡ coded (root_node s)
    unfolding root_node_in
    root_coded = ap (λ (x : ℕ). cond (eqb x 0) blank_node (node_in tree x)) root_is ∙ go (eqb s.root 0) refl
      where
        go : (b : Bool) → eqb s.root 0 ≡ b → cond b blank_node (node_in tree s.root) ≡ coded (cond b blank (node_at s s.root))
        go true q = refl
        go false q = let u = r.sound.node_unit s.root (root_named s r.sound q) in node_of_lem st s.root u.0 u.1
