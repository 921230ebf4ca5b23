-- The shape of a path, and the node that it leads to where a sound store stands. Assumes nothing.
use Rattle.std.specs.Prelude.{None}
use mathlib.Core.Path.{◌≡◌, refl, sym, ap, ◌∙◌}
use mathlib.Core.Bool.{Bool, true, false, ◌&&◌, not, cond}
use mathlib.Core.List.{List, []}
use Prim.Native.Nat.{ℕ, zero, suc, ◌-◌, ◌≤◌}
use native.Mathlib.Omega.{arith}
use lib.Dec.{eqb, leb}
use lib.ListN.{length, take, drop, length-drop}
use lib.Seq.{take_all}
use borrow.Author.Tests.{leb-true}
use Rattle.units.specs.Bodies.{indexes}
use Rattle.rules.specs.Tables.{all, zeros}
use Rattle.rules.specs.Store.{Store, children_of}
use Rattle.rules.specs.Steps.{is_index, path_shape, valid, leads}
use Rattle.rules.specs.Right.{Sound}
use Rattle.ways.specs.Ways.{follow}
use Rattle.right.proofs.Ledger.{root_named}
use Rattle.counting.specs.Nodes.{root_read}
use Rattle.path.specs.Graph.{found, found_in}
use Rattle.path.specs.Standing.{TreeIs}
use Rattle.path.proofs.Paths.{follow_is}
use Rattle.bodies.specs.Bodies.{used_of, target_in}

-- ---- the shape of a path

-- a part that goes to the end, as code has it
pub rest_is : (l : List ℕ) (k : ℕ) → take (length l - k) (drop k l) ≡ drop k l
rest_is l k = take_all (length l - k) (drop k l) (omega (arith, length-drop k l))

module _ (d : ℕ) (is : List ℕ) where
  none_left : (fs : List ℕ) → fs ≡ [] → zeros (drop d fs) ≡ true
  none_left fs e = ap (λ (l : List ℕ). zeros (drop d l)) e ∙ go d
    where
      go : (n : ℕ) → zeros (drop n []) ≡ true
      go zero = refl
      go (suc n) = refl

  -- with the fresh units
  pub shape_fresh : (fs : List ℕ) → path_shape d is fs ≡ (path_shape d is [] && zeros (drop d fs))
  shape_fresh fs =
      tidy (leb d indexes) (all is_index (take d is)) (zeros (drop d is)) (zeros (drop d fs))
      ∙ sym (ap (λ (b : Bool). (leb d indexes && (all is_index (take d is) && (zeros (drop d is) && b))) && zeros (drop d fs)) (none_left [] refl))
    where
      tidy : (a b c e : Bool) → (a && (b && (c && e))) ≡ ((a && (b && (c && true))) && e)
      tidy true true true e = refl
      tidy true true false e = refl
      tidy true false c e = refl
      tidy false b c e = refl

  pub shape_low : (fs : List ℕ) → path_shape d is fs ≡ true → d ≤ indexes
  shape_low fs e = leb-true d indexes (left (leb d indexes) e)
    where
      left : (b : Bool) → (b && (all is_index (take d is) && (zeros (drop d is) && zeros (drop d fs)))) ≡ true → b ≡ true
      left true z = refl
      left false z = z

-- ---- the node at the end of a path

pub target_is : (s : Store) (tree : List ℕ) → TreeIs s.root s.nodes tree → Sound s → (p : List ℕ)
    → target_in tree p ≡ found (leads s p) (follow (children_of s) p s.root)
unfolding target_in
target_is s tree st ok p =
    ap (λ (r : ℕ). cond (eqb r 0) None (found_in tree p r)) (root_read tree s.root st.root_row) ∙ go (eqb s.root 0) refl
  where
    go : (b : Bool) → eqb s.root 0 ≡ b → cond b None (found_in tree p s.root) ≡ found (not b && valid (children_of s) p s.root) (follow (children_of s) p s.root)
    go true e = refl
    go false e = follow_is s tree st ok p s.root (root_named s ok e)

-- a depth that is not too high uses as many places
pub used_is : (d k : ℕ) → k ≡ used_of d → d ≤ indexes → k ≡ d
unfolding used_of
used_is d k e h = omega arith

pub shape_yes : (d k : ℕ) (is fs : List ℕ) (q r : Bool) → r ≡ path_shape d is [] → r ≡ true → k ≡ used_of d → q ≡ zeros (take (length fs - k) (drop k fs)) → q ≡ path_shape d is fs
shape_yes d k is fs q r er er' ek eq =
    let d7 : d ≤ indexes = shape_low d is [] (sym er ∙ er') in
    let kd : k ≡ d = used_is d k ek d7 in
    eq ∙ ap zeros (rest_is fs k) ∙ ap (λ (n : ℕ). zeros (drop n fs)) kd
    ∙ sym (shape_fresh d is fs ∙ ap (λ (b : Bool). b && zeros (drop d fs)) (sym er ∙ er'))
