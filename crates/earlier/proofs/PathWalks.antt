-- Laws of path for loops and answers that src/ no longer has. Assumes nothing.
use mathlib.Core.Bool.{Bool, true, false}
use mathlib.Core.Path.{◌≡◌, refl, ap, sym, ◌∙◌}
use mathlib.Core.List.{List, [], ◌∷◌}
use Prim.Native.Nat.{ℕ, ◌-◌, ◌≤◌, ◌<◌}
use native.Mathlib.Omega.{arith}
use lib.Dec.{leb, ltb}
use lib.ListN.{length, take, drop, length-drop}
use lib.Seq.{take_all, length-take-le, set_out}
use borrow.Author.Tests.{leb-true, leb-false, lt-ltb, le-ltb}
use Rattle.units.specs.Limits.{room}
use Rattle.counting.specs.declared.Node.{Node}
use Rattle.counting.specs.Change.{add_counts}
use Rattle.path.specs.Graph.{named, with_child}

-- the number of children, where there are eight places
taken_length : (n : ℕ) (l : List ℕ) → (i : ℕ) → i < length l → ltb i n ≡ ltb i (length (take n l))
taken_length n l i h = go (leb n (length l)) refl
  where
    go : (b : Bool) → leb n (length l) ≡ b → ltb i n ≡ ltb i (length (take n l))
    go true q = ap (ltb i) (sym (length-take-le n l (leb-true n (length l) q)))
    go false q =
        let m : length l < n = leb-false n (length l) q in
        lt-ltb i n (omega arith) ∙ sym (ap (λ (k : List ℕ). ltb i (length k)) (take_all n l (omega arith)) ∙ lt-ltb i (length l) h)

pub index_here : (n : Node) (i : ℕ) → length n.children ≡ room → i < room → ltb i n.child_number ≡ ltb i (length (named n))
index_here n i e h = taken_length n.child_number n.children i (omega arith)

pub index_behind : (n : Node) (i : ℕ) → length n.children ≡ room → room ≤ i → false ≡ ltb i (length (named n))
index_behind n i e h = go (leb n.child_number room) refl
  where
    go : (b : Bool) → leb n.child_number room ≡ b → false ≡ ltb i (length (named n))
    go true q = sym (le-ltb i (length (named n)) (omega (arith, leb-true n.child_number room q, length-take-le n.child_number n.children (omega (arith, leb-true n.child_number room q)))))
    go false q = sym (ap (λ (k : List ℕ). ltb i (length k)) (take_all n.child_number n.children (omega (arith, leb-false n.child_number room q))) ∙ le-ltb i (length n.children) (omega arith))

pub with_behind : (n : Node) (i c : ℕ) → length n.children ≡ room → room ≤ i → n ≡ with_child n i c
with_behind n i c e h = rw (set_out n.children i c (omega arith)) refl

-- what `&l[1..]` holds
abbrev pub rest : List ℕ → List ℕ
rest l = take (length l - 1) (drop 1 l)

pub rest_drop : (l : List ℕ) → rest l ≡ drop 1 l
rest_drop l = take_all (length l - 1) (drop 1 l) (simp length-drop (omega arith))

pub rest_length : (l : List ℕ) → length (rest l) ≡ length l - 1
rest_length l = rw (rest_drop, length-drop)

pub counts_end : (counts p fs : List ℕ) → length p ≡ 0 → counts ≡ add_counts counts (take (length p) fs)
counts_end counts p fs e = rw e refl

pub counts_short : (counts p fs : List ℕ) → length fs ≡ 0 → counts ≡ add_counts counts (take (length p) fs)
counts_short counts p fs e = ap (add_counts counts) (sym (take_all (length p) fs (omega arith) ∙ none fs e))
  where
    none : (l : List ℕ) → length l ≡ 0 → l ≡ []
    none [] e = refl
    none (x ∷ l) e = absurd (omega arith)
