-- What the tree's rows come to after a list of ways that go, and after a list of nodes that come: row v is the blank node's where its
-- ways are gone, the new node's where one came, and as before elsewhere; the root's row stays. Assumes nothing.
use mathlib.Core.Path.{◌≡◌, refl, sym, ap, ap₂, ◌∙◌, subst}
use mathlib.Core.Bool.{Bool, true, false, ◌||◌, ◌&&◌, cond}
use mathlib.Core.Logic.{⊎_elim}
use mathlib.Core.List.{List, [], ◌∷◌}
use mathlib.Core.Option.{Option, some}
use Prim.Native.Nat.{ℕ, ◌+◌, ◌-◌, ◌*◌, ◌≤◌, ◌<◌}
use native.Mathlib.Omega.{arith}
use lib.Dec.{eqb, leb}
use lib.ListN.{length, get_or}
use borrow.Author.Tests.{leb-true, leb-false, le-leb, lt-leb, eq-eqb, ne_eqb}
use Rattle.ways.specs.Ways.{has, one}
use Rattle.rules.specs.Tables.{times, or_else, put, puts}
use Rattle.rules.specs.Store.{Node, blank}
use Rattle.records.specs.Rows.{Row}
use Rattle.ways.proofs.Tests.{same_or}
use Rattle.counting.specs.Nodes.{stride, put_node, coded, node_bytes, blank_node, put_node_length, put_node_row, put_node_beside, put_node_root}
use Rattle.counting.specs.Change.{last_way, blanked_if, drop_tree, drop_count, drop_trees, add_trees}
use Rattle.ways.specs.Ways.{gone}
use Rattle.counting.proofs.Counts.{none_times, drop_here, drop_there, drop_length}

-- ---- the test at a list's head, in terms of its tail

pub gone_here : (c : ℕ) (us : List ℕ) (v u : ℕ) → u ≡ v → gone c (u ∷ us) v ≡ (leb c 1 || gone (c - 1) us v)
gone_here c us v u e = rw (eq-eqb u v e) (go (leb c 1) refl (has v us) refl)
  where
    go : (b : Bool) → leb c 1 ≡ b → (x : Bool) → has v us ≡ x → leb c (1 + times v us) ≡ (b || (x && leb (c - 1) (times v us)))
    go true q x z = le-leb c (1 + times v us) (omega (arith, leb-true c 1 q))
    go false q false z = lt-leb c (1 + times v us) (omega (arith, leb-false c 1 q, none_times v us z))
    go false q true z = same (leb (c - 1) (times v us)) refl
      where
        same : (b : Bool) → leb (c - 1) (times v us) ≡ b → leb c (1 + times v us) ≡ b
        same true y = le-leb c (1 + times v us) (omega (arith, leb-true (c - 1) (times v us) y))
        same false y = lt-leb c (1 + times v us) (omega (arith, leb-false (c - 1) (times v us) y))

pub gone_there : (c : ℕ) (us : List ℕ) (v u : ℕ) → (u ≡ v → ⊥) → gone c (u ∷ us) v ≡ gone c us v
gone_there c us v u d =
    let n : one (eqb u v) + times v us ≡ times v us = omega (arith, ap one (ne_eqb u v d)) in
    ap₂ (λ (x : Bool) (k : ℕ). (x || has v us) && leb c k) (ne_eqb u v d) n

-- ---- ways that go

blank_length : (y : Bool) (tree : List ℕ) (u : ℕ) → length (blanked_if y tree u) ≡ length tree
unfolding blanked_if
blank_length true tree u = put_node_length tree u blank_node
blank_length false tree u = refl

blank_row : (y : Bool) (tree : List ℕ) (u v : ℕ) (n : Node) → 0 < v → v * stride + stride ≤ length tree → Row tree (v * stride) (node_bytes n)
    → Row (blanked_if y tree u) (v * stride) (node_bytes (cond (y && eqb u v) blank n))
unfolding blanked_if
blank_row false tree u v n p h row = row
blank_row true tree u v n p h row =
    ⊎_elim
    (λ (e : u ≡ v). subst (λ (c : Bool). Row (put_node tree u blank_node) (v * stride) (node_bytes (cond c blank n))) (sym (eq-eqb u v e))
    (subst (λ (x : ℕ). Row (put_node tree x blank_node) (v * stride) (node_bytes blank)) (sym e) (put_node_row tree v blank p h)))
    (λ (d : u ≡ v → ⊥). subst (λ (c : Bool). Row (put_node tree u blank_node) (v * stride) (node_bytes (cond c blank n))) (sym (ne_eqb u v d))
    (put_node_beside tree u blank_node v (node_bytes n) (λ e. d (sym e)) refl row))
    (same_or u v)

blank_root : (y : Bool) (tree : List ℕ) (u : ℕ) (ws : List ℕ) → length ws ≡ stride → Row tree 0 ws → Row (blanked_if y tree u) 0 ws
unfolding blanked_if
blank_root true tree u ws e row = put_node_root tree u blank_node ws e row
blank_root false tree u ws e row = row

pub drops_tree_length : (us tree counts : List ℕ) → length (drop_trees tree counts us) ≡ length tree
drops_tree_length [] tree counts = refl
drops_tree_length (u ∷ us) tree counts = drops_tree_length us (drop_tree tree counts u) (drop_count counts u) ∙ blank_length (last_way counts u) tree u

pub drops_root : (us tree counts ws : List ℕ) → length ws ≡ stride → Row tree 0 ws → Row (drop_trees tree counts us) 0 ws
drops_root [] tree counts ws e row = row
drops_root (u ∷ us) tree counts ws e row =
    drops_root us (drop_tree tree counts u) (drop_count counts u) ws e (blank_root (last_way counts u) tree u ws e row)

pub drops_row : (us tree counts : List ℕ) (v : ℕ) (n : Node) → 0 < v → v * stride + stride ≤ length tree → v < length counts → Row tree (v * stride) (node_bytes n)
    → Row (drop_trees tree counts us) (v * stride) (node_bytes (cond (gone (get_or counts v 0) us v) blank n))
unfolding last_way
drops_row [] tree counts v n p h q row = row
drops_row (u ∷ us) tree counts v n p h q row =
    let t1 : List ℕ = drop_tree tree counts u in
    let c1 : List ℕ = drop_count counts u in
    let n1 : Node = cond (leb (get_or counts u 0) 1 && eqb u v) blank n in
    let ih = drops_row us t1 c1 v n1 p (omega (arith, blank_length (last_way counts u) tree u)) (omega (arith, drop_length counts u)) (blank_row (last_way counts u) tree u v n p h row) in
    subst (λ (x : Node). Row (drop_trees t1 c1 us) (v * stride) (node_bytes x)) (⊎_elim same other (same_or u v)) ih
  where
    both : (x y : Bool) (n : Node) → cond y blank (cond (x && true) blank n) ≡ cond (x || y) blank n
    both true true n = refl
    both true false n = refl
    both false y n = refl

    same : u ≡ v → cond (gone (get_or (drop_count counts u) v 0) us v) blank (cond (leb (get_or counts u 0) 1 && eqb u v) blank n) ≡ cond (gone (get_or counts v 0) (u ∷ us) v) blank n
    same e =
        ap₂ (λ (x : ℕ) (y : Bool). cond (gone x us v) blank (cond (leb (get_or counts u 0) 1 && y) blank n)) (drop_here counts u v e q) (eq-eqb u v e)
        ∙ ap (λ (x : ℕ). cond (gone (get_or counts v 0 - 1) us v) blank (cond (leb (get_or counts x 0) 1 && true) blank n)) e
        ∙ both (leb (get_or counts v 0) 1) (gone (get_or counts v 0 - 1) us v) n
        ∙ ap (λ (b : Bool). cond b blank n) (sym (gone_here (get_or counts v 0) us v u e))

    tidy : (x y : Bool) (n : Node) → cond y blank (cond (x && false) blank n) ≡ cond y blank n
    tidy true y n = refl
    tidy false y n = refl

    other : (u ≡ v → ⊥) → cond (gone (get_or (drop_count counts u) v 0) us v) blank (cond (leb (get_or counts u 0) 1 && eqb u v) blank n) ≡ cond (gone (get_or counts v 0) (u ∷ us) v) blank n
    other d =
        ap₂ (λ (x : ℕ) (y : Bool). cond (gone x us v) blank (cond (leb (get_or counts u 0) 1 && y) blank n)) (drop_there counts u v d) (ne_eqb u v d)
        ∙ tidy (leb (get_or counts u 0) 1) (gone (get_or counts v 0) us v) n
        ∙ ap (λ (b : Bool). cond b blank n) (sym (gone_there (get_or counts v 0) us v u d))

-- ---- nodes that come

pub adds_tree_length : (es : List (ℕ × Node)) (tree : List ℕ) → length (add_trees tree es) ≡ length tree
adds_tree_length [] tree = refl
adds_tree_length (e ∷ es) tree = adds_tree_length es (put_node tree e.0 (coded e.1)) ∙ put_node_length tree e.0 (coded e.1)

pub adds_root : (es : List (ℕ × Node)) (tree ws : List ℕ) → length ws ≡ stride → Row tree 0 ws → Row (add_trees tree es) 0 ws
adds_root [] tree ws q row = row
adds_root (e ∷ es) tree ws q row = adds_root es (put_node tree e.0 (coded e.1)) ws q (put_node_root tree e.0 (coded e.1) ws q row)

-- what the table has after them
pub adds_row : (es : List (ℕ × Node)) (tree : List ℕ) (t : ℕ → Option Node) (v : ℕ) → 0 < v → v * stride + stride ≤ length tree → Row tree (v * stride) (node_bytes (or_else blank (t v)))
    → Row (add_trees tree es) (v * stride) (node_bytes (or_else blank (puts t es v)))
adds_row [] tree t v p h row = row
adds_row (e ∷ es) tree t v p h row =
    let new : Rattle.counting.specs.declared.Node.Node = coded e.1 in
    adds_row es (put_node tree e.0 new) (put t e) v p (omega (arith, put_node_length tree e.0 new))
    (⊎_elim
    (λ (w : e.0 ≡ v). subst (λ (c : Bool). Row (put_node tree e.0 new) (v * stride) (node_bytes (or_else blank (cond c (some e.1) (t v))))) (sym (eq-eqb v e.0 (sym w)))
    (subst (λ (x : ℕ). Row (put_node tree x new) (v * stride) (node_bytes e.1)) (sym w) (put_node_row tree v e.1 p h)))
    (λ (d : e.0 ≡ v → ⊥). subst (λ (c : Bool). Row (put_node tree e.0 new) (v * stride) (node_bytes (or_else blank (cond c (some e.1) (t v))))) (sym (ne_eqb v e.0 (λ w. d (sym w))))
    (put_node_beside tree e.0 new v (node_bytes (or_else blank (t v))) (λ w. d (sym w)) refl row))
    (same_or e.0 v))
