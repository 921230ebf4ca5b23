-- The nodes that stand in the tree, after each change of its bytes: nodes come, ways go, the root is another. The bytes are determined
-- by what stands in them. Assumes nothing.
use mathlib.Core.Bool.{Bool, true, false, cond}
use mathlib.Core.Logic.{⊎_elim}
use mathlib.Core.Path.{◌≡◌, refl, sym, ◌∙◌, subst}
use mathlib.Core.List.{List, [], ◌∷◌}
use mathlib.Core.Option.{Option, none}
use Prim.Native.Nat.{ℕ, ◌+◌, ◌*◌, ◌/◌, ◌%◌, ◌≤◌, ◌<◌}
use native.Mathlib.Nat.{div-add-mod', mod-lt}
use native.Mathlib.Omega.{arith}
use lib.ListN.{length, get_or, set, replicate, length-set, length-replicate, get_or-replicate}
use lib.Seq.{ext_get_or}
use Rattle.units.specs.Limits.{last_unit}
use Rattle.ways.specs.Ways.{gone}
use Rattle.ways.proofs.Tests.{same_or}
use Rattle.rules.specs.Tables.{or_else, put, puts}
use Rattle.rules.specs.Store.{Node, blank}
use Rattle.records.specs.Rows.{Row}
use Rattle.counting.specs.Nodes.{stride, node_in, put_node, coded, node_bytes, root_bytes, node_read_lem, set_root_row, set_root_beside}
use Rattle.counting.specs.Change.{drop_trees, add_trees}
use Rattle.counting.proofs.Changes.{drops_tree_length, drops_root, drops_row, adds_tree_length, adds_root, adds_row}
use Rattle.path.specs.Standing.{tree_length, TreeIs}

module _ {r : ℕ} {t : ℕ → Option Node} {tree : List ℕ} (st : TreeIs r t tree) where
  row_fits : (u : ℕ) → u ≤ last_unit → u * stride + stride ≤ length tree
  row_fits u q = omega (arith, st.long)

  -- the node that code reads
  pub node_of_lem : (u : ℕ) → 1 ≤ u → u ≤ last_unit → node_in tree u ≡ coded (or_else blank (t u))
  node_of_lem u p q = node_read_lem tree u (or_else blank (t u)) (st.node u p q)

  -- nodes come; a unit that is none changes nothing
  pub tree_adds : (es : List (ℕ × Node)) → TreeIs r (puts t es) (add_trees tree es)
  tree_adds es =
      record {
        long = adds_tree_length es tree ∙ st.long;
        root_row = adds_root es tree (root_bytes r) refl st.root_row;
        node = λ u p q. adds_row es tree t u p (row_fits u q) (st.node u p q);
      }

  pub tree_put : (u : ℕ) (n : Node) → TreeIs r (put t (u, n)) (put_node tree u (coded n))
  tree_put u n = tree_adds ((u, n) ∷ [])

  -- ways go, and the nodes whose last way goes
  pub tree_drops : (counts ds : List ℕ) → length counts ≡ 512 → TreeIs r (λ v. cond (gone (get_or counts v 0) ds v) none (t v)) (drop_trees tree counts ds)
  tree_drops counts ds e =
      record {
        long = drops_tree_length ds tree counts ∙ st.long;
        root_row = drops_root ds tree counts (root_bytes r) refl st.root_row;
        node = λ u p q.
            subst (λ (n : Node). Row (drop_trees tree counts ds) (u * stride) (node_bytes n)) (either (gone (get_or counts u 0) ds u) (t u))
            (drops_row ds tree counts u (or_else blank (t u)) p (row_fits u q) (omega arith) (st.node u p q));
      }
    where
      either : (b : Bool) (o : Option Node) → cond b blank (or_else blank o) ≡ or_else blank (cond b none o)
      either true o = refl
      either false o = refl

  -- another root
  pub tree_root : (r' : ℕ) → TreeIs r' t (set tree 0 r')
  tree_root r' =
      record {
        long = length-set tree 0 r' ∙ st.long;
        root_row = set_root_row tree r r' (omega (arith, st.long)) st.root_row;
        node = λ u p q. set_root_beside tree r' u (node_bytes (or_else blank (t u))) p (st.node u p q);
      }

  -- a table that has the same nodes
  pub tree_within : {t' : ℕ → Option Node} → ((v : ℕ) → 1 ≤ v → v ≤ last_unit → or_else blank (t v) ≡ or_else blank (t' v)) → TreeIs r t' tree
  tree_within h =
      record {
        long = st.long;
        root_row = st.root_row;
        node = λ u p q. subst (λ (n : Node). Row tree (u * stride) (node_bytes n)) (h u p q) (st.node u p q);
      }

  pub tree_same : {t' : ℕ → Option Node} → ((v : ℕ) → or_else blank (t v) ≡ or_else blank (t' v)) → TreeIs r t' tree
  tree_same h = tree_within (λ v p q. h v)

  -- the bytes are determined
  pub tree_ext : {tree' : List ℕ} → TreeIs r t tree' → tree ≡ tree'
  tree_ext {tree'} st' = ext_get_or 0 tree tree' (st.long ∙ sym st'.long) each
    where
      row : (u k : ℕ) → u ≤ last_unit → k < stride → get_or tree (u * stride + k) 0 ≡ get_or tree' (u * stride + k) 0
      row u k q h =
          ⊎_elim
          (λ (e : u ≡ 0).
          let z : u * stride + k ≡ 0 + k = omega arith in
          rw z (st.root_row k h ∙ sym (st'.root_row k h)))
          (λ (d : u ≡ 0 → ⊥).
          let p : 1 ≤ u = omega arith in
          st.node u p q k h ∙ sym (st'.node u p q k h))
          (same_or u 0)

      each : (i : ℕ) → i < length tree → get_or tree i 0 ≡ get_or tree' i 0
      each i h =
          let e : i / stride * stride + i % stride ≡ i = div-add-mod' i stride in
          let m : i % stride < stride = mod-lt i (omega arith) in
          let q : i / stride ≤ last_unit = omega (arith, st.long) in
          subst (λ (j : ℕ). get_or tree j 0 ≡ get_or tree' j 0) e (row (i / stride) (i % stride) q m)

-- no node at all: zeros
zero_row : (n b : ℕ) (ws : List ℕ) → ((k : ℕ) → k < length ws → get_or ws k 0 ≡ 0) → b + length ws ≤ n → Row (replicate n 0) b ws
zero_row n b ws z h k q = get_or-replicate n (b + k) 0 0 (omega arith) ∙ sym (z k q)

zero_bytes : (k : ℕ) → k < stride → ◌≡◌ {A = ℕ} (get_or (replicate stride 0) k 0) 0
zero_bytes k h = get_or-replicate stride k 0 0 h

pub tree_empty : TreeIs 0 (λ v. none) (replicate tree_length 0)
tree_empty =
    record {
      long = length-replicate {A = ℕ} tree_length 0;
      root_row = zero_row tree_length 0 (root_bytes 0) zero_bytes (omega arith);
      node = λ u p q. zero_row tree_length (u * stride) (node_bytes blank) zero_bytes (omega arith);
    }
