-- The law of a copied node, of a copied path, and of each kind of change at its end: what the new nodes add and what the old
-- ones took, with no subtraction. One law, `replace`, carries them all. Assumes nothing.
use mathlib.Core.Path.{◌≡◌, refl, sym, ap, ◌∙◌}
use mathlib.Core.List.{List, [], ◌∷◌, ◌++◌}
use Prim.Native.Nat.{ℕ, suc, ◌+◌, ◌<◌}
use native.Mathlib.Omega.{arith}
use lib.ListN.{length, get_or, set, take, drop}
use lib.Seq.{split_at, set_split}
use Rattle.ways.specs.Ways.{sums, walk, total, totals, deep, follow, spine, up, top, Copied}
use Rattle.ways.proofs.Frame.{sums_append, frame, frame_list, height}

-- a sum, taken apart at a place
pub sums_at : (f : ℕ → ℕ) (l : List ℕ) (i : ℕ) → i < length l
    → sums f l ≡ f (get_or l i 0) + (sums f (take i l) + sums f (drop (suc i) l))
sums_at f l i h =
    ap (sums f) (split_at l i 0 h) ∙ omega (arith, sums_append f (take i l) (get_or l i 0 ∷ drop (suc i) l))

sums_set : (f : ℕ → ℕ) (l : List ℕ) (i a : ℕ) → i < length l → sums f (set l i a) ≡ f a + (sums f (take i l) + sums f (drop (suc i) l))
sums_set f l i a h = ap (sums f) (set_split l i a h) ∙ omega (arith, sums_append f (take i l) (a ∷ drop (suc i) l))

sums_mid : (f : ℕ → ℕ) (pre mid post : List ℕ) → sums f (pre ++ (mid ++ post)) ≡ sums f mid + (sums f pre + sums f post)
sums_mid f pre mid post = omega (arith, sums_append f pre (mid ++ post), sums_append f mid post)

-- the old graph and weight, the new ones, and a mark g: where g is 0 the two agree
module _ (b : ℕ) (g : ℕ → ℕ) (children children' : ℕ → List ℕ) (w w' : ℕ → ℕ) (same : (v : ℕ) → g v ≡ 0 → (children' v ≡ children v) × (w' v ≡ w v)) where
  -- THE LAW. f is u with `mid'` in place of the children `mid`; nothing below u is marked
  pub replace : (d u f : ℕ) (pre mid mid' post : List ℕ) → children u ≡ pre ++ (mid ++ post) → children' f ≡ pre ++ (mid' ++ post)
      → total children g (suc d) u ≡ 0
      → walk b children' w' (suc d) f + (sums (walk b children w d) mid + w u) ≡ walk b children w (suc d) u + (sums (walk b children' w' d) mid' + w' f)
  unfolding walk
  replace d u f pre mid mid' post e e' z =
      let gs : sums (walk 0 children g d) (children u) ≡ 0 = omega arith in
      let gm : sums (walk 0 children g d) mid + (sums (walk 0 children g d) pre + sums (walk 0 children g d) post) ≡ 0 =
      sym (sums_mid (walk 0 children g d) pre mid post) ∙ ap (sums (walk 0 children g d)) (sym e) ∙ gs in
      omega (
        arith,
        ap (sums (walk b children w d)) e,
        ap (sums (walk b children' w' d)) e',
        sums_mid (walk b children w d) pre mid post,
        sums_mid (walk b children' w' d) pre mid' post,
        frame_list b g children children' w w' same d pre (omega arith),
        frame_list b g children children' w w' same d post (omega arith),
      )

  -- nothing marked below u: nothing marked below its child
  pub below : (d u i : ℕ) → i < length (children u) → total children g (suc d) u ≡ 0 → total children g d (get_or (children u) i 0) ≡ 0
  unfolding walk
  below d u i h z = omega (arith, sums_at (walk 0 children g d) (children u) i h)

  pub below_path : (p : List ℕ) (fs : List ℕ) (u t d : ℕ) → Copied children children' p u fs t → total children g (up p d) u ≡ 0 → total children g d (follow children p u) ≡ 0
  below_path [] [] u t d c z = z
  below_path [] (f ∷ fs) u t d c z = absurd c
  below_path (i ∷ p) [] u t d c z = absurd c
  below_path (i ∷ p) (f ∷ fs) u t d c z = below_path p fs (get_or (children u) i 0) t d c.2 (below (up p d) u i c.0 z)

  -- one child in place i: a copy f of u that names c' there
  pub copy_at : (d u f i c' : ℕ) → i < length (children u) → children' f ≡ set (children u) i c' → total children g (suc d) u ≡ 0
      → walk b children' w' (suc d) f + (walk b children w d (get_or (children u) i 0) + w u) ≡ walk b children w (suc d) u + (walk b children' w' d c' + w' f)
  copy_at d u f i c' h e z =
      let r : walk b children' w' (suc d) f + ((walk b children w d (get_or (children u) i 0) + 0) + w u) ≡ walk b children w (suc d) u + ((walk b children' w' d c' + 0) + w' f) =
      replace d u f (take i (children u)) (get_or (children u) i 0 ∷ []) (c' ∷ []) (drop (suc i) (children u)) (split_at (children u) i 0 h) (e ∙ set_split (children u) i c' h) z in
      omega arith

  -- THE PATH. Its copies stand for its nodes, and t for its target
  pub path_copy : (p fs : List ℕ) (u t d : ℕ) → Copied children children' p u fs t → total children g (up p d) u ≡ 0
      → walk b children' w' (up p d) (top fs t) + (sums w (spine children p u) + walk b children w d (follow children p u))
      ≡ walk b children w (up p d) u + (sums w' fs + walk b children' w' d t)
  path_copy [] [] u t d c z = omega arith
  path_copy [] (f ∷ fs) u t d c z = absurd c
  path_copy (i ∷ p) [] u t d c z = absurd c
  path_copy (i ∷ p) (f ∷ fs) u t d c z =
      omega (
        arith,
        copy_at (up p d) u f i (top fs t) c.0 c.1 z,
        path_copy p fs (get_or (children u) i 0) t d c.2 (below (up p d) u i c.0 z),
      )

  -- what is taken off and put on at the target is taken off and put on at the root, with the path's own nodes
  pub along : (p fs : List ℕ) (u t d off on : ℕ) → Copied children children' p u fs t → total children g (up p d) u ≡ 0
      → walk b children' w' d t + off ≡ walk b children w d (follow children p u) + on
      → walk b children' w' (up p d) (top fs t) + (sums w (spine children p u) + off) ≡ walk b children w (up p d) u + (sums w' fs + on)
  along p fs u t d off on c z l = omega (arith, path_copy p fs u t d c z)

  -- ---- the changes at the target

  -- memtable flush and compact: other buffers, the same children
  pub same_children : (d u f : ℕ) → children' f ≡ children u → total children g (suc d) u ≡ 0 → walk b children' w' (suc d) f + w u ≡ walk b children w (suc d) u + w' f
  same_children d u f e z =
      let r : walk b children' w' (suc d) f + (0 + w u) ≡ walk b children w (suc d) u + (0 + w' f) = replace d u f [] [] [] (children u) refl e z in
      omega arith

  -- flush: a copy of the parent with a copy of the child, which has the child's children
  pub flush : (d u f i c' : ℕ) → i < length (children u) → children' f ≡ set (children u) i c' → children' c' ≡ children (get_or (children u) i 0)
      → total children g (suc (suc d)) u ≡ 0
      → walk b children' w' (suc (suc d)) f + (w u + w (get_or (children u) i 0)) ≡ walk b children w (suc (suc d)) u + (w' f + w' c')
  flush d u f i c' h e e' z =
      omega (
        arith,
        copy_at (suc d) u f i c' h e z,
        same_children d (get_or (children u) i 0) c' e' (below (suc d) u i h z),
      )

  -- split: left and right, which have the child's children between them, in its place
  pub split : (d u f i l r : ℕ) → i < length (children u)
      → children' f ≡ take i (children u) ++ (l ∷ r ∷ drop (suc i) (children u))
      → children' l ++ children' r ≡ children (get_or (children u) i 0)
      → total children g (suc (suc d)) u ≡ 0
      → walk b children' w' (suc (suc d)) f + (w u + w (get_or (children u) i 0)) ≡ walk b children w (suc (suc d)) u + (w' f + (w' l + w' r))
  unfolding walk
  split d u f i l r h e e' z =
      let c : ℕ = get_or (children u) i 0 in
      let zc : total children g (suc d) c ≡ 0 = below (suc d) u i h z in
      omega (
        arith,
        replace (suc d) u f (take i (children u)) (c ∷ []) (l ∷ r ∷ []) (drop (suc i) (children u)) (split_at (children u) i 0 h) e z,
        sums_append (walk b children' w' d) (children' l) (children' r),
        ap (sums (walk b children' w' d)) e',
        frame_list b g children children' w w' same d (children c) (omega arith),
      )

  -- grow: the old root is the only child
  pub grow : (d r f : ℕ) → children' f ≡ r ∷ [] → total children g d r ≡ 0 → walk b children' w' (suc d) f ≡ walk b children w d r + w' f
  unfolding walk
  grow d r f e z = omega (arith, ap (sums (walk b children' w' d)) e, frame b g children children' w w' same d r z)

  -- where no way from the old root has d nodes or more, at the full fuel
  pub grow_full : (d r f : ℕ) → children' f ≡ r ∷ [] → total children g d r ≡ 0 → deep children d r ≡ 0 → walk b children' w' (suc d) f ≡ walk b children w (suc d) r + w' f
  grow_full d r f e z q = omega (arith, grow d r f e z, height children w b b d r q)

  -- a bare leaf
  pub leaf : (d f : ℕ) → children' f ≡ [] → walk b children' w' (suc d) f ≡ w' f
  unfolding walk
  leaf d f e = omega (arith, ap (sums (walk b children' w' d)) e)

  -- ---- the sum over a list of roots, of which one is replaced

  pub at_root_lem : (roots : List ℕ) (i r d off on : ℕ) → i < length roots → totals children g d roots ≡ 0
      → walk b children' w' d r + off ≡ walk b children w d (get_or roots i 0) + on
      → sums (walk b children' w' d) (set roots i r) + off ≡ sums (walk b children w d) roots + on
  at_root_lem roots i r d off on h z l =
      omega (
        arith,
        sums_at (walk 0 children g d) roots i h,
        sums_at (walk b children w d) roots i h,
        sums_set (walk b children' w' d) roots i r h,
        frame_list b g children children' w w' same d (take i roots) (omega (arith, sums_at (walk 0 children g d) roots i h)),
        frame_list b g children children' w w' same d (drop (suc i) roots) (omega (arith, sums_at (walk 0 children g d) roots i h)),
      )

  -- a root more
  pub new_root : (roots : List ℕ) (r d on : ℕ) → totals children g d roots ≡ 0 → walk b children' w' d r ≡ on
      → sums (walk b children' w' d) (r ∷ roots) ≡ sums (walk b children w d) roots + on
  new_root roots r d on z l = omega (arith, frame_list b g children children' w w' same d roots z)
