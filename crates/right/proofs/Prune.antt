-- Once the dead records are gone a sound store is right, and no sum over the ways has changed. Assumes nothing.
use mathlib.Core.Path.{◌≡◌, refl, sym, ap, ◌∙◌, subst}
use mathlib.Core.Bool.{Bool, true, false, ◌||◌, not, cond}
use mathlib.Core.Logic.{⊎_elim}
use mathlib.Core.List.{List, [], ◌∷◌, ◌++◌}
use mathlib.Core.Option.{Option, none, some}
use Prim.Native.Nat.{ℕ, zero, suc, ◌+◌, ◌≤◌}
use native.Mathlib.Omega.{arith}
use lib.Dec.{T, eqb, leb, ltb, eqb_refl, eqb→eq, leb→le, ltb→lt, lt→ltb}
use Rattle.ways.specs.Ways.{sums, walk, total, totals, deep, nothing, is, one, has, flat, visits}
use Rattle.rules.specs.Tables.{keep, times, joined, is_some, or_else}
use Rattle.rules.specs.Store.{units, Node, Store, blank, children_of, buffers_of, units_of, slot_units, roots, owned, places, ways, in_buffers, in_use, reached, alive, prune}
use Rattle.right.specs.Ledger.{node_units}
use Rattle.rules.specs.Steps.{fit}
use Rattle.rules.specs.Right.{NodeOk, Sound, Right}
use Rattle.ways.proofs.Frame.{sums_append, sums_ext, sums_flat, sums_cong, frame_list, total_visits, height}
use Rattle.ways.proofs.Tests.{F→eq, or_e, or_l, or_r}
use Rattle.ways.proofs.Members.{has_pos, pos_has, sums_none}
use Rattle.right.proofs.Tables.{all_in, keep_in}
use Rattle.right.proofs.Ledger.{has_flat, has_unit, child_named}

-- ---- sums over the ways are sums over what is seen: every unit visited, once for each way

unfoldable pub seen : Store → List ℕ
seen s = flat (visits (children_of s) 8) (roots s)

pub seen_sum : (s : Store) (w : ℕ → ℕ) → totals (children_of s) w 8 (roots s) ≡ sums w (seen s)
unfolding seen
seen_sum s w =
    sums_cong (λ c. sums w (visits (children_of s) 8 c)) (total (children_of s) w 8) (total_visits (children_of s) w 8) (roots s)
    ∙ sym (sums_flat w (visits (children_of s) 8) (roots s))

pub seen_reached : (s : Store) (u : ℕ) → T (has u (seen s)) → T (reached s u)
seen_reached s u t = lt→ltb 0 (ways s u) (omega (arith, has_pos u (seen s) t, seen_sum s (is u)))

pub reached_seen : (s : Store) (u : ℕ) → T (reached s u) → T (has u (seen s))
reached_seen s u t = pos_has u (seen s) (omega (arith, ltb→lt 0 (ways s u) t, seen_sum s (is u)))

-- what is not named is not visited
pub not_seen : (s : Store) → Sound s → (u : ℕ) → s.nodes u ≡ none → ways s u ≡ 0
unfolding walk
not_seen s ok u e = sums_none (total (children_of s) (is u) 8) (roots s) (λ r t. down 8 r (ok.rooted r t))
  where
    down : (d v : ℕ) → T (is_some (s.nodes v)) → total (children_of s) (is u) d v ≡ 0
    down zero v t = refl
    down (suc d) v t =
        omega (
          arith,
          ap one (F→eq (eqb v u) (λ q. subst (λ (o : Option Node). T (is_some o)) e (subst (λ (k : ℕ). T (is_some (s.nodes k))) (eqb→eq v u q) t))),
          sums_none (total (children_of s) (is u) d) (children_of s v) (λ c h. down d c (child_named s ok v c h)),
        )

-- ---- what is seen is closed: a child of a seen node is seen

pub level : (k : ℕ → List ℕ) (w : ℕ → ℕ) (d u : ℕ) → total k w (suc d) u ≡ w u + total k (λ v. sums w (k v)) d u
unfolding walk
level k w zero u = ap (λ (n : ℕ). w u + n) (idle (k u))
  where
    idle : (l : List ℕ) → sums (λ c. 0) l ≡ 0
    idle [] = refl
    idle (x ∷ xs) = omega (arith, idle xs)
level k w (suc d) u =
    ap (λ (n : ℕ). w u + n)
    (sums_cong (λ c. w c + total k (λ v. sums w (k v)) d c) (total k w (suc d)) (level k w d) (k u) ∙ sums_add w (total k (λ v. sums w (k v)) d) (k u))
  where
    sums_add : (f g : ℕ → ℕ) (l : List ℕ) → sums (λ c. f c + g c) l ≡ sums f l + sums g l
    sums_add f g [] = refl
    sums_add f g (x ∷ xs) = omega (arith, sums_add f g xs)

pub member_le : (f : ℕ → ℕ) (x : ℕ) (l : List ℕ) → T (has x l) → f x ≤ sums f l
member_le f x [] t = absurd t
member_le f x (y ∷ ys) t =
    ⊎_elim
    (λ (q : T (eqb y x)). omega (arith, ap f (eqb→eq y x q)))
    (λ (q : T (has x ys)). omega (arith, member_le f x ys q))
    (or_e (eqb y x) (has x ys) t)

pub root_reached : (s : Store) (r : ℕ) → T (has r (roots s)) → T (reached s r)
unfolding seen visits
root_reached s r t =
    seen_reached s r (has_flat (visits (children_of s) 8) r r (roots s) t (or_l (eqb r r) (has r (flat (visits (children_of s) 7) (children_of s r))) (eqb_refl r)))

pub sums_le : (f g : ℕ → ℕ) → ((c : ℕ) → f c ≤ g c) → (l : List ℕ) → sums f l ≤ sums g l
sums_le f g h [] = omega arith
sums_le f g h (x ∷ xs) = omega (arith, h x, sums_le f g h xs)

pub child_reached : (s : Store) → Sound s → (u c : ℕ) → T (reached s u) → T (has c (children_of s u)) → T (reached s c)
child_reached s ok u c t h =
    let k : ℕ → List ℕ = children_of s in
    let W : ℕ → ℕ = λ v. times c (k v) in
    lt→ltb 0 (ways s c) (omega (
      arith,
      has_pos c (k u) h,
      member_le W u (seen s) (reached_seen s u t),
      seen_sum s W,
      sums_ext (deep k 8) (total k (is c) 9) (total k (is c) 8) (height k (is c) 0 0 8) (roots s) ok.low,
      sums_le (total k W 8) (total k (is c) 9) (λ r. omega (arith, level k (is c) 8 r)) (roots s),
    ))

pub buf_alive : (s : Store) (u b : ℕ) → T (reached s u) → T (has b (buffers_of s u)) → T (alive s b)
buf_alive s u b t h =
    or_l (ltb 0 (places s b)) (in_use s.inputs b)
    (lt→ltb 0 (places s b) (omega (arith, has_pos b (buffers_of s u) h, member_le (in_buffers s b) u (seen s) (reached_seen s u t), seen_sum s (in_buffers s b))))

-- ---- the pruned store

module _ {A : Type 0} where
  pub keep_some : (f : ℕ → Bool) (t : ℕ → Option A) (v : ℕ) (a : A) → keep f t v ≡ some a → T (f v) × (t v ≡ some a)
  keep_some f t v a = go (f v)
    where
      go : (b : Bool) → cond b (t v) none ≡ some a → T b × (t v ≡ some a)
      go true e = (tt, e)
      go false e = absurd (none_some e)
        where
          none_some : ◌≡◌ {A = Option A} none (some a) → ⊥
          none_some e = subst (λ (o : Option A). T (is_some o)) (sym e) tt

  pub keep_is : (f : ℕ → Bool) (t : ℕ → Option A) (v : ℕ) → T (is_some (keep f t v)) → T (f v) × T (is_some (t v))
  keep_is f t v = go (f v)
    where
      go : (b : Bool) → T (is_some (cond b (t v) none)) → T b × T (is_some (t v))
      go true e = (tt, e)
      go false e = absurd e

  pub is_keep : (f : ℕ → Bool) (t : ℕ → Option A) (v : ℕ) → T (f v) → T (is_some (t v)) → T (is_some (keep f t v))
  is_keep f t v h e = rw (keep_in f t v h) e

module _ (s : Store) where
  -- every sum over the ways is as before: the weights may differ at what is not seen
  pub pruned : (b : ℕ) (w w' : ℕ → ℕ) → ((v : ℕ) → T (reached s v) → w' v ≡ w v)
      → sums (walk b (children_of (prune s)) w' 8) (roots (prune s)) ≡ sums (walk b (children_of s) w 8) (roots s)
  unfolding prune
  pruned b w w' same =
      let g : ℕ → ℕ = λ v. one (not (reached s v)) in
      frame_list b g (children_of s) (children_of (prune s)) w w'
      (λ v z.
      let t : T (reached s v) = unnot (reached s v) z in
      (ap (λ (o : Option Node). (or_else blank o).children) (keep_in (reached s) s.nodes v t), same v t))
      8 (roots s) (seen_sum s g ∙ sums_none g (seen s) (λ v t. yes_not (reached s v) (seen_reached s v t)))
    where
      unnot : (a : Bool) → one (not a) ≡ 0 → T a
      unnot true e = tt
      unnot false e = omega arith

      yes_not : (a : Bool) → T a → one (not a) ≡ 0
      yes_not true t = refl
      yes_not false t = absurd t

  pub pruned_buffers : (v : ℕ) → T (reached s v) → buffers_of (prune s) v ≡ buffers_of s v
  unfolding prune
  pruned_buffers v t = ap (λ (o : Option Node). (or_else blank o).buffers) (keep_in (reached s) s.nodes v t)

  -- the counts are as before
  pub pruned_ways : (x : ℕ) → ways (prune s) x ≡ ways s x
  pruned_ways x = pruned 0 (is x) (is x) (λ v t. refl)

  pub pruned_places : (b : ℕ) → places (prune s) b ≡ places s b
  pruned_places b = pruned 0 (in_buffers s b) (in_buffers (prune s) b) (λ v t. ap (times b) (pruned_buffers v t))

  -- no unit has more owners
  pub pruned_owned : (u : ℕ) → times u (owned (prune s)) ≤ times u (owned s)
  unfolding owned prune
  pruned_owned u =
      omega (
        arith,
        sums_append (is u) (flat (node_units (prune s)) units) (flat (units_of (prune s)) units ++ joined slot_units s.slots),
        sums_append (is u) (flat (units_of (prune s)) units) (joined slot_units s.slots),
        sums_append (is u) (flat (node_units s) units) (flat (units_of s) units ++ joined slot_units s.slots),
        sums_append (is u) (flat (units_of s) units) (joined slot_units s.slots),
        sums_flat (is u) (node_units (prune s)) units,
        sums_flat (is u) (node_units s) units,
        sums_flat (is u) (units_of (prune s)) units,
        sums_flat (is u) (units_of s) units,
        sums_le (λ c. times u (node_units (prune s) c)) (λ c. times u (node_units s c)) (λ c. fewer_nodes c (reached s c)) units,
        sums_le (λ c. times u (units_of (prune s) c)) (λ c. times u (units_of s c)) (λ c. fewer_units c (alive s c)) units,
      )
    where
      fewer_nodes : (c : ℕ) (b : Bool) → times u (cond (is_some (cond b (s.nodes c) none)) (c ∷ []) []) ≤ times u (node_units s c)
      fewer_nodes c true = omega arith
      fewer_nodes c false = omega arith

      fewer_units : (c : ℕ) (b : Bool) → times u (or_else [] (cond b (s.branches c) none)) ≤ times u (units_of s c)
      fewer_units c true = omega arith
      fewer_units c false = omega arith

-- ---- a sound store whose counts fit is right once the dead are gone

module _ (s : Store) (ok : Sound s) where
  pruned_sound : Sound (prune s)
  unfolding prune
  pruned_sound =
      record {
        rooted = λ r t. is_keep (reached s) s.nodes r (root_reached s r t) (ok.rooted r t);
        node = node';
        branch = λ b us e. ok.branch b us (keep_some (alive s) s.branches b us e).1;
        slot_number = ok.slot_number;
        slot = ok.slot;
        input_number = ok.input_number;
        input = ok.input;
        input_named = λ b t. is_keep (alive s) s.branches b (or_r (ltb 0 (places s b)) (in_use s.inputs b) t) (ok.input_named b t);
        single = λ u. omega (arith, pruned_owned s u, ok.single u);
        node_unit = λ u t. ok.node_unit u (keep_is (reached s) s.nodes u t).1;
        branch_unit = λ b t. ok.branch_unit b (keep_is (alive s) s.branches b t).1;
        unit = λ u t. ok.unit u (pos_has u (owned s) (omega (arith, has_pos u (owned (prune s)) t, pruned_owned s u)));
        low = pruned s 1 nothing nothing (λ v t. refl) ∙ ok.low;
      }
    where
      node' : (u : ℕ) (n : Node) → (prune s).nodes u ≡ some n → NodeOk (prune s) n
      node' u n e =
          let k = keep_some (reached s) s.nodes u n e in
          let o : NodeOk s n = ok.node u n k.1 in
          record {
            few_buffers = o.few_buffers;
            few_children = o.few_children;
            paired = o.paired;
            within = o.within;
            children_named = λ c t.
                is_keep (reached s) s.nodes c
                (child_reached s ok u c k.0 (subst (λ (o : Option Node). T (has c (or_else blank o).children)) (sym k.1) t)) (o.children_named c t);
            buffers_named = λ b t.
                is_keep (alive s) s.branches b
                (buf_alive s u b k.0 (subst (λ (o : Option Node). T (has b (or_else blank o).buffers)) (sym k.1) t)) (o.buffers_named b t);
          }

  pub settle : T (fit s) → ((u : ℕ) → ways s u ≤ 65535) → Right (prune s)
  unfolding prune fit
  settle f few' =
      record {
        sound = pruned_sound;
        live_node = λ u t. subst (λ (n : ℕ). T (ltb 0 n)) (sym (pruned_ways s u)) (keep_is (reached s) s.nodes u t).0;
        live_branch = λ b t. subst (λ (n : ℕ). T (ltb 0 n || in_use s.inputs b)) (sym (pruned_places s b)) (keep_is (alive s) s.branches b t).0;
        few = λ b t.
            let i : T (is_some (s.branches b)) = (keep_is (alive s) s.branches b t).1 in
            let h : T (has b units) = has_unit b (ok.branch_unit b i).0 (ok.branch_unit b i).1 in
            omega (arith, pruned_places s b, leb→le (places s b) 65535 (all_in (λ c. leb (places s c) 65535) units b f h));
        few_ways = λ u. omega (arith, pruned_ways s u, few' u);
      }
