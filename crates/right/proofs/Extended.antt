-- A change that keeps to the rules leads from a sound store to a sound one, before the dead records go. Assumes nothing.
use mathlib.Core.Path.{◌≡◌, refl, sym, ap, subst}
use mathlib.Core.Bool.{Bool, true, false, cond, true≢false}
use mathlib.Core.Logic.{⊎_elim}
use mathlib.Core.List.{List, [], ◌∷◌, ◌++◌}
use mathlib.Core.Option.{Option, some}
use Prim.Native.Nat.{ℕ, zero, suc, ◌+◌, ◌≤◌, ◌<◌}
use native.Mathlib.Omega.{arith}
use lib.Dec.{T, eqb, leb, eqb_refl, eqb→eq}
use lib.ListN.{length}
use Rattle.ways.specs.Ways.{sums, deep, is, one, has, flat}
use Rattle.rules.specs.Tables.{put, puts, keys, times, all, range, joined, is_some, or_else}
use Rattle.rules.specs.Store.{units, Node, Store, children_of, units_of, slot_units, roots, root_list, owned, in_use}
use Rattle.right.specs.Ledger.{node_units, unused, Each}
use Rattle.rules.specs.Steps.{Change, extended}
use Rattle.rules.specs.Right.{NodeOk, BranchOk, slot_ok, Sound}
use Rattle.ways.proofs.Frame.{sums_append, sums_flat}
use Rattle.ways.proofs.Tests.{T→eq, F→eq, eq→not, or_e, or_l, or_r, same?}
use Rattle.ways.proofs.Members.{has_pos, pos_has}
use Rattle.right.proofs.Tables.{distinct_once}
use Rattle.right.proofs.Ledger.{fresh_unit, unused_distinct, some_of_lem}

-- ---- tables

module _ {A : Type 0} where
  some_inj : {a b : A} → some a ≡ some b → a ≡ b
  some_inj e = cc

  pub put_is : (t : ℕ → Option A) (e : ℕ × A) (v : ℕ) → T (is_some (t v)) → T (is_some (put t e v))
  put_is t e v h = go (eqb v e.0)
    where
      go : (b : Bool) → T (is_some (cond b (some e.1) (t v)))
      go true = tt
      go false = h

  pub puts_is : (es : List (ℕ × A)) (t : ℕ → Option A) (v : ℕ) → T (is_some (t v)) → T (is_some (puts t es v))
  puts_is [] t v h = h
  puts_is (e ∷ es) t v h = puts_is es (put t e) v (put_is t e v h)

  pub puts_key : (es : List (ℕ × A)) (t : ℕ → Option A) (v : ℕ) → T (has v (keys es)) → T (is_some (puts t es v))
  puts_key [] t v h = absurd h
  puts_key (e ∷ es) t v h =
      ⊎_elim
      (λ (q : T (eqb e.0 v)). puts_is es (put t e) v (subst (λ (k : ℕ). T (is_some (put t e k))) (eqb→eq e.0 v q) (rw (T→eq (eqb e.0 e.0) (eqb_refl e.0)) tt)))
      (λ (q : T (has v (keys es))). puts_key es (put t e) v q)
      (or_e (eqb e.0 v) (has v (keys es)) h)

  -- what holds of the table's records and of the entries holds of the records of the table with the entries
  pub puts_all : (P : ℕ → A → Type 0) (es : List (ℕ × A)) (t : ℕ → Option A) → ((v : ℕ) (a : A) → t v ≡ some a → P v a) → Each P es
      → (v : ℕ) (a : A) → puts t es v ≡ some a → P v a
  puts_all P [] t h q v a e = h v a e
  puts_all P (x ∷ es) t h q v a e = puts_all P es (put t x) (λ v a e. go v a (eqb v x.0) refl e) q.1 v a e
    where
      go : (v : ℕ) (a : A) (b : Bool) → eqb v x.0 ≡ b → cond b (some x.1) (t v) ≡ some a → P v a
      go v a true r e =
          subst (λ (k : ℕ). P k a) (sym (eqb→eq v x.0 (subst (λ (c : Bool). T c) (sym r) tt)))
          (subst (λ (y : A). P x.0 y) (some_inj e) q.0)
      go v a false r e = h v a e

-- ---- sums over the units

range_below : (k n x : ℕ) → x < n → times x (range k n) ≡ 0
range_below zero n x h = refl
range_below (suc k) n x h =
    omega (arith, range_below k (suc n) x (omega arith), ap one (F→eq (eqb n x) (λ t. let e : n ≡ x = eqb→eq n x t in omega arith)))

range_once : (k n x : ℕ) → times x (range k n) ≤ 1
range_once zero n x = omega arith
range_once (suc k) n x =
    ⊎_elim
    (λ (e : n ≡ x). omega (arith, range_below k (suc n) x (omega arith), le_one (eqb n x)))
    (λ (e : eqb n x ≡ false). omega (arith, ap one e, range_once k (suc n) x))
    (same? n x)
  where
    le_one : (b : Bool) → one b ≤ 1
    le_one true = omega arith
    le_one false = omega arith

pub units_once : (x : ℕ) → times x units ≤ 1
unfolding units
units_once x = range_once 255 1 x

-- two weights that differ at k alone
sums_off : (f f' : ℕ → ℕ) (k : ℕ) → ((c : ℕ) → eqb c k ≡ false → f' c ≤ f c) → (l : List ℕ) → times k l ≡ 0 → sums f' l ≤ sums f l
sums_off f f' k h [] z = omega arith
sums_off f f' k h (x ∷ xs) z = omega (arith, h x (off (eqb x k) (omega arith)), sums_off f f' k h xs (omega arith))
  where
    off : (b : Bool) → one b ≡ 0 → b ≡ false
    off true e = absurd (omega arith)
    off false e = refl

sums_point : (f f' : ℕ → ℕ) (k : ℕ) → ((c : ℕ) → eqb c k ≡ false → f' c ≤ f c) → (l : List ℕ) → times k l ≤ 1 → sums f' l ≤ sums f l + f' k
sums_point f f' k h [] z = omega arith
sums_point f f' k h (x ∷ xs) z =
    ⊎_elim
    (λ (e : x ≡ k). omega (arith, ap f' e, sums_off f f' k h xs (omega (arith, ap one (T→eq (eqb x k) (subst (λ (y : ℕ). T (eqb x y)) e (eqb_refl x)))))))
    (λ (e : eqb x k ≡ false). omega (arith, h x e, sums_point f f' k h xs (omega arith)))
    (same? x k)

module _ {A : Type 0} (g : ℕ → Option A → ℕ) where
  unfoldable pub over : (ℕ → Option A) → ℕ
  over t = sums (λ c. g c (t c)) units

  unfoldable pub entries : List (ℕ × A) → ℕ
  entries [] = 0
  entries (e ∷ es) = g e.0 (some e.1) + entries es

  put_over : (t : ℕ → Option A) (e : ℕ × A) → over (put t e) ≤ over t + g e.0 (some e.1)
  unfolding over
  put_over t e =
      omega (
        arith,
        sums_point (λ c. g c (t c)) (λ c. g c (put t e c)) e.0 (λ c h. off c (eqb c e.0) h) units (units_once e.0),
        ap (g e.0) (here (eqb e.0 e.0) (T→eq (eqb e.0 e.0) (eqb_refl e.0))),
      )
    where
      off : (c : ℕ) (b : Bool) → b ≡ false → g c (cond b (some e.1) (t c)) ≤ g c (t c)
      off c true h = absurd (true≢false h)
      off c false h = omega arith

      here : (b : Bool) → b ≡ true → cond b (some e.1) (t e.0) ≡ some e.1
      here true h = refl
      here false h = absurd (true≢false (sym h))

  pub puts_over : (es : List (ℕ × A)) (t : ℕ → Option A) → over (puts t es) ≤ over t + entries es
  unfolding entries
  puts_over [] t = omega arith
  puts_over (e ∷ es) t = omega (arith, put_over t e, puts_over es (put t e))

pub zero_of : (n : ℕ) → (0 < n → ⊥) → n ≡ 0
zero_of zero h = refl
zero_of (suc n) h = absurd (h (omega arith))

-- ---- the change

unfoldable pub node_part : ℕ → ℕ → Option Node → ℕ
node_part u c o = times u (cond (is_some o) (c ∷ []) [])

unfoldable pub branch_part : ℕ → ℕ → Option (List ℕ) → ℕ
branch_part u c o = times u (or_else [] o)

-- the units that go into the tree's branches
unfoldable pub joining : List (ℕ × List ℕ) → List ℕ
joining [] = []
joining (e ∷ es) = e.1 ++ joining es

pub owned_parts : (s : Store) (u : ℕ)
    → times u (owned s) ≡ over (node_part u) s.nodes + (over (branch_part u) s.branches + times u (joined slot_units s.slots))
unfolding owned over node_part branch_part
owned_parts s u =
    omega (
      arith,
      sums_append (is u) (flat (node_units s) units) (flat (units_of s) units ++ joined slot_units s.slots),
      sums_append (is u) (flat (units_of s) units) (joined slot_units s.slots),
      sums_flat (is u) (node_units s) units,
      sums_flat (is u) (units_of s) units,
    )

pub slot_owned : (s : Store) (u : ℕ) → times u (joined slot_units s.slots) ≤ times u (owned s)
slot_owned s u = omega (arith, owned_parts s u)

pub node_entries : (u : ℕ) (es : List (ℕ × Node)) → entries (node_part u) es ≡ times u (keys es)
unfolding entries node_part
node_entries u [] = refl
node_entries u (e ∷ es) = omega (arith, node_entries u es)

pub branch_entries : (u : ℕ) (es : List (ℕ × List ℕ)) → entries (branch_part u) es ≡ times u (joining es)
unfolding entries branch_part joining
branch_entries u [] = refl
branch_entries u (e ∷ es) = omega (arith, branch_entries u es, sums_append (is u) e.1 (joining es))

-- what a change has to keep to, over and above the tests that every change is put to
pub record Lawful (s : Store) (p : Change) : Type 0 where
  pub root_named : (r : ℕ) → T (has r (root_list p.root)) → T (is_some ((extended s p).nodes r))
  pub nodes_ok : Each (λ u n. NodeOk (extended s p) n) p.adds
  pub joins_ok : Each BranchOk p.joins
  pub join_unit : Each (λ b us. (1 ≤ b) × (b ≤ 255)) p.joins
  pub slot_number : length p.slots ≡ 4
  pub slot : T (all slot_ok p.slots)
  pub input_number : length p.inputs ≡ 4
  pub input : T (all (λ l. leb (length l) 8) p.inputs)
  pub input_named : (b : ℕ) → T (in_use p.inputs b) → T (is_some ((extended s p).branches b))
  pub adds_proposed : (v : ℕ) → T (has v (keys p.adds)) → T (has v p.proposed)
  pub owns : (u : ℕ) → times u (keys p.adds) + (times u (joining p.joins) + times u (joined slot_units p.slots))
      ≤ times u (joined slot_units s.slots) + times u p.proposed
  pub low : sums (deep (children_of (extended s p)) 8) (roots (extended s p)) ≡ 0

module _ (s : Store) (ok : Sound s) (p : Change) where
  pub extended_owned : ((u : ℕ) → times u (keys p.adds) + (times u (joining p.joins) + times u (joined slot_units p.slots)) ≤ times u (joined slot_units s.slots) + times u p.proposed)
      → (u : ℕ) → times u (owned (extended s p)) ≤ times u (owned s) + times u p.proposed
  unfolding extended
  extended_owned h u =
      omega (
        arith,
        owned_parts s u,
        owned_parts (extended s p) u,
        h u,
        puts_over (node_part u) p.adds s.nodes,
        node_entries u p.adds,
        puts_over (branch_part u) p.joins s.branches,
        branch_entries u p.joins,
      )

  -- an old record is still named
  pub node_still : (v : ℕ) → T (is_some (s.nodes v)) → T (is_some ((extended s p).nodes v))
  unfolding extended
  node_still v t = puts_is p.adds s.nodes v t

  pub branch_still : (v : ℕ) → T (is_some (s.branches v)) → T (is_some ((extended s p).branches v))
  unfolding extended
  branch_still v t = puts_is p.joins s.branches v t

  pub add_named : (v : ℕ) → T (has v (keys p.adds)) → T (is_some ((extended s p).nodes v))
  unfolding extended
  add_named v t = puts_key p.adds s.nodes v t

  pub join_named : (v : ℕ) → T (has v (keys p.joins)) → T (is_some ((extended s p).branches v))
  unfolding extended
  join_named v t = puts_key p.joins s.branches v t

  pub node_ok_still : (n : Node) → NodeOk s n → NodeOk (extended s p) n
  node_ok_still n o =
      record {
        few_buffers = o.few_buffers;
        few_children = o.few_children;
        paired = o.paired;
        within = o.within;
        children_named = λ c t. node_still c (o.children_named c t);
        buffers_named = λ b t. branch_still b (o.buffers_named b t);
      }

  pub extended_sound : T (unused s p.proposed) → Lawful s p → Sound (extended s p)
  unfolding extended
  extended_sound new law =
      record {
        rooted = law.root_named;
        node = puts_all (λ u n. NodeOk (extended s p) n) p.adds s.nodes (λ v a e. node_ok_still a (ok.node v a e)) law.nodes_ok;
        branch = puts_all BranchOk p.joins s.branches ok.branch law.joins_ok;
        slot_number = law.slot_number;
        slot = law.slot;
        input_number = law.input_number;
        input = law.input;
        input_named = law.input_named;
        single = λ u. once u (has u p.proposed) refl;
        node_unit = λ u t.
            let n = some_of_lem ((extended s p).nodes u) t in
            puts_all (λ v a. (1 ≤ v) × (v ≤ 255)) p.adds s.nodes (λ v a e. ok.node_unit v (subst (λ (o : Option Node). T (is_some o)) (sym e) tt)) (in_range p.adds law.adds_proposed) u n.0 n.1;
        branch_unit = λ b t.
            let n = some_of_lem ((extended s p).branches b) t in
            puts_all (λ v a. (1 ≤ v) × (v ≤ 255)) p.joins s.branches (λ v a e. ok.branch_unit v (subst (λ (o : Option (List ℕ)). T (is_some o)) (sym e) tt)) law.join_unit b n.0 n.1;
        unit = λ u t. whose u t (has u p.proposed) refl;
        low = law.low;
      }
    where
      own : (u : ℕ) → times u (owned (extended s p)) ≤ times u (owned s) + times u p.proposed
      own = extended_owned law.owns

      none_fresh : (u : ℕ) → has u p.proposed ≡ false → times u p.proposed ≡ 0
      none_fresh u e = zero_of (times u p.proposed) (λ h. eq→not (has u p.proposed) e (pos_has u p.proposed h))

      once : (u : ℕ) (b : Bool) → has u p.proposed ≡ b → times u (owned (extended s p)) ≤ 1
      once u true e =
          let z : times u (owned s) ≡ 0 = zero_of (times u (owned s)) (λ h. (fresh_unit s p.proposed new u (subst (λ (c : Bool). T c) (sym e) tt)).not_held (pos_has u (owned s) h)) in
          omega (arith, own u, distinct_once p.proposed (unused_distinct s p.proposed new) u)
      once u false e = omega (arith, own u, ok.single u, none_fresh u e)

      whose : (u : ℕ) → T (has u (owned (extended s p))) → (b : Bool) → has u p.proposed ≡ b → (1 ≤ u) × (u ≤ 255)
      whose u t true e = let f = fresh_unit s p.proposed new u (subst (λ (c : Bool). T c) (sym e) tt) in (f.least, f.most)
      whose u t false e = ok.unit u (pos_has u (owned s) (omega (arith, own u, none_fresh u e, has_pos u (owned (extended s p)) t)))

      in_range : (es : List (ℕ × Node)) → ((v : ℕ) → T (has v (keys es)) → T (has v p.proposed)) → Each (λ v a. (1 ≤ v) × (v ≤ 255)) es
      in_range [] h = tt
      in_range (e ∷ es) h =
          let f = fresh_unit s p.proposed new e.0 (h e.0 (or_l (eqb e.0 e.0) (has e.0 (keys es)) (eqb_refl e.0))) in
          ((f.least, f.most), in_range es (λ v t. h v (or_r (eqb e.0 v) (has v (keys es)) t)))
