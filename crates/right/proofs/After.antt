-- The store after an accepted step, record by record, from the counts: which nodes and branches stay, who is held, and which branches
-- the test of line 12 must look at. What an engine without recounts rests on. Assumes nothing.
use mathlib.Core.Path.{◌≡◌, refl, sym, ap, ap₂, ◌∙◌, subst, fun_ext}
use mathlib.Core.Bool.{Bool, true, false, ◌||◌, ◌&&◌, not, cond}
use mathlib.Core.Logic.{◌⊎◌, inl, inr, ⊎_elim}
use mathlib.Core.List.{List, [], ◌∷◌}
use mathlib.Core.Option.{Option, none, some}
use Prim.Native.Nat.{ℕ, zero, suc, ◌+◌, ◌-◌, ◌≤◌, ◌<◌}
use native.Mathlib.Omega.{arith}
use native.Mathlib.Nat.{zero-add}
use lib.Dec.{T, eqb, leb, ltb, eqb_refl}
use borrow.Author.Tests.{ltb-true, ltb-false, lt-ltb, le-ltb, eq-eqb, ne_eqb, leb-true, leb-false, le-leb}
use Rattle.units.specs.Limits.{last_unit}
use Rattle.ways.specs.Ways.{sums, is, one, has, gone}
use Rattle.ways.specs.Levels.{some_of}
use Rattle.ways.proofs.Frame.{sums_cong}
use Rattle.rules.specs.Tables.{all, times, keys, put, puts, keep, is_some, or_else, joined}
use Rattle.rules.specs.Store.{units, Node, Slot, Store, blank, slot_units, ways, places, in_buffers, in_use, owned, held, reached, alive, prune}
use Rattle.rules.specs.Steps.{accepted, Change, extended, fit, decide, Step, change}
use Rattle.rules.specs.Right.{Sound, Right}
use Rattle.right.specs.Ledger.{Holds, Ledger, owns}
use Rattle.right.specs.Counts.{added}
use Rattle.ways.proofs.Tests.{T→eq, eq→T, F→eq, eq→not, and_i, or_e, or_l, or_r, same?, same_or}
use Rattle.ways.proofs.Members.{has_pos, pos_has, sums_none}
use Rattle.right.proofs.Tables.{all_in, distinct_once, puts_other}
use Rattle.right.proofs.Ledger.{has_unit, fresh_unit, Fresh, node_owned}
use Rattle.right.proofs.Prune.{seen, seen_sum, not_seen, pruned_ways, pruned_places}
use Rattle.right.proofs.Held.{held_owns}
use Rattle.right.proofs.Extended.{over, node_part, branch_part, owned_parts, units_once}
use Rattle.right.proofs.Steps.{Passed, passed, Even, lawful, ledger, apart, change_right}
use Rattle.right.proofs.Counts.{counted}

-- ---- what is held, as a number

pub held_number_lem : (x : ℕ) (l : List ℕ) → has x l ≡ ltb 0 (times x l)
held_number_lem x l = go (has x l) refl
  where
    go : (b : Bool) → has x l ≡ b → b ≡ ltb 0 (times x l)
    go true e = sym (lt-ltb 0 (times x l) (has_pos x l (eq→T (has x l) e)))
    go false e = sym (le-ltb 0 (times x l) (few (ltb 0 (times x l)) refl))
      where
        few : (b : Bool) → ltb 0 (times x l) ≡ b → times x l ≤ 0
        few true q = absurd (eq→not (has x l) e (pos_has x l (ltb-true 0 (times x l) q)))
        few false q = ltb-false 0 (times x l) q

-- no count is too high where no count changes
pub unplaced : (s : Store) → Sound s → (b : ℕ) → s.branches b ≡ none → places s b ≡ 0
unplaced s o b e =
    seen_sum s (in_buffers s b) ∙ sums_none (in_buffers s b) (seen s) (λ v t. go v (s.nodes v) refl)
  where
    none_in : (l : List ℕ) → (T (has b l) → ⊥) → times b l ≡ 0
    none_in l h = few (ltb 0 (times b l)) refl
      where
        few : (c : Bool) → ltb 0 (times b l) ≡ c → times b l ≡ 0
        few true q = absurd (h (pos_has b l (ltb-true 0 (times b l) q)))
        few false q = omega (arith, ltb-false 0 (times b l) q)

    go : (v : ℕ) (n : Option Node) → s.nodes v ≡ n → in_buffers s b v ≡ 0
    go v none q = ap (λ (n : Option Node). times b (or_else blank n).buffers) q
    go v (some n) q =
        ap (λ (n : Option Node). times b (or_else blank n).buffers) q
        ∙ none_in n.buffers (λ t. subst (λ (x : Option (List ℕ)). T (is_some x)) e ((o.node v n q).buffers_named b t))

pub places_low : (s : Store) → Right s → (b : ℕ) → places s b ≤ 65535
places_low s r b = go (s.branches b) refl
  where
    go : (x : Option (List ℕ)) → s.branches b ≡ x → places s b ≤ 65535
    go none e = omega (arith, unplaced s r.sound b e)
    go (some us) e = r.few b (subst (λ (x : Option (List ℕ)). T (is_some x)) (sym e) tt)

all_every : (f : ℕ → Bool) (l : List ℕ) → ((x : ℕ) → f x ≡ true) → all f l ≡ true
all_every f [] h = refl
all_every f (x ∷ xs) h = rw (h x) (all_every f xs h)

pub fit_of : (s : Store) → ((b : ℕ) → places s b ≤ 65535) → fit s ≡ true
unfolding fit
fit_of s h = all_every (λ b. leb (places s b) 65535) units (λ b. le-leb (places s b) 65535 (h b))

-- ---- a sum over the units of what is 0 but at one of them

sums_zero : (f : ℕ → ℕ) (v : ℕ) → ((c : ℕ) → eqb c v ≡ false → f c ≡ 0) → (l : List ℕ) → times v l ≡ 0 → sums f l ≡ 0
sums_zero f v h [] z = refl
sums_zero f v h (x ∷ xs) z =
    ⊎_elim
    (λ (e : x ≡ v). absurd (omega (arith, ap one (eq-eqb x v e))))
    (λ (e : eqb x v ≡ false). omega (arith, h x e, sums_zero f v h xs (omega arith)))
    (same? x v)

sums_single : (f : ℕ → ℕ) (v : ℕ) → ((c : ℕ) → eqb c v ≡ false → f c ≡ 0) → (l : List ℕ) → times v l ≡ 1 → sums f l ≡ f v
sums_single f v h [] z = absurd (omega arith)
sums_single f v h (x ∷ xs) z =
    ⊎_elim
    (λ (e : x ≡ v). omega (arith, ap f e, sums_zero f v h xs (omega (arith, ap one (eq-eqb x v e)))))
    (λ (e : eqb x v ≡ false). omega (arith, h x e, sums_single f v h xs (omega (arith, ap one e))))
    (same? x v)

unit_once : (v : ℕ) → 1 ≤ v → v ≤ 255 → times v units ≡ 1
unit_once v p q = omega (arith, units_once v, has_pos v units (has_unit v p q))

-- a unit is a node's just when the table has it
pub over_node : (t : ℕ → Option Node) (v : ℕ) → 1 ≤ v → v ≤ 255 → over (node_part v) t ≡ one (is_some (t v))
unfolding over node_part
over_node t v p q =
    sums_single (λ c. times v (cond (is_some (t c)) (c ∷ []) [])) v (λ c e. off c (is_some (t c)) e) units (unit_once v p q) ∙ here (is_some (t v))
  where
    off : (c : ℕ) (b : Bool) → eqb c v ≡ false → times v (cond b (c ∷ []) []) ≡ 0
    off c true e = omega (arith, ap one e)
    off c false e = refl

    here : (b : Bool) → times v (cond b (v ∷ []) []) ≡ one b
    here true = omega (arith, ap one (eq-eqb v v refl))
    here false = refl

-- a branch that comes where none was
pub over_branch : (t : ℕ → Option (List ℕ)) (b : ℕ) (us : List ℕ) (v : ℕ) → 1 ≤ b → b ≤ 255 → t b ≡ none
    → over (branch_part v) (put t (b, us)) ≡ over (branch_part v) t + times v us
unfolding over branch_part
over_branch t b us v p q e = go units (unit_once b p q)
  where
    put_here : or_else [] (put t (b, us) b) ≡ us
    put_here = ap (λ (c : Bool). or_else [] (cond c (some us) (t b))) (eq-eqb b b refl)

    put_off : (c : ℕ) → eqb c b ≡ false → or_else [] (put t (b, us) c) ≡ or_else [] (t c)
    put_off c z = ap (λ (x : Bool). or_else [] (cond x (some us) (t c))) z

    same : (l : List ℕ) → times b l ≡ 0 → sums (λ c. times v (or_else [] (put t (b, us) c))) l ≡ sums (λ c. times v (or_else [] (t c))) l
    same [] z = refl
    same (x ∷ xs) z =
        ⊎_elim
        (λ (w : x ≡ b). absurd (omega (arith, ap one (eq-eqb x b w))))
        (λ (w : eqb x b ≡ false). omega (arith, ap (times v) (put_off x w), same xs (omega arith)))
        (same? x b)

    go : (l : List ℕ) → times b l ≡ 1 → sums (λ c. times v (or_else [] (put t (b, us) c))) l ≡ sums (λ c. times v (or_else [] (t c))) l + times v us
    go [] z = absurd (omega arith)
    go (x ∷ xs) z =
        ⊎_elim
        (λ (w : x ≡ b).
        let here : times v (or_else [] (put t (b, us) x)) ≡ times v us = ap (λ (y : ℕ). times v (or_else [] (put t (b, us) y))) w ∙ ap (times v) put_here in
        let none_here : times v (or_else [] (t x)) ≡ 0 = ap (λ (y : ℕ). times v (or_else [] (t y))) w ∙ ap (λ (o : Option (List ℕ)). times v (or_else [] o)) e in
        omega (arith, here, none_here, same xs (omega (arith, ap one (eq-eqb x b w)))))
        (λ (w : eqb x b ≡ false). omega (arith, ap (times v) (put_off x w), go xs (omega (arith, ap one w))))
        (same? x b)

-- ---- the store after an accepted step, record by record

module _ (s : Store) (r : Right s) (p : Change) (s' : Store) (e : decide s p ≡ accepted s') where
  pub after_nodes : (u : ℕ) → s'.nodes u ≡ cond (ltb 0 (ways s' u)) (puts s.nodes p.adds u) none
  unfolding prune extended
  after_nodes u =
      let q : s' ≡ prune (extended s p) = (passed s r p s' e).1 in
      let w : ways s' u ≡ ways (extended s p) u = ap (λ (y : Store). ways y u) q ∙ pruned_ways (extended s p) u in
      ap (λ (y : Store). y.nodes u) q ∙ ap (λ (n : ℕ). cond (ltb 0 n) (puts s.nodes p.adds u) none) (sym w)

  pub after_branches : (b : ℕ) → s'.branches b ≡ cond (ltb 0 (places s' b) || in_use p.inputs b) (puts s.branches p.joins b) none
  unfolding prune extended
  after_branches b =
      let q : s' ≡ prune (extended s p) = (passed s r p s' e).1 in
      let w : places s' b ≡ places (extended s p) b = ap (λ (y : Store). places y b) q ∙ pruned_places (extended s p) b in
      ap (λ (y : Store). y.branches b) q ∙ ap (λ (n : ℕ). cond (ltb 0 n || in_use p.inputs b) (puts s.branches p.joins b) none) (sym w)

  pub after_root : s'.root ≡ p.root
  unfolding prune extended
  after_root = ap (λ (y : Store). y.root) (passed s r p s' e).1

  pub after_slots : s'.slots ≡ p.slots
  unfolding prune extended
  after_slots = ap (λ (y : Store). y.slots) (passed s r p s' e).1

  pub after_inputs : s'.inputs ≡ p.inputs
  unfolding prune extended
  after_inputs = ap (λ (y : Store). y.inputs) (passed s r p s' e).1

  -- where no count of a branch falls and no input ends, all branches stay
  pub kept_branches : ((b : ℕ) → T (in_use s.inputs b) → T (in_use p.inputs b)) → ((b : ℕ) → places s b ≤ places s' b) → ((b : ℕ) → T (has b (keys p.joins)) → 0 < places s' b)
      → s'.branches ≡ puts s.branches p.joins
  kept_branches ei up new = fun_ext (λ b. after_branches b ∙ go b (puts s.branches p.joins b) refl (has b (keys p.joins)) refl)
    where
      stays : (b : ℕ) → T (alive s b) → (ltb 0 (places s' b) || in_use p.inputs b) ≡ true
      stays b q =
          T→eq (ltb 0 (places s' b) || in_use p.inputs b)
          (⊎_elim
          (λ (z : T (ltb 0 (places s b))). or_l (ltb 0 (places s' b)) (in_use p.inputs b) (eq→T (ltb 0 (places s' b)) (lt-ltb 0 (places s' b) (omega (arith, up b, ltb-true 0 (places s b) (T→eq (ltb 0 (places s b)) z))))))
          (λ (z : T (in_use s.inputs b)). or_r (ltb 0 (places s' b)) (in_use p.inputs b) (ei b z))
          (or_e (ltb 0 (places s b)) (in_use s.inputs b) q))

      nothing : (c : Bool) → ◌≡◌ {A = Option (List ℕ)} (cond c none none) none
      nothing true = refl
      nothing false = refl

      go : (b : ℕ) (o : Option (List ℕ)) → puts s.branches p.joins b ≡ o → (j : Bool) → has b (keys p.joins) ≡ j
          → cond (ltb 0 (places s' b) || in_use p.inputs b) (puts s.branches p.joins b) none ≡ puts s.branches p.joins b
      go b none q j z = ap (λ (o : Option (List ℕ)). cond (ltb 0 (places s' b) || in_use p.inputs b) o none) q ∙ nothing (ltb 0 (places s' b) || in_use p.inputs b) ∙ sym q
      go b (some us) q true z =
          ap (λ (c : Bool). cond (c || in_use p.inputs b) (puts s.branches p.joins b) none) (lt-ltb 0 (places s' b) (new b (eq→T (has b (keys p.joins)) z)))
      go b (some us) q false z =
          let old : s.branches b ≡ some us = sym (puts_other p.joins s.branches b z) ∙ q in
          ap (λ (c : Bool). cond c (puts s.branches p.joins b) none)
          (stays b (r.live_branch b (subst (λ (o : Option (List ℕ)). T (is_some o)) (sym old) tt)))

-- where the branches and slots hold together what they held, a unit is held as the nodes say
pub moved_held : (s s' : Store) (v : ℕ) → 1 ≤ v → v ≤ 255
    → over (branch_part v) s'.branches + times v (joined slot_units s'.slots) ≡ over (branch_part v) s.branches + times v (joined slot_units s.slots)
    → times v (owned s') + one (is_some (s.nodes v)) ≡ times v (owned s) + one (is_some (s'.nodes v))
moved_held s s' v p q e = omega (arith, owned_parts s v, owned_parts s' v, over_node s.nodes v p q, over_node s'.nodes v p q)

-- ---- counts before the dead go, for the test of line 12

pub extended_places : (s : Store) (p : Change) → Ledger s (extended s p) p.proposed p.drops (keys p.adds)
    → ((u : ℕ) → has u p.proposed ≡ false → has u (keys p.adds) ≡ false) → Holds (extended s p).nodes p.adds
    → (b : ℕ) → places (extended s p) b + sums (in_buffers s b) p.drops ≡ places s b + added b p.adds
unfolding extended
extended_places s p book off holds b =
    omega (
      arith,
      book 0 (in_buffers s b) (in_buffers (extended s p) b) (λ u h. ap (λ (o : Option Node). times b (or_else blank o).buffers) (puts_other p.adds s.nodes u (off u h))),
      holds_added p.adds holds,
    )
  where
    holds_added : (es : List (ℕ × Node)) → Holds (extended s p).nodes es → sums (in_buffers (extended s p) b) (keys es) ≡ added b es
    holds_added [] h = refl
    holds_added (x ∷ es) h = omega (arith, ap (λ (o : Option Node). times b (or_else blank o).buffers) h.0, holds_added es h.1)

-- ---- the branches that die are those of a sum of their own: over what stays and over what goes

pub over_split : (v : ℕ) (f : ℕ → Bool) (t : ℕ → Option (List ℕ)) → over (branch_part v) (keep f t) + over (branch_part v) (keep (λ b. not (f b)) t) ≡ over (branch_part v) t
unfolding over branch_part
over_split v f t = go units
  where
    at : (b : Bool) (o : Option (List ℕ)) → times v (or_else [] (cond b o none)) + times v (or_else [] (cond (not b) o none)) ≡ times v (or_else [] o)
    at true o = omega arith
    at false o = omega arith

    go : (l : List ℕ) → sums (λ c. times v (or_else [] (keep f t c))) l + sums (λ c. times v (or_else [] (keep (λ b. not (f b)) t c))) l ≡ sums (λ c. times v (or_else [] (t c))) l
    go [] = refl
    go (x ∷ xs) = omega (arith, go xs, at (f x) (t x))

over_cong : (v : ℕ) (t t' : ℕ → Option (List ℕ)) → ((b : ℕ) → t b ≡ t' b) → over (branch_part v) t ≡ over (branch_part v) t'
unfolding over branch_part
over_cong v t t' h = sums_cong (λ c. times v (or_else [] (t' c))) (λ c. times v (or_else [] (t c))) (λ c. ap (λ (o : Option (List ℕ)). times v (or_else [] o)) (h c)) units

-- a unit stands in a branch that passes
pub over_some : (v : ℕ) (f : ℕ → Bool) (t : ℕ → Option (List ℕ))
    → ltb 0 (over (branch_part v) (keep f t)) ≡ some_of (λ b. f b && has v (or_else [] (t b))) units
unfolding over branch_part
over_some v f t = go units
  where
    at : (b : Bool) (o : Option (List ℕ)) → ltb 0 (times v (or_else [] (cond b o none))) ≡ (b && has v (or_else [] o))
    at true o = sym (held_number_lem v (or_else [] o))
    at false o = refl

    more : (m n : ℕ) → ltb 0 (m + n) ≡ (ltb 0 m || ltb 0 n)
    more zero n = ap (ltb 0) (zero-add n)
    more (suc m) n = lt-ltb 0 (suc m + n) (omega arith) ∙ sym (ap (λ (b : Bool). b || ltb 0 n) (lt-ltb 0 (suc m) (omega arith)))

    go : (l : List ℕ) → ltb 0 (sums (λ c. times v (or_else [] (keep f t c))) l) ≡ some_of (λ b. f b && has v (or_else [] (t b))) l
    go [] = refl
    go (x ∷ xs) =
        more (times v (or_else [] (keep f t x))) (sums (λ c. times v (or_else [] (keep f t c))) xs)
        ∙ ap₂ (λ (p q : Bool). p || q) (at (f x) (t x)) (go xs)

puts_same : (es : List (ℕ × Node)) (t t' : ℕ → Option Node) (v : ℕ) → T (has v (keys es)) ⊎ (t v ≡ t' v) → puts t es v ≡ puts t' es v
puts_same [] t t' v c = ⊎_elim (λ (z : T (has v [])). absurd z) (λ (e : t v ≡ t' v). e) c
puts_same (e ∷ es) t t' v c =
    puts_same es (put t e) (put t' e) v
    (⊎_elim
    (λ (w : v ≡ e.0). inr (ap (λ (b : Bool). cond b (some e.1) (t v)) (eq-eqb v e.0 w) ∙ sym (ap (λ (b : Bool). cond b (some e.1) (t' v)) (eq-eqb v e.0 w))))
    (λ (n : v ≡ e.0 → ⊥). ⊎_elim
    (λ (z : T (has v (keys (e ∷ es)))). inl (subst (λ (b : Bool). T (b || has v (keys es))) (ne_eqb e.0 v (λ y. n (sym y))) z))
    (λ (q : t v ≡ t' v). inr (ap (λ (o : Option Node). cond (eqb v e.0) (some e.1) o) q))
    c)
    (same_or v e.0))

module _ (s : Store) (r : Right s) (m : Step) (ev : Even m) (s' : Store) (e : decide s (change s m) ≡ accepted s') where
  abbrev P : Change
  P = change s m

  acc : Passed s (change s m)
  acc = (passed s r (change s m) s' e).0

  key_fresh : (x : ℕ) → T (has x (keys (change s m).adds)) → Fresh s x
  key_fresh x t = fresh_unit s (change s m).proposed acc.new x ((lawful s r.sound m ev acc).adds_proposed x t)

  key_none : (x : ℕ) → T (has x (keys (change s m).adds)) → s.nodes x ≡ none
  key_none x t = go (s.nodes x) refl
    where
      go : (o : Option Node) → s.nodes x ≡ o → o ≡ none
      go none q = refl
      go (some n) q = absurd ((key_fresh x t).not_held (node_owned s r.sound x (subst (λ (o : Option Node). T (is_some o)) (sym q) tt)))

  -- nothing that comes is among what goes
  pub undropped : (x : ℕ) → T (has x (keys (change s m).adds)) → times x (change s m).drops ≡ 0
  undropped x t =
      omega (
        arith,
        ledger s r.sound m ev acc 0 (is x) w' (λ u h. ap (λ (b : Bool). cond b 0 (is x u)) h),
        not_seen s r.sound x (key_none x t),
        sums_none w' (keys (change s m).adds) (λ c h. ap (λ (b : Bool). cond b 0 (is x c)) (T→eq (has c (change s m).proposed) ((lawful s r.sound m ev acc).adds_proposed c h))),
      )
    where
      w' : ℕ → ℕ
      w' u = cond (has u (change s m).proposed) 0 (is x u)

  ways' : (x : ℕ) → ways s' x + times x (change s m).drops ≡ ways s x + times x (keys (change s m).adds)
  ways' x = (counted s r m ev s' e).ways x

  -- one way leads to each new node
  pub new_once : (x : ℕ) → T (has x (keys (change s m).adds)) → ways s' x ≡ 1
  new_once x t =
      omega (
        arith,
        ways' x,
        undropped x t,
        not_seen s r.sound x (key_none x t),
        has_pos x (keys (change s m).adds) t,
        distinct_once (keys (change s m).adds) (apart s r.sound m ev acc) x,
      )

  none_in : (x : ℕ) (l : List ℕ) → has x l ≡ false → times x l ≡ 0
  none_in x l z = few (ltb 0 (times x l)) refl
    where
      few : (b : Bool) → ltb 0 (times x l) ≡ b → times x l ≡ 0
      few true q = absurd (eq→not (has x l) z (pos_has x l (ltb-true 0 (times x l) q)))
      few false q = omega (arith, ltb-false 0 (times x l) q)

  -- what goes was a node
  drop_node : (x : ℕ) → T (has x (change s m).drops) → T (is_some (s.nodes x))
  drop_node x t = go (s.nodes x) refl
    where
      key : (b : Bool) → has x (keys (change s m).adds) ≡ b → s.nodes x ≡ none → ⊥
      key true q z = omega (arith, has_pos x (change s m).drops t, undropped x (eq→T (has x (keys (change s m).adds)) q))
      key false q z = omega (arith, has_pos x (change s m).drops t, ways' x, none_in x (keys (change s m).adds) q, not_seen s r.sound x z)

      go : (o : Option Node) → s.nodes x ≡ o → T (is_some (s.nodes x))
      go none q = absurd (key (has x (keys (change s m).adds)) refl q)
      go (some n) q = subst (λ (o : Option Node). T (is_some o)) (sym q) tt

  pub key_unit : (x : ℕ) → T (has x (keys (change s m).adds)) → (1 ≤ x) × (x ≤ last_unit)
  key_unit x t = ((key_fresh x t).least, (key_fresh x t).most)

  pub drop_unit : (x : ℕ) → T (has x (change s m).drops) → (1 ≤ x) × (x ≤ last_unit)
  drop_unit x t = r.sound.node_unit x (drop_node x t)

  -- the table of nodes after the step: the dead go, the new come
  pub node_after : (v : ℕ) → s'.nodes v ≡ puts (λ x. cond (gone (ways s x) (change s m).drops x) none (s.nodes x)) (change s m).adds v
  node_after v = after_nodes s r (change s m) s' e v ∙ go (has v (keys (change s m).adds)) refl
    where
      t1 : ℕ → Option Node
      t1 x = cond (gone (ways s x) (change s m).drops x) none (s.nodes x)

      nothing : (c : Bool) → ◌≡◌ {A = Option Node} (cond c none none) none
      nothing true = refl
      nothing false = refl

      old : has v (keys (change s m).adds) ≡ false → (o : Option Node) → s.nodes v ≡ o → cond (ltb 0 (ways s' v)) (s.nodes v) none ≡ cond (gone (ways s v) (change s m).drops v) none (s.nodes v)
      old k none q =
          ap (λ (o : Option Node). cond (ltb 0 (ways s' v)) o none) q ∙ nothing (ltb 0 (ways s' v))
          ∙ sym (ap (λ (o : Option Node). cond (gone (ways s v) (change s m).drops v) none o) q ∙ nothing (gone (ways s v) (change s m).drops v))
      old k (some n) q =
          let pos : 0 < ways s v = ltb-true 0 (ways s v) (T→eq (reached s v) (r.live_node v (subst (λ (o : Option Node). T (is_some o)) (sym q) tt))) in
          by pos (has v (change s m).drops) refl (leb (ways s v) (times v (change s m).drops)) refl
        where
          by : 0 < ways s v → (x : Bool) → has v (change s m).drops ≡ x → (y : Bool) → leb (ways s v) (times v (change s m).drops) ≡ y
              → cond (ltb 0 (ways s' v)) (s.nodes v) none ≡ cond (x && y) none (s.nodes v)
          by pos true z true w = ap (λ (c : Bool). cond c (s.nodes v) none) (le-ltb 0 (ways s' v) (omega (arith, ways' v, none_in v (keys (change s m).adds) k, leb-true (ways s v) (times v (change s m).drops) w)))
          by pos true z false w = ap (λ (c : Bool). cond c (s.nodes v) none) (lt-ltb 0 (ways s' v) (omega (arith, ways' v, leb-false (ways s v) (times v (change s m).drops) w)))
          by pos false z y w = ap (λ (c : Bool). cond c (s.nodes v) none) (lt-ltb 0 (ways s' v) (omega (arith, pos, ways' v, none_in v (change s m).drops z)))

      go : (b : Bool) → has v (keys (change s m).adds) ≡ b → cond (ltb 0 (ways s' v)) (puts s.nodes (change s m).adds v) none ≡ puts t1 (change s m).adds v
      go true q =
          let t : T (has v (keys (change s m).adds)) = eq→T (has v (keys (change s m).adds)) q in
          ap (λ (c : Bool). cond c (puts s.nodes (change s m).adds v) none) (lt-ltb 0 (ways s' v) (omega (arith, new_once v t)))
          ∙ puts_same (change s m).adds s.nodes t1 v (inl t)
      go false q =
          ap (λ (o : Option Node). cond (ltb 0 (ways s' v)) o none) (puts_other (change s m).adds s.nodes v q)
          ∙ old q (s.nodes v) refl ∙ sym (puts_other (change s m).adds t1 v q)

  -- what the table and the counts come to where the new nodes are written first, with one way each, and the old ones lose theirs after
  pub ways_end : (v : ℕ) → cond (has v (keys (change s m).adds)) 1 (ways s v) - times v (change s m).drops ≡ ways s' v
  ways_end v = go (has v (keys (change s m).adds)) refl
    where
      go : (b : Bool) → has v (keys (change s m).adds) ≡ b → cond b 1 (ways s v) - times v (change s m).drops ≡ ways s' v
      go true q = let t : T (has v (keys (change s m).adds)) = eq→T (has v (keys (change s m).adds)) q in omega (arith, undropped v t, new_once v t)
      go false q = omega (arith, ways' v, none_in v (keys (change s m).adds) q)

  pub node_end : (v : ℕ) → cond (gone (cond (has v (keys (change s m).adds)) 1 (ways s v)) (change s m).drops v) none (puts s.nodes (change s m).adds v) ≡ s'.nodes v
  node_end v = go (has v (keys (change s m).adds)) refl ∙ sym (node_after v)
    where
      t1 : ℕ → Option Node
      t1 x = cond (gone (ways s x) (change s m).drops x) none (s.nodes x)

      go : (b : Bool) → has v (keys (change s m).adds) ≡ b
          → cond (gone (cond b 1 (ways s v)) (change s m).drops v) none (puts s.nodes (change s m).adds v) ≡ puts t1 (change s m).adds v
      go true q =
          let t : T (has v (keys (change s m).adds)) = eq→T (has v (keys (change s m).adds)) q in
          let off : has v (change s m).drops ≡ false = F→eq (has v (change s m).drops) (λ h. omega (arith, has_pos v (change s m).drops h, undropped v t)) in
          ap (λ (x : Bool). cond (x && leb 1 (times v (change s m).drops)) none (puts s.nodes (change s m).adds v)) off
          ∙ puts_same (change s m).adds s.nodes t1 v (inl t)
      go false q =
          ap (λ (o : Option Node). cond (gone (ways s v) (change s m).drops v) none o) (puts_other (change s m).adds s.nodes v q)
          ∙ sym (puts_other (change s m).adds t1 v q)

  -- who is held after a change of the tree: nodes as the ways say, and branches and slots less the D places of a unit in what goes
  pub held_tree : (v : ℕ) → 1 ≤ v → v ≤ last_unit → (D : ℕ)
      → (over (branch_part v) s'.branches + D) + times v (joined slot_units s'.slots) ≡ over (branch_part v) s.branches + times v (joined slot_units s.slots)
      → (((has v (keys (change s m).adds) || held s v) && not (gone (ways s v) (change s m).drops v)) && not (ltb 0 D)) ≡ held s' v
  held_tree v p q D moved =
      ap (λ (x : Bool). ((has v (keys (change s m).adds) || x) && not (gone (ways s v) (change s m).drops v)) && not (ltb 0 D)) (held_owns s r v)
      ∙ go (has v (keys (change s m).adds)) refl (gone (ways s v) (change s m).drops v) refl
      ∙ sym (held_owns s' after v)
    where
      after : Right s'
      after = change_right s r m ev s' e

      mv : (times v (owned s') + D) + one (is_some (s.nodes v)) ≡ times v (owned s) + one (is_some (s'.nodes v))
      mv = omega (arith, moved, owned_parts s v, owned_parts s' v, over_node s.nodes v p q, over_node s'.nodes v p q)

      stays : has v (keys (change s m).adds) ≡ false → (d : Bool) → gone (ways s v) (change s m).drops v ≡ d → s'.nodes v ≡ cond d none (s.nodes v)
      stays k d w = node_after v ∙ puts_other (change s m).adds (λ x. cond (gone (ways s x) (change s m).drops x) none (s.nodes x)) v k ∙ ap (λ (c : Bool). cond c none (s.nodes v)) w

      left_of_lem : (x y : Bool) → (x && y) ≡ true → x ≡ true
      left_of_lem true y z = refl
      left_of_lem false y z = z

      falls : (x y : Bool) → ((x && false) && y) ≡ false
      falls true y = refl
      falls false y = refl

      own_node : T (has v (keys (change s m).adds)) → 0 < times v (owned s')
      own_node t = at (s'.nodes v) refl
        where
          at : (o : Option Node) → s'.nodes v ≡ o → 0 < times v (owned s')
          at none z = absurd (omega (arith, new_once v t, not_seen s' after.sound v z))
          at (some n) z = has_pos v (owned s') (node_owned s' after.sound v (subst (λ (o : Option Node). T (is_some o)) (sym z) tt))

      there : T (has v (keys (change s m).adds)) → one (is_some (s'.nodes v)) ≡ 1
      there t = at (s'.nodes v) refl
        where
          at : (o : Option Node) → s'.nodes v ≡ o → one (is_some o) ≡ 1
          at none z = absurd (omega (arith, new_once v t, not_seen s' after.sound v z))
          at (some n) z = refl

      go : (k : Bool) → has v (keys (change s m).adds) ≡ k → (d : Bool) → gone (ways s v) (change s m).drops v ≡ d → (((k || owns s v) && not d) && not (ltb 0 D)) ≡ owns s' v
      go true k true w =
          absurd (omega (
            arith,
            has_pos v (change s m).drops (eq→T (has v (change s m).drops) (left_of_lem (has v (change s m).drops) (leb (ways s v) (times v (change s m).drops)) w)),
            undropped v (eq→T (has v (keys (change s m).adds)) k),
          ))
      go true k false w =
          let t : T (has v (keys (change s m).adds)) = eq→T (has v (keys (change s m).adds)) k in
          let old : times v (owned s) ≡ 0 = none_in v (owned s) (F→eq (has v (owned s)) (key_fresh v t).not_held) in
          let pos : 0 < times v (owned s') = own_node t in
          ap not (le-ltb 0 D (omega (arith, mv, there t, old, ap (λ (o : Option Node). one (is_some o)) (key_none v t), pos)))
          ∙ sym (held_number_lem v (owned s') ∙ lt-ltb 0 (times v (owned s')) pos)
      go false k true w =
          falls (owns s v) (not (ltb 0 D))
          ∙ sym (held_number_lem v (owned s') ∙ le-ltb 0 (times v (owned s')) (omega (
            arith,
            mv,
            r.sound.single v,
            ap (λ (o : Option Node). one (is_some o)) (stays k true w),
            ap one (T→eq (is_some (s.nodes v)) (drop_node v (eq→T (has v (change s m).drops) (left_of_lem (has v (change s m).drops) (leb (ways s v) (times v (change s m).drops)) w)))),
          )))
      go false k false w = by (ltb 0 D) refl
        where
          whole : times v (owned s') + D ≡ times v (owned s)
          whole = omega (arith, mv, ap (λ (o : Option Node). one (is_some o)) (stays k false w))

          off : (x : Bool) → ((x && true) && false) ≡ false
          off true = refl
          off false = refl

          on : (x : Bool) → ((x && true) && true) ≡ x
          on true = refl
          on false = refl

          by : (b : Bool) → ltb 0 D ≡ b → ((owns s v && true) && not b) ≡ owns s' v
          by true z = off (owns s v) ∙ sym (held_number_lem v (owned s') ∙ le-ltb 0 (times v (owned s')) (omega (arith, whole, r.sound.single v, ltb-true 0 D z)))
          by false z =
              let same : times v (owned s) ≡ times v (owned s') = omega (arith, whole, ltb-false 0 D z) in
              on (owns s v) ∙ held_number_lem v (owned s) ∙ ap (ltb 0) same ∙ sym (held_number_lem v (owned s'))

  -- a branch is dead after the step
  unfoldable pub dead : ℕ → Bool
  dead b = not (ltb 0 (places s' b) || in_use (change s m).inputs b)

  -- the same, told by the branches that die: those that join come out of a slot
  pub held_change : (v : ℕ) → 1 ≤ v → v ≤ last_unit
      → over (branch_part v) (puts s.branches (change s m).joins) + times v (joined slot_units (change s m).slots)
      ≡ over (branch_part v) s.branches + times v (joined slot_units s.slots)
      → (((has v (keys (change s m).adds) || held s v) && not (gone (ways s v) (change s m).drops v))
      && not (some_of (λ b. dead b && has v (or_else [] (puts s.branches (change s m).joins b))) units))
      ≡ held s' v
  unfolding dead
  held_change v p q moved =
      ap (λ (x : Bool). ((has v (keys (change s m).adds) || held s v) && not (gone (ways s v) (change s m).drops v)) && not x) (sym (over_some v dead (puts s.branches (change s m).joins)))
      ∙ held_tree v p q (over (branch_part v) (keep dead (puts s.branches (change s m).joins)))
      (omega (
        arith,
        moved,
        over_split v lives (puts s.branches (change s m).joins),
        over_cong v s'.branches (keep lives (puts s.branches (change s m).joins)) (after_branches s r (change s m) s' e),
        ap (λ (l : List Slot). times v (joined slot_units l)) (after_slots s r (change s m) s' e),
      ))
    where
      lives : ℕ → Bool
      lives b = ltb 0 (places s' b) || in_use (change s m).inputs b

-- where nodes and branches stay: D places of the unit leave the slots and Q come
pub held_slots : (s s' : Store) → Right s → Right s' → (v : ℕ) → 1 ≤ v → v ≤ last_unit → (D Q : ℕ)
    → is_some (s'.nodes v) ≡ is_some (s.nodes v) → over (branch_part v) s'.branches ≡ over (branch_part v) s.branches
    → times v (joined slot_units s'.slots) + D ≡ times v (joined slot_units s.slots) + Q → D ≤ times v (joined slot_units s.slots) → (D ≡ 0) ⊎ (Q ≡ 0)
    → (held s v || ltb 0 Q) && not (ltb 0 D) ≡ held s' v
held_slots s s' r r' v p q D Q en eb es low alone =
    ap (λ (x : Bool). (x || ltb 0 Q) && not (ltb 0 D)) (held_owns s r v ∙ held_number_lem v (owned s))
    ∙ go (ltb 0 (times v (owned s))) refl (ltb 0 Q) refl (ltb 0 D) refl
    ∙ sym (held_owns s' r' v ∙ held_number_lem v (owned s'))
  where
    whole : times v (owned s') + D ≡ times v (owned s) + Q
    whole = omega (arith, owned_parts s v, owned_parts s' v, over_node s.nodes v p q, over_node s'.nodes v p q, ap one en)

    within : D ≤ times v (owned s)
    within = omega (arith, low, owned_parts s v)

    go : (x : Bool) → ltb 0 (times v (owned s)) ≡ x → (y : Bool) → ltb 0 Q ≡ y → (z : Bool) → ltb 0 D ≡ z → ((x || y) && not z) ≡ ltb 0 (times v (owned s'))
    go true ex true ey true ez = absurd (⊎_elim (λ (w : D ≡ 0). omega (arith, ltb-true 0 D ez)) (λ (w : Q ≡ 0). omega (arith, ltb-true 0 Q ey)) alone)
    go true ex true ey false ez = sym (lt-ltb 0 (times v (owned s')) (omega (arith, whole, ltb-true 0 Q ey, ltb-false 0 D ez)))
    go true ex false ey true ez = sym (le-ltb 0 (times v (owned s')) (omega (arith, whole, r.sound.single v, ltb-false 0 Q ey, ltb-true 0 D ez)))
    go true ex false ey false ez = sym (lt-ltb 0 (times v (owned s')) (omega (arith, whole, ltb-true 0 (times v (owned s)) ex, ltb-false 0 D ez)))
    go false ex y ey true ez = absurd (omega (arith, within, ltb-false 0 (times v (owned s)) ex, ltb-true 0 D ez))
    go false ex true ey false ez = sym (lt-ltb 0 (times v (owned s')) (omega (arith, whole, ltb-true 0 Q ey, ltb-false 0 D ez)))
    go false ex false ey false ez = sym (le-ltb 0 (times v (owned s')) (omega (arith, whole, ltb-false 0 (times v (owned s)) ex, ltb-false 0 Q ey)))

-- ---- line 12: only the branches that gain need a look

pub fit_gained : (s : Store) → Right s → (p : Change) → ((b : ℕ) → places (extended s p) b + sums (in_buffers s b) p.drops ≡ places s b + added b p.adds)
    → (gs : List ℕ) → ((b : ℕ) → has b gs ≡ false → added b p.adds ≤ sums (in_buffers s b) p.drops) → ((b : ℕ) → T (has b gs) → (1 ≤ b) × (b ≤ 255))
    → fit (extended s p) ≡ all (λ b. leb ((places s b + added b p.adds) - sums (in_buffers s b) p.drops) 65535) gs
unfolding fit
fit_gained s r p eq gs rest low = both (all f units) refl (all f' gs) refl
  where
    f : ℕ → Bool
    f b = leb (places (extended s p) b) 65535

    f' : ℕ → Bool
    f' b = leb ((places s b + added b p.adds) - sums (in_buffers s b) p.drops) 65535

    same : (b : ℕ) → f b ≡ f' b
    same b = let q : places (extended s p) b ≡ (places s b + added b p.adds) - sums (in_buffers s b) p.drops = omega (arith, eq b) in ap (λ (n : ℕ). leb n 65535) q

    every : (g : ℕ → Bool) (l : List ℕ) → ((x : ℕ) → T (has x l) → T (g x)) → T (all g l)
    every g [] h = tt
    every g (x ∷ xs) h = and_i (g x) (all g xs) (h x (or_l (eqb x x) (has x xs) (eqb_refl x))) (every g xs (λ y t. h y (or_r (eqb x y) (has y xs) t)))

    down : T (all f units) → T (all f' gs)
    down t = every f' gs (λ b h. subst (λ (c : Bool). T c) (same b) (all_in f units b t (has_unit b (low b h).0 (low b h).1)))

    up : T (all f' gs) → T (all f units)
    up t = every f units (λ b h. at b (has b gs) refl)
      where
        at : (b : ℕ) (k : Bool) → has b gs ≡ k → T (f b)
        at b true q = subst (λ (c : Bool). T c) (sym (same b)) (all_in f' gs b t (eq→T (has b gs) q))
        at b false q = eq→T (f b) (le-leb (places (extended s p) b) 65535 (omega (arith, eq b, rest b q, places_low s r b)))

    both : (x : Bool) → all f units ≡ x → (y : Bool) → all f' gs ≡ y → x ≡ y
    both true q true z = refl
    both false q false z = refl
    both true q false z = absurd (eq→not (all f' gs) z (down (eq→T (all f units) q)))
    both false q true z = absurd (eq→not (all f units) q (up (eq→T (all f' gs) z)))
