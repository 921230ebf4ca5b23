-- Demand 3 of the rules, along any run from a right store, and each refusal exactly when its line is the first that applies.
-- The statements are readable without their proofs. Assumes nothing.
use mathlib.Core.Path.{◌≡◌, refl, sym, ap, ◌∙◌, subst}
use mathlib.Core.Bool.{Bool, true, false, ◌&&◌, not, cond, true≢false}
use mathlib.Core.Logic.{◌⊎◌, inl, inr, ⊎_elim, ◌↔◌}
use mathlib.Core.List.{List, [], ◌∷◌}
use Prim.Native.Nat.{ℕ, zero, suc, ◌≤◌}
use native.Mathlib.Omega.{arith}
use lib.Dec.{T, eqb, leb, eqb_refl, leb→le, le→leb}
use lib.ListN.{length}
use Rattle.units.specs.Limits.{last_unit}
use Rattle.ways.specs.Ways.{one, has}
use Rattle.rules.specs.Tables.{all, sift, range, times, distinct}
use Rattle.rules.specs.Store.{Store, units, held_units, held, frees}
use Rattle.rules.specs.Steps.{Outcome, accepted, refused, need, next, fresh, decide, step, step_in}
use Rattle.rules.specs.Right.{Right}
use Rattle.right.specs.Ledger.{owns, disowned}
use Rattle.right.specs.Runs.{Proposal, settled, run, Rising, First, change_of, table}
use Rattle.ways.proofs.Tests.{T→eq, eq→T, F→eq, not→eq, eq→not, and_l, and_r, and_i, or_l, or_r}
use Rattle.ways.proofs.Members.{has_pos}
use Rattle.right.proofs.Tables.{all_in, distinct_once}
use Rattle.right.proofs.Held.{held_owns, frees_disowned}
use Rattle.right.proofs.Steps.{need_ok}
use Rattle.right.proofs.Theorems.{step_right, disowned_iff}

-- ---- right throughout

pub step_in_right : (s : Store) → Right s → (n : ℕ) (r : List ℕ) (s' : Store) → step_in s n r ≡ accepted s' → Right s'
step_in_right s h n r s' e = step_right s h r s' (need_ok (leb last_unit n) 1 (step s r) s' e).1

pub settled_right : (s : Store) → Right s → (p : Proposal) → Right (settled s (step_in s p.0 p.1))
settled_right s h p = go (step_in s p.0 p.1) refl
  where
    go : (o : Outcome) → step_in s p.0 p.1 ≡ o → Right (settled s o)
    go (accepted s') e = step_in_right s h p.0 p.1 s' e
    go (refused n) e = h

pub run_right : (s : Store) → Right s → (ps : List Proposal) → Right (run s ps)
unfolding run
run_right s h [] = h
run_right s h (p ∷ ps) = run_right (settled s (step_in s p.0 p.1)) (settled_right s h p) ps

-- ---- the list of an accepted step: exactly what was held and is not, ascending and once each

lower : (n m : ℕ) → n ≤ m → (l : List ℕ) → Rising m l → Rising n l
lower n m h [] r = tt
lower n m h (x ∷ xs) r = (omega (arith, r.0), r.1)

sift_rising : (f : ℕ → Bool) (k n : ℕ) → Rising n (sift f (range k n))
sift_rising f zero n = tt
sift_rising f (suc k) n = go (sift_rising f k (suc n)) (f n)
  where
    go : Rising (suc n) (sift f (range k (suc n))) → (b : Bool) → Rising n (cond b (n ∷ sift f (range k (suc n))) (sift f (range k (suc n))))
    go ih true = (omega arith, ih)
    go ih false = lower n (suc n) (omega arith) (sift f (range k (suc n))) ih

sift_length : (f : ℕ → Bool) (k n : ℕ) → length (sift f (range k n)) ≤ k
sift_length f zero n = omega arith
sift_length f (suc k) n = go (sift_length f k (suc n)) (f n)
  where
    go : length (sift f (range k (suc n))) ≤ k → (b : Bool) → length (cond b (n ∷ sift f (range k (suc n))) (sift f (range k (suc n)))) ≤ suc k
    go ih true = omega arith
    go ih false = omega arith

pub frees_rise : (s s' : Store) → Rising 1 (frees s s')
unfolding frees units
frees_rise s s' = sift_rising (λ u. has u (held_units s) && not (has u (held_units s'))) last_unit 1

pub frees_fit : (s s' : Store) → length (frees s s') ≤ last_unit
unfolding frees units
frees_fit s s' = sift_length (λ u. has u (held_units s) && not (has u (held_units s'))) last_unit 1

pub frees_iff : (s s' : Store) → Right s → Right s' → (u : ℕ) → T (has u (frees s s')) ↔ (T (held s u) × T (not (held s' u)))
frees_iff s s' r r' u =
    let i = disowned_iff s s' r u in
    let a : held s u ≡ owns s u = held_owns s r u in
    let b : held s' u ≡ owns s' u = held_owns s' r' u in
    let f : frees s s' ≡ disowned s s' = frees_disowned s s' r r' in (
      λ t.
          let h = i.0 (subst (λ (l : List ℕ). T (has u l)) f t) in
          (subst (λ (x : Bool). T x) (sym a) h.0, subst (λ (x : Bool). T (not x)) (sym b) h.1),
      λ h.
          subst (λ (l : List ℕ). T (has u l)) (sym f)
          (i.1 (subst (λ (x : Bool). T x) a h.0, subst (λ (x : Bool). T (not x)) b h.1)),
    )

-- along any run: the state before each proposal is right; where it is accepted so is the next, and its list is what demand 3 says
pub record Moment (s : Store) (p : Proposal) (s' : Store) : Type 0 where
  pub right : Right s'
  pub listed : (u : ℕ) → T (has u (frees s s')) ↔ (T (held s u) × T (not (held s' u)))
  pub rising : Rising 1 (frees s s')
  pub few : length (frees s s') ≤ last_unit
  pub owned_held : (u : ℕ) → held s' u ≡ owns s' u

pub demand_3 : (s : Store) → Right s → (ps : List Proposal) (p : Proposal) (s' : Store) → step_in (run s ps) p.0 p.1 ≡ accepted s' → Moment (run s ps) p s'
demand_3 s h ps p s' e =
    let before : Right (run s ps) = run_right s h ps in
    let after : Right s' = step_in_right (run s ps) before p.0 p.1 s' e in
    record {
      right = after;
      listed = frees_iff (run s ps) s' before after;
      rising = frees_rise (run s ps) s';
      few = frees_fit (run s ps) s';
      owned_held = held_owns s' after;
    }

-- ---- each refusal exactly when its line is the first that applies

abbrev in_order : List (Bool × ℕ) → Outcome → Outcome
in_order [] o = o
in_order (t ∷ ts) o = need t.0 t.1 (in_order ts o)

clash : {A : Type 0} {s : Store} {n : ℕ} → accepted s ≡ refused n → A
clash e = absurd (let z : ◌≡◌ {A = ℕ} 0 1 = cc in omega arith)

pub first_iff : (ts : List (Bool × ℕ)) (s : Store) (n : ℕ) → (in_order ts (accepted s) ≡ refused n) ↔ First ts n
first_iff [] s n = (λ e. clash e, λ h. absurd h)
first_iff (t ∷ ts) s n = go t.0 t.1 (first_iff ts s n)
  where
    go : (x : Bool) (k : ℕ) → (in_order ts (accepted s) ≡ refused n) ↔ First ts n
        → (need x k (in_order ts (accepted s)) ≡ refused n) ↔ (((x ≡ false) × (n ≡ k)) ⊎ ((x ≡ true) × First ts n))
    go true k ih = (λ e. inr (refl, ih.0 e), λ h. ⊎_elim (λ p. absurd (true≢false p.0)) (λ p. ih.1 p.1) h)
    go false k ih = (λ e. inl (refl, cc), λ h. ⊎_elim (λ p. ap refused (sym p.1)) (λ p. absurd (true≢false (sym p.0))) h)

pub refuses : (s : Store) (n : ℕ) (r : List ℕ) (k : ℕ) → (step_in s n r ≡ refused k) ↔ First (table s n r) k
unfolding step decide table
refuses s n [] k = first_iff (table s n []) s k
refuses s n (kind ∷ body) k = first_iff (table s n (kind ∷ body)) (next s (change_of s kind body)) k

-- ---- 11: exactly for a unit that is 0, held or named twice (a record is bytes, so no unit is above the last)

-- what is wrong with a unit among those proposed
abbrev pub Stale : Store → List ℕ → ℕ → Type 0
Stale s us u = (u ≡ 0) ⊎ (T (held s u) ⊎ (2 ≤ times u us))

pub fresh_none : (s : Store) (us : List ℕ) → T (fresh s us) → (u : ℕ) → T (has u us) → Stale s us u → ⊥
unfolding fresh
fresh_none s us f u t bad =
    let h : List ℕ = held_units s in
    let test : ℕ → Bool = λ v. leb 1 v && (leb v last_unit && not (has v h)) in
    let p : T (leb 1 u && (leb u last_unit && not (has u h))) = all_in test us u (and_l (all test us) (distinct us) f) t in
    ⊎_elim
    (λ (z : u ≡ 0). omega (arith, leb→le 1 u (and_l (leb 1 u) (leb u last_unit && not (has u h)) p)))
    (λ rest. ⊎_elim
    (λ (q : T (has u h)). eq→not (has u h) (not→eq (has u h) (and_r (leb u last_unit) (not (has u h)) (and_r (leb 1 u) (leb u last_unit && not (has u h)) p))) q)
    (λ (q : 2 ≤ times u us). omega (arith, distinct_once us (and_r (all test us) (distinct us) f) u))
    rest)
    bad

-- a member that fails a test of all, and one that stands twice
failing : (f : ℕ → Bool) (vs : List ℕ) → all f vs ≡ false → (u : ℕ) × T (has u vs) × (f u ≡ false)
failing f [] q = absurd (true≢false q)
failing f (v ∷ vs) q = go (f v) refl (failing f vs)
  where
    go : (b : Bool) → f v ≡ b → (all f vs ≡ false → (u : ℕ) × T (has u vs) × (f u ≡ false)) → (u : ℕ) × T (has u (v ∷ vs)) × (f u ≡ false)
    go true z more =
        let r = more (sym (ap (λ (x : Bool). x && all f vs) z) ∙ q) in
        (r.0, or_r (eqb v r.0) (has r.0 vs) r.1, r.2)
    go false z more = (v, or_l (eqb v v) (has v vs) (eqb_refl v), z)

twice : (vs : List ℕ) → distinct vs ≡ false → (u : ℕ) × T (has u vs) × (2 ≤ times u vs)
twice [] q = absurd (true≢false q)
twice (v ∷ vs) q = go (has v vs) refl (twice vs)
  where
    go : (b : Bool) → has v vs ≡ b → (distinct vs ≡ false → (u : ℕ) × T (has u vs) × (2 ≤ times u vs))
        → (u : ℕ) × T (has u (v ∷ vs)) × (2 ≤ times u (v ∷ vs))
    go true z more = (
      v,
      or_l (eqb v v) (has v vs) (eqb_refl v),
      omega (arith, has_pos v vs (eq→T (has v vs) z), ap one (T→eq (eqb v v) (eqb_refl v))),
    )
    go false z more =
        let r = more (sym (ap (λ (x : Bool). not x && distinct vs) z) ∙ q) in
        (r.0, or_r (eqb v r.0) (has r.0 vs) r.1, omega (arith, r.2))

zero_of : (m : ℕ) → (1 ≤ m → ⊥) → m ≡ 0
zero_of zero k = refl
zero_of (suc m) k = absurd (k (omega arith))

unfit : (h : List ℕ) (u : ℕ) → u ≤ last_unit → (leb 1 u && (leb u last_unit && not (has u h))) ≡ false → (u ≡ 0) ⊎ T (has u h)
unfit h u l q = go (leb 1 u) (has u h) refl refl
  where
    go : (a b : Bool) → leb 1 u ≡ a → has u h ≡ b → (u ≡ 0) ⊎ T (has u h)
    go false b x y = inl (zero_of u (λ z. eq→not (leb 1 u) x (le→leb 1 u z)))
    go true true x y = inr (eq→T (has u h) y)
    go true false x y =
        absurd (eq→not (leb 1 u && (leb u last_unit && not (has u h))) q (and_i (leb 1 u) (leb u last_unit && not (has u h)) (eq→T (leb 1 u) x)
        (and_i (leb u last_unit) (not (has u h)) (le→leb u last_unit l) (subst (λ (c : Bool). T (not c)) (sym y) tt))))

some_stale : (s : Store) (us : List ℕ) → ((u : ℕ) → T (has u us) → u ≤ last_unit) → fresh s us ≡ false → (u : ℕ) × T (has u us) × Stale s us u
unfolding fresh
some_stale s us low e = pick (all (λ v. leb 1 v && (leb v last_unit && not (has v (held_units s)))) us) refl
  where
    pick : (b : Bool) → all (λ v. leb 1 v && (leb v last_unit && not (has v (held_units s)))) us ≡ b → (u : ℕ) × T (has u us) × Stale s us u
    pick true z = let r = twice us (sym (ap (λ (x : Bool). x && distinct us) z) ∙ e) in (r.0, r.1, inr (inr r.2))
    pick false z =
        let r = failing (λ v. leb 1 v && (leb v last_unit && not (has v (held_units s)))) us z in
        (r.0, r.1, ⊎_elim (λ x. inl x) (λ x. inr (inl x)) (unfit (held_units s) r.0 (low r.0 r.1) r.2))

-- 11 comes exactly when lines 4 to 10 pass and some proposed unit is 0, held or named twice; so a unit that is not held, whether it was
-- freed or never used, is never turned down as held
pub stale_iff : (s : Store) (us : List ℕ) → ((u : ℕ) → T (has u us) → u ≤ last_unit) → (fresh s us ≡ false) ↔ ((u : ℕ) × T (has u us) × Stale s us u)
stale_iff s us low = (some_stale s us low, λ w. F→eq (fresh s us) (λ f. fresh_none s us f w.0 w.1 w.2))
