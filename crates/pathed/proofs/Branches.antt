-- What a sweep asks of the branches of a right store: each a few units, none at 0, and unit 0 is never held; and a branch that dies had
-- places. Assumes nothing.
use mathlib.Core.Bool.{Bool, true, false, ◌||◌, ◌&&◌, not, cond}
use mathlib.Core.Logic.{⊎_elim}
use mathlib.Core.Path.{◌≡◌, refl, sym, ap₂, subst}
use mathlib.Core.List.{List, [], ◌∷◌, ◌++◌}
use mathlib.Core.Option.{Option, none, some}
use Prim.Native.Nat.{ℕ, ◌≤◌}
use native.Mathlib.Omega.{arith}
use lib.Dec.{T, eqb, ltb, eqb_refl}
use lib.ListN.{length}
use borrow.Author.Tests.{ltb-true, eqb-true}
use Rattle.units.specs.Limits.{last_unit, room}
use Rattle.ways.specs.Ways.{has, flat}
use Rattle.ways.proofs.Tests.{T→eq, F→eq, eq→not, not→eq, and_l, and_r, or_e, or_l, or_r}
use Rattle.ways.proofs.Members.{has_left, has_right}
use Rattle.rules.specs.Tables.{is_some, or_else, put, keys, joined}
use Rattle.rules.specs.Store.{Store, units, slot_units, units_of, owned, places, held, in_use}
use Rattle.rules.specs.Steps.{accepted, decide, Step, change}
use Rattle.rules.specs.Right.{Right}
use Rattle.right.specs.Ledger.{node_units}
use Rattle.right.proofs.Ledger.{has_flat, has_unit}
use Rattle.right.proofs.Steps.{Even}
use Rattle.right.proofs.After.{key_unit}
use Rattle.counting.proofs.Counts.{Low}
use Rattle.state.proofs.Changes.{zero_free}
use Rattle.allocation.proofs.Swept.{Few}

low_of : (l : List ℕ) → ((x : ℕ) → T (has x l) → x ≤ last_unit) → Low l
low_of [] h = tt
low_of (x ∷ l) h = (h x (or_l (eqb x x) (has x l) (eqb_refl x)), low_of l (λ y t. h y (or_r (eqb x y) (has y l) t)))

module _ (s : Store) (r : Right s) where
  pub none_at_zero : s.branches 0 ≡ none
  none_at_zero = go (s.branches 0) refl
    where
      go : (o : Option (List ℕ)) → s.branches 0 ≡ o → o ≡ none
      go none e = refl
      go (some us) e = absurd (omega (arith, (r.sound.branch_unit 0 (subst (λ (o : Option (List ℕ)). T (is_some o)) (sym e) tt)).0))

  units_low : (b : ℕ) → b ≤ last_unit → (us : List ℕ) → s.branches b ≡ some us → Low us
  unfolding owned
  units_low b q us e =
      low_of us (λ x t. (r.sound.unit x
      (has_right x (flat (node_units s) units) (flat (units_of s) units ++ joined slot_units s.slots)
      (has_left x (flat (units_of s) units) (joined slot_units s.slots)
      (has_flat (units_of s) x b units (has_unit b (r.sound.branch_unit b (subst (λ (o : Option (List ℕ)). T (is_some o)) (sym e) tt)).0 q)
      (subst (λ (o : Option (List ℕ)). T (has x (or_else [] o))) (sym e) t))))).1)

  pub branches_few : Few s.branches
  branches_few = record { short = λ b q. short b (s.branches b) refl; low = λ b q. low b q (s.branches b) refl }
    where
      short : (b : ℕ) (o : Option (List ℕ)) → s.branches b ≡ o → length (or_else [] o) ≤ room
      short b none e = omega arith
      short b (some us) e = (r.sound.branch b us e).most

      low : (b : ℕ) → b ≤ last_unit → (o : Option (List ℕ)) → s.branches b ≡ o → Low (or_else [] o)
      low b q none e = tt
      low b q (some us) e = units_low b q us e

  -- a list of units that is held
  pub owned_low : (us : List ℕ) → ((x : ℕ) → T (has x us) → T (has x (owned s))) → Low us
  owned_low us h = low_of us (λ x t. (r.sound.unit x (h x t)).1)

  pub zero_out : (m : Step) → Even m → (s' : Store) → decide s (change s m) ≡ accepted s' → (z : Bool) → ((has 0 (keys (change s m).adds) || held s 0) && z) ≡ false
  zero_out m ev s' e z =
      ap₂ (λ (x y : Bool). (x || y) && z) (F→eq (has 0 (keys (change s m).adds)) (λ t. omega (arith, (key_unit s r m ev s' e 0 t).0))) (zero_free s r)

  -- a branch that dies had places, and has none
  pub died : (s' : Store) (v : ℕ) → T (is_some (s.branches v)) → T (eqb (places s' v) 0 && not (in_use s.inputs v)) → (1 ≤ places s v) × (places s' v ≡ 0)
  died s' v o w = (
    ⊎_elim (λ (z : T (ltb 0 (places s v))). omega (arith, ltb-true 0 (places s v) (T→eq (ltb 0 (places s v)) z)))
        (λ (z : T (in_use s.inputs v)). absurd (eq→not (in_use s.inputs v) (not→eq (in_use s.inputs v) (and_r (eqb (places s' v) 0) (not (in_use s.inputs v)) w)) z))
        (or_e (ltb 0 (places s v)) (in_use s.inputs v) (r.live_branch v o)),
    eqb-true (places s' v) 0 (T→eq (eqb (places s' v) 0) (and_l (eqb (places s' v) 0) (not (in_use s.inputs v)) w)),
  )

-- one more branch
pub few_put : (t : ℕ → Option (List ℕ)) → Few t → (b : ℕ) (us : List ℕ) → length us ≤ room → Low us → Few (put t (b, us))
few_put t few b us p q = record { short = λ v h. short v h (eqb v b); low = λ v h. low v h (eqb v b) }
  where
    short : (v : ℕ) → v ≤ last_unit → (z : Bool) → length (or_else [] (cond z (some us) (t v))) ≤ room
    short v h true = p
    short v h false = few.short v h

    low : (v : ℕ) → v ≤ last_unit → (z : Bool) → Low (or_else [] (cond z (some us) (t v)))
    low v h true = q
    low v h false = few.low v h
