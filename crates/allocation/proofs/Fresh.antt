-- What the test of fresh units says: of a list in parts, of the map's units, and of the rules. Assumes nothing.
use mathlib.Core.Path.{◌≡◌, refl, sym, ap, ap₂, ◌∙◌}
use mathlib.Core.Bool.{Bool, true, false, ◌||◌, ◌&&◌, not, cond}
use mathlib.Core.List.{List, [], ◌∷◌, ◌++◌}
use Prim.Native.Nat.{ℕ, zero, suc}
use native.Mathlib.Omega.{arith}
use lib.Dec.{eqb, leb}
use borrow.Author.Tests.{le-leb, eqb-true, eqb-false, eq-eqb, ne_eqb}
use Rattle.units.specs.Limits.{last_unit}
use Rattle.ways.specs.Ways.{has}
use Rattle.rules.specs.Tables.{all, distinct}
use Rattle.rules.specs.Store.{Store, held}
use Rattle.rules.specs.Steps.{fresh}
use Rattle.held_map.specs.Map.{mark}
use Rattle.counting.proofs.Counts.{Low}
use Rattle.state.specs.Standing.{MapIs, marks}
use Rattle.state.proofs.Maps.{map_hold}
use Rattle.allocation.specs.Fresh.{new_in, fresh_in, fresh_marks}

and_assoc : (a b c : Bool) → (a && (b && c)) ≡ ((a && b) && c)
and_assoc true b c = refl
and_assoc false b c = refl

-- one part after the other
pub fresh_append : (us vs m : List ℕ) → fresh_in m (us ++ vs) ≡ (fresh_in m us && fresh_in (marks m us) vs)
fresh_append [] vs m = refl
fresh_append (u ∷ us) vs m =
    ap (λ (b : Bool). new_in m u && b) (fresh_append us vs (mark m u)) ∙ and_assoc (new_in m u) (fresh_in (mark m u) us) (fresh_in (marks (mark m u) us) vs)

-- where all are fresh, all were held on the way
pub fresh_marks_lem : (us m : List ℕ) → fresh_in m us ≡ true → fresh_marks m us ≡ marks m us
fresh_marks_lem [] m e = refl
fresh_marks_lem (u ∷ us) m e = go (new_in m u) e (λ q. fresh_marks_lem us (mark m u) q)
  where
    go : (b : Bool) → (b && fresh_in (mark m u) us) ≡ true → (fresh_in (mark m u) us ≡ true → fresh_marks (mark m u) us ≡ marks (mark m u) us) → cond b (fresh_marks (mark m u) us) m ≡ marks (mark m u) us
    go true q ih = ih q
    go false q ih = absurd (let y : ◌≡◌ {A = ℕ} 0 1 = cc in omega arith)

-- ---- of the units that the map holds

-- a unit that is none of those that f picks
abbrev pub new_to : (ℕ → Bool) → ℕ → Bool
new_to f u = leb 1 u && (leb u last_unit && not (f u))

eqb_sym : (x y : ℕ) → eqb x y ≡ eqb y x
eqb_sym x y = go (eqb y x) refl
  where
    go : (b : Bool) → eqb y x ≡ b → eqb x y ≡ b
    go true e = eq-eqb x y (sym (eqb-true y x e))
    go false e = ne_eqb x y (λ q. eqb-false y x e (sym q))

-- one unit more is picked: none of the list is that one
new_all : (us : List ℕ) (f : ℕ → Bool) (u : ℕ) → all (new_to (λ v. eqb u v || f v)) us ≡ (all (new_to f) us && not (has u us))
new_all [] f u = refl
new_all (x ∷ us) f u =
    ap₂ (λ (t r : Bool). (leb 1 x && (leb x last_unit && not (t || f x))) && r) (eqb_sym u x) (new_all us f u)
    ∙ tidy (leb 1 x) (leb x last_unit) (eqb x u) (f x) (all (new_to f) us) (has u us)
  where
    tidy : (a b e g r h : Bool) → ((a && (b && not (e || g))) && (r && not h)) ≡ (((a && (b && not g)) && r) && not (e || h))
    tidy false b e g r h = refl
    tidy true false e g r h = refl
    tidy true true true true r h = refl
    tidy true true true false true h = refl
    tidy true true true false false h = refl
    tidy true true false true r h = refl
    tidy true true false false r h = refl

above_zero : (u : ℕ) → not (eqb u 0) ≡ leb 1 u
above_zero zero = refl
above_zero (suc u) = ap not (ne_eqb (suc u) 0 (λ e. omega arith)) ∙ sym (le-leb 1 (suc u) (omega arith))

pub fresh_map : (us : List ℕ) (f : ℕ → Bool) (m : List ℕ) → Low us → MapIs f m → fresh_in m us ≡ (all (new_to f) us && distinct us)
fresh_map [] f m low i = refl
fresh_map (u ∷ us) f m low i =
    ap₂ (λ (a b : Bool). (a && not b) && fresh_in (mark m u) us) (above_zero u) (i.marks u low.0)
    ∙ ap (λ (b : Bool). (leb 1 u && not (f u)) && b) (fresh_map us (λ v. eqb u v || f v) (mark m u) low.1 (map_hold f m u low.0 i))
    ∙ ap (λ (b : Bool). (leb 1 u && not (f u)) && (b && distinct us)) (new_all us f u)
    ∙ tidy (leb 1 u) (f u) (all (new_to f) us) (has u us) (distinct us)
    ∙ ap (λ (b : Bool). ((leb 1 u && (b && not (f u))) && all (new_to f) us) && (not (has u us) && distinct us)) (sym (le-leb u last_unit low.0))
  where
    tidy : (a g r h d : Bool) → ((a && not g) && ((r && not h) && d)) ≡ (((a && (true && not g)) && r) && (not h && d))
    tidy false g r h d = refl
    tidy true true r h d = refl
    tidy true false true h d = refl
    tidy true false false h d = refl

-- line 11
pub fresh_is : (s : Store) (us m : List ℕ) → Low us → MapIs (held s) m → fresh_in m us ≡ fresh s us
unfolding fresh
fresh_is s us m low i = fresh_map us (held s) m low i
