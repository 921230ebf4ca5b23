-- What the map is after ways that go, and that the zeros of eight places are no unit. Assumes nothing.
use mathlib.Core.Path.{◌≡◌, refl, sym, ap, ap₂, ◌∙◌}
use mathlib.Core.Bool.{Bool, true, false, ◌||◌, ◌&&◌, not}
use mathlib.Core.Logic.{⊎_elim}
use mathlib.Core.List.{List, [], ◌∷◌, ◌++◌}
use Prim.Native.Nat.{ℕ, zero, suc, ◌+◌, ◌-◌, ◌≤◌}
use native.Mathlib.Omega.{arith}
use lib.Dec.{eqb, leb}
use lib.ListN.{length, get_or, replicate}
use borrow.Author.Tests.{eq-eqb, ne_eqb}
use Rattle.units.specs.Limits.{last_unit, room}
use Rattle.ways.specs.Ways.{has, gone, one}
use Rattle.ways.proofs.Tests.{same_or}
use Rattle.rules.specs.Tables.{times}
use Rattle.records.specs.Rows.{eight, eight_pad}
use Rattle.counting.specs.Change.{last_way, drop_count}
use Rattle.counting.proofs.Counts.{Low, drop_here, drop_there, drop_length}
use Rattle.counting.proofs.Changes.{gone_here, gone_there}
use Rattle.state.specs.Standing.{counts_length, MapIs}
use Rattle.state.proofs.Maps.{map_same, map_clears}
use Rattle.allocation.specs.Going.{cleared_if, let_go_map, let_go_maps}

pub and_true : (b : Bool) → (b && true) ≡ b
and_true true = refl
and_true false = refl

-- one unit is released, or none
cleared_map : (f : ℕ → Bool) (m : List ℕ) (u : ℕ) (died : Bool) → u ≤ last_unit → MapIs f m → MapIs (λ v. f v && not (died && eqb u v)) (cleared_if died m u)
unfolding cleared_if
cleared_map f m u true q i =
    map_same (λ v. f v && not (has v (u ∷ []))) (λ v. f v && not (eqb u v)) _ (λ v h. ap (λ (b : Bool). f v && not b) (or_false (eqb u v))) (map_clears (u ∷ []) f m (q, tt) i)
  where
    or_false : (b : Bool) → (b || false) ≡ b
    or_false true = refl
    or_false false = refl
cleared_map f m u false q i = map_same f (λ v. f v && true) m (λ v h. sym (and_true (f v))) i

-- the unit of a node is released where all its ways go
pub let_go_map_lem : (us : List ℕ) (f : ℕ → Bool) (m c : List ℕ) → Low us → length c ≡ counts_length → MapIs f m → MapIs (λ v. f v && not (gone (get_or c v 0) us v)) (let_go_maps m c us)
unfolding last_way
let_go_map_lem [] f m c low n i = map_same f (λ v. f v && true) m (λ v h. sym (and_true (f v))) i
let_go_map_lem (u ∷ us) f m c low n i =
    map_same (λ v. (f v && not (last_way c u && eqb u v)) && not (gone (get_or (drop_count c u) v 0) us v)) (λ v. f v && not (gone (get_or c v 0) (u ∷ us) v)) _
    (λ v h. ⊎_elim (same v h) (other v) (same_or u v))
    (let_go_map_lem us (λ v. f v && not (last_way c u && eqb u v)) (let_go_map m c u) (drop_count c u) low.1 (drop_length c u ∙ n) (cleared_map f m u (last_way c u) low.0 i))
  where
    both : (a x y : Bool) → ((a && not (x && true)) && not y) ≡ (a && not (x || y))
    both true true y = refl
    both true false y = refl
    both false x y = refl

    same : (v : ℕ) → v ≤ last_unit → u ≡ v → ((f v && not (leb (get_or c u 0) 1 && eqb u v)) && not (gone (get_or (drop_count c u) v 0) us v)) ≡ (f v && not (gone (get_or c v 0) (u ∷ us) v))
    same v h e =
        ap₂ (λ (x : ℕ) (y : Bool). (f v && not (leb (get_or c u 0) 1 && y)) && not (gone x us v)) (drop_here c u v e (omega (arith, n))) (eq-eqb u v e)
        ∙ ap (λ (x : ℕ). (f v && not (leb (get_or c x 0) 1 && true)) && not (gone (get_or c v 0 - 1) us v)) e
        ∙ both (f v) (leb (get_or c v 0) 1) (gone (get_or c v 0 - 1) us v)
        ∙ ap (λ (b : Bool). f v && not b) (sym (gone_here (get_or c v 0) us v u e))

    off : (a x y : Bool) → ((a && not (x && false)) && not y) ≡ (a && not y)
    off true true y = refl
    off true false y = refl
    off false x y = refl

    other : (v : ℕ) → (u ≡ v → ⊥) → ((f v && not (leb (get_or c u 0) 1 && eqb u v)) && not (gone (get_or (drop_count c u) v 0) us v)) ≡ (f v && not (gone (get_or c v 0) (u ∷ us) v))
    other v d =
        ap₂ (λ (x : ℕ) (y : Bool). (f v && not (leb (get_or c u 0) 1 && y)) && not (gone x us v)) (drop_there c u v d) (ne_eqb u v d)
        ∙ off (f v) (leb (get_or c u 0) 1) (gone (get_or c v 0) us v)
        ∙ ap (λ (b : Bool). f v && not b) (sym (gone_there (get_or c v 0) us v u d))

-- ---- eight places

-- what no zero changes is the same of the eight places
module _ {A : Type 0} (f : List ℕ → A) (pad : (n : ℕ) (l : List ℕ) → f (l ++ replicate n 0) ≡ f l) where
  pub eight_same : (l : List ℕ) → length l ≤ room → f (eight l) ≡ f l
  eight_same l h = ap f (eight_pad l h) ∙ pad (room - length l) l

module _ (v : ℕ) (p : 1 ≤ v) where
  zero_not : eqb 0 v ≡ false
  zero_not = ne_eqb 0 v (λ e. omega arith)

  times_pad : (n : ℕ) (l : List ℕ) → times v (l ++ replicate n 0) ≡ times v l
  times_pad zero [] = refl
  times_pad (suc n) [] = omega (arith, times_pad n [], ap one zero_not)
  times_pad n (x ∷ l) = ap (λ (k : ℕ). one (eqb x v) + k) (times_pad n l)

  has_pad : (n : ℕ) (l : List ℕ) → has v (l ++ replicate n 0) ≡ has v l
  has_pad zero [] = refl
  has_pad (suc n) [] = rw zero_not (has_pad n [])
  has_pad n (x ∷ l) = ap (λ (b : Bool). eqb x v || b) (has_pad n l)

  pub eight_times : (l : List ℕ) → length l ≤ room → times v (eight l) ≡ times v l
  eight_times l h = eight_same (times v) times_pad l h

  pub eight_has : (l : List ℕ) → length l ≤ room → has v (eight l) ≡ has v l
  eight_has l h = eight_same (has v) has_pad l h

  pub eight_gone : (n : ℕ) (l : List ℕ) → length l ≤ room → gone n (eight l) v ≡ gone n l v
  eight_gone n l h = ap₂ (λ (b : Bool) (k : ℕ). b && leb n k) (eight_has l h) (eight_times l h)

pub eight_low : (l : List ℕ) → Low l → Low (eight l)
eight_low l h = (at l h 0, (at l h 1, (at l h 2, (at l h 3, (at l h 4, (at l h 5, (at l h 6, (at l h 7, tt))))))))
  where
    at : (l : List ℕ) → Low l → (i : ℕ) → get_or l i 0 ≤ last_unit
    at [] h i = omega arith
    at (x ∷ l) h zero = h.0
    at (x ∷ l) h (suc i) = at l h.1 i

pub let_go_eight : (us : List ℕ) (f : ℕ → Bool) (m c : List ℕ) → length us ≤ room → Low us → f 0 ≡ false → length c ≡ counts_length → MapIs f m
    → MapIs (λ v. f v && not (gone (get_or c v 0) us v)) (let_go_maps m c (eight us))
let_go_eight us f m c few low z n i =
    map_same (λ v. f v && not (gone (get_or c v 0) (eight us) v)) (λ v. f v && not (gone (get_or c v 0) us v)) _ (λ v h. same v) (let_go_map_lem (eight us) f m c (eight_low us low) n i)
  where
    same : (v : ℕ) → (f v && not (gone (get_or c v 0) (eight us) v)) ≡ (f v && not (gone (get_or c v 0) us v))
    same zero = rw z refl
    same (suc v) = ap (λ (t : Bool). f (suc v) && not t) (eight_gone (suc v) (omega arith) (get_or c (suc v) 0) us few)
