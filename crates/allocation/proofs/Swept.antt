-- What the array of branches and the map are after a sweep: of the roots looked at, those that are dead are no branch any more, and
-- their units are free. Assumes nothing.
use mathlib.Core.Path.{◌≡◌, refl, sym, ap, ap₂, ◌∙◌}
use mathlib.Core.Bool.{Bool, true, false, ◌||◌, ◌&&◌, not, cond}
use mathlib.Core.Logic.{⊎_elim}
use mathlib.Core.List.{List, [], ◌∷◌, ◌++◌}
use mathlib.Core.Option.{Option, none}
use Prim.Native.Nat.{ℕ, zero, suc, ◌≤◌}
use native.Mathlib.Omega.{arith}
use lib.Dec.{T, eqb, leb}
use lib.ListN.{length, replicate}
use borrow.Author.Tests.{eq-eqb, ne_eqb}
use Rattle.units.specs.Limits.{last_unit, room, compactor_count}
use Rattle.ways.specs.Ways.{has}
use Rattle.ways.specs.Levels.{some_of}
use Rattle.ways.proofs.Tests.{same_or}
use Rattle.rules.specs.Tables.{all, or_else}
use Rattle.rules.specs.Store.{Slot, in_use}
use Rattle.held_map.specs.Map.{clears}
use Rattle.records.specs.Rows.{eight}
use Rattle.tables.specs.Hold.{HoldIs, branch_in, put_branch, coded_branch}
use Rattle.tables.proofs.Kept.{branch_read_lem, hold_blank, hold_same}
use Rattle.tables.proofs.Values.{in_use_is}
use Rattle.counting.proofs.Counts.{Low}
use Rattle.state.specs.Standing.{CountsAre, MapIs}
use Rattle.state.proofs.Maps.{map_same, map_clears}
use Rattle.allocation.specs.Sweep.{dead_in, swept_hold, swept_map, sweep_hold, sweep_map}
use Rattle.allocation.proofs.Going.{and_true, eight_same, eight_has, eight_low}

abbrev Branches : Type 0
Branches = ℕ → Option (List ℕ)

-- what no buffer and no input names
abbrev pub dead_to : (ℕ → ℕ) → List (List ℕ) → ℕ → Bool
dead_to p is b = eqb (p b) 0 && not (in_use is b)

-- the table without the dead of a list
abbrev pub without : (ℕ → Bool) → List ℕ → Branches → Branches
without dead cs bs v = cond (has v cs && dead v) none (bs v)

-- v is a unit of the dead branch b; of a dead branch of a list
abbrev of_dead : (ℕ → Bool) → Branches → ℕ → ℕ → Bool
of_dead dead bs v b = dead b && has v (or_else [] (bs b))

abbrev pub of_some_dead : (ℕ → Bool) → Branches → List ℕ → ℕ → Bool
of_some_dead dead bs cs v = some_of (λ b. dead b && has v (or_else [] (bs b))) cs

-- each record a few units
pub record Few (bs : Branches) : Type 0 where
  pub short : (b : ℕ) → b ≤ last_unit → length (or_else [] (bs b)) ≤ room
  pub low : (b : ℕ) → b ≤ last_unit → Low (or_else [] (bs b))

few_without : (dead : ℕ → Bool) (cs : List ℕ) (bs : Branches) → Few bs → Few (without dead cs bs)
few_without dead cs bs few = record { short = λ b q. short b q (has b cs && dead b); low = λ b q. low b q (has b cs && dead b) }
  where
    short : (b : ℕ) → b ≤ last_unit → (t : Bool) → length (or_else [] (cond t none (bs b))) ≤ room
    short b q true = omega arith
    short b q false = few.short b q

    low : (b : ℕ) → b ≤ last_unit → (t : Bool) → Low (or_else [] (cond t none (bs b)))
    low b q true = tt
    low b q false = few.low b q

module _ {w p : ℕ → ℕ} {counts : List ℕ} (c : CountsAre w p counts) {xs : List Slot} {is : List (List ℕ)} (n : length is ≡ compactor_count) (room_for : T (all (λ us. leb (length us) room) is)) where
  dead_is : {bs : Branches} {hold : List ℕ} → HoldIs bs xs is hold → (b : ℕ) → b ≤ last_unit → dead_in counts hold b ≡ dead_to p is b
  unfolding dead_in
  dead_is h b q = ap₂ (λ (k : ℕ) (t : Bool). eqb k 0 && not t) (c.place b q) (in_use_is h n room_for b)

  -- ---- one root

  swept_hold_lem : {bs : Branches} {hold : List ℕ} → HoldIs bs xs is hold → (b : ℕ) → b ≤ last_unit → HoldIs (without (dead_to p is) (b ∷ []) bs) xs is (swept_hold counts hold b)
  unfolding swept_hold
  swept_hold_lem {bs} {hold} h b q = go (dead_to p is b) refl
    where
      at : (v : ℕ) (t : Bool) → dead_to p is b ≡ t → without (dead_to p is) (b ∷ []) bs v ≡ cond (eqb v b && t) none (bs v)
      at v t e =
          ⊎_elim
          (λ (d : v ≡ b). rw (d, e, eq-eqb b b refl) refl)
          (λ (d : v ≡ b → ⊥). rw (ne_eqb v b d, ne_eqb b v (λ x. d (sym x))) refl)
          (same_or v b)

      go : (t : Bool) → dead_to p is b ≡ t → HoldIs (without (dead_to p is) (b ∷ []) bs) xs is (cond (dead_in counts hold b) (put_branch hold b (coded_branch [])) hold)
      go true e =
          rw (dead_is h b q, e)
          (hold_same (hold_blank h b q) (without (dead_to p is) (b ∷ []) bs) (λ v r. ap (or_else []) (sym (at v true e ∙ ap (λ (t : Bool). cond t none (bs v)) (and_true (eqb v b))))))
      go false e =
          rw (dead_is h b q, e)
          (hold_same h (without (dead_to p is) (b ∷ []) bs) (λ v r. ap (or_else []) (sym (at v false e ∙ ap (λ (t : Bool). cond t none (bs v)) (and_false (eqb v b))))))
        where
          and_false : (t : Bool) → (t && false) ≡ false
          and_false true = refl
          and_false false = refl

  swept_map_lem : {bs : Branches} {hold : List ℕ} {f : ℕ → Bool} {map : List ℕ} → HoldIs bs xs is hold → Few bs → MapIs f map → f 0 ≡ false → (b : ℕ) → b ≤ last_unit
      → MapIs (λ v. f v && not (dead_to p is b && has v (or_else [] (bs b)))) (swept_map counts hold map b)
  unfolding swept_map
  swept_map_lem {bs} {hold} {f} {map} h few i z b q = go (dead_to p is b) refl
    where
      places : (v : ℕ) → (f v && not (has v (eight (or_else [] (bs b))))) ≡ (f v && not (has v (or_else [] (bs b))))
      places zero = rw z refl
      places (suc v) = ap (λ (t : Bool). f (suc v) && not t) (eight_has (suc v) (omega arith) (or_else [] (bs b)) (few.short b q))

      go : (t : Bool) → dead_to p is b ≡ t → MapIs (λ v. f v && not (dead_to p is b && has v (or_else [] (bs b)))) (cond (dead_in counts hold b) (clears map (branch_in hold b).units) map)
      go true e =
          rw (dead_is h b q, e, branch_read_lem h b q)
          (map_same (λ v. f v && not (has v (eight (or_else [] (bs b))))) (λ v. f v && not (has v (or_else [] (bs b)))) _ (λ v r. places v) (map_clears (eight (or_else [] (bs b))) f map (eight_low (or_else [] (bs b)) (few.low b q)) i))
      go false e = rw (dead_is h b q, e) (map_same f (λ v. f v && true) map (λ v r. sym (and_true (f v))) i)

  -- ---- a list of roots

  pub sweep_hold_lem : (cs : List ℕ) {bs : Branches} {hold : List ℕ} → Low cs → HoldIs bs xs is hold → HoldIs (without (dead_to p is) cs bs) xs is (sweep_hold counts hold cs)
  sweep_hold_lem [] low h = h
  sweep_hold_lem (b ∷ cs) {bs} {hold} low h =
      hold_same (sweep_hold_lem cs low.1 (swept_hold_lem h b low.0)) (without (dead_to p is) (b ∷ cs) bs) (λ v r. ap (or_else []) (tidy (eqb b v) (has v cs) (dead_to p is v) (bs v)))
    where
      tidy : (x y d : Bool) (o : Option (List ℕ)) → cond (y && d) none (cond ((x || false) && d) none o) ≡ cond ((x || y) && d) none o
      tidy true true true o = refl
      tidy true true false o = refl
      tidy true false d o = refl
      tidy false true true o = refl
      tidy false true false o = refl
      tidy false false d o = refl

  pub sweep_map_lem : (cs : List ℕ) {bs : Branches} {hold : List ℕ} {f : ℕ → Bool} {map : List ℕ} → Low cs → HoldIs bs xs is hold → Few bs → MapIs f map → f 0 ≡ false
      → MapIs (λ v. f v && not (of_some_dead (dead_to p is) bs cs v)) (sweep_map counts hold map cs)
  sweep_map_lem [] {bs} {hold} {f} {map} low h few i z = map_same f (λ v. f v && true) map (λ v r. sym (and_true (f v))) i
  sweep_map_lem (b ∷ cs) {bs} {hold} {f} {map} low h few i z =
      map_same (λ v. (f v && not (of_dead (dead_to p is) bs v b)) && not (of_some_dead (dead_to p is) (without (dead_to p is) (b ∷ []) bs) cs v)) (λ v. f v && not (of_some_dead (dead_to p is) bs (b ∷ cs) v)) _
      (λ v r. both (f v) (of_dead (dead_to p is) bs v b) (of_some_dead (dead_to p is) (without (dead_to p is) (b ∷ []) bs) cs v) ∙ ap (λ (t : Bool). f v && not t) (rest v (of_dead (dead_to p is) bs v b) refl cs))
      (sweep_map_lem cs low.1 (swept_hold_lem h b low.0) (few_without (dead_to p is) (b ∷ []) bs few) (swept_map_lem h few i z b low.0) (rw z refl))
    where
      both : (a x y : Bool) → ((a && not x) && not y) ≡ (a && not (x || y))
      both true true y = refl
      both true false y = refl
      both false x y = refl

      -- a unit that is none of b's: another branch that is dead has it as before
      other : (v x : ℕ) → (dead_to p is b && has v (or_else [] (bs b))) ≡ false
          → (dead_to p is x && has v (or_else [] (without (dead_to p is) (b ∷ []) bs x))) ≡ (dead_to p is x && has v (or_else [] (bs x)))
      other v x e =
          ⊎_elim
          (λ (d : b ≡ x). same d (dead_to p is b) refl)
          (λ (d : b ≡ x → ⊥). ap (λ (t : Bool). dead_to p is x && has v (or_else [] (cond ((t || false) && dead_to p is x) none (bs x)))) (ne_eqb b x d))
          (same_or b x)
        where
          same : b ≡ x → (t : Bool) → dead_to p is b ≡ t → (dead_to p is x && has v (or_else [] (without (dead_to p is) (b ∷ []) bs x))) ≡ (dead_to p is x && has v (or_else [] (bs x)))
          same d true q = rw (← d, q, eq-eqb b b refl) (sym (rw q at e))
          same d false q = rw (← d, q) refl

      rest : (v : ℕ) (t : Bool) → (dead_to p is b && has v (or_else [] (bs b))) ≡ t → (cs : List ℕ) → (t || of_some_dead (dead_to p is) (without (dead_to p is) (b ∷ []) bs) cs v) ≡ (t || of_some_dead (dead_to p is) bs cs v)
      rest v true e cs = refl
      rest v false e [] = refl
      rest v false e (x ∷ cs) = ap₂ ◌||◌ (other v x e) (rest v false e cs)

  -- ---- eight places, of which those behind the roots are 0

  pub sweep_hold_eight : (cs : List ℕ) {bs : Branches} {hold : List ℕ} → length cs ≤ room → Low cs → bs 0 ≡ none → HoldIs bs xs is hold
      → HoldIs (without (dead_to p is) cs bs) xs is (sweep_hold counts hold (eight cs))
  sweep_hold_eight cs {bs} {hold} few low z h =
      hold_same (sweep_hold_lem (eight cs) (eight_low cs low) h) (without (dead_to p is) cs bs) (λ v r. ap (or_else []) (same v))
    where
      both : (t : Bool) (o : Option (List ℕ)) → o ≡ none → cond t none o ≡ none
      both true o e = refl
      both false o e = e

      same : (v : ℕ) → without (dead_to p is) (eight cs) bs v ≡ without (dead_to p is) cs bs v
      same zero = both (has 0 (eight cs) && dead_to p is 0) (bs 0) z ∙ sym (both (has 0 cs && dead_to p is 0) (bs 0) z)
      same (suc v) = ap (λ (t : Bool). cond (t && dead_to p is (suc v)) none (bs (suc v))) (eight_has (suc v) (omega arith) cs few)

  pub sweep_map_eight : (cs : List ℕ) {bs : Branches} {hold : List ℕ} {f : ℕ → Bool} {map : List ℕ} → length cs ≤ room → Low cs → bs 0 ≡ none → HoldIs bs xs is hold → Few bs → MapIs f map → f 0 ≡ false
      → MapIs (λ v. f v && not (of_some_dead (dead_to p is) bs cs v)) (sweep_map counts hold map (eight cs))
  sweep_map_eight cs {bs} {hold} {f} {map} short low z h few i e =
      map_same (λ v. f v && not (of_some_dead (dead_to p is) bs (eight cs) v)) (λ v. f v && not (of_some_dead (dead_to p is) bs cs v)) _
      (λ v r. ap (λ (t : Bool). f v && not t) (eight_same (λ (l : List ℕ). of_some_dead (dead_to p is) bs l v) (pad v) cs short))
      (sweep_map_lem (eight cs) (eight_low cs low) h few i e)
    where
      none_of : (v : ℕ) (d : Bool) → (d && has v (or_else [] (bs 0))) ≡ false
      none_of v true = rw z refl
      none_of v false = refl

      pad : (v n : ℕ) (l : List ℕ) → of_some_dead (dead_to p is) bs (l ++ replicate n 0) v ≡ of_some_dead (dead_to p is) bs l v
      pad v zero [] = refl
      pad v (suc n) [] = rw (none_of v (dead_to p is 0)) (pad v n [])
      pad v n (x ∷ l) = ap (λ (t : Bool). of_dead (dead_to p is) bs v x || t) (pad v n l)
