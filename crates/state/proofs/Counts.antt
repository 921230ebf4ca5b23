-- What the counts are after nodes come, ways go, and places of branches come and go. Assumes nothing.
use mathlib.Core.Path.{◌≡◌, refl, sym, ap, ◌∙◌}
use mathlib.Core.Bool.{Bool, true, false, cond}
use mathlib.Core.List.{List}
use Prim.Native.Nat.{ℕ, zero, suc, ◌+◌, ◌-◌, ◌≤◌, ◌<◌}
use native.Mathlib.Omega.{arith}
use lib.Dec.{leb}
use lib.ListN.{get_or, replicate, length-replicate}
use lib.Seq.{ext_get_or}
use borrow.Author.Tests.{leb-true, leb-false}
use Rattle.units.specs.Limits.{last_unit, most_count}
use Rattle.ways.specs.Ways.{has}
use Rattle.rules.specs.Tables.{times}
use Rattle.counting.specs.Change.{add_counts, drop_counts}
use Rattle.counting.specs.Places.{place_of, add_places, drop_places}
use Rattle.counting.proofs.Counts.{Low, drops_length, drops_count, adds_length, adds_count, drops_places, adds_places, add_places_length, add_places_at, add_places_ways, drop_places_length, drop_places_at, drop_places_ways}
use Rattle.state.specs.Standing.{CountsAre, counts_length}

module _ (w p : ℕ → ℕ) (l : List ℕ) (c : CountsAre w p l) where
  pub counts_adds : (us : List ℕ) → Low us → CountsAre (λ v. cond (has v us) 1 (w v)) p (add_counts l us)
  counts_adds us low =
      record {
        long = adds_length us l ∙ c.long;
        way = λ u h. adds_count us l u (omega (arith, c.long)) ∙ ap (cond (has u us) 1) (c.way u h);
        place = λ b h. adds_places us l b low (omega (arith, c.long)) ∙ c.place b h;
      }

  pub counts_drops : (us : List ℕ) → Low us → CountsAre (λ v. w v - times v us) p (drop_counts l us)
  counts_drops us low =
      record {
        long = drops_length us l ∙ c.long;
        way = λ u h. drops_count us l u (omega (arith, c.long)) ∙ ap (λ (n : ℕ). n - times u us) (c.way u h);
        place = λ b h. drops_places us l b low (omega (arith, c.long)) ∙ c.place b h;
      }

  pub counts_more : (bs : List ℕ) → ((b : ℕ) → b ≤ last_unit → p b + times b bs ≤ most_count) → CountsAre w (λ b. p b + times b bs) (add_places l bs)
  counts_more bs fit =
      record {
        long = add_places_length bs l ∙ c.long;
        way = λ u h. add_places_ways bs l u (omega arith) ∙ c.way u h;
        place = λ b h.
            add_places_at bs l b (omega (arith, c.long)) (omega (arith, fit b h, c.place b h)) ∙ ap (λ (n : ℕ). n + times b bs) (c.place b h);
      }

  pub counts_less : (bs : List ℕ) → CountsAre w (λ b. p b - times b bs) (drop_places l bs)
  counts_less bs =
      record {
        long = drop_places_length bs l ∙ c.long;
        way = λ u h. drop_places_ways bs l u (omega arith) ∙ c.way u h;
        place = λ b h. drop_places_at bs l b (omega (arith, c.long)) ∙ ap (λ (n : ℕ). n - times b bs) (c.place b h);
      }

  pub counts_same : (w' p' : ℕ → ℕ) → ((u : ℕ) → u ≤ last_unit → w u ≡ w' u) → ((b : ℕ) → b ≤ last_unit → p b ≡ p' b) → CountsAre w' p' l
  counts_same w' p' ew ep = record { long = c.long; way = λ u h. c.way u h ∙ ew u h; place = λ b h. c.place b h ∙ ep b h }

-- the bytes are determined
pub counts_ext : (w p : ℕ → ℕ) (l l' : List ℕ) → CountsAre w p l → CountsAre w p l' → l ≡ l'
counts_ext w p l l' c c' = ext_get_or 0 l l' (c.long ∙ sym c'.long) (λ i h. go i (leb i last_unit) refl (omega (arith, c.long)))
  where
    go : (i : ℕ) (b : Bool) → leb i last_unit ≡ b → i < counts_length → get_or l i 0 ≡ get_or l' i 0
    go i true e h = c.way i (leb-true i last_unit e) ∙ sym (c'.way i (leb-true i last_unit e))
    go i false e h =
        let q : place_of (i - 256) ≡ i = omega (arith, leb-false i last_unit e) in
        sym (ap (λ (j : ℕ). get_or l j 0) q) ∙ c.place (i - 256) (omega arith) ∙ sym (c'.place (i - 256) (omega arith)) ∙ ap (λ (j : ℕ). get_or l' j 0) q

pub zero_at : (n i : ℕ) → ◌≡◌ {A = ℕ} (get_or (replicate n 0) i 0) 0
zero_at zero i = refl
zero_at (suc n) zero = refl
zero_at (suc n) (suc i) = zero_at n i

pub counts_empty : CountsAre (λ u. 0) (λ b. 0) (replicate counts_length 0)
counts_empty = record { long = length-replicate {A = ℕ} counts_length 0; way = λ u h. zero_at counts_length u; place = λ b h. zero_at counts_length (place_of b) }
