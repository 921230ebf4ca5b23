-- What the walk counts from the root are the sums over all ways. Assumes nothing.
use mathlib.Core.Bool.{Bool, true, false, cond}
use mathlib.Core.Logic.{⊎_elim}
use mathlib.Core.Path.{◌≡◌, refl, ap, ap₂, sym, ◌∙◌, subst}
use mathlib.Core.List.{List, [], ◌∷◌, ◌++◌, append-nil}
use mathlib.Core.Option.{Option, none, some}
use Prim.Native.Nat.{ℕ, zero, suc, ◌+◌, ◌-◌, ◌≤◌, ◌<◌}
use native.Mathlib.Omega.{arith}
use lib.Dec.{T, eqb, eqb_refl, ltb}
use lib.ListN.{length, get_or, set, replicate, length-set, length-replicate}
use lib.Seq.{get_or-set_same, get_or-set_other}
use borrow.Author.Tests.{eq-eqb, ne_eqb, eqb-true, ltb-true, ltb-false}
use Rattle.std.specs.Prelude.{Result, Ok}
use Rattle.units.specs.Limits.{last_unit, longest, most_count}
use Rattle.units.specs.declared.Refusal.{Refusal}
use Rattle.ways.specs.Ways.{sums, one, is, has, flat, total, visits}
use Rattle.ways.proofs.Tests.{T→eq, or_e, or_l, or_r, same_or}
use Rattle.ways.proofs.Members.{has_append}
use Rattle.ways.proofs.Frame.{sums_append, sums_flat, sums_cong, total_visits}
use Rattle.rules.specs.Tables.{times}
use Rattle.rules.specs.Store.{root_list}
use Rattle.records.specs.Rows.{AllBytes}
use Rattle.counting.specs.Places.{place_of}
use Rattle.counting.specs.Graph.{children_in, buffers_in, child_small, buffer_small}
use Rattle.recount.specs.Walks.{counted, places_of, visit_of, counts_of, Outcome}
use Rattle.recount.specs.Recounts.{ways_in, places_in, Fits, Recounted}

-- ---- one more at each place of a list

is_same : (x : ℕ) → is x x ≡ 1
is_same x = ap one (eq-eqb x x refl)

is_other : (x v : ℕ) → (v ≡ x → ⊥) → is x v ≡ 0
is_other x v d = ap one (ne_eqb v x d)

one_more_lem : (t : List ℕ) (i j : ℕ) → i < length t → get_or (set t i (get_or t i 0 + 1)) j 0 ≡ get_or t j 0 + is j i
one_more_lem t i j h =
    ⊎_elim
    (λ (e : i ≡ j). subst (λ (k : ℕ). get_or (set t i (get_or t i 0 + 1)) k 0 ≡ get_or t k 0 + is k i) e (get_or-set_same t i (get_or t i 0 + 1) 0 h ∙ ap (λ (k : ℕ). get_or t i 0 + k) (sym (is_same i))))
    (λ (d : i ≡ j → ⊥). get_or-set_other t i j (get_or t i 0 + 1) 0 (λ e. d (sym e)) ∙ omega (arith, is_other j i d))
    (same_or i j)

pub record All (t l t' : List ℕ) : Type 0 where
  pub long : length t' ≡ length t
  pub at : (j : ℕ) → get_or t' j 0 ≡ get_or t j 0 + times j l
  pub most : (j : ℕ) → get_or t' j 0 ≤ most_count

-- each within the counts
abbrev Within : List ℕ → List ℕ → Type 0
Within t l = (i : ℕ) → T (has i l) → i < length t

within_rest : (t l : List ℕ) (i v : ℕ) → Within t (i ∷ l) → Within (set t i v) l
within_rest t l i v w j h = omega (arith, w j (or_r (eqb i j) (has j l) h), length-set t i v)

within_first : (t l : List ℕ) (i : ℕ) → Within t (i ∷ l) → i < length t
within_first t l i w = w i (or_l (eqb i i) (has i l) (eqb_refl i))

counted_all : (l t t' : List ℕ) → Within t l → ((j : ℕ) → get_or t j 0 ≤ most_count) → counted t l ≡ some t' → All t l t'
unfolding counted
counted_all [] t t' w h e = rw (← same t t' e) (record { long = refl; at = λ j. omega arith; most = h })
  where
    same : (a b : List ℕ) → some a ≡ some b → a ≡ b
    same a b e = cc
counted_all (i ∷ l) t t' w h e =
    go (ltb (get_or t i 0) most_count) refl e
    (λ p q. counted_all l (set t i (get_or t i 0 + 1)) t' (within_rest t l i (get_or t i 0 + 1) w) p q)
  where
    go : (y : Bool) → ltb (get_or t i 0) most_count ≡ y → cond y (counted (set t i (get_or t i 0 + 1)) l) none ≡ some t'
        → (((j : ℕ) → get_or (set t i (get_or t i 0 + 1)) j 0 ≤ most_count) → counted (set t i (get_or t i 0 + 1)) l ≡ some t' → All (set t i (get_or t i 0 + 1)) l t')
        → All t (i ∷ l) t'
    go false y e ih = absurd (let z : ◌≡◌ {A = ℕ} 0 1 = cc in omega arith)
    go true y e ih =
        let b = within_first t l i w in
        let step : (j : ℕ) → get_or (set t i (get_or t i 0 + 1)) j 0 ≡ get_or t j 0 + is j i = λ j. one_more_lem t i j b in
        let low : (j : ℕ) → get_or (set t i (get_or t i 0 + 1)) j 0 ≤ most_count = λ j.
        ⊎_elim
        (λ (e : i ≡ j). subst (λ (k : ℕ). get_or (set t i (get_or t i 0 + 1)) k 0 ≤ most_count) e (omega (arith, step i, is_same i, ltb-true (get_or t i 0) most_count y)))
        (λ (d : i ≡ j → ⊥). omega (arith, step j, is_other j i d, h j))
        (same_or i j) in
        let r = ih low e in
        record { long = r.long ∙ length-set t i (get_or t i 0 + 1); at = λ j. omega (arith, r.at j, step j); most = r.most }

-- where it is not done some count would pass the limit
counted_over : (l t : List ℕ) → Within t l → counted t l ≡ none → (j : ℕ) × (T (has j l)) × (most_count < get_or t j 0 + times j l)
unfolding counted
counted_over [] t w e = absurd (let z : ◌≡◌ {A = ℕ} 0 1 = cc in omega arith)
counted_over (i ∷ l) t w e =
    go (ltb (get_or t i 0) most_count) refl e
    (λ q. counted_over l (set t i (get_or t i 0 + 1)) (within_rest t l i (get_or t i 0 + 1) w) q)
  where
    go : (y : Bool) → ltb (get_or t i 0) most_count ≡ y → cond y (counted (set t i (get_or t i 0 + 1)) l) none ≡ none
        → (counted (set t i (get_or t i 0 + 1)) l ≡ none → (j : ℕ) × (T (has j l)) × (most_count < get_or (set t i (get_or t i 0 + 1)) j 0 + times j l))
        → (j : ℕ) × (T (has j (i ∷ l))) × (most_count < get_or t j 0 + times j (i ∷ l))
    go true y e ih =
        let r = ih e in
        (r.0, or_r (eqb i r.0) (has r.0 l) r.1, omega (arith, r.2, one_more_lem t i r.0 (within_first t l i w)))
    go false y e ih = (i, or_l (eqb i i) (has i l) (eqb_refl i), omega (arith, ltb-false (get_or t i 0) most_count y, is_same i))

-- ---- what the visits count

place_other : (u : ℕ) (bs : List ℕ) → u < 256 → times u (places_of bs) ≡ 0
place_other u [] h = refl
place_other u (b ∷ bs) h = omega (arith, is_other u (place_of b) (λ e. omega arith), place_other u bs h)

place_same : (b : ℕ) (bs : List ℕ) → times (place_of b) (places_of bs) ≡ times b bs
place_same b [] = refl
place_same b (c ∷ cs) =
    ap₂ (λ (x y : ℕ). x + y)
    (⊎_elim
    (λ (e : c ≡ b). subst (λ (k : ℕ). is (place_of k) (place_of c) ≡ is k c) e (is_same (place_of c) ∙ sym (is_same c)))
    (λ (d : c ≡ b → ⊥). is_other (place_of b) (place_of c) (λ e. d (omega arith)) ∙ sym (is_other b c d))
    (same_or c b))
    (place_same b cs)

ways_of_visits : (tree us : List ℕ) (u : ℕ) → u < 256 → times u (counts_of tree us) ≡ sums (is u) us
ways_of_visits tree us u h =
    sums_flat (is u) (visit_of tree) us
    ∙ sums_cong (is u) (λ v. times u (visit_of tree v)) (λ v. omega (arith, place_other u (buffers_in tree v) h)) us

places_of_visits : (tree us : List ℕ) (b : ℕ) → ((v : ℕ) → T (has v us) → v < 256) → times (place_of b) (counts_of tree us) ≡ sums (λ v. times b (buffers_in tree v)) us
places_of_visits tree [] b h = refl
places_of_visits tree (u ∷ us) b h =
    let small : u < 256 = h u (or_l (eqb u u) (has u us) (eqb_refl u)) in
    sums_append (is (place_of b)) (visit_of tree u) (counts_of tree us)
    ∙ ap₂ (λ (x y : ℕ). x + y)
    (let z = is_other (place_of b) u (λ e. omega arith) in omega (arith, place_same b (buffers_in tree u)))
    (places_of_visits tree us b (λ v t. h v (or_r (eqb u v) (has v us) t)))

-- ---- counts that begin as zeros

abbrev zeros : ℕ → List ℕ
zeros n = replicate n 0

zero_at : (n j : ℕ) → get_or (zeros n) j 0 ≡ 0
zero_at zero j = refl
zero_at (suc n) zero = refl
zero_at (suc n) (suc j) = zero_at n j

-- ---- all of it, from the root

module _ (tree : List ℕ) (b : AllBytes tree) where
  flat_small : (f : ℕ → List ℕ) → ((c x : ℕ) → c < 256 → T (has x (f c)) → x < 256) → (cs : List ℕ) → ((c : ℕ) → T (has c cs) → c < 256) → (x : ℕ) → T (has x (flat f cs)) → x < 256
  flat_small f h [] s x t = absurd t
  flat_small f h (c ∷ cs) s x t =
      ⊎_elim
      (λ (q : T (has x (f c))). h c x (s c (or_l (eqb c c) (has c cs) (eqb_refl c))) q)
      (λ (q : T (has x (flat f cs))). flat_small f h cs (λ y r. s y (or_r (eqb c y) (has y cs) r)) x q)
      (has_append x (f c) (flat f cs) t)

  visits_small : (d u x : ℕ) → u < 256 → T (has x (visits (children_in tree) d u)) → x < 256
  unfolding visits
  visits_small zero u x h t = absurd t
  visits_small (suc d) u x h t =
      ⊎_elim
      (λ (q : T (eqb u x)). subst (λ (y : ℕ). y < 256) (eqb-true u x (T→eq (eqb u x) q)) h)
      (λ (q : T (has x (flat (visits (children_in tree) d) (children_in tree u)))). flat_small (visits (children_in tree) d) (visits_small d) (children_in tree u) (λ c r. child_small tree u c b r) x q)
      (or_e (eqb u x) (has x (flat (visits (children_in tree) d) (children_in tree u))) t)

  root_small : (c : ℕ) → T (has c (root_list (get_or tree 0 0))) → c < 256
  root_small c t = go (eqb (get_or tree 0 0) 0) t
    where
      go : (y : Bool) → T (has c (cond y [] (get_or tree 0 0 ∷ []))) → c < 256
      go true t = absurd t
      go false t =
          ⊎_elim
          (λ (q : T (eqb (get_or tree 0 0) c)). subst (λ (y : ℕ). y < 256) (eqb-true (get_or tree 0 0) c (T→eq (eqb (get_or tree 0 0) c) q)) (b.small 0))
          (λ (q : T false). absurd q)
          (or_e (eqb (get_or tree 0 0) c) false t)

  -- every visit from the root
  abbrev visited : List ℕ
  visited = flat (visits (children_in tree) longest) (root_list (get_or tree 0 0))

  visited_small : (x : ℕ) → T (has x visited) → x < 256
  visited_small = flat_small (visits (children_in tree) longest) (visits_small longest) (root_list (get_or tree 0 0)) root_small

  sum_visited : (w : ℕ → ℕ) → sums w visited ≡ sums (total (children_in tree) w longest) (root_list (get_or tree 0 0))
  sum_visited w =
      sums_flat w (visits (children_in tree) longest) (root_list (get_or tree 0 0))
      ∙ sums_cong (total (children_in tree) w longest) (λ c. sums w (visits (children_in tree) longest c)) (λ c. sym (total_visits (children_in tree) w longest c)) (root_list (get_or tree 0 0))

  ways_counted : (u : ℕ) → u < 256 → times u (counts_of tree visited) ≡ ways_in tree u
  ways_counted u h = ways_of_visits tree visited u h ∙ sum_visited (is u)

  places_counted : (r : ℕ) → times (place_of r) (counts_of tree visited) ≡ places_in tree r
  places_counted r = places_of_visits tree visited r visited_small ∙ sum_visited (λ v. times r (buffers_in tree v))

  place_bound : (bs : List ℕ) → ((c : ℕ) → T (has c bs) → c < 256) → (j : ℕ) → T (has j (places_of bs)) → j < 512
  place_bound [] s j t = absurd t
  place_bound (c ∷ cs) s j t =
      ⊎_elim
      (λ (q : T (eqb (place_of c) j)). let e = eqb-true (place_of c) j (T→eq (eqb (place_of c) j) q) in omega (arith, s c (or_l (eqb c c) (has c cs) (eqb_refl c))))
      (λ (q : T (has j (places_of cs))). place_bound cs (λ y r. s y (or_r (eqb c y) (has y cs) r)) j q)
      (or_e (eqb (place_of c) j) (has j (places_of cs)) t)

  counts_bound : (us : List ℕ) → ((v : ℕ) → T (has v us) → v < 256) → (j : ℕ) → T (has j (counts_of tree us)) → j < 512
  counts_bound [] s j t = absurd t
  counts_bound (u ∷ us) s j t =
      ⊎_elim
      (λ (q : T (eqb u j)). let e = eqb-true u j (T→eq (eqb u j) q) in omega (arith, s u (or_l (eqb u u) (has u us) (eqb_refl u))))
      (λ (q : T (has j (places_of (buffers_in tree u) ++ counts_of tree us))).
      ⊎_elim
      (λ (p : T (has j (places_of (buffers_in tree u)))). place_bound (buffers_in tree u) (λ c r. buffer_small tree u c b r) j p)
      (λ (p : T (has j (counts_of tree us))). counts_bound us (λ v r. s v (or_r (eqb u v) (has v us) r)) j p)
      (has_append j (places_of (buffers_in tree u)) (counts_of tree us) q))
      (or_e (eqb u j) (has j (places_of (buffers_in tree u) ++ counts_of tree us)) t)

  -- the counts begin as zeros
  pub whole : (t : List ℕ) (r : Result (Unit {0}) Refusal) → Outcome (counted (zeros 512) (counts_of tree visited)) t r → Recounted tree t r
  whole t r o = go (counted (zeros 512) (counts_of tree visited)) refl o
    where
      within : Within (zeros 512) (counts_of tree visited)
      within j h = counts_bound visited visited_small j h

      go : (x : Option (List ℕ)) → counted (zeros 512) (counts_of tree visited) ≡ x → Outcome x t r → Recounted tree t r
      go none e o =
          let c = counted_over (counts_of tree visited) (zeros 512) within e in
          let high : most_count < times c.0 (counts_of tree visited) = omega (arith, c.2, zero_at 512 c.0) in
          record {
            whether = (λ d. let z = rw o at d in cc, λ f. absurd (too_high c.0 (within c.0 c.1) high f));
            refused = rw o refl;
            right = rw o tt;
          }
        where
          too_high : (j : ℕ) → j < 512 → most_count < times j (counts_of tree visited) → Fits tree → ⊥
          too_high j h m f = at (ltb j 256) refl
            where
              at : (y : Bool) → ltb j 256 ≡ y → ⊥
              at true y = let k = ltb-true j 256 y in omega (arith, f.ways j (omega arith), ways_counted j k)
              at false y =
                  let k = ltb-false j 256 y in
                  let e : place_of (j - 256) ≡ j = omega arith in
                  omega (arith, f.places (j - 256) (omega arith), places_counted (j - 256), ap (λ (i : ℕ). times i (counts_of tree visited)) e)
      go (some l) e o =
          let a = counted_all (counts_of tree visited) (zeros 512) l within (λ j. omega (arith, zero_at 512 j)) e in
          let ways : (u : ℕ) → u ≤ last_unit → get_or l u 0 ≡ ways_in tree u = λ u h. omega (arith, a.at u, zero_at 512 u, ways_counted u (omega arith)) in
          let places : (r : ℕ) → r ≤ last_unit → get_or l (place_of r) 0 ≡ places_in tree r = λ r h. omega (arith, a.at (place_of r), zero_at 512 (place_of r), places_counted r) in
          record {
            whether = (λ d. record { ways = λ u h. omega (arith, ways u h, a.most u); places = λ r h. omega (arith, places r h, a.most (place_of r)) }, λ f. rw o.0 refl);
            refused = rw o.0 tt;
            right = rw (o.0, o.1) (record { long = a.long ∙ length-replicate {A = ℕ} 512 0; ways = ways; places = places });
          }

-- ---- the two ends: no root, or a walk from it

pub recount_none : (tree : List ℕ) (root : ℕ) → AllBytes tree → root ≡ get_or tree 0 0 → root ≡ 0 → Recounted tree (zeros 512) (Ok tt)
unfolding counted
recount_none tree root b e z = whole tree b (zeros 512) (Ok tt) (rw (← e, z) (refl, refl))

pub recount_some : (tree : List ℕ) (root : ℕ) (t : List ℕ) (r : Result (Unit {0}) Refusal) → AllBytes tree → root ≡ get_or tree 0 0 → (root ≡ 0 → ⊥)
    → Outcome (counted (zeros 512) (counts_of tree (visits (children_in tree) longest root))) t r → Recounted tree t r
recount_some tree root t r b e d o =
    whole tree b t r
    (rw (← e, ne_eqb root 0 d) (subst (λ (l : List ℕ). Outcome (counted (zeros 512) (counts_of tree l)) t r) (sym (append-nil (visits (children_in tree) longest root))) o))
