-- What the counts come to after a list of changes: at a node or a branch that stands in the list n times its change is made n times,
-- and every other count stays. One law serves ways that go, places that come and places that go. Assumes nothing.
use mathlib.Core.Bool.{Bool, true, false, ◌||◌, cond}
use mathlib.Core.Logic.{⊎_elim}
use mathlib.Core.Path.{◌≡◌, refl, ap, sym, ◌∙◌}
use mathlib.Core.List.{List, [], ◌∷◌}
use Prim.Native.Nat.{ℕ, zero, suc, ◌+◌, ◌-◌, ◌≤◌, ◌<◌}
use native.Mathlib.Omega.{arith}
use lib.Dec.{eqb, ltb}
use lib.ListN.{length, get_or, set, length-set}
use lib.Seq.{get_or-set_same, get_or-set_other}
use borrow.Author.Tests.{eq-eqb, ne_eqb, lt-ltb}
use Rattle.units.specs.Limits.{last_unit, most_count}
use Rattle.ways.specs.Ways.{one, has}
use Rattle.rules.specs.Tables.{times}
use Rattle.ways.proofs.Tests.{same_or}
use Rattle.counting.specs.Change.{each, drop_count, drop_counts, add_counts}
use Rattle.counting.specs.Places.{place_of, one_more, add_place, drop_place, add_places, drop_places}

-- h, n times over
abbrev repeated : (ℕ → ℕ) → ℕ → ℕ → ℕ
repeated h zero c = c
repeated h (suc n) c = repeated h n (h c)

less_times : (n c : ℕ) → repeated (λ (c : ℕ). c - 1) n c ≡ c - n
less_times zero c = omega arith
less_times (suc n) c = omega (arith, less_times n (c - 1))

more_times : (n c : ℕ) → c + n ≤ most_count → repeated one_more n c ≡ c + n
unfolding one_more
more_times zero c h = omega arith
more_times (suc n) c h =
    let e : cond (ltb c most_count) (c + 1) c ≡ c + 1 = rw (lt-ltb c most_count (omega arith)) in
    ap (repeated one_more n) e ∙ more_times n (c + 1) (omega arith) ∙ omega arith

-- ---- any change

-- a change by h of the number at p x, for each member x
module _ (f : List ℕ → ℕ → List ℕ) (p h : ℕ → ℕ) (by : (l : List ℕ) (x : ℕ) → f l x ≡ set l (p x) (h (get_or l (p x) 0))) where
  change_length : (l : List ℕ) (x : ℕ) → length (f l x) ≡ length l
  change_length l x = rw by (length-set l (p x) (h (get_or l (p x) 0)))

  change_here : (l : List ℕ) (x v : ℕ) → x ≡ v → p v < length l → get_or (f l x) (p v) 0 ≡ h (get_or l (p v) 0)
  change_here l x v e q = rw (e, by) (get_or-set_same l (p v) (h (get_or l (p v) 0)) 0 q)

  change_there : (l : List ℕ) (x j : ℕ) → (j ≡ p x → ⊥) → get_or (f l x) j 0 ≡ get_or l j 0
  change_there l x j d = rw by (get_or-set_other l (p x) j (h (get_or l (p x) 0)) 0 d)

  each_length : (xs l : List ℕ) → length (each f l xs) ≡ length l
  each_length [] l = refl
  each_length (x ∷ xs) l = each_length xs (f l x) ∙ change_length l x

  each_there : (xs l : List ℕ) (j : ℕ) → ((x : ℕ) → j ≡ p x → ⊥) → get_or (each f l xs) j 0 ≡ get_or l j 0
  each_there [] l j d = refl
  each_there (x ∷ xs) l j d = each_there xs (f l x) j d ∙ change_there l x j (d x)

  each_at : ((x y : ℕ) → p x ≡ p y → x ≡ y) → (xs l : List ℕ) (v : ℕ) → p v < length l → get_or (each f l xs) (p v) 0 ≡ repeated h (times v xs) (get_or l (p v) 0)
  each_at i [] l v q = refl
  each_at i (x ∷ xs) l v q =
      let ih : get_or (each f (f l x) xs) (p v) 0 ≡ repeated h (times v xs) (get_or (f l x) (p v) 0) = each_at i xs (f l x) v (omega (arith, change_length l x)) in
      ⊎_elim
      (λ (e : x ≡ v).
      let n : one (eqb x v) + times v xs ≡ suc (times v xs) = omega (arith, ap one (eq-eqb x v e)) in
      rw n (ih ∙ ap (repeated h (times v xs)) (change_here l x v e q)))
      (λ (d : x ≡ v → ⊥).
      let n : one (eqb x v) + times v xs ≡ times v xs = omega (arith, ap one (ne_eqb x v d)) in
      rw n (ih ∙ ap (repeated h (times v xs)) (change_there l x (p v) (λ e. d (i x v (sym e))))))
      (same_or x v)

-- ---- ways that go

module _ (counts : List ℕ) (u : ℕ) where
  pub drop_length : length (drop_count counts u) ≡ length counts
  unfolding drop_count
  drop_length = change_length drop_count (λ x. x) (λ c. c - 1) (λ l x. refl) counts u

  pub drop_here : (v : ℕ) → u ≡ v → v < length counts → get_or (drop_count counts u) v 0 ≡ get_or counts v 0 - 1
  unfolding drop_count
  drop_here v e q = change_here drop_count (λ x. x) (λ c. c - 1) (λ l x. refl) counts u v e q

  pub drop_there : (v : ℕ) → (u ≡ v → ⊥) → get_or (drop_count counts u) v 0 ≡ get_or counts v 0
  unfolding drop_count
  drop_there v d = change_there drop_count (λ x. x) (λ c. c - 1) (λ l x. refl) counts u v (λ e. d (sym e))

module _ (us counts : List ℕ) where
  pub drops_length : length (drop_counts counts us) ≡ length counts
  unfolding drop_count
  drops_length = each_length drop_count (λ x. x) (λ c. c - 1) (λ l x. refl) us counts

  pub drops_count : (v : ℕ) → v < length counts → get_or (drop_counts counts us) v 0 ≡ get_or counts v 0 - times v us
  unfolding drop_count
  drops_count v q = each_at drop_count (λ x. x) (λ c. c - 1) (λ l x. refl) (λ x y e. e) us counts v q ∙ less_times (times v us) (get_or counts v 0)

-- ---- nodes that come

module _ (us counts : List ℕ) where
  pub adds_length : length (add_counts counts us) ≡ length counts
  adds_length = each_length (λ l u. set l u 1) (λ x. x) (λ c. 1) (λ l x. refl) us counts

pub adds_count : (us counts : List ℕ) (v : ℕ) → v < length counts → get_or (add_counts counts us) v 0 ≡ cond (has v us) 1 (get_or counts v 0)
adds_count [] counts v q = refl
adds_count (u ∷ us) counts v q =
    adds_count us (set counts u 1) v (omega (arith, length-set counts u 1))
    ∙ ⊎_elim
    (λ (e : u ≡ v). rw (eq-eqb u v e) (ap (cond (has v us) 1) (ap (λ (x : ℕ). get_or (set counts x 1) v 0) e ∙ get_or-set_same counts v 1 0 q) ∙ either (has v us)))
    (λ (d : u ≡ v → ⊥). rw (ne_eqb u v d) (ap (cond (has v us) 1) (get_or-set_other counts u v 1 0 (λ e. d (sym e)))))
    (same_or u v)
  where
    either : (b : Bool) → ◌≡◌ {A = ℕ} (cond b 1 1) 1
    either true = refl
    either false = refl

-- ---- neither touches a branch's count

-- each is a unit
abbrev pub Low : List ℕ → Type 0
Low [] = Unit {0}
Low (u ∷ us) = (u ≤ last_unit) × Low us

pub low_none : (us : List ℕ) (v : ℕ) → Low us → last_unit < v → has v us ≡ false
low_none [] v h q = refl
low_none (u ∷ us) v h q = rw (ne_eqb u v (λ e. omega (arith, h.0)), low_none us v h.1 q)

pub none_times : (v : ℕ) (l : List ℕ) → has v l ≡ false → times v l ≡ 0
none_times v [] e = refl
none_times v (x ∷ l) e = go (eqb x v) e (λ z. none_times v l z)
  where
    go : (b : Bool) → (b || has v l) ≡ false → (has v l ≡ false → times v l ≡ 0) → one b + times v l ≡ 0
    go true z ih = absurd (let y : ◌≡◌ {A = ℕ} 0 1 = cc in omega arith)
    go false z ih = omega (arith, ih z)

module _ (us counts : List ℕ) (b : ℕ) (low : Low us) (q : place_of b < length counts) where
  pub drops_places : get_or (drop_counts counts us) (place_of b) 0 ≡ get_or counts (place_of b) 0
  drops_places = omega (arith, drops_count us counts (place_of b) q, none_times (place_of b) us (low_none us (place_of b) low (omega arith)))

  pub adds_places : get_or (add_counts counts us) (place_of b) 0 ≡ get_or counts (place_of b) 0
  adds_places = adds_count us counts (place_of b) q ∙ rw (low_none us (place_of b) low (omega arith))

-- ---- places that come and places that go

module _ (bs counts : List ℕ) where
  pub add_places_length : length (add_places counts bs) ≡ length counts
  unfolding add_place
  add_places_length = each_length add_place place_of one_more (λ l x. refl) bs counts

  pub add_places_at : (b : ℕ) → place_of b < length counts → get_or counts (place_of b) 0 + times b bs ≤ most_count → get_or (add_places counts bs) (place_of b) 0 ≡ get_or counts (place_of b) 0 + times b bs
  unfolding add_place
  add_places_at b q m =
      each_at add_place place_of one_more (λ l x. refl) (λ x y e. omega arith) bs counts b q ∙ more_times (times b bs) (get_or counts (place_of b) 0) m

  pub add_places_ways : (v : ℕ) → v < 256 → get_or (add_places counts bs) v 0 ≡ get_or counts v 0
  unfolding add_place
  add_places_ways v q = each_there add_place place_of one_more (λ l x. refl) bs counts v (λ x e. omega arith)

  pub drop_places_length : length (drop_places counts bs) ≡ length counts
  unfolding drop_place
  drop_places_length = each_length drop_place place_of (λ c. c - 1) (λ l x. refl) bs counts

  pub drop_places_at : (b : ℕ) → place_of b < length counts → get_or (drop_places counts bs) (place_of b) 0 ≡ get_or counts (place_of b) 0 - times b bs
  unfolding drop_place
  drop_places_at b q =
      each_at drop_place place_of (λ c. c - 1) (λ l x. refl) (λ x y e. omega arith) bs counts b q ∙ less_times (times b bs) (get_or counts (place_of b) 0)

  pub drop_places_ways : (v : ℕ) → v < 256 → get_or (drop_places counts bs) v 0 ≡ get_or counts v 0
  unfolding drop_place
  drop_places_ways v q = each_there drop_place place_of (λ c. c - 1) (λ l x. refl) bs counts v (λ x e. omega arith)
