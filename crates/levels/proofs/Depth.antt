-- The d-th level below a unit is empty just when no way of more than d nodes leads down from it. Assumes nothing.
use mathlib.Core.Path.{◌≡◌, refl, ap, ap₂, sym, ◌∙◌, subst}
use mathlib.Core.Bool.{Bool, true, false, ◌||◌, ◌&&◌, not, cond}
use mathlib.Core.Logic.{⊎_elim, ◌↔◌}
use mathlib.Core.List.{List, [], ◌∷◌, ◌++◌}
use Prim.Native.Nat.{ℕ, zero, suc, ◌+◌, ◌-◌, ◌≤◌, ◌<◌}
use native.Mathlib.Omega.{arith}
use lib.Dec.{T, eqb, eqb_refl}
use lib.ListN.{length}
use borrow.Author.Tests.{eq-eqb, ne_eqb, eqb-true}
use Rattle.ways.specs.Ways.{sums, one, deep, has, flat}
use Rattle.ways.specs.Levels.{some_of, below, level_set}
use Rattle.ways.proofs.Tests.{T→eq, eq→T, or_e, or_l, or_r, same_or}
use Rattle.ways.proofs.Levels.{deep_set}
use Rattle.ways.proofs.Members.{has_append, sums_none}
use Rattle.rules.specs.Tables.{sift, range}
use Rattle.records.specs.Rows.{AllBytes}
use Rattle.held_map.specs.Map.{Words, held_in, mark, empty_map, held_number}
use Rattle.held_map.proofs.Map.{mark_words, mark_length, held_mark, empty_words, empty_held}
use Rattle.held_map.proofs.Numbers.{number_is}
use Rattle.counting.specs.Graph.{children_in, child_small}
use Rattle.levels.specs.Sets.{byte_units, marks, below_in, level_in}

-- ---- every number below 256 stands among the units of a byte

in_range : (k n v : ℕ) → T (has v (range k n)) → (n ≤ v) × (v < n + k)
in_range zero n v t = absurd t
in_range (suc k) n v t =
    ⊎_elim
    (λ (q : T (eqb n v)). let e = eqb-true n v (T→eq (eqb n v) q) in (omega arith, omega arith))
    (λ (q : T (has v (range k (suc n)))). let r = in_range k (suc n) v q in (omega (arith, r.0), omega (arith, r.1)))
    (or_e (eqb n v) (has v (range k (suc n))) t)

range_in : (k n v : ℕ) → n ≤ v → v < n + k → T (has v (range k n))
range_in zero n v p q = absurd (omega arith)
range_in (suc k) n v p q =
    ⊎_elim
    (λ (e : n ≡ v). or_l (eqb n v) (has v (range k (suc n))) (eq→T (eqb n v) (eq-eqb n v e)))
    (λ (d : n ≡ v → ⊥). or_r (eqb n v) (has v (range k (suc n))) (range_in k (suc n) v (omega arith) (omega arith)))
    (same_or n v)

unit_small : (v : ℕ) → T (has v byte_units) → v < 256
unit_small v t = omega (arith, (in_range 256 0 v t).1)

small_unit : (v : ℕ) → v < 256 → T (has v byte_units)
small_unit v h = range_in 256 0 v (omega arith) (omega arith)

-- ---- what is held after a list of units is marked

marks_words : (us m : List ℕ) → Words m → Words (marks m us)
marks_words [] m w = w
marks_words (u ∷ us) m w = marks_words us (mark m u) (mark_words m u w)

or_last : (a b c : Bool) → (b || a) || c ≡ a || (b || c)
or_last true true c = refl
or_last true false c = refl
or_last false true c = refl
or_last false false c = refl

held_marks : (us m : List ℕ) (v : ℕ) → length m ≡ 4 → ((x : ℕ) → T (has x us) → x < 256) → held_in (marks m us) v ≡ (held_in m v || has v us)
held_marks [] m v four h = or_none (held_in m v)
  where
    or_none : (b : Bool) → b ≡ (b || false)
    or_none true = refl
    or_none false = refl
held_marks (u ∷ us) m v four h =
    held_marks us (mark m u) v (mark_length m u ∙ four) (λ x t. h x (or_r (eqb u x) (has x us) t))
    ∙ ap (λ (b : Bool). b || has v us) (held_mark m u v four (h u (or_l (eqb u u) (has u us) (eqb_refl u))))
    ∙ or_last (held_in m v) (eqb u v) (has v us)

-- ---- the level below, as a set

has_both : (x : ℕ) (a b : List ℕ) → has x (a ++ b) ≡ (has x a || has x b)
has_both x [] b = refl
has_both x (y ∷ a) b = ap (λ (c : Bool). eqb y x || c) (has_both x a b) ∙ or_assoc (eqb y x) (has x a) (has x b)
  where
    or_assoc : (a b c : Bool) → (a || (b || c)) ≡ ((a || b) || c)
    or_assoc true b c = refl
    or_assoc false b c = refl

sift_some : (children : ℕ → List ℕ) (f : ℕ → Bool) (v : ℕ) (us : List ℕ) → has v (flat children (sift f us)) ≡ some_of (λ w. f w && has v (children w)) us
sift_some children f v [] = refl
sift_some children f v (x ∷ xs) = go (f x) (sift_some children f v xs)
  where
    go : (b : Bool) → has v (flat children (sift f xs)) ≡ some_of (λ w. f w && has v (children w)) xs
        → has v (flat children (cond b (x ∷ sift f xs) (sift f xs))) ≡ ((b && has v (children x)) || some_of (λ w. f w && has v (children w)) xs)
    go true e = has_both v (children x) (flat children (sift f xs)) ∙ ap (λ (c : Bool). has v (children x) || c) e
    go false e = e

some_same : (f g : ℕ → Bool) (us : List ℕ) → ((v : ℕ) → T (has v us) → f v ≡ g v) → some_of f us ≡ some_of g us
some_same f g [] h = refl
some_same f g (x ∷ xs) h = ap₂ (λ (a b : Bool). a || b) (h x (or_l (eqb x x) (has x xs) (eqb_refl x))) (some_same f g xs (λ v t. h v (or_r (eqb x v) (has v xs) t)))

module _ (tree : List ℕ) (b : AllBytes tree) where
  closed : (v : ℕ) → T (has v byte_units) → (u : ℕ) → T (has u (children_in tree v)) → T (has u byte_units)
  closed v s u t = small_unit u (child_small tree v u b t)

  flat_small : (us : List ℕ) (x : ℕ) → T (has x (flat (children_in tree) us)) → x < 256
  flat_small [] x t = absurd t
  flat_small (u ∷ us) x t =
      ⊎_elim
      (λ (q : T (has x (children_in tree u))). child_small tree u x b q)
      (λ (q : T (has x (flat (children_in tree) us))). flat_small us x q)
      (has_append x (children_in tree u) (flat (children_in tree) us) t)

  -- what the level below holds, as code makes it
  pub below_held : (level m : List ℕ) (v : ℕ) → length m ≡ 4 → held_in (below_in tree level m) v ≡ (held_in m v || below (children_in tree) byte_units (held_in level) v)
  unfolding below_in below
  below_held level m v four =
      held_marks (flat (children_in tree) (sift (held_in level) byte_units)) m v four (flat_small (sift (held_in level) byte_units))
      ∙ ap (λ (c : Bool). held_in m v || c) (sift_some (children_in tree) (held_in level) v byte_units)

  pub below_words : (level m : List ℕ) → Words m → Words (below_in tree level m)
  unfolding below_in
  below_words level m w = marks_words (flat (children_in tree) (sift (held_in level) byte_units)) m w

  level_words : (d : ℕ) (m : List ℕ) → Words m → Words (level_in tree d m)
  unfolding level_in
  level_words zero m w = w
  level_words (suc d) m w = level_words d (below_in tree m empty_map) (below_words m empty_map empty_words)

  level_held : (d : ℕ) (m : List ℕ) (set : ℕ → Bool) → ((v : ℕ) → T (has v byte_units) → held_in m v ≡ set v)
      → (v : ℕ) → T (has v byte_units) → held_in (level_in tree d m) v ≡ level_set (children_in tree) byte_units d set v
  unfolding level_in level_set below
  level_held zero m set h v t = h v t
  level_held (suc d) m set h v t =
      level_held d (below_in tree m empty_map) (below (children_in tree) byte_units set)
      (λ x s.
      below_held m empty_map x refl
      ∙ ap (λ (c : Bool). c || below (children_in tree) byte_units (held_in m) x) (empty_held x)
      ∙ some_same (λ w. held_in m w && has x (children_in tree w)) (λ w. set w && has x (children_in tree w)) byte_units
      (λ w s'. ap (λ (c : Bool). c && has x (children_in tree w)) (h w s')))
      v t

  -- the number of units in the d-th level is 0 just when no way is longer
  none_held : (m us : List ℕ) → sums (λ u. one (held_in m u)) us ≡ 0 → (v : ℕ) → T (has v us) → held_in m v ≡ false
  none_held m [] e v t = absurd t
  none_held m (u ∷ us) e v t =
      ⊎_elim
      (λ (q : T (eqb u v)). ap (held_in m) (sym (eqb-true u v (T→eq (eqb u v) q))) ∙ zero_one (held_in m u) (omega arith))
      (λ (q : T (has v us)). none_held m us (omega arith) v q)
      (or_e (eqb u v) (has v us) t)
    where
      zero_one : (b : Bool) → one b ≡ 0 → b ≡ false
      zero_one true e = absurd (omega arith)
      zero_one false e = refl

  held_none : (m us : List ℕ) → ((v : ℕ) → T (has v us) → held_in m v ≡ false) → sums (λ u. one (held_in m u)) us ≡ 0
  held_none m us h = sums_none (λ u. one (held_in m u)) us (λ c t. ap one (h c t))

  pub level_number : (d u : ℕ) → u < 256 → (held_number (level_in tree d (mark empty_map u)) ≡ 0) ↔ (deep (children_in tree) d u ≡ 0)
  level_number d u p =
      let m = level_in tree d (mark empty_map u) in
      let start : (v : ℕ) → T (has v byte_units) → held_in (mark empty_map u) v ≡ has v (u ∷ []) = λ v t. held_mark empty_map u v refl p ∙ ap (λ (c : Bool). eqb u v || c) (empty_held v) in
      let same = level_held d (mark empty_map u) (λ v. has v (u ∷ [])) start in
      let number = number_is m (level_words d (mark empty_map u) (mark_words empty_map u empty_words)) in
      let law = deep_set (children_in tree) byte_units closed d (u ∷ []) (λ v. has v (u ∷ [])) (λ v t. small_unit v (only v t)) (λ v. refl) in (
        λ e. sum_one (law.1 (λ v t. sym (same v t) ∙ none_held m byte_units (sym number ∙ e) v t)),
        λ e. number ∙ held_none m byte_units (λ v t. same v t ∙ law.0 (one_sum e) v t),
      )
    where
      only : (v : ℕ) → T (has v (u ∷ [])) → v < 256
      only v t = ⊎_elim (λ (q : T (eqb u v)). subst (λ (y : ℕ). y < 256) (eqb-true u v (T→eq (eqb u v) q)) p) (λ (q : T false). absurd q) (or_e (eqb u v) false t)

      sum_one : deep (children_in tree) d u + 0 ≡ 0 → deep (children_in tree) d u ≡ 0
      sum_one e = omega arith

      one_sum : deep (children_in tree) d u ≡ 0 → deep (children_in tree) d u + 0 ≡ 0
      one_sum e = omega arith

  -- ---- the loop over the levels: what is left, done from here, gives what was asked

  pub level_end : (d u i : ℕ) (level : List ℕ) (n : ℕ) → u < 256 → d ≤ i → level_in tree (d - i) level ≡ level_in tree d (mark empty_map u) → n ≡ held_number level
      → not (eqb n 0) ≡ not (eqb (deep (children_in tree) d u) 0)
  unfolding level_in
  level_end d u i level n p q left e =
      let z : d - i ≡ 0 = omega arith in
      let same : level ≡ level_in tree d (mark empty_map u) = ap (λ (k : ℕ). level_in tree k level) (sym z) ∙ left in
      let law = level_number d u p in
      ap not (same_zero n (deep (children_in tree) d u) (λ f. law.0 (sym (ap held_number same) ∙ sym e ∙ f)) (λ f. e ∙ ap held_number same ∙ law.1 f))
    where
      same_zero : (a b : ℕ) → (a ≡ 0 → b ≡ 0) → (b ≡ 0 → a ≡ 0) → eqb a 0 ≡ eqb b 0
      same_zero a b f g =
          ⊎_elim
          (λ (e : a ≡ 0). eq-eqb a 0 e ∙ sym (eq-eqb b 0 (f e)))
          (λ (d : a ≡ 0 → ⊥). ne_eqb a 0 d ∙ sym (ne_eqb b 0 (λ e. d (g e))))
          (same_or a 0)

pub level_turn : (tree level below : List ℕ) (d i : ℕ) (end : List ℕ) → i < d → below ≡ below_in tree level empty_map → level_in tree (d - i) level ≡ end
    → level_in tree (d - (i + 1)) below ≡ end
unfolding level_in
level_turn tree level below d i end p e left =
    let q : d - i ≡ suc (d - (i + 1)) = omega arith in
    rw e (ap (λ (k : ℕ). level_in tree k level) (sym q) ∙ left)
