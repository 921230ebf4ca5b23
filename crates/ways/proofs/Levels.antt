-- Ways by their length: a way of d + 1 nodes leads down just when the d-th level below is not empty, as a list or as a set of units.
-- Assumes nothing.
use mathlib.Core.Path.{◌≡◌, refl, sym, ap, ◌∙◌, subst}
use mathlib.Core.Bool.{Bool, false, ◌&&◌}
use mathlib.Core.Logic.{⊎_elim, ◌↔◌}
use mathlib.Core.List.{List, [], ◌∷◌}
use Prim.Native.Nat.{ℕ, zero, suc, ◌+◌}
use native.Mathlib.Omega.{arith}
use lib.Dec.{T, eqb, eqb_refl, eqb→eq}
use lib.ListN.{length}
use Rattle.ways.specs.Ways.{sums, walk, deep, has, flat}
use Rattle.ways.specs.Levels.{levels, some_of, below, level_set}
use Rattle.ways.proofs.Frame.{sums_cong, sums_flat}
use Rattle.ways.proofs.Tests.{eq→not, and_l, and_r, and_i, or_e, or_l, or_r, iff_eq}
use Rattle.ways.proofs.Members.{has_append, has_left, has_right}

ones : (l : List ℕ) → sums (λ u. 1) l ≡ length l
ones [] = refl
ones (x ∷ xs) = omega (arith, ones xs)

pub deep_levels : (children : ℕ → List ℕ) (d : ℕ) (l : List ℕ) → sums (deep children d) l ≡ length (levels children d l)
unfolding walk levels
deep_levels children zero l = ones l
deep_levels children (suc d) l =
    sums_cong (λ u. sums (deep children d) (children u)) (λ u. 0 + sums (deep children d) (children u)) (λ u. omega arith) l
    ∙ sym (sums_flat (deep children d) children l)
    ∙ deep_levels children d (flat children l)

flat_has : (children : ℕ → List ℕ) (u : ℕ) (l : List ℕ) → T (has u (flat children l)) → (v : ℕ) × T (has v l) × T (has u (children v))
flat_has children u [] t = absurd t
flat_has children u (x ∷ xs) t =
    ⊎_elim
    (λ (q : T (has u (children x))). (x, or_l (eqb x x) (has x xs) (eqb_refl x), q))
    (λ (q : T (has u (flat children xs))). let r = flat_has children u xs q in (r.0, or_r (eqb x r.0) (has r.0 xs) r.1, r.2))
    (has_append u (children x) (flat children xs) t)

pub some_has : (f : ℕ → Bool) (l : List ℕ) → T (some_of f l) → (v : ℕ) × T (has v l) × T (f v)
some_has f [] t = absurd t
some_has f (x ∷ xs) t =
    ⊎_elim
    (λ (q : T (f x)). (x, or_l (eqb x x) (has x xs) (eqb_refl x), q))
    (λ (q : T (some_of f xs)). let r = some_has f xs q in (r.0, or_r (eqb x r.0) (has r.0 xs) r.1, r.2))
    (or_e (f x) (some_of f xs) t)

pub has_some : (f : ℕ → Bool) (l : List ℕ) (v : ℕ) → T (has v l) → T (f v) → T (some_of f l)
has_some f [] v t h = absurd t
has_some f (x ∷ xs) v t h =
    ⊎_elim
    (λ (q : T (eqb x v)). or_l (f x) (some_of f xs) (subst (λ (k : ℕ). T (f k)) (sym (eqb→eq x v q)) h))
    (λ (q : T (has v xs)). or_r (f x) (some_of f xs) (has_some f xs v q h))
    (or_e (eqb x v) (has v xs) t)

module _ (children : ℕ → List ℕ) (us : List ℕ) (closed : (v : ℕ) → T (has v us) → (u : ℕ) → T (has u (children v)) → T (has u us)) where
  below_in_lem : (l : List ℕ) → ((u : ℕ) → T (has u l) → T (has u us)) → (u : ℕ) → T (has u (flat children l)) → T (has u us)
  below_in_lem l sub u t = let r = flat_has children u l t in closed r.0 (sub r.0 r.1) u r.2

  levels_in : (d : ℕ) (l : List ℕ) → ((u : ℕ) → T (has u l) → T (has u us)) → (u : ℕ) → T (has u (levels children d l)) → T (has u us)
  unfolding levels
  levels_in zero l sub u t = sub u t
  levels_in (suc d) l sub u t = levels_in d (flat children l) (below_in_lem l sub) u t

  pub level_set_lem : (d : ℕ) (l : List ℕ) (set : ℕ → Bool) → ((u : ℕ) → T (has u l) → T (has u us)) → ((u : ℕ) → has u l ≡ set u)
      → (u : ℕ) → has u (levels children d l) ≡ level_set children us d set u
  unfolding levels level_set below
  level_set_lem zero l set sub same u = same u
  level_set_lem (suc d) l set sub same u =
      level_set_lem d (flat children l) (below children us set) (below_in_lem l sub)
      (λ x. iff_eq (has x (flat children l)) (some_of (λ v. set v && has x (children v)) us)
      (λ t.
      let r = flat_has children x l t in
      has_some (λ v. set v && has x (children v)) us r.0 (sub r.0 r.1) (and_i (set r.0) (has x (children r.0)) (subst (λ (c : Bool). T c) (same r.0) r.1) r.2))
      (λ t.
      let r = some_has (λ v. set v && has x (children v)) us t in
      into x l r.0 (subst (λ (c : Bool). T c) (sym (same r.0)) (and_l (set r.0) (has x (children r.0)) r.2)) (and_r (set r.0) (has x (children r.0)) r.2)))
      u
    where
      into : (x : ℕ) (l : List ℕ) (v : ℕ) → T (has v l) → T (has x (children v)) → T (has x (flat children l))
      into x [] v t h = absurd t
      into x (y ∷ ys) v t h =
          ⊎_elim
          (λ (q : T (eqb y v)). has_left x (children y) (flat children ys) (subst (λ (k : ℕ). T (has x (children k))) (sym (eqb→eq y v q)) h))
          (λ (q : T (has v ys)). has_right x (children y) (flat children ys) (into x ys v q h))
          (or_e (eqb y v) (has v ys) t)

  -- no way of more than d nodes: the d-th set is empty
  pub deep_set : (d : ℕ) (l : List ℕ) (set : ℕ → Bool) → ((u : ℕ) → T (has u l) → T (has u us)) → ((u : ℕ) → has u l ≡ set u)
      → (sums (deep children d) l ≡ 0) ↔ ((u : ℕ) → T (has u us) → level_set children us d set u ≡ false)
  deep_set d l set sub same = (
    λ e u t. sym (level_set_lem d l set sub same u) ∙ ap (has u) (nil (levels children d l) (sym (deep_levels children d l) ∙ e)),
    λ h. deep_levels children d l ∙ none_in (levels children d l) (λ u t. eq→not (has u (levels children d l)) (level_set_lem d l set sub same u ∙ h u (levels_in d l sub u t)) t),
  )
    where
      nil : (l : List ℕ) → length l ≡ 0 → l ≡ []
      nil [] e = refl
      nil (x ∷ xs) e = absurd (omega arith)

      none_in : (l : List ℕ) → ((u : ℕ) → T (has u l) → ⊥) → length l ≡ 0
      none_in [] h = refl
      none_in (x ∷ xs) h = absurd (h x (or_l (eqb x x) (has x xs) (eqb_refl x)))
