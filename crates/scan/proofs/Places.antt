-- The eight places of a list within a record: what is read of them is a part of the image.
use Rattle.std.proofs.Common.{◌≡◌, ℕ, ◌+◌, ◌-◌, ◌≤◌, Bool, ◌&&◌, List, [], ◌∷◌, eqb, take, drop, refl, sym, ap, ◌∙◌, arith}
use Rattle.std.proofs.Math.Seq.{take-take, drop-drop}
use Rattle.std.proofs.lemmas.List.{drop-take}
use Rattle.std.specs.List.{list_all, slice_range}
use Rattle.rules.specs.Tables.{all, slice}
use Rattle.images.specs.Passes.{used_at, blanked_at}
use Rattle.images.proofs.Passes.{padded_few}

-- std's word for the test, and the rules'
all_of : (f : ℕ → Bool) (l : List ℕ) → list_all f l ≡ all f l
all_of f [] = refl
all_of f (x ∷ xs) = ap (λ t. f x && t) (all_of f xs)

-- the places from n on
pub unused : (p n : ℕ) (b : List ℕ) → n ≤ 8 → list_all (λ x. eqb x 0) (slice_range b (p + n) (p + 8)) ≡ blanked_at p n b
unused p n b few =
    let left : (p + 8) - (p + n) ≡ 8 - n = omega arith in
    let whole : n + (8 - n) ≡ 8 = omega arith in
    let part : slice_range b (p + n) (p + 8) ≡ drop n (slice p 8 b) =
    ap (λ k. take k (drop (p + n) b)) left ∙ ap (take (8 - n)) (sym (drop-drop n p b)) ∙ sym (drop-take n (8 - n) (drop p b)) ∙ ap (λ k. drop n (take k (drop p b))) whole in
    all_of (λ x. eqb x 0) (slice_range b (p + n) (p + 8)) ∙ ap (all (λ x. eqb x 0)) part ∙ sym (padded_few p n b few)

-- the places before n
pub used : (f : ℕ → Bool) (p n : ℕ) (b : List ℕ) → n ≤ 8 → list_all f (slice_range b p (p + n)) ≡ all f (used_at p n b)
used f p n b few =
    let left : (p + n) - p ≡ n = omega arith in
    let part : slice_range b p (p + n) ≡ used_at p n b = ap (λ k. take k (drop p b)) left ∙ sym (take-take n 8 (drop p b) few) in
    all_of f (slice_range b p (p + n)) ∙ ap (all f) part
