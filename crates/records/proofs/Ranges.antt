-- What `a..b` and `a..=b` of the code give, one number after another, as a list of the rules. Assumes nothing.
use Rattle.std.proofs.Common.{◌≡◌, ℕ, zero, suc, ◌+◌, ◌-◌, Bool, true, false, None, Some, List, ◌∷◌, length, map, refl, ap, ◌∙◌, subst, add-one, arith}
use Rattle.std.specs.declared.ops.Range.{Range}
use Rattle.std.specs.declared.ops.RangeInclusive.{RangeInclusive}
use Rattle.std.specs.List.{range_with_len}
use Rattle.std.specs.Range.{range_inclusive_start, range_inclusive_end, range_inclusive_exhausted, range_inclusive_len, range_inclusive_left}
use Rattle.std.proofs.iter.Yields.{nat_range_steps}
use Rattle.std.proofs.iter.runs.Sources.{nat_range_inclusive_steps}
use Rattle.std.proofs.lemmas.Iterator.{YieldsList, YieldsList-from_range}
use Rattle.std.proofs.lemmas.Iterator.Consumers.{YieldsList-from_shown}
use Rattle.rules.specs.Tables.{range}

-- ---- `a..b`

-- the library's list of a range is the rules'
range_same : (n a : ℕ) → range_with_len a n ≡ range n a
range_same zero a = refl
range_same (suc n) a = ap (λ (l : List ℕ). a ∷ l) (rw add-one (range_same n (suc a)))

pub range_gives : {s : Range ℕ} (a b : ℕ) → s ≡ record { start = a; end = b } → YieldsList nat_range_steps (λ x. x) s (range (b - a) a)
range_gives {s} a b e = subst (YieldsList nat_range_steps (λ x. x) s) (range_same (b - a) a) (YieldsList-from_range a b (b - a) e refl)

-- numbers from one on, as those from `a` on with one added
pub map_up : {A : Type 0} (f : ℕ → A) (n a : ℕ) → map (λ k. f (k + 1)) (range n a) ≡ map f (range n (suc a))
map_up f zero a = refl
map_up {A} f (suc n) a = rw add-one (ap (λ (l : List A). f (suc a) ∷ l) (map_up f n (suc a)))

-- ---- `a..=b`

-- how many numbers are left
abbrev left : RangeInclusive ℕ → ℕ
left s = range_inclusive_left (λ x y. y - x) s

-- those that are left
abbrev shown : RangeInclusive ℕ → List ℕ
shown s = range (left s) (range_inclusive_start s)

none_left : (s t : RangeInclusive ℕ) → nat_range_inclusive_steps s None t → length (shown s) ≡ 0
none_left s t h = ap (λ (n : ℕ). length (range n (range_inclusive_start s))) h.1.0

one_comes : (s : RangeInclusive ℕ) (x : ℕ) (t : RangeInclusive ℕ) → nat_range_inclusive_steps s (Some x) t → shown s ≡ x ∷ shown t
one_comes s x t h =
    let e : left s ≡ suc (left t) = omega (arith, h.1.1) in
    rw (e, h.1.0) (ap (λ (l : List ℕ). range_inclusive_start s ∷ l) (go (range_inclusive_exhausted t) refl))
  where
    go : (b : Bool) → range_inclusive_exhausted t ≡ b → range (left t) (suc (range_inclusive_start s)) ≡ shown t
    go true e = let q : left t ≡ 0 = ap (range_inclusive_len (λ x y. y - x) (range_inclusive_start t) (range_inclusive_end t)) e in rw q refl
    go false e = let q : range_inclusive_start t ≡ suc (range_inclusive_start s) = omega (arith, h.1.2 e) in rw q refl

pub inclusive_gives : {s : RangeInclusive ℕ} (a b : ℕ) → range_inclusive_start s ≡ a → range_inclusive_end s ≡ b → range_inclusive_exhausted s ≡ false
    → YieldsList nat_range_inclusive_steps (λ x. x) s (range (b + 1 - a) a)
inclusive_gives {s} a b p q z =
    let e : left s ≡ b + 1 - a = omega (arith, ap (range_inclusive_len (λ x y. y - x) (range_inclusive_start s) (range_inclusive_end s)) z) in
    let f : shown s ≡ range (b + 1 - a) a = ap (λ (m : ℕ). range m (range_inclusive_start s)) e ∙ ap (range (b + 1 - a)) p in
    subst (λ (l : List ℕ). YieldsList nat_range_inclusive_steps (λ x. x) s l) f (YieldsList-from_shown nat_range_inclusive_steps (λ x. x) shown none_left one_comes s)
