-- Laws of eights for loops and answers that src/ no longer has. Assumes nothing.
use mathlib.Core.Path.{◌≡◌, refl, ap, sym, ◌∙◌}
use mathlib.Core.List.{List, [], ◌∷◌, ◌++◌, map}
use Prim.Native.Nat.{ℕ, zero, suc, ◌+◌, ◌-◌, ◌≤◌, ◌<◌}
use native.Mathlib.Omega.{arith}
use lib.ListN.{length, get_or, take, drop, get_or-map}
use lib.Seq.{get_or-drop, get_or-append-add, length-take-le}
use Rattle.records.specs.Rows.{eight}
use Rattle.eights.specs.Eights.{replaced}

map_place : (f : ℕ → ℕ) (l : List ℕ) (j : ℕ) → f 0 ≡ 0 → get_or (map f l) j 0 ≡ f (get_or l j 0)
map_place f l j z = ap (λ (d : ℕ). get_or (map f l) j d) (sym z) ∙ get_or-map f l j 0

-- place by place
pub map_places : (f : ℕ → ℕ) (l : List ℕ) → f 0 ≡ 0 → eight (map f l) ≡ f (get_or l 0 0) ∷ f (get_or l 1 0) ∷ f (get_or l 2 0) ∷ f (get_or l 3 0) ∷ f (get_or l 4 0) ∷ f (get_or l 5 0) ∷ f (get_or l 6 0) ∷ f (get_or l 7 0) ∷ []
map_places f l z =
    let p : (j : ℕ) → get_or (map f l) j 0 ≡ f (get_or l j 0) = λ j. map_place f l j z in
    rw (p 0, p 1, p 2, p 3, p 4, p 5, p 6, p 7)

-- ---- a place of it

before : (xs t : List ℕ) (at j : ℕ) → j < at → j < length xs → get_or (take at xs ++ t) j 0 ≡ get_or xs j 0
before [] t at j p q = absurd (omega arith)
before (x ∷ xs) t zero j p q = absurd (omega arith)
before (x ∷ xs) t (suc at) zero p q = refl
before (x ∷ xs) t (suc at) (suc j) p q = before xs t at j (omega arith) (omega arith)

behind : (xs t : List ℕ) (at j : ℕ) → at ≤ j → at ≤ length xs → get_or (take at xs ++ t) j 0 ≡ get_or t (j - at) 0
behind xs t at j p q =
    let e : j ≡ length (take at xs) + (j - at) = omega (arith, length-take-le at xs q) in
    ap (λ (k : ℕ). get_or (take at xs ++ t) k 0) e ∙ get_or-append-add (take at xs) t (j - at) 0

module _ (xs : List ℕ) (at gone : ℕ) (come : List ℕ) (number j : ℕ) (full : length xs ≡ 8) (full' : length come ≡ 8) (low : j < 8) where
  pub place_before : j < at → get_or (replaced xs at gone (take number come)) j 0 ≡ get_or xs j 0
  place_before p = before xs (take number come ++ drop (at + gone) xs) at j p (omega arith)

  pub place_within : at ≤ j → j < at + number → get_or (replaced xs at gone (take number come)) j 0 ≡ get_or come (j - at) 0
  place_within p q =
      behind xs (take number come ++ drop (at + gone) xs) at j p (omega arith)
      ∙ before come (drop (at + gone) xs) number (j - at) (omega arith) (omega arith)

  pub place_behind : at ≤ j → at + number ≤ j → get_or (replaced xs at gone (take number come)) j 0 ≡ get_or xs (j - (at + number) + at + gone) 0
  place_behind p q =
      let e : at + gone + (j - at - number) ≡ j - (at + number) + at + gone = omega arith in
      behind xs (take number come ++ drop (at + gone) xs) at j p (omega arith)
      ∙ behind come (drop (at + gone) xs) number (j - at) (omega arith) (omega arith)
      ∙ get_or-drop (at + gone) xs (j - at - number) 0
      ∙ ap (λ (k : ℕ). get_or xs k 0) e
