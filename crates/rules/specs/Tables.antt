-- Lists, tests of lists, and tables, which are functions from a unit to a record or nothing. Nothing of stores.
-- Assumes nothing.
use Rattle.std.specs.Prelude.{ℕ, zero, suc, Bool, true, false, ◌&&◌, not, cond, List, [], ◌∷◌, ◌++◌, eqb, leb, take, drop}
use Rattle.std.proofs.Math.Option.{Option, none, some}
use Rattle.ways.specs.Ways.{sums, has, is}

-- ---- lists

module _ {A : Type 0} where
  abbrev pub all : (A → Bool) → List A → Bool
  all f [] = true
  all f (x ∷ xs) = f x && all f xs

  -- the lists that the members stand for, one after another
  abbrev pub joined : (A → List ℕ) → List A → List ℕ
  joined f [] = []
  joined f (x ∷ xs) = f x ++ joined f xs

-- the members that pass, in their order
abbrev pub sift : (ℕ → Bool) → List ℕ → List ℕ
sift f [] = []
sift f (x ∷ xs) = let r = sift f xs in cond (f x) (x ∷ r) r

abbrev pub eqs : List ℕ → List ℕ → Bool
eqs [] [] = true
eqs [] (y ∷ ys) = false
eqs (x ∷ xs) [] = false
eqs (x ∷ xs) (y ∷ ys) = eqb x y && eqs xs ys

-- n, n + 1, .. k of them
abbrev pub range : ℕ → ℕ → List ℕ
range zero n = []
range (suc k) n = n ∷ range k (suc n)

-- the places of x in the list
abbrev pub times : ℕ → List ℕ → ℕ
times x l = sums (is x) l

-- no number stands twice
abbrev pub distinct : List ℕ → Bool
distinct [] = true
distinct (x ∷ xs) = not (has x xs) && distinct xs

-- strictly rising, from lo on
abbrev pub rising : ℕ → List ℕ → Bool
rising lo [] = true
rising lo (k ∷ ks) = leb lo k && rising (suc k) ks

abbrev pub zeros : List ℕ → Bool
zeros l = all (λ x. eqb x 0) l

-- n numbers from place a on
abbrev pub slice : ℕ → ℕ → List ℕ → List ℕ
slice a n l = take n (drop a l)

-- ---- tables

module _ {A : Type 0} where
  abbrev pub is_some : Option A → Bool
  is_some none = false
  is_some (some a) = true

  abbrev pub or_else : A → Option A → A
  or_else z none = z
  or_else z (some a) = a

  -- an entry comes
  abbrev pub put : (ℕ → Option A) → ℕ × A → ℕ → Option A
  put t e v = let r = t v in cond (eqb v e.0) (some e.1) r

  abbrev pub puts : (ℕ → Option A) → List (ℕ × A) → ℕ → Option A
  puts t [] = t
  puts t (e ∷ es) = puts (put t e) es

  -- the entries that pass stay
  abbrev pub keep : (ℕ → Bool) → (ℕ → Option A) → ℕ → Option A
  keep f t v = let r = t v in cond (f v) r none

  abbrev pub keys : List (ℕ × A) → List ℕ
  keys [] = []
  keys (e ∷ es) = e.0 ∷ keys es

  -- the first entry of a unit
  abbrev pub find : List (ℕ × A) → ℕ → Option A
  find [] v = none
  find (e ∷ es) v = let r = find es v in cond (eqb v e.0) (some e.1) r
