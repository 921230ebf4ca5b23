-- The laws of eight places: what a list and its eight places share, and what replacing and mapping come to on them. Two lists are alike
-- when they differ at most by zeros at the end. Assumes nothing.
use mathlib.Core.Bool.{Bool, true, false, cond}
use mathlib.Core.Path.{◌≡◌, refl, ap, sym, ◌∙◌}
use mathlib.Core.List.{List, [], ◌∷◌, ◌++◌, map, append-nil}
use Prim.Native.Nat.{ℕ, zero, suc, ◌+◌, ◌-◌, ◌≤◌, ◌<◌}
use native.Mathlib.Omega.{arith}
use native.Mathlib.Numerals.{add-one}
use lib.Dec.{ltb}
use lib.ListN.{length, get_or, set, take, drop, replicate, length-append, length-drop, length-map, get_or-eq_default, get_or-map, drop_of_length-le}
use lib.Seq.{get_or-drop, length-take-le, take-append-le, take-length, set_split}
use borrow.Author.Tests.{ltb-false, le-leb}
use Rattle.std.proofs.lemmas.Grind.{same_number_lists}
use Rattle.records.specs.Rows.{eight}
use Rattle.rules.specs.Steps.{moved}
use Rattle.counting.specs.Places.{up_to}
use Rattle.eights.specs.Eights.{replaced, number_after}

-- ---- alike

abbrev pub Alike : List ℕ → List ℕ → Type 0
Alike x y = (j : ℕ) → get_or x j 0 ≡ get_or y j 0

pub alike_eight : (x y : List ℕ) → Alike x y → eight x ≡ eight y
alike_eight x y h = rw (h 0, h 1, h 2, h 3, h 4, h 5, h 6, h 7)

-- eight places of a list that fits
pub eight_alike : (l : List ℕ) → length l ≤ 8 → Alike (eight l) l
eight_alike l h zero = refl
eight_alike l h (suc zero) = refl
eight_alike l h (suc (suc zero)) = refl
eight_alike l h (suc (suc (suc zero))) = refl
eight_alike l h (suc (suc (suc (suc zero)))) = refl
eight_alike l h (suc (suc (suc (suc (suc zero))))) = refl
eight_alike l h (suc (suc (suc (suc (suc (suc zero)))))) = refl
eight_alike l h (suc (suc (suc (suc (suc (suc (suc zero))))))) = refl
eight_alike l h (suc (suc (suc (suc (suc (suc (suc (suc j)))))))) = sym (get_or-eq_default l 0 (omega arith))

alike_behind : (x y z : List ℕ) → Alike y z → Alike (x ++ y) (x ++ z)
alike_behind [] y z h j = h j
alike_behind (a ∷ x) y z h zero = refl
alike_behind (a ∷ x) y z h (suc j) = alike_behind x y z h j

alike_drop : (k : ℕ) (x y : List ℕ) → Alike x y → Alike (drop k x) (drop k y)
alike_drop k x y h j = get_or-drop k x j 0 ∙ h (k + j) ∙ sym (get_or-drop k y j 0)

-- what goes before the zeros is the list
pub eight_take : (l : List ℕ) (n : ℕ) → length l ≤ 8 → n ≤ length l → take n (eight l) ≡ take n l
eight_take l n h p = rw (padded l h) (take-append-le n l (replicate (8 - length l) 0) p)
  where
    padded : (l : List ℕ) → length l ≤ 8 → eight l ≡ l ++ replicate (8 - length l) 0
    padded [] h = refl
    padded (a ∷ []) h = refl
    padded (a ∷ b ∷ []) h = refl
    padded (a ∷ b ∷ c ∷ []) h = refl
    padded (a ∷ b ∷ c ∷ d ∷ []) h = refl
    padded (a ∷ b ∷ c ∷ d ∷ e ∷ []) h = refl
    padded (a ∷ b ∷ c ∷ d ∷ e ∷ f ∷ []) h = refl
    padded (a ∷ b ∷ c ∷ d ∷ e ∷ f ∷ g ∷ []) h = refl
    padded (a ∷ b ∷ c ∷ d ∷ e ∷ f ∷ g ∷ i ∷ []) h = refl
    padded (a ∷ b ∷ c ∷ d ∷ e ∷ f ∷ g ∷ i ∷ k ∷ l) h = absurd (omega arith)

pub eight_all : (l : List ℕ) → length l ≤ 8 → take (length l) (eight l) ≡ l
eight_all l h = eight_take l (length l) h (omega arith) ∙ take-length l

-- ---- replacing and mapping

pub replaced_eight : (l : List ℕ) (at gone : ℕ) (come : List ℕ) → length l ≤ 8 → at ≤ length l → eight (replaced (eight l) at gone come) ≡ eight (replaced l at gone come)
replaced_eight l at gone come h p =
    alike_eight (replaced (eight l) at gone come) (replaced l at gone come)
    (rw (eight_take l at h p)
    (alike_behind (take at l) (come ++ drop (at + gone) (eight l)) (come ++ drop (at + gone) l)
    (alike_behind come (drop (at + gone) (eight l)) (drop (at + gone) l) (alike_drop (at + gone) (eight l) l (eight_alike l h)))))

map_place : (f : ℕ → ℕ) (l : List ℕ) (j : ℕ) → f 0 ≡ 0 → get_or (map f l) j 0 ≡ f (get_or l j 0)
map_place f l j z = ap (λ (d : ℕ). get_or (map f l) j d) (sym z) ∙ get_or-map f l j 0

-- eight numbers, each what f makes of the one at its place
pub mapped : (f : ℕ → ℕ) (l r : List ℕ) → f 0 ≡ 0 → length l ≡ 8 → length r ≡ 8 → ((j : ℕ) → j < 8 → get_or r j 0 ≡ f (get_or l j 0)) → r ≡ eight (map f l)
mapped f l r z p q h =
    same_number_lists r (eight (map f l)) q
    (λ j k. h j (omega arith) ∙ sym (eight_alike (map f l) (rw length-map (omega arith)) j ∙ map_place f l j z))

pub map_eight : (f : ℕ → ℕ) (l : List ℕ) → f 0 ≡ 0 → length l ≤ 8 → eight (map f (eight l)) ≡ eight (map f l)
map_eight f l z h = alike_eight (map f (eight l)) (map f l) (λ j. map_place f (eight l) j z ∙ ap f (eight_alike l h j) ∙ sym (map_place f l j z))

pub moved_none : (start end : ℕ) → moved start end 0 ≡ 0
moved_none start end =
    let h : 0 ≤ start = omega arith in
    rw (le-leb 0 start h)

pub replaced_length : (l : List ℕ) (at gone : ℕ) (come : List ℕ) → at ≤ length l → length (replaced l at gone come) ≡ at + length come + (length l - (at + gone))
replaced_length l at gone come p =
    rw (length-append, length-append, length-drop, length-take-le at l p) (omega arith)

pub up_to_fits : (n : ℕ) → n ≤ 8 → up_to n ≡ n
unfolding up_to
up_to_fits n h = go (ltb n 8) refl
  where
    go : (b : Bool) → ltb n 8 ≡ b → cond b n 8 ≡ n
    go true q = refl
    go false q = omega (arith, ltb-false n 8 q)

pub number_replaced : (l : List ℕ) (at gone : ℕ) (come : List ℕ) → at ≤ length l → length (replaced l at gone come) ≤ 8 → number_after (length l) at gone (length come) ≡ length (replaced l at gone come)
number_replaced l at gone come p h =
    let e : length (replaced l at gone come) ≡ at + length come + (length l - (at + gone)) = replaced_length l at gone come p in
    rw (← e) (up_to_fits (length (replaced l at gone come)) h)

-- ---- the list that the rules name

pub replaced_last : (l come : List ℕ) → replaced l (length l) 0 come ≡ l ++ come
replaced_last l come =
    let e : drop (length l + 0) l ≡ [] = drop_of_length-le l {i = length l + 0} (omega arith) in
    rw (e, take-length l, append-nil come)

pub replaced_front : (l : List ℕ) (at : ℕ) → replaced l at (length l) [] ≡ take at l
replaced_front l at =
    let e : drop (at + length l) l ≡ [] = drop_of_length-le l {i = at + length l} (omega arith) in
    rw e (append-nil (take at l))

pub replaced_back : (l : List ℕ) (gone : ℕ) → replaced l 0 gone [] ≡ drop gone l
replaced_back l gone =
    let e : 0 + gone ≡ gone = omega arith in
    rw e

-- a list that comes before eight zeros
pub poured_eight : (come : List ℕ) → eight (replaced (replicate 8 0) 0 0 come) ≡ eight come
poured_eight come = alike_eight (come ++ replicate 8 0) come (λ j. alike_behind come (replicate 8 0) [] (eight_alike [] (omega arith)) j ∙ ap (λ (l : List ℕ). get_or l j 0) (append-nil come))

pub replaced_set : (l : List ℕ) (at v : ℕ) → at < length l → replaced l at 1 (v ∷ []) ≡ set l at v
replaced_set l at v h = rw add-one (sym (set_split l at v h))
