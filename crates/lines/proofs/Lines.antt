-- The tests behind `head` and `first_line`, and what the numbers say of the rules. Assumes nothing.
use mathlib.Core.Path.{◌≡◌, refl, sym, ap, ap₂, ◌∙◌}
use mathlib.Core.Bool.{Bool, true, false, ◌&&◌}
use mathlib.Core.List.{List, [], ◌∷◌}
use Prim.Native.Nat.{ℕ, suc, ◌≤◌, ◌<◌}
use native.Mathlib.Omega.{arith}
use lib.Dec.{eqb, leb}
use lib.ListN.{length, get_or, drop}
use borrow.Author.Tests.{le-leb, lt-leb, eq-eqb, ne_eqb}
use Rattle.units.specs.declared.Kind.{Kind}
use Rattle.units.specs.declared.Refusal.{Refusal}
use Rattle.units.specs.declared.Refusal.TheVariants.{BadPlace, UnfitSlot, NoSuchChild, OutOfRange, NotTheInput, TooMany, TooDeep, NotFresh, CountTooHigh}
use Rattle.units.specs.Refusals.{number_of}
use Rattle.units.specs.Kinds.{number_of_kind}
use Rattle.units.proofs.Numbers.{kind_numbered}
use Rattle.units.specs.Limits.{last_unit, last_kind}
use Rattle.units.specs.Bodies.{body_length}
use Rattle.rules.specs.Tables.{all}
use Rattle.rules.specs.Store.{Store}
use Rattle.rules.specs.Steps.{Outcome, accepted, refused, Change, need, next, small, fresh, fit, extended, decide, step, step_in}
use Rattle.right.specs.Runs.{lines_of, change_of}
use Rattle.lines.specs.Lines.{unless, first_of, numbered, head_of, number, tests_of, Agree}

-- ---- the first test that fails

-- the number of the first line whose test fails
abbrev pub first_left : List Bool → List Refusal → ℕ
first_left [] rs = 0
first_left (b ∷ bs) [] = 0
first_left (b ∷ bs) (r ∷ rs) = unless b (number_of r) (first_left bs rs)

pub end_tests : (bs : List Bool) (rs : List Refusal) → length bs ≡ 0 → first_left bs rs ≡ 0
end_tests [] rs e = refl
end_tests (b ∷ bs) rs e = absurd (omega arith)

pub end_lines : (bs : List Bool) (rs : List Refusal) → length rs ≡ 0 → first_left bs rs ≡ 0
end_lines [] rs e = refl
end_lines (b ∷ bs) [] e = refl
end_lines (b ∷ bs) (r ∷ rs) e = absurd (omega arith)

abbrev From : ℕ → List Refusal → Type 0
From n [] = Unit {0}
From n (r ∷ rs) = (number_of r ≡ n) × From (suc n) rs

left_numbered : (n : ℕ) (bs : List Bool) (rs : List Refusal) → From n rs → length bs ≤ length rs → first_left bs rs ≡ first_of (numbered n bs)
unfolding first_of
left_numbered n [] rs f h = refl
left_numbered n (b ∷ bs) [] f h = absurd (omega arith)
left_numbered n (b ∷ bs) (r ∷ rs) f h = ap₂ (unless b) f.0 (left_numbered (suc n) bs rs f.1 (omega arith))

-- the lines 4 to 12
abbrev pub lines : List Refusal
lines = BadPlace ∷ UnfitSlot ∷ NoSuchChild ∷ OutOfRange ∷ NotTheInput ∷ TooMany ∷ TooDeep ∷ NotFresh ∷ CountTooHigh ∷ []

pub all_left : (bs : List Bool) → length bs ≤ 9 → first_left bs lines ≡ first_of (numbered 4 bs)
all_left bs h = left_numbered 4 bs lines (refl, (refl, (refl, (refl, (refl, (refl, (refl, (refl, (refl, tt))))))))) h

-- ---- lines 1 to 3

module _ (room : ℕ) where
  pub head_short : (l : List ℕ) → room < last_unit → 1 ≡ head_of l room
  unfolding head_of
  head_short [] h = rw (lt-leb last_unit room h)
  head_short (k ∷ b) h = rw (lt-leb last_unit room h)

  module _ (long : last_unit ≤ room) where
    pub head_none : (l : List ℕ) → length l ≡ 0 → 2 ≡ head_of l room
    unfolding head_of
    head_none [] e = rw (le-leb last_unit room long)
    head_none (k ∷ b) e = absurd (omega arith)

    pub head_unknown : (l : List ℕ) → (leb 1 (get_or l 0 0) && leb (get_or l 0 0) last_kind) ≡ false → 2 ≡ head_of l room
    unfolding head_of
    head_unknown [] e = rw (le-leb last_unit room long)
    head_unknown (k ∷ b) e = rw (le-leb last_unit room long, e)

    module _ (kind : Kind) (b : List ℕ) where
      pub head_wrong : (l : List ℕ) → l ≡ number_of_kind kind ∷ b → (length b ≡ body_length (number_of_kind kind) → ⊥) → 3 ≡ head_of l room
      unfolding head_of
      head_wrong l e n = rw (e, le-leb last_unit room long, kind_numbered kind, ne_eqb (length b) (body_length (number_of_kind kind)) n)

      pub head_right : (l : List ℕ) → l ≡ number_of_kind kind ∷ b → length b ≡ body_length (number_of_kind kind) → 0 ≡ head_of l room
      unfolding head_of
      head_right l e h = rw (e, le-leb last_unit room long, kind_numbered kind, eq-eqb (length b) (body_length (number_of_kind kind)) h)

pub ruleset head_laws = (head_short, head_none, head_unknown, head_wrong, head_right)

-- ---- the numbers and the rules

pub need_number : (b : Bool) (n : ℕ) (o : Outcome) → number (need b n o) ≡ unless b n (number o)
need_number true n o = refl
need_number false n o = refl

pub decide_number : (s : Store) (c : Change) → number (decide s c) ≡ first_of (lines_of s c)
unfolding decide first_of
decide_number s c =
    need_number c.shape 4 _ ∙ ap (unless c.shape 4)
    (need_number c.slot 5 _ ∙ ap (unless c.slot 5)
    (need_number c.path 6 _ ∙ ap (unless c.path 6)
    (need_number c.range 7 _ ∙ ap (unless c.range 7)
    (need_number c.input 8 _ ∙ ap (unless c.input 8)
    (need_number (all small c.adds) 9 _ ∙ ap (unless (all small c.adds) 9)
    (need_number c.low 10 _ ∙ ap (unless c.low 10)
    (need_number (fresh s c.proposed) 11 _ ∙ ap (unless (fresh s c.proposed) 11)
    (need_number (fit (extended s c)) 12 (accepted (next s c))))))))))

-- a record whose head is right is judged by its lines
pub head_pass : (s : Store) (n : ℕ) (l : List ℕ) → head_of l n ≡ 0 → step_in s n l ≡ decide s (change_of s (get_or l 0 0) (drop 1 l))
unfolding head_of step
head_pass s n [] e = go (leb last_unit n) e
  where
    go : (b : Bool) → unless b 1 2 ≡ 0 → need b 1 (refused 2) ≡ decide s (change_of s 0 [])
    go true z = absurd (omega arith)
    go false z = absurd (omega arith)
head_pass s n (k ∷ b) e = go (leb last_unit n) (leb 1 k && leb k last_kind) (eqb (length b) (body_length k)) e
  where
    o : Outcome
    o = decide s (change_of s k b)

    go : (x y z : Bool) → unless x 1 (unless y 2 (unless z 3 0)) ≡ 0 → need x 1 (need y 2 (need z 3 (decide s (change_of s k b)))) ≡ decide s (change_of s k b)
    go true true true w = refl
    go true true false w = absurd (omega arith)
    go true false z w = absurd (omega arith)
    go false y z w = absurd (omega arith)

-- and one whose head is not is refused by its number
pub head_stop : (s : Store) (n : ℕ) (l : List ℕ) → (head_of l n ≡ 0 → ⊥) → step_in s n l ≡ refused (head_of l n)
unfolding head_of step
head_stop s n [] h = go (leb last_unit n)
  where
    go : (b : Bool) → need b 1 (refused 2) ≡ refused (unless b 1 2)
    go true = refl
    go false = refl
head_stop s n (k ∷ b) h = go (leb last_unit n) (leb 1 k && leb k last_kind) (eqb (length b) (body_length k)) h
  where
    go : (x y z : Bool) → (unless x 1 (unless y 2 (unless z 3 0)) ≡ 0 → ⊥)
        → need x 1 (need y 2 (need z 3 (decide s (change_of s k b)))) ≡ refused (unless x 1 (unless y 2 (unless z 3 0)))
    go true true true w = absurd (w refl)
    go true true false w = refl
    go true false z w = refl
    go false y z w = refl

pub agree_first : (n : ℕ) (xs ys : List Bool) → Agree xs ys → first_of (numbered n xs) ≡ first_of (numbered n ys)
unfolding first_of
agree_first n [] [] a = refl
agree_first n [] (y ∷ ys) a = absurd a
agree_first n (x ∷ xs) [] a = absurd a
agree_first n (x ∷ xs) (y ∷ ys) a =
    ap (λ (b : Bool). unless b n (first_of (numbered (suc n) xs))) a.0 ∙ go y refl (λ e. agree_first (suc n) xs ys (a.1 e))
  where
    go : (b : Bool) → y ≡ b → (y ≡ true → first_of (numbered (suc n) xs) ≡ first_of (numbered (suc n) ys)) → unless b n (first_of (numbered (suc n) xs)) ≡ unless b n (first_of (numbered (suc n) ys))
    go true e more = more e
    go false e more = refl

-- code whose tests agree with the rules' answers the rules' number
pub agree_number : (s : Store) (c : Change) (tests : List Bool) → Agree tests (tests_of s c) → first_of (numbered 4 tests) ≡ number (decide s c)
agree_number s c tests a = agree_first 4 tests (tests_of s c) a ∙ sym (decide_number s c)

pub accepted_of : (o : Outcome) → number o ≡ 0 → ((n : ℕ) → o ≡ refused n → 1 ≤ n) → (s' : Store) × (o ≡ accepted s')
accepted_of (accepted s') e h = (s', refl)
accepted_of (refused n) e h = absurd (omega (arith, h n refl))

pub refused_of : (o : Outcome) → (number o ≡ 0 → ⊥) → o ≡ refused (number o)
refused_of (accepted s') h = absurd (h refl)
refused_of (refused n) h = refl

-- no line has the number 0
pub line_positive : (s : Store) (c : Change) (n : ℕ) → decide s c ≡ refused n → 1 ≤ n
unfolding decide
line_positive s c n e = go c.shape c.slot c.path c.range c.input (all small c.adds) c.low (fresh s c.proposed) (fit (extended s c)) e
  where
    val : (m : ℕ) → 1 ≤ m → refused m ≡ refused n → 1 ≤ n
    val m h q = let z : m ≡ n = cc in omega arith

    go : (b4 b5 b6 b7 b8 b9 b10 b11 b12 : Bool)
        → need b4 4 (need b5 5 (need b6 6 (need b7 7 (need b8 8 (need b9 9 (need b10 10 (need b11 11 (need b12 12 (accepted (next s c))))))))))
        ≡ refused n → 1 ≤ n
    go false b5 b6 b7 b8 b9 b10 b11 b12 q = val 4 (omega arith) q
    go true false b6 b7 b8 b9 b10 b11 b12 q = val 5 (omega arith) q
    go true true false b7 b8 b9 b10 b11 b12 q = val 6 (omega arith) q
    go true true true false b8 b9 b10 b11 b12 q = val 7 (omega arith) q
    go true true true true false b9 b10 b11 b12 q = val 8 (omega arith) q
    go true true true true true false b10 b11 b12 q = val 9 (omega arith) q
    go true true true true true true false b11 b12 q = val 10 (omega arith) q
    go true true true true true true true false b12 q = val 11 (omega arith) q
    go true true true true true true true true false q = val 12 (omega arith) q
    go true true true true true true true true true q = absurd (let z : ◌≡◌ {A = ℕ} 0 1 = cc in omega arith)
