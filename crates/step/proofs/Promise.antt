-- The ends of a step: turned down by its head or by a line of the table, or carried out. Assumes nothing.
use mathlib.Core.Path.{◌≡◌, refl, sym, ap, ◌∙◌, subst}
use mathlib.Core.Bool.{Bool}
use mathlib.Core.List.{List, [], ◌∷◌, ◌++◌}
use Prim.Native.Nat.{ℕ, zero, suc}
use native.Mathlib.Omega.{arith}
use lib.ListN.{length, get_or, drop}
use Rattle.std.specs.Prelude.{Result, Ok, Err}
use Rattle.units.specs.declared.Refusal.{Refusal}
use Rattle.units.specs.Refusals.{number_of}
use Rattle.units.proofs.Numbers.{refusal_positive}
use Rattle.rules.specs.Store.{Store, held, frees}
use Rattle.rules.specs.Steps.{Outcome, accepted, refused, Change, decide, step_in}
use Rattle.rules.specs.Right.{Right}
use Rattle.right.specs.Runs.{change_of}
use Rattle.right.proofs.Demands.{step_in_right}
use Rattle.held_map.specs.Map.{gone}
use Rattle.held_map.proofs.Frees.{Holds, gone_frees}
use Rattle.lines.specs.Lines.{first_of, numbered, head_of, refusal_number, number, tests_of, Agree}
use Rattle.lines.proofs.Lines.{head_pass, head_stop, agree_number, accepted_of, refused_of, line_positive}
use Rattle.state.specs.Standing.{MapIs}
use Rattle.state.specs.Stands.{Arrays, Stands}
use Rattle.step.specs.Promise.{Kept, Stepped}

-- ---- a refusal

turned_down_lem : (a : Arrays) (bytes freed : List ℕ) (why : Refusal)
    → ((s : Store) → Right s → Stands s a → step_in s (length freed) bytes ≡ refused (number_of why)) → Stepped a bytes freed a freed (Err why)
turned_down_lem a bytes freed why says =
    record {
      untouched = λ y e. (refl, refl);
      kept = λ s r st. subst (λ (o : Outcome). Kept s o a freed a freed (Err why)) (sym (says s r st)) (refl, (refl, refl));
    }

-- a refusal's number is the line's, and no acceptance
err_number : {A : Type 0} (r : Result A Refusal) (why : Refusal) (n : ℕ) → refusal_number r ≡ n → r ≡ Err why → (number_of why ≡ n) × (n ≡ 0 → ⊥)
err_number r why n e q =
    let z : number_of why ≡ n = ap refusal_number (sym q) ∙ e in
    (z, λ y. absurd (omega (arith, z, y, refusal_positive why)))

pub end_head : {A : Type 0} (a : Arrays) (bytes freed : List ℕ) (r : Result A Refusal) (why : Refusal)
    → refusal_number r ≡ head_of bytes (length freed) → r ≡ Err why → Stepped a bytes freed a freed (Err why)
end_head a bytes freed r why e q =
    let w = err_number r why (head_of bytes (length freed)) e q in
    turned_down_lem a bytes freed why (λ s x st. head_stop s (length freed) bytes w.1 ∙ ap refused (sym w.0))

-- ---- judged by the lines of its kind: what the tests of code must say where a right store stands

abbrev pub Judges : Arrays → ℕ → List ℕ → List Bool → Type 0
Judges a kind body tests = (s : Store) → Right s → Stands s a → Agree tests (tests_of s (change_of s kind body))

pub end_line : {A : Type 0} (a : Arrays) (bytes freed : List ℕ) (tests : List Bool) (r : Result A Refusal) (why : Refusal)
    → head_of bytes (length freed) ≡ 0 → Judges a (get_or bytes 0 0) (drop 1 bytes) tests
    → refusal_number r ≡ first_of (numbered 4 tests) → r ≡ Err why → Stepped a bytes freed a freed (Err why)
end_line a bytes freed tests r why h judges e q =
    let w = err_number r why (first_of (numbered 4 tests)) e q in
    turned_down_lem a bytes freed why
    (λ s x st.
    let c : Change = change_of s (get_or bytes 0 0) (drop 1 bytes) in
    let z : first_of (numbered 4 tests) ≡ number (decide s c) = agree_number s c tests (judges s x st) in
    head_pass s (length freed) bytes h ∙ refused_of (decide s c) (λ y. w.1 (z ∙ y)) ∙ ap refused (sym (w.0 ∙ z)))

-- ---- carried out: what the arrays must be where a right store stands

abbrev pub Applies : Arrays → ℕ → List ℕ → Arrays → Type 0
Applies a kind body a' = (s : Store) → Right s → Stands s a → (s' : Store) → decide s (change_of s kind body) ≡ accepted s' → Stands s' a'

marked : (s : Store) (m : List ℕ) → MapIs (held s) m → Holds m (held s)
marked s m i u p q = i.marks u (omega arith)

pub end_yes : (a : Arrays) (bytes freed : List ℕ) (tests : List Bool) (a' : Arrays) (freed' : List ℕ) (n : ℕ) → head_of bytes (length freed) ≡ 0
    → Judges a (get_or bytes 0 0) (drop 1 bytes) tests → 0 ≡ first_of (numbered 4 tests) → Applies a (get_or bytes 0 0) (drop 1 bytes) a'
    → freed' ≡ gone a.map a'.map ++ drop (length (gone a.map a'.map)) freed → n ≡ length (gone a.map a'.map)
    → Stepped a bytes freed a' freed' (Ok n)
end_yes a bytes freed tests a' freed' n h judges e applies ef en =
    record {
      untouched = λ why q. absurd (let z : ◌≡◌ {A = ℕ} 0 1 = cc in omega arith);
      kept = λ s r st.
          let c : Change = change_of s (get_or bytes 0 0) (drop 1 bytes) in
          let q : number (decide s c) ≡ 0 = sym (e ∙ agree_number s c tests (judges s r st)) in
          let w = accepted_of (decide s c) q (line_positive s c) in
          let o : step_in s (length freed) bytes ≡ accepted w.0 = head_pass s (length freed) bytes h ∙ w.1 in
          let st' : Stands w.0 a' = applies s r st w.0 w.1 in
          let g : gone a.map a'.map ≡ frees s w.0 = gone_frees a.map a'.map s w.0 (marked s a.map st.map) (marked w.0 a'.map st'.map) in
          subst (λ (x : Outcome). Kept s x a freed a' freed' (Ok n)) (sym o)
          (ap Ok (en ∙ ap length g), (step_in_right s r (length freed) bytes w.0 o, (st', ef ∙ ap (λ (l : List ℕ). l ++ drop (length l) freed) g)));
    }

-- ---- one law for ten kinds: what holds at each place of two lists holds at any

abbrev pub Pairs : {A B : Type 0} → (A → B → Type 0) → List A → List B → Type 0
Pairs P [] [] = Unit {0}
Pairs P [] (y ∷ ys) = ⊥
Pairs P (x ∷ xs) [] = ⊥
Pairs P (x ∷ xs) (y ∷ ys) = P x y × Pairs P xs ys

pub pick : {A B : Type 0} (P : A → B → Type 0) (xs : List A) (ys : List B) (x : A) (y : B) → P x y → Pairs P xs ys → (k : ℕ) → P (get_or xs k x) (get_or ys k y)
pick P [] [] x y p q k = p
pick P [] (z ∷ ys) x y p q k = absurd q
pick P (z ∷ xs) [] x y p q k = absurd q
pick P (z ∷ xs) (w ∷ ys) x y p q zero = q.0
pick P (z ∷ xs) (w ∷ ys) x y p q (suc k) = pick P xs ys x y p q.1 k
