-- Laws of query for loops and answers that src/ no longer has. Assumes nothing.
use mathlib.Core.Bool.{Bool, true, false, cond}
use mathlib.Core.Path.{◌≡◌, refl, ap, sym, ◌∙◌}
use Prim.Native.Nat.{ℕ, suc, ◌+◌, ◌-◌, ◌≤◌, ◌<◌}
use native.Mathlib.Omega.{arith}
use Rattle.rules.specs.Tables.{range}
use Rattle.earlier.specs.QueryOwners.{first_or}

-- n numbers from `start` on, of which k are passed
abbrev pub left : ℕ → (ℕ → Bool) → ℕ → ℕ → ℕ → ℕ
left d f n start k = first_or d f (range (n - k) (k + start))

left_turn : (d : ℕ) (f : ℕ → Bool) (n start k : ℕ) → k < n → left d f n start k ≡ cond (f (k + start)) (k + start) (left d f n start (k + 1))
left_turn d f n start k p =
    let e : n - k ≡ suc (n - (k + 1)) = omega arith in
    let q : k + 1 + start ≡ suc (k + start) = omega arith in
    rw (e, q) refl

module _ (d : ℕ) (f : ℕ → Bool) (n start k r : ℕ) (h : left d f n start k ≡ r) where
  pub first_hit : k < n → f (k + start) ≡ true → k + start ≡ r
  first_hit p e = sym (ap (λ (b : Bool). cond b (k + start) (left d f n start (k + 1))) e) ∙ sym (left_turn d f n start k p) ∙ h

  pub first_miss : k < n → f (k + start) ≡ false → left d f n start (k + 1) ≡ r
  first_miss p e = sym (ap (λ (b : Bool). cond b (k + start) (left d f n start (k + 1))) e) ∙ sym (left_turn d f n start k p) ∙ h

  pub first_none : n ≤ k → d ≡ r
  first_none p =
      let e : n - k ≡ 0 = omega arith in
      ap (λ (m : ℕ). first_or d f (range m (k + start))) (sym e) ∙ h
