-- Laws of step for loops and answers that src/ no longer has. Assumes nothing.
use mathlib.Core.Path.{◌≡◌, refl}
use Prim.Native.Nat.{ℕ, zero, suc}
use Rattle.units.specs.declared.Refusal.TheVariants.{CountTooHigh}
use Rattle.step.specs.Answers.{refusal_of}

-- a number that is none of the lines 1 to 11
pub other : (n : ℕ) → (n ≡ 1 → ⊥) → (n ≡ 2 → ⊥) → (n ≡ 3 → ⊥) → (n ≡ 4 → ⊥) → (n ≡ 5 → ⊥) → (n ≡ 6 → ⊥) → (n ≡ 7 → ⊥) → (n ≡ 8 → ⊥) → (n ≡ 9 → ⊥) → (n ≡ 10 → ⊥) → (n ≡ 11 → ⊥) → CountTooHigh ≡ refusal_of n
other zero h1 h2 h3 h4 h5 h6 h7 h8 h9 h10 h11 = refl
other (suc zero) h1 h2 h3 h4 h5 h6 h7 h8 h9 h10 h11 = absurd (h1 refl)
other (suc (suc zero)) h1 h2 h3 h4 h5 h6 h7 h8 h9 h10 h11 = absurd (h2 refl)
other (suc (suc (suc zero))) h1 h2 h3 h4 h5 h6 h7 h8 h9 h10 h11 = absurd (h3 refl)
other (suc (suc (suc (suc zero)))) h1 h2 h3 h4 h5 h6 h7 h8 h9 h10 h11 = absurd (h4 refl)
other (suc (suc (suc (suc (suc zero))))) h1 h2 h3 h4 h5 h6 h7 h8 h9 h10 h11 = absurd (h5 refl)
other (suc (suc (suc (suc (suc (suc zero)))))) h1 h2 h3 h4 h5 h6 h7 h8 h9 h10 h11 = absurd (h6 refl)
other (suc (suc (suc (suc (suc (suc (suc zero))))))) h1 h2 h3 h4 h5 h6 h7 h8 h9 h10 h11 = absurd (h7 refl)
other (suc (suc (suc (suc (suc (suc (suc (suc zero)))))))) h1 h2 h3 h4 h5 h6 h7 h8 h9 h10 h11 = absurd (h8 refl)
other (suc (suc (suc (suc (suc (suc (suc (suc (suc zero))))))))) h1 h2 h3 h4 h5 h6 h7 h8 h9 h10 h11 = absurd (h9 refl)
other (suc (suc (suc (suc (suc (suc (suc (suc (suc (suc zero)))))))))) h1 h2 h3 h4 h5 h6 h7 h8 h9 h10 h11 = absurd (h10 refl)
other (suc (suc (suc (suc (suc (suc (suc (suc (suc (suc (suc zero))))))))))) h1 h2 h3 h4 h5 h6 h7 h8 h9 h10 h11 = absurd (h11 refl)
other (suc (suc (suc (suc (suc (suc (suc (suc (suc (suc (suc (suc n)))))))))))) h1 h2 h3 h4 h5 h6 h7 h8 h9 h10 h11 = refl
