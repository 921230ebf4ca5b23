-- What the answers' numbers say, and that the empty store stands in zeros. Assumes nothing.
use mathlib.Core.Path.{◌≡◌, refl, sym}
use mathlib.Core.Bool.{false}
use Prim.Native.Nat.{ℕ, zero, suc, ◌≤◌}
use native.Mathlib.Omega.{arith}
use lib.ListN.{replicate}
use Rattle.units.specs.Refusals.{number_of}
use Rattle.rules.specs.Store.{empty_store, units, held_units, held}
use Rattle.path.specs.Standing.{tree_length}
use Rattle.path.proofs.Trees.{tree_empty}
use Rattle.tables.specs.Hold.{hold_length}
use Rattle.tables.proofs.Kept.{hold_empty}
use Rattle.held_map.specs.Map.{empty_map}
use Rattle.state.specs.Standing.{counts_length}
use Rattle.state.specs.Stands.{Arrays, Stands}
use Rattle.state.proofs.Counts.{counts_empty}
use Rattle.state.proofs.Maps.{map_empty, map_same}
use Rattle.step.specs.Answers.{refusal_of}

-- each line's number comes back from the refusal that the public `refusal_of` answers
pub number_back : (n : ℕ) → 1 ≤ n → n ≤ 12 → number_of (refusal_of n) ≡ n
number_back zero h q = absurd (omega arith)
number_back (suc zero) h q = refl
number_back (suc (suc zero)) h q = refl
number_back (suc (suc (suc zero))) h q = refl
number_back (suc (suc (suc (suc zero)))) h q = refl
number_back (suc (suc (suc (suc (suc zero))))) h q = refl
number_back (suc (suc (suc (suc (suc (suc zero)))))) h q = refl
number_back (suc (suc (suc (suc (suc (suc (suc zero))))))) h q = refl
number_back (suc (suc (suc (suc (suc (suc (suc (suc zero)))))))) h q = refl
number_back (suc (suc (suc (suc (suc (suc (suc (suc (suc zero))))))))) h q = refl
number_back (suc (suc (suc (suc (suc (suc (suc (suc (suc (suc zero)))))))))) h q = refl
number_back (suc (suc (suc (suc (suc (suc (suc (suc (suc (suc (suc zero))))))))))) h q = refl
number_back (suc (suc (suc (suc (suc (suc (suc (suc (suc (suc (suc (suc zero)))))))))))) h q = refl
number_back (suc (suc (suc (suc (suc (suc (suc (suc (suc (suc (suc (suc (suc n))))))))))))) h q = absurd (omega arith)

-- ---- the empty store stands in zeros

abbrev pub empty_arrays : Arrays
empty_arrays = record { tree = replicate tree_length 0; counts = replicate counts_length 0; hold = replicate hold_length 0; map = empty_map }

none_held : (u : ℕ) → held empty_store u ≡ false
unfolding held_units units
none_held u = refl

pub empty_stands : Stands empty_store empty_arrays
empty_stands =
    record {
      tree = tree_empty;
      counts = counts_empty;
      hold = hold_empty;
      map = map_same (λ u. false) (held empty_store) empty_map (λ u h. sym (none_held u)) map_empty;
    }
