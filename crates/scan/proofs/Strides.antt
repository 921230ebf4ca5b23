-- Where the records of a kind are counted to the last that there may be.
use Rattle.std.proofs.Common.{◌≡◌, ℕ, ◌+◌, ◌*◌, ◌≤◌, List, length, get_or, sym, ap, ◌∙◌, arith}
use Rattle.std.proofs.Math.ListN.{get_or-eq_default}
use Rattle.images.specs.Passes.{run_of}
use Rattle.images.proofs.Passes.{RunLoop, run_end}
use Rattle.images.proofs.Laying.{other}

-- after as many records as there are bytes `at` is past the last byte, where no record stands
pub no_more : (b : List ℕ) (p k n at i : ℕ) → 1 ≤ k → 1 ≤ n → RunLoop b p k n at i → i ≡ length b
    → (length b ≡ run_of k n (length b) b p) × (p + n * length b ≤ length b + 255)
no_more b p k n at i told some l e =
    let far : length b ≤ at = omega (arith, l.slow) in
    let z : get_or b at 0 ≡ 0 = get_or-eq_default b 0 far in
    let r : i ≡ run_of k n (length b) b p = run_end b p k n at i l (other (get_or b at 0) k (λ q. omega arith)) in
    (sym e ∙ r, omega (arith, l.near, l.place, ap (λ (x : ℕ). n * x) e))
