-- Laws of scan for a chain that src/ no longer has: every n-th byte from p on, as a chain of iterators reads it; those of kind k at the front are the run.
use Rattle.std.proofs.Common.{◌≡◌, ℕ, zero, suc, ◌+◌, ◌*◌, ◌-◌, ◌<◌, ◌≤◌, Bool, true, List, length, get_or, take, drop, Bor, Option, Some, None, IfSome, MatchOption, sym, ap, ◌∙◌, subst, arith}
use Rattle.std.proofs.Math.ListN.{get_or-eq_default, length-drop}
use Rattle.std.proofs.Math.Seq.{get_or-drop, take-length}
use Rattle.std.proofs.Math.Nat.{mul-le-mul_left}
use Rattle.std.specs.List.{HoldsAt}
use Rattle.std.specs.Option.{option_map}
use Rattle.images.specs.Passes.{run_of}
use Rattle.images.proofs.Passes.{RunLoop, run_start, run_turn, run_end}
use Rattle.images.proofs.Laying.{eqb_yes, other}
use Rattle.scan.specs.Sections.{RecordLaws}

module _ (b : List ℕ) (p k n : ℕ) {o : ℕ} (laws : RecordLaws k n o) (inside : p ≤ length b) where
  -- the run's loop after m records
  passed : (m : ℕ) → ((j : ℕ) → j < m → get_or b (p + n * j) 0 ≡ k) → RunLoop b p k n (p + n * m) m
  passed zero each = let e : p ≡ p + n * 0 = omega arith in subst (λ (x : ℕ). RunLoop b p k n x 0) e (run_start b p k n inside)
  passed (suc m) each =
      let e : p + n * m + n ≡ p + n * suc m = omega arith in
      let s : m + 1 ≡ suc m = omega arith in
      let l : RunLoop b p k n (p + n * m) m = passed m (λ j h. each j (omega arith)) in
      let t = run_turn b p k n (p + n * m) m laws.told laws.some laws.small l (eqb_yes (get_or b (p + n * m) 0) k (each m (omega arith))) in
      subst (λ (y : ℕ). RunLoop b p k n (p + n * suc m) y) s (subst (λ (x : ℕ). RunLoop b p k n x (m + 1)) e t)

  counted : (m : ℕ) → ((j : ℕ) → j < m → get_or b (p + n * j) 0 ≡ k) → (get_or b (p + n * m) 0 ≡ k → ⊥) → (m ≡ run_of k n (length b) b p) × (p + n * m ≤ length b + 255)
  counted m each none =
      let l = passed m each in
      (run_end b p k n (p + n * m) m l (other (get_or b (p + n * m) 0) k none), omega (arith, l.near))

  -- ss are the items of the image behind p, qs every n-th of them, us those of qs that pass
  module _ (rest : List ℕ) (left : rest ≡ take (length b - p) (drop p b)) (us qs ss : ℕ → Option (Bor ℕ)) (lu lq ls : ℕ) (wq ws : Bool) (Y N : Bor ℕ → Type 0)
      (yes : (x : Bor ℕ) → Y x → x.now ≡ k) (no : (x : Bor ℕ) → N x → x.now ≡ k → ⊥)
      (fewer : lu ≤ lq) (same : (j : ℕ) → j < lu → qs j ≡ us j) (pass : (j : ℕ) → IfSome (us j) Y) (stop : MatchOption (qs lu) ((wq ≡ true) × (lq ≡ lu)) N)
      (whole : ws ≡ wq) (short : ls ≤ lq * n) (long : lq * n < ls + n) (strides : (j : ℕ) → qs j ≡ ss (j * n))
      (all_read : ws ≡ true → ls ≡ length rest) (reads : (j d : ℕ) → j < ls → option_map (λ x. x.now) (ss j) ≡ Some (get_or rest j d))
      (shown : (j : ℕ) → IfSome (ss j) (λ x. HoldsAt (λ y. x.now ≡ y) rest j)) where
    here : (j : ℕ) → get_or rest (j * n) 0 ≡ get_or b (p + n * j) 0
    here j = let e : p + j * n ≡ p + n * j = omega arith in ap (λ l. get_or l (j * n) 0) (left ∙ ap (λ m. take m (drop p b)) (sym (length-drop p b)) ∙ take-length (drop p b)) ∙ get_or-drop p b (j * n) 0 ∙ ap (λ x. get_or b x 0) e

    each : (j : ℕ) → j < lu → get_or b (p + n * j) 0 ≡ k
    each j h =
        let at : j * n < ls = let more : suc j ≤ lq = omega arith in omega (arith, mul-le-mul_left n more) in
        sym (here j) ∙ is (us j) (get_or rest (j * n) 0) (ap (option_map (λ x. x.now)) (sym (same j h) ∙ strides j) ∙ reads (j * n) 0 at) (pass j)
      where
        is : (o : Option (Bor ℕ)) (v : ℕ) → option_map (λ x. x.now) o ≡ Some v → IfSome o Y → v ≡ k
        is None v e y = cc
        is (Some x) v e y = let z = yes x y in cc

    none : get_or b (p + n * lu) 0 ≡ k → ⊥
    none e = go (qs lu) (strides lu) stop
      where
        go : (o : Option (Bor ℕ)) → o ≡ ss (lu * n) → MatchOption o ((wq ≡ true) × (lq ≡ lu)) N → ⊥
        go None q m =
            let l : 1 ≤ k = laws.told in
            let r : ls ≡ length rest = all_read (whole ∙ m.0) in
            let f : length rest ≤ lu * n = omega (arith, ap (λ x. x * n) m.1) in
            let z : get_or rest (lu * n) 0 ≡ 0 = get_or-eq_default rest 0 f in
            omega (arith, here lu)
        go (Some x) q m = no x m (subst (λ (o : Option (Bor ℕ)). IfSome o (λ y. HoldsAt (λ v. y.now ≡ v) rest (lu * n))) (sym q) (shown (lu * n)) 0 ∙ here lu ∙ e)

    pub strode : (lu ≡ run_of k n (length b) b p) × (p + n * lu ≤ length b + 255)
    strode = counted lu each none
