-- Laws of quiet for loops and answers that src/ no longer has. Assumes nothing.
use mathlib.Core.Bool.{Bool, true, false}
use mathlib.Core.Path.{◌≡◌, refl, ap, sym, ◌∙◌}
use mathlib.Core.List.{List, []}
use Prim.Native.Nat.{ℕ, zero, suc, ◌-◌, ◌≤◌, ◌<◌}
use native.Mathlib.Omega.{arith}
use lib.Dec.{ltb}
use lib.ListN.{length, get_or, take, drop, length-take, length-drop, get_or-eq_default}
use lib.Seq.{length-take-le}
use borrow.Author.Tests.{ltb-true, ltb-false}
use Rattle.std.proofs.lemmas.List.{get_or-take}
use Rattle.units.specs.Limits.{room}
use Rattle.units.specs.Bodies.{indexes}
use Rattle.rules.specs.Tables.{slice}
use Rattle.records.specs.Rows.{eight}
use Rattle.counting.specs.declared.Node.{Node}
use Rattle.eights.specs.Eights.{replaced}
use Rattle.eights.proofs.Places.{replaced_front, replaced_back}
use Rattle.quiet.specs.Inputs.{part_of}

-- the used part of a body's indexes is within them
pub used_fits : (body : List ℕ) (k : ℕ) → length body ≡ 11 → k ≤ indexes → k ≡ length (take k (slice 2 indexes body))
used_fits body k h q = sym (length-take-le k (slice 2 indexes body) (omega (arith, length-take indexes (drop 2 body), length-drop 2 body)))

-- the first k of eight places, in eight places again
eight_taken : (l : List ℕ) (k : ℕ) → eight (take k (eight l)) ≡ eight (take k l)
eight_taken l k =
    let p : (j : ℕ) → j < 8 → get_or (take k (eight l)) j 0 ≡ get_or (take k l) j 0 = taken in
    rw (p 0 (omega arith), p 1 (omega arith), p 2 (omega arith), p 3 (omega arith), p 4 (omega arith), p 5 (omega arith), p 6 (omega arith), p 7 (omega arith))
  where
    place : (j : ℕ) → j < 8 → get_or (eight l) j 0 ≡ get_or l j 0
    place zero h = refl
    place (suc zero) h = refl
    place (suc (suc zero)) h = refl
    place (suc (suc (suc zero))) h = refl
    place (suc (suc (suc (suc zero)))) h = refl
    place (suc (suc (suc (suc (suc zero))))) h = refl
    place (suc (suc (suc (suc (suc (suc zero)))))) h = refl
    place (suc (suc (suc (suc (suc (suc (suc zero))))))) h = refl
    place (suc (suc (suc (suc (suc (suc (suc (suc j)))))))) h = absurd (omega arith)

    taken : (j : ℕ) → j < 8 → get_or (take k (eight l)) j 0 ≡ get_or (take k l) j 0
    taken j h = go (ltb j k) refl
      where
        go : (b : Bool) → ltb j k ≡ b → get_or (take k (eight l)) j 0 ≡ get_or (take k l) j 0
        go true q = get_or-take k (eight l) j 0 (ltb-true j k q) ∙ place j h ∙ sym (get_or-take k l j 0 (ltb-true j k q))
        go false q =
            get_or-eq_default (take k (eight l)) 0 (omega (arith, ltb-false j k q, length-take k (eight l)))
            ∙ sym (get_or-eq_default (take k l) 0 (omega (arith, ltb-false j k q, length-take k l)))

-- what the code makes of a node's buffers
pub part_made : (n : Node) (start end number : ℕ) (later roots : List ℕ) → later ≡ eight (replaced n.buffers 0 start []) → number ≡ end - start
    → roots ≡ eight (replaced later number room []) → record { number = number; roots = roots } ≡ part_of n start end
unfolding part_of
part_made n start end number later roots el en er = rw (er, en, el) (ap (λ (l : List ℕ). record { number = end - start; roots = l }) same)
  where
    same : eight (replaced (eight (replaced n.buffers 0 start [])) (end - start) room []) ≡ eight (slice start (end - start) n.buffers)
    same =
        ap eight (replaced_front (eight (replaced n.buffers 0 start [])) (end - start)) ∙ eight_taken (replaced n.buffers 0 start []) (end - start)
        ∙ ap (λ (l : List ℕ). eight (take (end - start) l)) (replaced_back n.buffers start)
