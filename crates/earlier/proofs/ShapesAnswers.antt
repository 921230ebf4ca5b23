-- Laws of shapes for loops and answers that src/ no longer has. Assumes nothing.
use mathlib.Core.Bool.{Bool, ◌&&◌}
use mathlib.Core.Path.{◌≡◌, sym, ◌∙◌}
use mathlib.Core.List.{List, [], ◌∷◌}
use Prim.Native.Nat.{ℕ, ◌-◌}
use lib.Dec.{leb}
use lib.ListN.{take}
use borrow.Author.Tests.{eq-eqb}
use Rattle.rules.specs.Tables.{all, eqs}
use Rattle.records.specs.Rows.{eight}
use Rattle.counting.specs.declared.Node.{Node}
use Rattle.eights.specs.Eights.{replaced}
use Rattle.shapes.specs.Questions.{gc_fits, part_is}

pub gc_answer : (n : Node) (c gc : ℕ) (come os : List ℕ) (t : Bool) → come ≡ eight (n.buffer_number ∷ []) → os ≡ eight (replaced n.offsets c 1 (take 1 come)) → t ≡ all (λ o. leb gc o) (take n.child_number os) → t && leb gc n.buffer_number ≡ gc_fits n c gc
unfolding gc_fits
gc_answer n c gc come os t e f g = rw (g, f, e)

pub part_answer : (n : Node) (start end number : ℕ) (input come part : List ℕ) (gone : ℕ) (t : Bool) → come ≡ eight [] → part ≡ eight (replaced n.buffers 0 start (take 0 come)) → gone ≡ end - start → gone ≡ number → t ≡ eqs (take number part) (take number input) → t ≡ part_is n start end number input
unfolding part_is
part_answer n start end number input come part gone t e f g h w =
    let q : end - start ≡ number = sym g ∙ h in
    rw (eq-eqb (end - start) number q, ← f) w
