-- Laws of writer for loops and answers that src/ no longer has: pouring is pasting. Assumes nothing.
use mathlib.Core.Path.{◌≡◌, ap, sym, ◌∙◌}
use mathlib.Core.List.{List, ◌++◌, append_assoc}
use Prim.Native.Nat.{ℕ, zero, suc, ◌+◌, ◌≤◌}
use native.Mathlib.Omega.{arith}
use lib.ListN.{length, get_or, set, take, drop, length-append}
use lib.Seq.{paste, paste-zero, paste-suc, take-paste, drop-paste, take-length, drop-drop}
use Rattle.records.specs.Rows.{poured, poured_to}

to_paste : (l : List ℕ) (at : ℕ) (r : List ℕ) (n : ℕ) → at + n ≤ length l → n ≤ length r → poured_to l at r n ≡ paste l at r n
unfolding poured_to
to_paste l at r zero h q = paste-zero l at r
to_paste l at r (suc n) h q =
    ap (λ (x : List ℕ). set x (at + n) (get_or r n 0)) (to_paste l at r n (omega arith) (omega arith))
    ∙ paste-suc l at r n 0 (omega arith) (omega arith)

poured_paste : (l : List ℕ) (at : ℕ) (r : List ℕ) → at + length r ≤ length l → poured l at r ≡ paste l at r (length r)
unfolding poured
poured_paste l at r h = to_paste l at r (length r) h (omega arith)

paste_two : (d : List ℕ) (at : ℕ) (a b : List ℕ) → at + length (a ++ b) ≤ length d → paste (paste d at a (length a)) (at + length a) b (length b) ≡ paste d at (a ++ b) (length (a ++ b))
paste_two d at a b h =
    let l : length (a ++ b) ≡ length a + length b = length-append a b in
    let h₁ : at ≤ length d = omega arith in
    let h₂ : length a ≤ length a = omega arith in
    let p = paste d at a (length a) in
    let t : take (at + length a) p ≡ take at d ++ a = take-paste d at a (length a) h₁ h₂ ∙ ap (λ (x : List ℕ). take at d ++ x) (take-length a) in
    let v : at + length a + length b ≡ at + length (a ++ b) = omega arith in
    let u : drop (at + length a + length b) p ≡ drop (at + length (a ++ b)) d =
    sym (drop-drop (length b) (at + length a) p) ∙ ap (λ (x : List ℕ). drop (length b) x) (drop-paste d at a (length a) h₁ h₂)
    ∙ drop-drop (length b) (at + length a) d ∙ ap (λ (x : ℕ). drop x d) v in
    ap (λ (x : List ℕ). x ++ take (length b) b ++ drop (at + length a + length b) p) t
    ∙ ap (λ (x : List ℕ). (take at d ++ a) ++ take (length b) b ++ x) u
    ∙ simp (take-length, append_assoc)
