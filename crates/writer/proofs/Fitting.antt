-- Records that all fit stand one after another: the bytes of the first, of the second, .. and behind them what stood there.
-- Assumes nothing.
use mathlib.Core.Path.{◌≡◌, refl, ap, sym, ◌∙◌}
use mathlib.Core.List.{List, [], ◌∷◌, ◌++◌}
use Prim.Native.Nat.{ℕ, ◌+◌, ◌≤◌}
use native.Mathlib.Omega.{arith}
use lib.ListN.{length, take, drop, length-append}
use lib.Seq.{paste, take-length}
use Rattle.std.proofs.lemmas.List.Edits.{paste-paste}
use Rattle.records.specs.Rows.{poured, poured_to, poured_length, poured_paste}
use Rattle.images.proofs.Listing.{joint}
use Rattle.writer.specs.Written.{Place, wrote}
use Rattle.writer.proofs.Loops.{put_fits}

-- ---- one behind another

poured_two : (d : List ℕ) (at : ℕ) (a b : List ℕ) → at + length (a ++ b) ≤ length d → length (poured d at a) ≡ length d → poured (poured d at a) (at + length a) b ≡ poured d at (a ++ b)
poured_two d at a b h q =
    let l : length (a ++ b) ≡ length a + length b = length-append a b in
    poured_paste (poured d at a) (at + length a) b (omega arith)
    ∙ ap (λ (x : List ℕ). paste x (at + length a) b (length b)) (poured_paste d at a (omega arith))
    ∙ paste-paste d at a b (length a) (length b) refl refl (omega arith)
    ∙ ap (paste d at (a ++ b)) (sym l)
    ∙ sym (poured_paste d at (a ++ b) h)

-- at the front
pub poured_front : (l r : List ℕ) → length r ≤ length l → poured l 0 r ≡ r ++ drop (length r) l
poured_front l r h =
    let z : 0 + length r ≡ length r = omega arith in
    poured_paste l 0 r (omega arith) ∙ ap (λ (n : ℕ). take (length r) r ++ drop n l) z ∙ ap (λ (x : List ℕ). x ++ drop (length r) l) (take-length r)

-- ---- all of them

pub wrote_fit : (rs : List (List ℕ)) (l : List ℕ) (at : ℕ) → at + length (joint rs) ≤ length l → wrote (l, at) rs ≡ (poured l at (joint rs), at + length (joint rs))
unfolding poured poured_to
wrote_fit [] l at h =
    let z : at + 0 ≡ at = omega arith in
    ap (λ (n : ℕ). (l, n)) (sym z)
wrote_fit (r ∷ rs) l at h =
    let n : length (r ++ joint rs) ≡ length r + length (joint rs) = length-append r (joint rs) in
    let k : at + length r + length (joint rs) ≡ at + length (r ++ joint rs) = omega arith in
    let q : length (poured l at r) ≡ length l = poured_length l at r in
    ap (λ (o : Place). wrote o rs) (sym (put_fits l at r (poured l at r) (at + length r) (omega arith) refl refl))
    ∙ wrote_fit rs (poured l at r) (at + length r) (omega arith)
    ∙ (λ i. (poured_two l at r (joint rs) h q i, k i))
