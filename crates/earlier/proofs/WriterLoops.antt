-- Laws of writer for loops and answers that src/ no longer has. Assumes nothing.
use mathlib.Core.Bool.{Bool, true, false, cond}
use mathlib.Core.Path.{◌≡◌, refl, ap, ◌∙◌}
use mathlib.Core.List.{List, map}
use Prim.Native.Nat.{ℕ, suc, ◌+◌, ◌-◌, ◌≤◌, ◌<◌}
use native.Mathlib.Omega.{arith}
use lib.Dec.{leb}
use lib.ListN.{length}
use borrow.Author.Tests.{eq-eqb, ne_eqb}
use Rattle.rules.specs.Tables.{range}
use Rattle.records.specs.Rows.{poured, poured_length}
use Rattle.writer.specs.Records.{unless_zero}
use Rattle.writer.specs.Written.{Place, put_in, wrote}
use Rattle.writer.proofs.Loops.{put_none}
use Rattle.earlier.specs.WriterRecords.{record_of, records_of}

-- ---- one record

pub put_length : (o : Place) (r : List ℕ) → length (put_in o r).0 ≡ length o.0
unfolding put_in
put_length o r = go (leb (o.1 + length r) (length o.0))
  where
    go : (b : Bool) → length (cond {A = Place} b (poured o.0 o.1 r, o.1 + length r) o).0 ≡ length o.0
    go true = poured_length o.0 o.1 r
    go false = refl

module _ (o : Place) (n : ℕ) (r : List ℕ) where
  pub unless_none : n ≡ 0 → o ≡ put_in o (unless_zero n r)
  unless_none e = rw (eq-eqb n 0 e) (put_none o)

  pub unless_some : (z : Place) → (n ≡ 0 → ⊥) → z ≡ put_in o r → z ≡ put_in o (unless_zero n r)
  unless_some z d e = rw (ne_eqb n 0 d) e

-- ---- the loop

-- k of n records are put
abbrev rest : (ℕ → List ℕ) → ℕ → ℕ → ℕ → List (List ℕ)
rest f first n k = map f (range (n - k) (first + k))

rest_turn : (f : ℕ → List ℕ) (first n k : ℕ) (o o' z : Place) → k < n → o' ≡ put_in o (f (first + k)) → wrote o (rest f first n k) ≡ z → wrote o' (rest f first n (k + 1)) ≡ z
rest_turn f first n k o o' z p e h =
    let a : n - k ≡ suc (n - (k + 1)) = omega arith in
    let b : first + (k + 1) ≡ suc (first + k) = omega arith in
    rw (e, b) (rw a at h)

rest_end : (f : ℕ → List ℕ) (first n k : ℕ) (o z : Place) → n ≤ k → wrote o (rest f first n k) ≡ z → o ≡ z
rest_end f first n k o z p h =
    let a : n - k ≡ 0 = omega arith in
    rw a at h

pub record KindLoop (tree counts hold : List ℕ) (kind first n : ℕ) (out₀ : List ℕ) (at : ℕ) (out : List ℕ) (next k : ℕ) : Type 0 where
  pub bytes : first + n ≤ 256
  pub long : length out ≡ length out₀
  pub left : wrote (out, next) (rest (record_of tree counts hold kind) first n k) ≡ wrote (out₀, at) (records_of tree counts hold kind first n)

module _ (tree counts hold : List ℕ) (kind first n : ℕ) (out₀ : List ℕ) (at : ℕ) where
  pub kind_start : first + n ≤ 256 → KindLoop tree counts hold kind first n out₀ at out₀ at 0
  unfolding records_of
  kind_start h =
      let a : n - 0 ≡ n = omega arith in
      let b : first + 0 ≡ first = omega arith in
      record { bytes = h; long = refl; left = rw (a, b) refl }

  pub kind_turn : (out : List ℕ) (next k : ℕ) (out' : List ℕ) (next' : ℕ) → KindLoop tree counts hold kind first n out₀ at out next k → k < n
      → (out', next') ≡ put_in (out, next) (record_of tree counts hold kind (first + k)) → KindLoop tree counts hold kind first n out₀ at out' next' (k + 1)
  kind_turn out next k out' next' c p e =
      record {
        bytes = c.bytes;
        long = ap (λ (o : Place). length o.0) e ∙ put_length (out, next) (record_of tree counts hold kind (first + k)) ∙ c.long;
        left = rest_turn (record_of tree counts hold kind) first n k (out, next) (out', next') (wrote (out₀, at) (records_of tree counts hold kind first n)) p e c.left;
      }

  pub kind_end : (out : List ℕ) (next k : ℕ) → KindLoop tree counts hold kind first n out₀ at out next k → n ≤ k → (out, next) ≡ wrote (out₀, at) (records_of tree counts hold kind first n)
  kind_end out next k c p = rest_end (record_of tree counts hold kind) first n k (out, next) (wrote (out₀, at) (records_of tree counts hold kind first n)) p c.left
