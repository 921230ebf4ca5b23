-- The same by positions in the whole image, as a program's passes go: `get_or`s at `at + numeral`, sections of a fixed stride, levels as
-- sets. Each is tied to document 01's definition by a law in proofs/Passes. Assumes nothing.
use Rattle.std.specs.Prelude.{ℕ, zero, suc, ◌+◌, ◌*◌, Bool, true, ◌||◌, ◌&&◌, cond, List, [], ◌∷◌, eqb, leb, ltb, length, get_or, take, drop}
use Rattle.units.specs.Limits.{slot_count, compactor_count}
use Rattle.rules.specs.Tables.{all, zeros, slice}
use Rattle.rules.specs.Store.{Node, Slot, opened, sealed}
use Rattle.rules.specs.Loads.{Cut, every}

-- how many records of kind k, n bytes each, stand one after another from p on (past the end stands 0, which is no kind)
unfoldable pub run_of : ℕ → ℕ → ℕ → List ℕ → ℕ → ℕ
run_of k n zero b p = 0
run_of k n (suc f) b p = let r = suc (run_of k n f b (p + n)) in cond (eqb (get_or b p 0) k) r 0

-- m records of n bytes from p on
unfoldable pub records_at : ℕ → List ℕ → ℕ → ℕ → List (List ℕ)
records_at n b p zero = []
records_at n b p (suc m) = slice p n b ∷ records_at n b (p + n) m

-- how many records each section has, and where it begins
abbrev pub n33 : List ℕ → ℕ
n33 b = run_of 33 30 (length b) b 2

abbrev pub p34 : List ℕ → ℕ
p34 b = 2 + 30 * n33 b

abbrev pub n34 : List ℕ → ℕ
n34 b = run_of 34 12 (length b) b (p34 b)

abbrev pub p35 : List ℕ → ℕ
p35 b = p34 b + 12 * n34 b

abbrev pub n35 : List ℕ → ℕ
n35 b = run_of 35 12 (length b) b (p35 b)

abbrev pub p36 : List ℕ → ℕ
p36 b = p35 b + 12 * n35 b

abbrev pub n36 : List ℕ → ℕ
n36 b = run_of 36 11 (length b) b (p36 b)

abbrev pub end : List ℕ → ℕ
end b = p36 b + 11 * n36 b

unfoldable pub cut_at : List ℕ → Cut
cut_at b =
    record {
      root = take 2 b;
      nodes = records_at 30 b 2 (n33 b);
      branches = records_at 12 b (p34 b) (n34 b);
      slots = records_at 12 b (p35 b) (n35 b);
      inputs = records_at 11 b (p36 b) (n36 b);
      rest = drop (end b) b;
    }

-- ---- a record that begins at `at`

abbrev pub used_at : ℕ → ℕ → List ℕ → List ℕ
used_at p n b = take n (slice p 8 b)

abbrev pub blanked_at : ℕ → ℕ → List ℕ → Bool
blanked_at p n b = leb n 8 && zeros (drop n (slice p 8 b))

abbrev pub node_read : List ℕ → ℕ → ℕ × Node
node_read b at = (
  get_or b (at + 1) 0,
  record { buffers = used_at (at + 3) (get_or b (at + 2) 0) b; children = used_at (at + 12) (get_or b (at + 11) 0) b; offsets = used_at (at + 20) (get_or b (at + 11) 0) b },
)

abbrev pub node_laid_at : List ℕ → ℕ → Bool
node_laid_at b at =
    blanked_at (at + 3) (get_or b (at + 2) 0) b
    && (blanked_at (at + 12) (get_or b (at + 11) 0) b
    && (blanked_at (at + 20) (get_or b (at + 11) 0) b && all (λ o. leb o (get_or b (at + 2) 0)) (used_at (at + 20) (get_or b (at + 11) 0) b)))

abbrev pub node_count_at : List ℕ → ℕ → ℕ
node_count_at b at = get_or b (at + 28) 0 + 256 * get_or b (at + 29) 0

abbrev pub branch_read : List ℕ → ℕ → ℕ × List ℕ
branch_read b at = (get_or b (at + 2) 0, used_at (at + 2) (get_or b (at + 1) 0) b)

abbrev pub branch_laid_at : List ℕ → ℕ → Bool
branch_laid_at b at = leb 1 (get_or b (at + 1) 0) && blanked_at (at + 2) (get_or b (at + 1) 0) b

abbrev pub branch_count_at : List ℕ → ℕ → ℕ
branch_count_at b at = get_or b (at + 10) 0 + 256 * get_or b (at + 11) 0

abbrev pub slot_read : List ℕ → ℕ → ℕ × Slot
slot_read b at = (
  get_or b (at + 1) 0,
  cond (eqb (get_or b (at + 2) 0) 1) (opened (used_at (at + 4) (get_or b (at + 3) 0) b)) (sealed (used_at (at + 4) (get_or b (at + 3) 0) b)),
)

abbrev pub slot_laid_at : List ℕ → ℕ → Bool
slot_laid_at b at =
    ltb (get_or b (at + 1) 0) slot_count
    && ((eqb (get_or b (at + 2) 0) 1 || eqb (get_or b (at + 2) 0) 2) && (leb 1 (get_or b (at + 3) 0) && blanked_at (at + 4) (get_or b (at + 3) 0) b))

abbrev pub input_read : List ℕ → ℕ → ℕ × List ℕ
input_read b at = (get_or b (at + 1) 0, used_at (at + 3) (get_or b (at + 2) 0) b)

abbrev pub input_laid_at : List ℕ → ℕ → Bool
input_laid_at b at = ltb (get_or b (at + 1) 0) compactor_count && (leb 1 (get_or b (at + 2) 0) && blanked_at (at + 3) (get_or b (at + 2) 0) b)

-- ---- order: the least key that may come next

abbrev pub next_key : ℕ → List ℕ → ℕ
next_key lo [] = lo
next_key lo (k ∷ ks) = next_key (suc k) ks

-- ---- pass 21 as a program makes it: m records of kind k, n bytes each, from p on, each laid out rightly, its key at offset o
-- no less than the one before and one

abbrev pub laid_at : ℕ → List ℕ → ℕ → Bool
laid_at k b at = cond (eqb k 33) (node_laid_at b at) (cond (eqb k 34) (branch_laid_at b at) (cond (eqb k 35) (slot_laid_at b at) (input_laid_at b at)))

unfoldable pub next_at : ℕ → ℕ → List ℕ → ℕ → ℕ → ℕ
next_at n o b p zero = 0
next_at n o b p (suc m) = suc (get_or b ((p + n * m) + o) 0)

unfoldable pub section_ok : ℕ → ℕ → ℕ → List ℕ → ℕ → ℕ → Bool
section_ok k n o b p zero = true
section_ok k n o b p (suc m) = section_ok k n o b p m && (laid_at k b (p + n * m) && leb (next_at n o b p m) (get_or b ((p + n * m) + o) 0))

abbrev pub layout_lines : List ℕ → List Bool
layout_lines b =
    leb 2 (length b)
    ∷ eqb (get_or b 0 0) 32
    ∷ leb (p34 b) (length b)
    ∷ leb (p35 b) (length b)
    ∷ leb (p36 b) (length b)
    ∷ eqb (end b) (length b)
    ∷ section_ok 33 30 1 b 2 (n33 b)
    ∷ section_ok 34 12 2 b (p34 b) (n34 b)
    ∷ section_ok 35 12 1 b (p35 b) (n35 b)
    ∷ section_ok 36 11 1 b (p36 b) (n36 b)
    ∷ []

unfoldable pub layout_at : List ℕ → Bool
layout_at b = every (layout_lines b)

-- the bytes of a record of kind k
abbrev pub size_of : ℕ → ℕ
size_of k = cond (eqb k 33) 30 (cond (eqb k 36) 11 12)
