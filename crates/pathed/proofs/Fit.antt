-- Line 12 of a step that copies a path: the copies have the buffers of the nodes on it, so that only the branches which gain at the path's
-- end need a look. Assumes nothing.
use mathlib.Core.Bool.{Bool, true, ◌&&◌}
use mathlib.Core.Path.{◌≡◌, refl, sym, ap, ap₂, ◌∙◌, subst}
use mathlib.Core.List.{List, [], ◌∷◌, ◌++◌}
use Prim.Native.Nat.{ℕ, ◌+◌, ◌-◌, ◌≤◌}
use native.Mathlib.Omega.{arith}
use lib.Dec.{T, leb}
use lib.ListN.{length, get_or}
use Rattle.units.specs.Limits.{last_unit, most_count}
use Rattle.ways.specs.Ways.{sums, has, spine}
use Rattle.ways.proofs.Tests.{eq→T}
use Rattle.ways.proofs.Frame.{sums_append}
use Rattle.rules.specs.Tables.{all, times, keys}
use Rattle.rules.specs.Store.{Node, Store, children_of, in_buffers, places}
use Rattle.rules.specs.Steps.{Change, extended, fit, fresh, copies}
use Rattle.rules.specs.Right.{Right}
use Rattle.right.specs.Ledger.{Ledger, unused}
use Rattle.right.specs.Counts.{added}
use Rattle.right.proofs.Held.{fresh_unused}
use Rattle.right.proofs.Ledgers.{extended_holds}
use Rattle.right.proofs.After.{extended_places, fit_gained}
use Rattle.counting.proofs.Counts.{none_times}
use Rattle.allocation.specs.Gains.{fits_count}

-- ---- what comes: the copies have the buffers of the nodes on the path

copies_added : (s : Store) (b : ℕ) (p q : List ℕ) (u t : ℕ) → length q ≡ length p → added b (copies s p q u t) ≡ sums (in_buffers s b) (spine (children_of s) p u)
copies_added s b [] q u t l = refl
copies_added s b (i ∷ p) [] u t l = absurd (omega arith)
copies_added s b (i ∷ p) (f ∷ fs) u t l = omega (arith, copies_added s b p fs (get_or (children_of s u) i 0) t (omega arith))

added_append : (b : ℕ) (es fs : List (ℕ × Node)) → added b (es ++ fs) ≡ added b es + added b fs
added_append b [] fs = omega arith
added_append b (e ∷ es) fs = omega (arith, added_append b es fs)

-- so what moves at the path's end is all that moves
pub ends_move : (s : Store) (b : ℕ) (p q : List ℕ) (u f : ℕ) (es : List (ℕ × Node)) (ts gs off : List ℕ) → length q ≡ length p
    → added b es + times b off ≡ sums (in_buffers s b) ts + times b gs
    → added b (copies s p q u f ++ es) + times b off ≡ sums (in_buffers s b) (spine (children_of s) p u ++ ts) + times b gs
ends_move s b p q u f es ts gs off even e =
    omega (
      arith,
      added_append b (copies s p q u f) es,
      copies_added s b p q u f even,
      sums_append (in_buffers s b) (spine (children_of s) p u) ts,
    )

-- ---- line 12

all_cong : (f g : ℕ → Bool) (l : List ℕ) → ((x : ℕ) → f x ≡ g x) → all f l ≡ all g l
all_cong f g [] e = refl
all_cong f g (x ∷ l) e = ap₂ ◌&&◌ (e x) (all_cong f g l e)

pub fit_moved : (s : Store) → Right s → (P : Change) → keys P.adds ≡ P.proposed → Ledger s (extended s P) P.proposed P.drops P.proposed → fresh s P.proposed ≡ true
    → (gs off : List ℕ) → ((b : ℕ) → added b P.adds + times b off ≡ sums (in_buffers s b) P.drops + times b gs) → ((b : ℕ) → T (has b gs) → (1 ≤ b) × (b ≤ last_unit))
    → all (λ b. fits_count (places s b) gs off b) gs ≡ fit (extended s P)
fit_moved s r P keyed book new gs off moved low =
    sym (fit_gained s r P
    (extended_places s P (subst (λ (l : List ℕ). Ledger s (extended s P) P.proposed P.drops l) (sym keyed) book) (λ u z. ap (has u) keyed ∙ z) (extended_holds s P P.proposed keyed unheld))
    gs (λ b z. omega (arith, moved b, none_times b gs z)) low
    ∙ all_cong _ (λ b. fits_count (places s b) gs off b) gs (λ b. ap (λ (n : ℕ). leb n most_count) (same b)))
  where
    unheld : T (unused s P.proposed)
    unheld = eq→T (unused s P.proposed) (sym (fresh_unused s r P.proposed) ∙ new)

    same : (b : ℕ) → (places s b + added b P.adds) - sums (in_buffers s b) P.drops ≡ (places s b + times b gs) - times b off
    same b = omega (arith, moved b)
