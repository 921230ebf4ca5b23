-- Names that the theory uses between the rules and its theorems: tables that have entries, sums over the ways before and after a
-- change, and ownership by records, which in a right store is what is held. Assumes nothing.
use Rattle.std.specs.Prelude.{◌≡◌, Bool, false, ◌&&◌, not, cond, List, [], ◌∷◌, ℕ, ◌+◌, leb}
use Rattle.std.proofs.Math.Option.{Option, some}
use Rattle.units.specs.Limits.{longest, last_unit}
use Rattle.ways.specs.Ways.{sums, walk, has, one}
use Rattle.rules.specs.Tables.{all, sift, distinct, is_some}
use Rattle.rules.specs.Store.{Store, units, children_of, roots, owned}

-- the table has each of the entries
abbrev pub Holds : {A : Type 0} → (ℕ → Option A) → List (ℕ × A) → Type 0
Holds t [] = Unit {0}
Holds t (e ∷ es) = (t e.0 ≡ some e.1) × Holds t es

-- what holds of each entry
abbrev pub Each : {A : Type 0} → (ℕ → A → Type 0) → List (ℕ × A) → Type 0
Each P [] = Unit {0}
Each P (e ∷ es) = P e.0 e.1 × Each P es

-- a unit is among the list
abbrev pub mark : List ℕ → ℕ → ℕ
mark us v = one (has v us)

-- from s to s', which differ only at the units us, every sum over the ways loses the weights of `off` and gains those of `on`
abbrev pub Ledger : Store → Store → List ℕ → List ℕ → List ℕ → Type 0
Ledger s s' us off on =
    (b : ℕ) (w w' : ℕ → ℕ) → ((v : ℕ) → has v us ≡ false → w' v ≡ w v)
    → sums (walk b (children_of s') w' longest) (roots s') + sums w off ≡ sums (walk b (children_of s) w longest) (roots s) + sums w' on

-- ---- by records: who owns a unit, and what stops being owned

abbrev pub node_units : Store → ℕ → List ℕ
node_units s u = cond (is_some (s.nodes u)) (u ∷ []) []

abbrev pub owns : Store → ℕ → Bool
owns s u = has u (owned s)

unfoldable pub disowned : Store → Store → List ℕ
disowned a b =
    let la = owned a in
    let lb = owned b in
    sift (λ u. has u la && not (has u lb)) units

unfoldable pub unused : Store → List ℕ → Bool
unused s us =
    let l = owned s in
    all (λ u. leb 1 u && (leb u last_unit && not (has u l))) us && distinct us
