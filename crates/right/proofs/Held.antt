-- In a right store what is held, by ways, inputs and slots, is what the records own: so a unit that is not held is owned by nobody.
-- Assumes nothing.
use mathlib.Core.Path.{◌≡◌, refl, sym, ap, ap₂, subst}
use mathlib.Core.Bool.{Bool, true, false, ◌&&◌, not, cond}
use mathlib.Core.List.{List, [], ◌∷◌, ◌++◌}
use mathlib.Core.Option.{Option, none, some}
use Prim.Native.Nat.{ℕ}
use native.Mathlib.Omega.{arith}
use lib.Dec.{T, leb, ltb→lt}
use Rattle.ways.specs.Ways.{has, flat}
use Rattle.rules.specs.Tables.{all, joined, sift, distinct, is_some, or_else}
use Rattle.rules.specs.Store.{Node, Store, units, units_of, slot_units, ways, reached, alive, held_units, held, frees, owned}
use Rattle.rules.specs.Steps.{fresh}
use Rattle.rules.specs.Right.{Right}
use Rattle.right.specs.Ledger.{node_units, owns, disowned, unused}
use Rattle.ways.proofs.Tests.{T→eq, F→eq}
use Rattle.right.proofs.Prune.{not_seen}

flat_cong : (f g : ℕ → List ℕ) → ((u : ℕ) → f u ≡ g u) → (l : List ℕ) → flat f l ≡ flat g l
flat_cong f g h [] = refl
flat_cong f g h (x ∷ xs) = ap₂ (λ (a b : List ℕ). a ++ b) (h x) (flat_cong f g h xs)

-- a node is reached just when there is a record of it
pub reached_node : (s : Store) → Right s → (u : ℕ) → reached s u ≡ is_some (s.nodes u)
reached_node s r u = go (s.nodes u) refl
  where
    go : (o : Option Node) → s.nodes u ≡ o → reached s u ≡ is_some o
    go none e = F→eq (reached s u) (λ t. omega (arith, ltb→lt 0 (ways s u) t, not_seen s r.sound u e))
    go (some n) e = T→eq (reached s u) (r.live_node u (subst (λ (o : Option Node). T (is_some o)) (sym e) tt))

alive_units : (s : Store) → Right s → (b : ℕ) → cond (alive s b) (units_of s b) [] ≡ units_of s b
alive_units s r b = go (s.branches b) refl
  where
    both : (x : Bool) → cond {A = List ℕ} x [] [] ≡ []
    both true = refl
    both false = refl

    go : (o : Option (List ℕ)) → s.branches b ≡ o → cond (alive s b) (or_else [] o) [] ≡ or_else [] o
    go none e = both (alive s b)
    go (some us) e = ap (λ (x : Bool). cond x us []) (T→eq (alive s b) (r.live_branch b (subst (λ (o : Option (List ℕ)). T (is_some o)) (sym e) tt)))

pub held_owned : (s : Store) → Right s → held_units s ≡ owned s
unfolding held_units owned
held_owned s r =
    ap₂ (λ (a b : List ℕ). a ++ (b ++ joined slot_units s.slots))
    (flat_cong (λ u. cond (reached s u) (u ∷ []) []) (node_units s) (λ u. ap (λ (x : Bool). cond x (u ∷ []) []) (reached_node s r u)) units)
    (flat_cong (λ b. cond (alive s b) (units_of s b) []) (units_of s) (alive_units s r) units)

pub held_owns : (s : Store) → Right s → (u : ℕ) → held s u ≡ owns s u
held_owns s r u = ap (has u) (held_owned s r)

-- the tests and lists of the rules, by records
pub fresh_unused : (s : Store) → Right s → (us : List ℕ) → fresh s us ≡ unused s us
unfolding fresh unused
fresh_unused s r us = ap (λ (l : List ℕ). all (λ u. leb 1 u && (leb u 255 && not (has u l))) us && distinct us) (held_owned s r)

pub frees_disowned : (s s' : Store) → Right s → Right s' → frees s s' ≡ disowned s s'
unfolding frees disowned
frees_disowned s s' r r' =
    ap₂ (λ (la lb : List ℕ). sift (λ u. has u la && not (has u lb)) units) (held_owned s r) (held_owned s' r')
