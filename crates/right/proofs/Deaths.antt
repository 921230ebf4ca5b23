-- What makes an engine without recounts right: a node that dies is among those that lost a way, a branch that dies is among the buffers
-- that went or in the input that ended; and which units an accepted step lists, by the counts. Assumes nothing.
use mathlib.Core.Path.{◌≡◌, refl, sym, ap, ◌∙◌, subst}
use mathlib.Core.Bool.{Bool, true, false, ◌||◌}
use mathlib.Core.Logic.{◌⊎◌, inl, inr, ◌↔◌}
use mathlib.Core.List.{List}
use mathlib.Core.Option.{Option, some}
use Prim.Native.Nat.{ℕ, zero, suc, ◌<◌}
use native.Mathlib.Omega.{arith}
use lib.Dec.{T, ltb, ltb→lt, lt→ltb}
use Rattle.ways.specs.Ways.{sums, has}
use Rattle.rules.specs.Tables.{is_some}
use Rattle.rules.specs.Store.{Store, ways, in_buffers, places, in_use, alive, frees, prune}
use Rattle.rules.specs.Steps.{accepted, extended, next, decide, Step, change}
use Rattle.rules.specs.Right.{Right}
use Rattle.right.specs.Ledger.{disowned}
use Rattle.right.specs.Counts.{Counted}
use Rattle.ways.proofs.Tests.{eq→T, F→eq, eq→not, or_l, or_r}
use Rattle.ways.proofs.Members.{pos_has}
use Rattle.right.proofs.Tables.{keep_in}
use Rattle.right.proofs.Prune.{pruned_places}
use Rattle.right.proofs.Held.{frees_disowned, reached_node}
use Rattle.right.proofs.Extended.{puts_is}
use Rattle.right.proofs.Steps.{passed, Even, change_right}
use Rattle.right.proofs.Counts.{counted}
use Rattle.right.proofs.Freed.{node_gone_freed, branch_gone_freed}

module _ (s : Store) (r : Right s) (m : Step) (v : Even m) (s' : Store) (e : decide s (change s m) ≡ accepted s') where
  right' : Right s'
  right' = change_right s r m v s' e

  as_owned : frees s s' ≡ disowned s s'
  as_owned = frees_disowned s s' r right'

  pub node_dies : (u : ℕ) → T (is_some (s.nodes u)) → is_some (s'.nodes u) ≡ false → T (has u (change s m).drops)
  node_dies u t gone =
      let before : 0 < ways s u = ltb→lt 0 (ways s u) (r.live_node u t) in
      let after : ways s' u ≡ 0 = none_left (ways s' u) (reached_node s' right' u ∙ gone) in
      pos_has u (change s m).drops (omega (arith, (counted s r m v s' e).ways u))
    where
      none_left : (n : ℕ) → ltb 0 n ≡ false → n ≡ 0
      none_left zero q = refl
      none_left (suc n) q = absurd (eq→not (ltb 0 (suc n)) q (lt→ltb 0 (suc n) (omega arith)))

  pub branch_dies : (b : ℕ) → T (is_some (s.branches b)) → is_some (s'.branches b) ≡ false
      → (0 < sums (in_buffers s b) (change s m).drops) ⊎ (T (in_use s.inputs b) × (in_use s'.inputs b ≡ false))
  unfolding extended prune
  branch_dies b t gone = go (in_use s.inputs b) refl
    where
      X : Store
      X = extended s (change s m)

      is_next : s' ≡ next s (change s m)
      is_next = (passed s r (change s m) s' e).1

      dead : alive X b ≡ false
      dead = F→eq (alive X b) (λ a. eq→not (is_some (s'.branches b)) gone (subst (λ (y : Store). T (is_some (y.branches b))) (sym is_next)
          (subst (λ (o : Option (List ℕ)). T (is_some o)) (sym (keep_in (alive X) X.branches b a)) (puts_is (change s m).joins s.branches b t))))

      unplaced : places s' b ≡ 0
      unplaced =
          ap (λ (y : Store). places y b) is_next ∙ pruned_places X b
          ∙ zero_of (places X b) (λ p. eq→not (alive X b) dead (or_l (ltb 0 (places X b)) (in_use X.inputs b) (lt→ltb 0 (places X b) p)))
        where
          zero_of : (n : ℕ) → (0 < n → ⊥) → n ≡ 0
          zero_of zero k = refl
          zero_of (suc n) k = absurd (k (omega arith))

      ended : in_use s'.inputs b ≡ false
      ended =
          ap (λ (y : Store). in_use y.inputs b) is_next
          ∙ F→eq (in_use X.inputs b) (λ p. eq→not (alive X b) dead (or_r (ltb 0 (places X b)) (in_use X.inputs b) p))

      counts : Counted s s' (change s m)
      counts = counted s r m v s' e

      go : (x : Bool) → in_use s.inputs b ≡ x
          → (0 < sums (in_buffers s b) (change s m).drops) ⊎ (T (in_use s.inputs b) × (in_use s'.inputs b ≡ false))
      go true q = inr (eq→T (in_use s.inputs b) q, ended)
      go false q =
          let lives : T (ltb 0 (places s b)) = from_or (ltb 0 (places s b)) (subst (λ (x : Bool). T (ltb 0 (places s b) || x)) q (r.live_branch b t)) in
          inl (omega (arith, ltb→lt 0 (places s b) lives, unplaced, counts.branch b))
        where
          from_or : (a : Bool) → T (a || false) → T a
          from_or true k = tt
          from_or false k = k

  -- a node's unit is listed just when no way leads to it any more; a branch's when no way names it and no compactor reads it
  pub node_freed : (u : ℕ) → T (is_some (s.nodes u)) → T (has u (frees s s')) ↔ (ways s' u ≡ 0)
  node_freed u h = subst (λ (l : List ℕ). T (has u l) ↔ (ways s' u ≡ 0)) (sym as_owned) (node_gone_freed s r m v s' e u h)

  pub branch_freed : (b : ℕ) (us : List ℕ) → s.branches b ≡ some us → (u : ℕ) → T (has u us)
      → T (has u (frees s s')) ↔ ((places s' b ≡ 0) × (in_use s'.inputs b ≡ false))
  branch_freed b us eb u h =
      subst (λ (l : List ℕ). T (has u l) ↔ ((places s' b ≡ 0) × (in_use s'.inputs b ≡ false))) (sym as_owned) (branch_gone_freed s r m v s' e b us eb u h)
