-- The store after an accepted step that leaves the tree as it is: take, seal, abandon, begin, abort. Assumes nothing.
use mathlib.Core.Path.{◌≡◌, refl, sym, ap, ◌∙◌, subst}
use mathlib.Core.Bool.{Bool, true, false, ◌||◌, ◌&&◌, not, cond}
use mathlib.Core.Logic.{◌⊎◌, inl, inr, ⊎_elim}
use mathlib.Core.List.{List, [], ◌∷◌}
use mathlib.Core.Option.{Option, none, some}
use Prim.Native.Nat.{ℕ, zero, suc}
use native.Mathlib.Omega.{arith}
use lib.Dec.{T, eqb, ltb}
use lib.ListN.{get_or, set}
use borrow.Author.Tests.{lt-ltb, ne_eqb}
use Rattle.ways.specs.Ways.{sums, has}
use Rattle.rules.specs.Tables.{times, keys, puts, is_some}
use Rattle.rules.specs.Store.{Node, Store, ways, places, in_buffers, in_use, reached}
use Rattle.rules.specs.Steps.{accepted, Change, extended, fit, decide, Step, change}
use Rattle.rules.specs.Right.{Right}
use Rattle.right.specs.Counts.{added}
use Rattle.ways.proofs.Tests.{T→eq, or_e, or_l, or_r}
use Rattle.right.proofs.Steps.{Even}
use Rattle.right.proofs.Counts.{counted}
use Rattle.right.proofs.After.{after_nodes, after_branches, after_root, kept_branches, places_low, fit_of}

module _ (s : Store) (r : Right s) (m : Step) (ev : Even m) (s' : Store) (e : decide s (change s m) ≡ accepted s')
    (no-adds : (change s m).adds ≡ []) (no-drops : (change s m).drops ≡ []) (same-root : (change s m).root ≡ s.root) where
  pub still_ways : (v : ℕ) → ways s' v ≡ ways s v
  still_ways v =
      omega (
        arith,
        (counted s r m ev s' e).ways v,
        ap (λ (es : List (ℕ × Node)). times v (keys es)) no-adds,
        ap (times v) no-drops,
      )

  pub still_places : (b : ℕ) → places s' b ≡ places s b
  still_places b =
      omega (
        arith,
        (counted s r m ev s' e).branch b,
        ap (λ (es : List (ℕ × Node)). added b es) no-adds,
        ap (sums (in_buffers s b)) no-drops,
      )

  pub still_root : s'.root ≡ s.root
  still_root = after_root s r (change s m) s' e ∙ same-root

  pub still_nodes : (v : ℕ) → s'.nodes v ≡ s.nodes v
  still_nodes v =
      after_nodes s r (change s m) s' e v ∙ ap (λ (es : List (ℕ × Node)). cond (ltb 0 (ways s' v)) (puts s.nodes es v) none) no-adds
      ∙ ap (λ (n : ℕ). cond (ltb 0 n) (s.nodes v) none) (still_ways v) ∙ go (s.nodes v) refl
    where
      nothing : (c : Bool) → ◌≡◌ {A = Option Node} (cond c none none) none
      nothing true = refl
      nothing false = refl

      go : (o : Option Node) → s.nodes v ≡ o → cond (ltb 0 (ways s v)) (s.nodes v) none ≡ s.nodes v
      go none q = ap (λ (o : Option Node). cond (ltb 0 (ways s v)) o none) q ∙ nothing (ltb 0 (ways s v)) ∙ sym q
      go (some n) q = ap (λ (c : Bool). cond c (s.nodes v) none) (T→eq (reached s v) (r.live_node v (subst (λ (o : Option Node). T (is_some o)) (sym q) tt)))

  -- where no input ends, no branch goes
  pub still_branches : (change s m).joins ≡ [] → ((b : ℕ) → T (in_use s.inputs b) → T (in_use (change s m).inputs b)) → (b : ℕ) → s'.branches b ≡ s.branches b
  still_branches no_joins up b =
      ap (λ (t : ℕ → Option (List ℕ)). t b)
      (kept_branches s r (change s m) s' e up (λ x. omega (arith, still_places x)) (λ x t. absurd (subst (λ (es : List (ℕ × List ℕ)). T (has x (keys es))) no_joins t)))
      ∙ ap (λ (es : List (ℕ × List ℕ)). puts s.branches es b) no_joins

  -- where the input k ends, the branches go that it alone held
  pub ended_branches : (change s m).joins ≡ [] → (k : ℕ) → (change s m).inputs ≡ set s.inputs k []
      → (b : ℕ) → cond (has b (get_or s.inputs k []) && (eqb (places s' b) 0 && not (in_use (set s.inputs k []) b))) none (s.branches b) ≡ s'.branches b
  ended_branches no_joins k ei b =
      go (s.branches b) refl ∙ sym (after_branches s r (change s m) s' e b ∙ ap (λ (es : List (ℕ × List ℕ)). cond (ltb 0 (places s' b) || in_use (change s m).inputs b) (puts s.branches es b) none) no_joins
      ∙ ap (λ (l : List (List ℕ)). cond (ltb 0 (places s' b) || in_use l b) (s.branches b) none) ei)
    where
      left : (i : ℕ) (ls : List (List ℕ)) → T (in_use ls b) → T (has b (get_or ls i [])) ⊎ T (in_use (set ls i []) b)
      left i [] t = inr t
      left zero (l ∷ ls) t = ⊎_elim (λ (q : T (has b l)). inl q) (λ (q : T (in_use ls b)). inr q) (or_e (has b l) (in_use ls b) t)
      left (suc i) (l ∷ ls) t =
          ⊎_elim
          (λ (q : T (has b l)). inr (or_l (has b l) (in_use (set ls i []) b) q))
          (λ (q : T (in_use ls b)). ⊎_elim (λ a. inl a) (λ z. inr (or_r (has b l) (in_use (set ls i []) b) z)) (left i ls q))
          (or_e (has b l) (in_use ls b) t)

      nothing : (c : Bool) → ◌≡◌ {A = Option (List ℕ)} (cond c none none) none
      nothing true = refl
      nothing false = refl

      zero_test : (n : ℕ) → eqb n 0 ≡ not (ltb 0 n)
      zero_test zero = refl
      zero_test (suc n) = ne_eqb (suc n) 0 (λ q. omega arith) ∙ sym (ap not (lt-ltb 0 (suc n) (omega arith)))

      lives : T (is_some (s.branches b)) → T (ltb 0 (places s' b)) ⊎ (T (has b (get_or s.inputs k [])) ⊎ T (in_use (set s.inputs k []) b))
      lives t =
          ⊎_elim
          (λ (q : T (ltb 0 (places s b))). inl (subst (λ (n : ℕ). T (ltb 0 n)) (sym (still_places b)) q))
          (λ (q : T (in_use s.inputs b)). inr (left k s.inputs q))
          (or_e (ltb 0 (places s b)) (in_use s.inputs b) (r.live_branch b t))

      pick : (o : Option (List ℕ)) (h p u : Bool) → T p ⊎ (T h ⊎ T u) → cond (h && (not p && not u)) none o ≡ cond (p || u) o none
      pick o true true u c = refl
      pick o true false true c = refl
      pick o true false false c = refl
      pick o false true u c = refl
      pick o false false true c = refl
      pick o false false false c = ⊎_elim (λ (x : ⊥). absurd x) (λ y. ⊎_elim (λ (x : ⊥). absurd x) (λ (x : ⊥). absurd x) y) c

      go : (o : Option (List ℕ)) → s.branches b ≡ o
          → cond (has b (get_or s.inputs k []) && (eqb (places s' b) 0 && not (in_use (set s.inputs k []) b))) none (s.branches b)
          ≡ cond (ltb 0 (places s' b) || in_use (set s.inputs k []) b) (s.branches b) none
      go none q =
          ap (λ (o : Option (List ℕ)). cond (has b (get_or s.inputs k []) && (eqb (places s' b) 0 && not (in_use (set s.inputs k []) b))) none o) q ∙ nothing (has b (get_or s.inputs k []) && (eqb (places s' b) 0 && not (in_use (set s.inputs k []) b)))
          ∙ sym (ap (λ (o : Option (List ℕ)). cond (ltb 0 (places s' b) || in_use (set s.inputs k []) b) o none) q ∙ nothing (ltb 0 (places s' b) || in_use (set s.inputs k []) b))
      go (some us) q =
          ap (λ (x : Bool). cond (has b (get_or s.inputs k []) && (x && not (in_use (set s.inputs k []) b))) none (s.branches b)) (zero_test (places s' b))
          ∙ pick (s.branches b) (has b (get_or s.inputs k [])) (ltb 0 (places s' b)) (in_use (set s.inputs k []) b)
          (lives (subst (λ (o : Option (List ℕ)). T (is_some o)) (sym q) tt))

-- line 12 of such a step: no count moves
pub still_fit : (s : Store) → Right s → (c : Change) → ((b : ℕ) → places (extended s c) b ≡ places s b) → fit (extended s c) ≡ true
still_fit s r c same = fit_of (extended s c) (λ b. omega (arith, same b, places_low s r b))
