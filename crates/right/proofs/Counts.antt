-- What a step does to the counts, node by node and buffer by buffer, from its ledger. Assumes nothing.
use mathlib.Core.Path.{◌≡◌, refl, sym, ap, ◌∙◌, subst}
use mathlib.Core.Bool.{Bool, true, false, cond}
use mathlib.Core.List.{List, [], ◌∷◌, ◌++◌}
use mathlib.Core.Option.{Option}
use Prim.Native.Nat.{ℕ, ◌+◌, ◌≤◌}
use native.Mathlib.Omega.{arith}
use lib.Dec.{eqb}
use lib.ListN.{length, get_or, take, drop, take-append-drop}
use Rattle.ways.specs.Ways.{sums, total, is, has, follow, spine}
use Rattle.rules.specs.Tables.{keys, times, or_else}
use Rattle.right.specs.Ledger.{Holds}
use Rattle.rules.specs.Store.{Node, Store, blank, node_at, children_of, buffers_of, slot_units, roots, ways, in_buffers, places}
use Rattle.rules.specs.Steps.{accepted, Change, extended, next, decide, copies, Step, Memtable, Grow, Split, Flush, Commit, change, root_node, slot_at, flush_ends, split_ends, commit_ends}
use Rattle.right.specs.Counts.{added, Counted}
use Rattle.rules.specs.Right.{Right}
use Rattle.ways.proofs.Frame.{sums_append}
use Rattle.ways.proofs.Tests.{T→eq, F→eq, eq→not}
use Rattle.ways.proofs.Members.{sums_none}
use Rattle.right.proofs.Tables.{puts_other, puts_holds}
use Rattle.right.proofs.Prune.{pruned_ways, pruned_places}
use Rattle.right.proofs.Extended.{Lawful}
use Rattle.right.proofs.Steps.{Passed, passed, Even, lawful, ledger, apart}

holds_added : (s : Store) (b : ℕ) (es : List (ℕ × Node)) → Holds s.nodes es → sums (in_buffers s b) (keys es) ≡ added b es
holds_added s b [] h = refl
holds_added s b (e ∷ es) h = omega (arith, ap (λ (o : Option Node). times b (or_else blank o).buffers) h.0, holds_added s b es h.1)

module _ (s : Store) (r : Right s) (m : Step) (v : Even m) (s' : Store) (e : decide s (change s m) ≡ accepted s') where
  pub counted : Counted s s' (change s m)
  unfolding extended
  counted =
      subst (λ (x : Store). Counted s x P) (sym both.1)
      (record {
        ways = λ x. omega (arith, pruned_ways (extended s P) x, ledger s r.sound m v a 0 (is x) (is x) (λ u h. refl));
        branch = λ b. omega (
          arith,
          pruned_places (extended s P) b,
          ledger s r.sound m v a 0 (in_buffers s b) (in_buffers (extended s P) b) (λ u h. ap (times b) (off u h)),
          holds_added (extended s P) b P.adds holds,
        );
      })
    where
      P : Change
      P = change s m

      both : Passed s P × (s' ≡ next s P)
      both = passed s r P s' e

      a : Passed s P
      a = both.0

      law : Lawful s P
      law = lawful s r.sound m v a

      not_added : (u : ℕ) → has u P.proposed ≡ false → has u (keys P.adds) ≡ false
      not_added u h = F→eq (has u (keys P.adds)) (λ t. eq→not (has u P.proposed) h (law.adds_proposed u t))

      off : (u : ℕ) → has u P.proposed ≡ false → buffers_of (extended s P) u ≡ buffers_of s u
      off u h = ap (λ (o : Option Node). (or_else blank o).buffers) (puts_other P.adds s.nodes u (not_added u h))

      holds : Holds (extended s P).nodes P.adds
      holds = puts_holds P.adds s.nodes (apart s r.sound m v a)

-- what is dropped was counted: a weight that is 0 at what is proposed shows it
pub dropped_le : (s : Store) → Right s → (m : Step) → Even m → Passed s (change s m) → (w : ℕ → ℕ)
    → sums w (change s m).drops ≤ sums (total (children_of s) w 8) (roots s)
dropped_le s r m v a w =
    omega (
      arith,
      ledger s r.sound m v a 0 w w' (λ u h. ap (λ (b : Bool). cond b 0 (w u)) h),
      sums_none w' (keys (change s m).adds) (λ c h. ap (λ (b : Bool). cond b 0 (w c)) (T→eq (has c (change s m).proposed) ((lawful s r.sound m v a).adds_proposed c h))),
    )
  where
    w' : ℕ → ℕ
    w' u = cond (has u (change s m).proposed) 0 (w u)

-- taken off first, no count falls below 0 on the way
pub off_first : (s s' : Store) (r : Right s) (m : Step) (v : Even m) → decide s (change s m) ≡ accepted s'
    → ((x : ℕ) → times x (change s m).drops ≤ ways s x) × ((b : ℕ) → sums (in_buffers s b) (change s m).drops ≤ places s b)
off_first s s' r m v e =
    let a : Passed s (change s m) = (passed s r (change s m) s' e).0 in
    (λ x. dropped_le s r m v a (is x), λ b. dropped_le s r m v a (in_buffers s b))

-- ---- in the document's words, kind by kind

-- the copies of a path have the buffers of its nodes
copies_added : (s : Store) (b : ℕ) (p q : List ℕ) (u t : ℕ) → length q ≡ length p → added b (copies s p q u t) ≡ sums (in_buffers s b) (spine (children_of s) p u)
copies_added s b [] q u t l = refl
copies_added s b (i ∷ p) [] u t l = absurd (omega arith)
copies_added s b (i ∷ p) (f ∷ fs) u t l = omega (arith, copies_added s b p fs (get_or (children_of s u) i 0) t (omega arith))

added_append : (b : ℕ) (es fs : List (ℕ × Node)) → added b (es ++ fs) ≡ added b es + added b fs
added_append b [] fs = omega arith
added_append b (e ∷ es) fs = omega (arith, added_append b es fs)

cut_at_lem : (b n : ℕ) (l : List ℕ) → times b (take n l) + times b (drop n l) ≡ times b l
cut_at_lem b n l = sym (sums_append (is b) (take n l) (drop n l)) ∙ ap (times b) (take-append-drop n l)

module _ (s : Store) (r : Right s) (s' : Store) where
  -- flush: the parent's buffers from the child's offset on come once more, its first gc go
  pub flush_counts_lem : (d : ℕ) (idx fs : List ℕ) (c gc f g : ℕ) → length (take d fs) ≡ length (take d idx) → decide s (change s (Flush d idx fs c gc f g)) ≡ accepted s'
      → let n : Node = node_at s (follow (children_of s) (take d idx) s.root) in
      (b : ℕ) → places s' b + times b (take gc n.buffers) ≡ places s b + times b (drop (get_or n.offsets c 0) n.buffers)
  unfolding change Even
  flush_counts_lem d idx fs c gc f g v e b =
      let p : List ℕ = take d idx in
      let t : ℕ = follow (children_of s) p s.root in
      let n : Node = node_at s t in
      let h : ℕ = get_or n.children c 0 in
      omega (
        arith,
        (counted s r (Flush d idx fs c gc f g) v s' e).branch b,
        added_append b (copies s p (take d fs) s.root f) (flush_ends n (node_at s h) c gc f g),
        copies_added s b p (take d fs) s.root f v,
        sums_append (in_buffers s b) (spine (children_of s) p s.root) (t ∷ h ∷ []),
        sums_append (is b) (buffers_of s h) (drop (get_or n.offsets c 0) n.buffers),
        cut_at_lem b gc n.buffers,
      )

  -- split: the child's buffers come once more
  pub split_counts_lem : (d : ℕ) (idx fs : List ℕ) (c a f l r' : ℕ) → length (take d fs) ≡ length (take d idx) → decide s (change s (Split d idx fs c a f l r')) ≡ accepted s'
      → let n : Node = node_at s (follow (children_of s) (take d idx) s.root) in
      (b : ℕ) → places s' b ≡ places s b + times b (buffers_of s (get_or n.children c 0))
  unfolding change Even
  split_counts_lem d idx fs c a f l r' v e b =
      let p : List ℕ = take d idx in
      let t : ℕ = follow (children_of s) p s.root in
      let h : ℕ = get_or (children_of s t) c 0 in
      omega (
        arith,
        (counted s r (Split d idx fs c a f l r') v s' e).branch b,
        added_append b (copies s p (take d fs) s.root f) (split_ends (node_at s t) (node_at s h) c a f l r'),
        copies_added s b p (take d fs) s.root f v,
        sums_append (in_buffers s b) (spine (children_of s) p s.root) (t ∷ h ∷ []),
      )

  -- commit: the buffers from start to end go, the sealed branch comes
  pub commit_counts : (k j d : ℕ) (idx fs : List ℕ) (a z f : ℕ) → length (take d fs) ≡ length (take d idx) → decide s (change s (Commit k j d idx fs a z f)) ≡ accepted s'
      → let n : Node = node_at s (follow (children_of s) (take d idx) s.root) in
      (b : ℕ) → places s' b + times b n.buffers ≡ places s b + (times b (take a n.buffers) + (is b (get_or (slot_units (slot_at s j)) 0 0) + times b (drop z n.buffers)))
  unfolding change Even
  commit_counts k j d idx fs a z f v e b =
      let p : List ℕ = take d idx in
      let t : ℕ = follow (children_of s) p s.root in
      omega (
        arith,
        (counted s r (Commit k j d idx fs a z f) v s' e).branch b,
        added_append b (copies s p (take d fs) s.root f) (commit_ends (node_at s t) a z (get_or (slot_units (slot_at s j)) 0 0) f),
        copies_added s b p (take d fs) s.root f v,
        sums_append (in_buffers s b) (spine (children_of s) p s.root) (t ∷ []),
        sums_append (is b) (take a (buffers_of s t)) (get_or (slot_units (slot_at s j)) 0 0 ∷ drop z (buffers_of s t)),
      )

  -- grow: no branch's count changes
  pub grow_counts : (u : ℕ) → decide s (change s (Grow u)) ≡ accepted s' → (b : ℕ) → places s' b ≡ places s b
  unfolding change Even
  grow_counts u e b = omega (arith, (counted s r (Grow u) tt s' e).branch b)

  -- memtable flush: the sealed branch comes
  pub memtable_counts_lem : (k u : ℕ) → decide s (change s (Memtable k u)) ≡ accepted s' → (b : ℕ) → places s' b ≡ places s b + is b (get_or (slot_units (slot_at s k)) 0 0)
  unfolding change Even
  memtable_counts_lem k u e b =
      omega (
        arith,
        (counted s r (Memtable k u) tt s' e).branch b,
        same (eqb s.root 0) refl,
        sums_append (is b) (root_node s).buffers (get_or (slot_units (slot_at s k)) 0 0 ∷ []),
      )
    where
      same : (c : Bool) → eqb s.root 0 ≡ c → sums (in_buffers s b) (cond c [] (s.root ∷ [])) ≡ times b (cond c blank (node_at s s.root)).buffers
      same true q = refl
      same false q = omega arith
