-- The theorems on steps: a step that is accepted leads from a right store to a right one, and moves each count by what it drops and adds.
-- Assumes nothing.
use mathlib.Core.Path.{◌≡◌, refl, sym, subst}
use mathlib.Core.Bool.{Bool, true, false}
use mathlib.Core.List.{List}
use mathlib.Core.Option.{Option, none, some}
use Prim.Native.Nat.{ℕ, ◌+◌, ◌≤◌}
use native.Mathlib.Omega.{arith}
use lib.Dec.{T}
use lib.ListN.{length, take}
use Rattle.ways.specs.Ways.{is}
use Rattle.rules.specs.Tables.{keys, times, all, is_some, distinct}
use Rattle.right.specs.Ledger.{unused, Ledger}
use Rattle.rules.specs.Store.{Node, Store, ways}
use Rattle.rules.specs.Steps.{fresh, Outcome, accepted, Change, extended, next, small, fit, need, decide, Step, no_step, Take, Seal, Memtable, Abandon, Grow, Abort, Split, Flush, Begin, Commit, change}
use Rattle.rules.specs.Right.{Sound, Right}
use Rattle.ways.proofs.Members.{pos_has}
use Rattle.right.proofs.Tables.{distinct_once}
use Rattle.right.proofs.Ledgers.{quiet_ledger, flush_ledger, split_ledger, commit_ledger, grow_ledger, memtable_ledger, path_keys}
use Rattle.right.proofs.Ledger.{unused_distinct, fresh_unit, node_owned}
use Rattle.right.proofs.Held.{fresh_unused}
use Rattle.right.proofs.Prune.{settle, not_seen}
use Rattle.right.proofs.Extended.{Lawful, extended_sound, zero_of}
use Rattle.right.proofs.Quiet.{stay_lawful, take_lawful, seal_lawful, abandon_lawful, abort_lawful, begin_lawful}
use Rattle.right.proofs.Tree.{flush_lawful, split_lawful, commit_lawful, memtable_lawful, grow_lawful}

-- ---- what acceptance says

pub record Passed (s : Store) (p : Change) : Type 0 where
  pub shape : T p.shape
  pub slot : T p.slot
  pub path : T p.path
  pub range : T p.range
  pub input : T p.input
  pub small : T (all small p.adds)
  pub low : T p.low
  pub new : T (unused s p.proposed)
  pub fits : T (fit (extended s p))

pub need_ok : (b : Bool) (n : ℕ) (o : Outcome) (s : Store) → need b n o ≡ accepted s → T b × (o ≡ accepted s)
need_ok true n o s e = (tt, e)
need_ok false n o s e = absurd (let z : ◌≡◌ {A = ℕ} 0 1 = cc in omega arith)

ok_inj : {s s' : Store} → accepted s ≡ accepted s' → s' ≡ s
ok_inj e = cc

pub passed : (s : Store) → Right s → (p : Change) (s' : Store) → decide s p ≡ accepted s' → Passed s p × (s' ≡ next s p)
unfolding decide
passed s r p s' e =
    let a4 = need_ok p.shape 4 _ s' e in
    let a5 = need_ok p.slot 5 _ s' a4.1 in
    let a6 = need_ok p.path 6 _ s' a5.1 in
    let a7 = need_ok p.range 7 _ s' a6.1 in
    let a8 = need_ok p.input 8 _ s' a7.1 in
    let a9 = need_ok (all small p.adds) 9 _ s' a8.1 in
    let a10 = need_ok p.low 10 _ s' a9.1 in
    let a11 = need_ok (fresh s p.proposed) 11 _ s' a10.1 in
    let a12 = need_ok (fit (extended s p)) 12 _ s' a11.1 in (
      record {
        shape = a4.0;
        slot = a5.0;
        path = a6.0;
        range = a7.0;
        input = a8.0;
        small = a9.0;
        low = a10.0;
        new = subst (λ (b : Bool). T b) (fresh_unused s r p.proposed) a11.0;
        fits = a12.0;
      },
      ok_inj a12.1,
    )

-- ---- the two lists of a path are alike long

unfoldable pub Even : Step → Type 0
Even no_step = Unit {0}
Even (Take k u) = Unit {0}
Even (Seal k n) = Unit {0}
Even (Memtable k r) = Unit {0}
Even (Abandon k) = Unit {0}
Even (Grow r) = Unit {0}
Even (Abort k) = Unit {0}
Even (Split d idx fs c a f l r) = length (take d fs) ≡ length (take d idx)
Even (Flush d idx fs c gc f g) = length (take d fs) ≡ length (take d idx)
Even (Begin k d idx a e) = Unit {0}
Even (Commit k j d idx fs a e f) = length (take d fs) ≡ length (take d idx)

-- ---- every step

pub lawful : (s : Store) → Sound s → (m : Step) → Even m → Passed s (change s m) → Lawful s (change s m)
unfolding change Even
lawful s o no_step v a = stay_lawful s o a.new
lawful s o (Take k u) v a = take_lawful s o k u a.shape a.slot a.new
lawful s o (Seal k n) v a = seal_lawful s o k n a.shape a.slot a.range a.new
lawful s o (Memtable k r) v a = memtable_lawful s o k r a.shape a.slot a.small a.new
lawful s o (Abandon k) v a = abandon_lawful s o k a.shape a.new
lawful s o (Grow r) v a = grow_lawful s o r a.low a.small a.new
lawful s o (Abort k) v a = abort_lawful s o k a.new
lawful s o (Split d idx fs c i f l r) v a = split_lawful s o d idx fs v c i f l r a.path a.small a.new
lawful s o (Flush d idx fs c gc f g) v a = flush_lawful s o d idx fs v c gc f g a.path a.small a.new
lawful s o (Begin k d idx i e) v a = begin_lawful s o k d idx i e a.path a.new
lawful s o (Commit k j d idx fs i e f) v a = commit_lawful s o k j d idx fs i e f v a.shape a.slot a.path a.range a.small a.new

-- the ledger of a step: off go the dropped nodes, on come the added ones
pub ledger : (s : Store) → Sound s → (m : Step) → Even m → Passed s (change s m)
    → Ledger s (extended s (change s m)) (change s m).proposed (change s m).drops (keys (change s m).adds)
unfolding change Even
ledger s o no_step v a = quiet_ledger s o _ refl refl _ a.new
ledger s o (Take k u) v a = quiet_ledger s o _ refl refl _ a.new
ledger s o (Seal k n) v a = quiet_ledger s o _ refl refl _ a.new
ledger s o (Memtable k r) v a = memtable_ledger s o k r a.new
ledger s o (Abandon k) v a = quiet_ledger s o _ refl refl _ a.new
ledger s o (Grow r) v a = grow_ledger s o r a.low a.new
ledger s o (Abort k) v a = quiet_ledger s o _ refl refl _ a.new
ledger s o (Split d idx fs c i f l r) v a = rw (path_keys s o d idx fs v f _) (split_ledger s o d idx fs v c i f l r a.path a.new)
ledger s o (Flush d idx fs c gc f g) v a = rw (path_keys s o d idx fs v f _) (flush_ledger s o d idx fs v c gc f g a.path a.new)
ledger s o (Begin k d idx i e) v a = quiet_ledger s o _ refl refl _ a.new
ledger s o (Commit k j d idx fs i e f) v a = rw (path_keys s o d idx fs v f _) (commit_ledger s o d idx fs v k j i e f a.path a.new)

-- the added nodes have different units
pub apart : (s : Store) → Sound s → (m : Step) → Even m → Passed s (change s m) → T (distinct (keys (change s m).adds))
unfolding change Even
apart s o no_step v a = tt
apart s o (Take k u) v a = tt
apart s o (Seal k n) v a = tt
apart s o (Memtable k r) v a = tt
apart s o (Abandon k) v a = tt
apart s o (Grow r) v a = tt
apart s o (Abort k) v a = tt
apart s o (Split d idx fs c i f l r) v a = subst (λ (l : List ℕ). T (distinct l)) (sym (path_keys s o d idx fs v f _)) (unused_distinct s _ a.new)
apart s o (Flush d idx fs c gc f g) v a = subst (λ (l : List ℕ). T (distinct l)) (sym (path_keys s o d idx fs v f _)) (unused_distinct s _ a.new)
apart s o (Begin k d idx i e) v a = tt
apart s o (Commit k j d idx fs i e f) v a = subst (λ (l : List ℕ). T (distinct l)) (sym (path_keys s o d idx fs v f _)) (unused_distinct s _ a.new)

-- no unit is reached by more ways than 65,535: a new node is reached by one, an old one by no more than before
few_after : (s : Store) → Right s → (m : Step) → Even m → Passed s (change s m) → (u : ℕ) → ways (extended s (change s m)) u ≤ 65535
few_after s r m v a u = go (s.nodes u) refl
  where
    P : Change
    P = change s m

    moved : ways (extended s P) u + times u P.drops ≡ ways s u + times u (keys P.adds)
    moved = ledger s r.sound m v a 0 (is u) (is u) (λ x h. refl)

    once : times u (keys P.adds) ≤ 1
    once = distinct_once (keys P.adds) (apart s r.sound m v a) u

    old : T (is_some (s.nodes u)) → times u (keys P.adds) ≡ 0
    old t =
        zero_of (times u (keys P.adds))
        (λ h. (fresh_unit s P.proposed a.new u ((lawful s r.sound m v a).adds_proposed u (pos_has u (keys P.adds) h))).not_held (node_owned s r.sound u t))

    go : (o : Option Node) → s.nodes u ≡ o → ways (extended s P) u ≤ 65535
    go none e = omega (arith, moved, once, not_seen s r.sound u e)
    go (some n) e = omega (arith, moved, r.few_ways u, old (subst (λ (o : Option Node). T (is_some o)) (sym e) tt))

pub change_right : (s : Store) → Right s → (m : Step) → Even m → (s' : Store) → decide s (change s m) ≡ accepted s' → Right s'
change_right s r m v s' e =
    let a = passed s r (change s m) s' e in
    let l : Lawful s (change s m) = lawful s r.sound m v a.0 in
    subst (λ (x : Store). Right x) (sym a.1)
    (settle (extended s (change s m)) (extended_sound s r.sound (change s m) a.0.new l) a.0.fits (few_after s r m v a.0))
