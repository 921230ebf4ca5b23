-- What a step does to every sum over the ways: its ledger. Assumes nothing.
use mathlib.Core.Path.{◌≡◌, refl, sym, ap, ◌∙◌, subst}
use mathlib.Core.Bool.{Bool, true, false, ◌&&◌, not}
use mathlib.Core.Logic.{⊎_elim, ◌≢◌}
use mathlib.Core.List.{List, [], ◌∷◌, ◌++◌}
use mathlib.Core.Option.{Option, none, some}
use Prim.Native.Nat.{ℕ, zero, suc, ◌+◌, ◌≤◌, ◌<◌}
use native.Mathlib.Omega.{arith}
use lib.Dec.{T, eqb, leb, ltb, eqb_refl, eqb→eq, ltb→lt, leb→le, T_not}
use lib.ListN.{length, get_or}
use Rattle.ways.specs.Ways.{sums, walk, total, totals, is, one, has, flat, follow, spine, up, top, Copied}
use Rattle.rules.specs.Tables.{keys, all, range, is_some, or_else, distinct}
use Rattle.right.specs.Ledger.{Holds, node_units, unused, mark, Ledger}
use Rattle.rules.specs.Store.{units, Node, Store, blank, children_of, root_list, owned}
use Rattle.rules.specs.Steps.{copies, valid}
use Rattle.rules.specs.Right.{Sound}
use Rattle.ways.proofs.Frame.{sums_append}
use Rattle.ways.proofs.Copy.{along, sums_at}
use Rattle.ways.proofs.Tests.{T→eq, F→eq, eq→not, and_l, and_r, or_e, or_l, or_r, same?}
use Rattle.ways.proofs.Members.{pos_has, has_left, has_right, sums_none}
use Rattle.right.proofs.Tables.{all_in}

-- ---- small

pub some_of_lem : {A : Type 0} (o : Option A) → T (is_some o) → (a : A) × (o ≡ some a)
some_of_lem none t = absurd t
some_of_lem (some a) t = (a, refl)

pub has_flat : (f : ℕ → List ℕ) (x c : ℕ) (l : List ℕ) → T (has c l) → T (has x (f c)) → T (has x (flat f l))
has_flat f x c [] t h = absurd t
has_flat f x c (y ∷ ys) t h =
    ⊎_elim
    (λ (q : T (eqb y c)). has_left x (f y) (flat f ys) (subst (λ (k : ℕ). T (has x (f k))) (sym (eqb→eq y c q)) h))
    (λ (q : T (has c ys)). has_right x (f y) (flat f ys) (has_flat f x c ys q h))
    (or_e (eqb y c) (has c ys) t)

pub has_range : (k n u : ℕ) → n ≤ u → u < n + k → T (has u (range k n))
has_range zero n u h l = omega arith
has_range (suc k) n u h l =
    ⊎_elim
    (λ (e : n ≡ u). or_l (eqb n u) (has u (range k (suc n))) (subst (λ (j : ℕ). T (eqb n j)) e (eqb_refl n)))
    (λ (e : eqb n u ≡ false). or_r (eqb n u) (has u (range k (suc n))) (has_range k (suc n) u (apart n u h e) (omega arith)))
    (same? n u)
  where
    apart : (n u : ℕ) → n ≤ u → eqb n u ≡ false → suc n ≤ u
    apart n u h e = let ne : n ≢ u = λ q. eq→not (eqb n u) e (subst (λ (j : ℕ). T (eqb n j)) q (eqb_refl n)) in omega arith

pub has_unit : (u : ℕ) → 1 ≤ u → u ≤ 255 → T (has u units)
unfolding units
has_unit u h l = has_range 255 1 u h (omega arith)

pub has_at : (l : List ℕ) (i : ℕ) → i < length l → T (has (get_or l i 0) l)
has_at l i h = pos_has (get_or l i 0) l (omega (arith, sums_at (is (get_or l i 0)) l i h, ap one (T→eq (eqb (get_or l i 0) (get_or l i 0)) (eqb_refl (get_or l i 0)))))

pub up_length : (p : List ℕ) (x : ℕ) → up p x ≡ length p + x
up_length [] x = omega arith
up_length (i ∷ p) x = omega (arith, up_length p x)

-- ---- a unit that may be proposed

pub record Fresh (s : Store) (u : ℕ) : Type 0 where
  pub least : 1 ≤ u
  pub most : u ≤ 255
  pub not_held : T (has u (owned s)) → ⊥

may : Store → ℕ → Bool
may s v = leb 1 v && (leb v 255 && not (has v (owned s)))

pub fresh_unit : (s : Store) (us : List ℕ) → T (unused s us) → (u : ℕ) → T (has u us) → Fresh s u
unfolding unused may
fresh_unit s us new u t =
    let a : T (may s u) = all_in (may s) us u (and_l (all (may s) us) (distinct us) new) t in
    record {
      least = leb→le 1 u (search and_l);
      most = leb→le u 255 (search (and_l, and_r));
      not_held = T_not (has u (owned s)) (search (and_l, and_r));
    }

pub unused_distinct : (s : Store) (us : List ℕ) → T (unused s us) → T (distinct us)
unfolding unused may
unused_distinct s us new = and_r (all (may s) us) (distinct us) new

-- ---- in a sound store

module _ (s : Store) (ok : Sound s) where
  pub node_owned : (u : ℕ) → T (is_some (s.nodes u)) → T (has u (owned s))
  unfolding owned
  node_owned u t =
      has_left u (flat (node_units s) units) _
      (has_flat (node_units s) u u units (has_unit u (ok.node_unit u t).0 (ok.node_unit u t).1)
      (rw (T→eq (is_some (s.nodes u)) t) (or_l (eqb u u) false (eqb_refl u))))

  pub child_named : (u c : ℕ) → T (has c (children_of s u)) → T (is_some (s.nodes c))
  child_named u c = go (s.nodes u) refl
    where
      go : (o : Option Node) → s.nodes u ≡ o → T (has c (or_else blank o).children) → T (is_some (s.nodes c))
      go none e t = absurd t
      go (some n) e t = (ok.node u n e).children_named c t

  pub follow_node : (p : List ℕ) (u : ℕ) → T (valid (children_of s) p u) → T (is_some (s.nodes u)) → T (is_some (s.nodes (follow (children_of s) p u)))
  follow_node [] u v t = t
  follow_node (i ∷ p) u v t =
      follow_node p (get_or (children_of s u) i 0) (and_r (ltb i (length (children_of s u))) (valid (children_of s) p (get_or (children_of s u) i 0)) v)
      (child_named u (get_or (children_of s u) i 0) (has_at (children_of s u) i (ltb→lt i (length (children_of s u)) (and_l (ltb i (length (children_of s u))) (valid (children_of s) p (get_or (children_of s u) i 0)) v))))

  module _ (us : List ℕ) (new : T (unused s us)) where
    -- what is held is not proposed
    pub unmarked : (u : ℕ) → T (has u (owned s)) → mark us u ≡ 0
    unmarked u o = ap one (F→eq (has u us) (λ t. (fresh_unit s us new u t).not_held o))

    pub clear : (d u : ℕ) → T (is_some (s.nodes u)) → total (children_of s) (mark us) d u ≡ 0
    unfolding walk
    clear zero u t = refl
    clear (suc d) u t =
        omega (arith, unmarked u (node_owned u t), sums_none (total (children_of s) (mark us) d) (children_of s u) (λ c h. clear d c (child_named u c h)))

    pub clear_root : (d : ℕ) → totals (children_of s) (mark us) d (root_list s.root) ≡ 0
    clear_root d = sums_none (total (children_of s) (mark us) d) (root_list s.root) (λ r h. clear d r (ok.rooted r h))

pub unmark : (v : ℕ) (us : List ℕ) → mark us v ≡ 0 → has v us ≡ false
unmark v us = go (has v us)
  where
    go : (c : Bool) → one c ≡ 0 → c ≡ false
    go true e = absurd (omega arith)
    go false e = refl

-- ---- the copies of a path

pub copied : (s : Store) (t' : ℕ → Option Node) (p q : List ℕ) (u t : ℕ) → length q ≡ length p → T (valid (children_of s) p u)
    → Holds t' (copies s p q u t) → Copied (children_of s) (λ v. (or_else blank (t' v)).children) p u q t
copied s t' [] [] u t l v h = tt
copied s t' [] (f ∷ fs) u t l v h = omega arith
copied s t' (i ∷ p) [] u t l v h = omega arith
copied s t' (i ∷ p) (f ∷ fs) u t l v h =
    let k : List ℕ = children_of s u in (
      ltb→lt i (length k) (and_l (ltb i (length k)) (valid (children_of s) p (get_or k i 0)) v),
      ap (λ (o : Option Node). (or_else blank o).children) h.0,
      copied s t' p fs (get_or k i 0) t (omega arith) (and_r (ltb i (length k)) (valid (children_of s) p (get_or k i 0)) v) h.1,
    )

pub keys_copies : (s : Store) (p q : List ℕ) (u t : ℕ) → length q ≡ length p → keys (copies s p q u t) ≡ q
keys_copies s [] [] u t l = refl
keys_copies s [] (f ∷ fs) u t l = absurd (omega arith)
keys_copies s (i ∷ p) [] u t l = absurd (omega arith)
keys_copies s (i ∷ p) (f ∷ fs) u t l = ap (λ (k : List ℕ). f ∷ k) (keys_copies s p fs (get_or (children_of s u) i 0) t (omega arith))

pub root_list_lem : (r : ℕ) → eqb r 0 ≡ false → root_list r ≡ r ∷ []
root_list_lem r e = rw e

pub root_named : (s : Store) → Sound s → eqb s.root 0 ≡ false → T (is_some (s.nodes s.root))
root_named s ok full =
    ok.rooted s.root ((rw (root_list_lem s.root full) (or_l (eqb s.root s.root) false (eqb_refl s.root))))

pub top_in : (q : List ℕ) (t : ℕ) (on : List ℕ) → T (has (top q t) (q ++ (t ∷ on)))
top_in [] t on = or_l (eqb t t) (has t on) (eqb_refl t)
top_in (f ∷ fs) t on = or_l (eqb f f) (has f (fs ++ (t ∷ on))) (eqb_refl f)

-- a step that copies a path p to q, and at its end puts t, with the units `on` in all, for what `off` were
module _ (s s' : Store) (ok : Sound s) (p q : List ℕ) (t : ℕ) (on off : List ℕ) (x : ℕ)
    (new : T (unused s (q ++ (t ∷ on)))) (full : eqb s.root 0 ≡ false) (root : s'.root ≡ top q t)
    (same : (v : ℕ) → has v (q ++ (t ∷ on)) ≡ false → children_of s' v ≡ children_of s v)
    (path : Copied (children_of s) (children_of s') p s.root q t) (fuel : up p x ≡ 8) where
  pub spliced :
      ((b : ℕ) (w w' : ℕ → ℕ) → ((v : ℕ) → mark (q ++ (t ∷ on)) v ≡ 0 → (children_of s' v ≡ children_of s v) × (w' v ≡ w v))
      → walk b (children_of s') w' x t + sums w off ≡ walk b (children_of s) w x (follow (children_of s) p s.root) + sums w' (t ∷ on))
      → Ledger s s' (q ++ (t ∷ on)) (spine (children_of s) p s.root ++ off) (q ++ (t ∷ on))
  spliced law b w w' h =
      let us : List ℕ = q ++ (t ∷ on) in
      let both : (v : ℕ) → mark us v ≡ 0 → (children_of s' v ≡ children_of s v) × (w' v ≡ w v) = λ v e. (same v (un v us e), h v (un v us e)) in
      let r' : eqb s'.root 0 ≡ false = rw root (pos (top q t) (fresh_unit s us new (top q t) (top_in q t on)).least) in
      let named : T (is_some (s.nodes s.root)) = root_named s ok full in
      let main : walk b (children_of s') w' (up p x) (top q t) + (sums w (spine (children_of s) p s.root) + sums w off) ≡ walk b (children_of s) w (up p x) s.root + (sums w' q + sums w' (t ∷ on)) =
      along b (mark us) (children_of s) (children_of s') w w' both p q s.root t x (sums w off) (sums w' (t ∷ on)) path (clear s ok us new (up p x) s.root named) (law b w w' both) in
      let main8 : walk b (children_of s') w' 8 (top q t) + (sums w (spine (children_of s) p s.root) + sums w off) ≡ walk b (children_of s) w 8 s.root + (sums w' q + sums w' (t ∷ on)) =
      subst (λ (n : ℕ). walk b (children_of s') w' n (top q t) + (sums w (spine (children_of s) p s.root) + sums w off) ≡ walk b (children_of s) w n s.root + (sums w' q + sums w' (t ∷ on))) fuel main in
      omega (
        arith,
        main8,
        ap (sums (walk b (children_of s') w' 8)) (root_list_lem s'.root r' ∙ ap (λ (r : ℕ). r ∷ []) root),
        ap (sums (walk b (children_of s) w 8)) (root_list_lem s.root full),
        sums_append w (spine (children_of s) p s.root) off,
        sums_append w' q (t ∷ on),
      )
    where
      un : (v : ℕ) (us : List ℕ) → mark us v ≡ 0 → has v us ≡ false
      un v us e = F→eq (has v us) (λ z. absurd_one (has v us) z e)
        where
          absurd_one : (c : Bool) → T c → one c ≡ 0 → ⊥
          absurd_one true z e = omega arith
          absurd_one false z e = z

      pos : (n : ℕ) → 1 ≤ n → eqb n 0 ≡ false
      pos n h = F→eq (eqb n 0) (λ z. let e : n ≡ 0 = eqb→eq n 0 z in omega arith)
