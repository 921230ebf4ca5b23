-- Tables and their lists of entries in rising order; cutting a list into records. Nothing of stores. Assumes nothing.
use mathlib.Core.Path.{◌≡◌, refl, sym, ap, ap₂, ◌∙◌, subst}
use mathlib.Core.Bool.{Bool, true, false, ◌&&◌, cond}
use mathlib.Core.Logic.{◌⊎◌, inl, inr, ⊎_elim}
use mathlib.Core.List.{List, [], ◌∷◌, ◌++◌, map, append_assoc}
use mathlib.Core.Option.{Option, none, some}
use Prim.Native.Nat.{ℕ, zero, suc, ◌+◌, ◌≤◌, ◌<◌}
use native.Mathlib.Omega.{arith}
use lib.Dec.{T, eqb, leb, ltb, eqb_refl, eqb→eq, leb→le, le→leb, ltb→lt}
use lib.ListN.{length, get_or, take, drop, length-append, take-append-drop, get_or-append}
use lib.Seq.{take_at, drop_at, get_or-take}
use Rattle.ways.specs.Ways.{flat, has}
use Rattle.rules.specs.Tables.{all, keys, range, joined, is_some, rising, find}
use Rattle.ways.proofs.Tests.{T→eq, eq→T, F→eq, eq→not, and_l, and_r, and_i, or_e, or_l, or_r, same?}
use Rattle.rules.specs.Loads.{Cutting, leading}

pub apart : (x y : ℕ) → eqb x y ≡ false → x ≡ y → ⊥
apart x y q e = eq→not (eqb x y) q (subst (λ (z : ℕ). T (eqb x z)) e (eqb_refl x))

-- ---- tests of a whole list

module _ {A : Type 0} where
  pub all_and : (f g : A → Bool) (l : List A) → T (all f l) → T (all g l) → T (all (λ x. f x && g x) l)
  all_and f g [] a b = tt
  all_and f g (x ∷ xs) a b =
      and_i (f x && g x) (all (λ y. f y && g y) xs) (and_i (f x) (g x) (and_l (f x) (all f xs) a) (and_l (g x) (all g xs) b))
      (all_and f g xs (and_r (f x) (all f xs) a) (and_r (g x) (all g xs) b))

  pub to_map : {B : Type 0} (f : B → Bool) (g : A → B) (l : List A) → T (all (λ x. f (g x)) l) → T (all f (map g l))
  to_map f g [] a = tt
  to_map f g (x ∷ xs) a = and_i (f (g x)) (all f (map g xs)) (and_l (f (g x)) (all (λ y. f (g y)) xs) a) (to_map f g xs (and_r (f (g x)) (all (λ y. f (g y)) xs) a))

  pub of_map : {B : Type 0} (f : B → Bool) (g : A → B) (l : List A) → T (all f (map g l)) → T (all (λ x. f (g x)) l)
  of_map f g [] a = tt
  of_map f g (x ∷ xs) a = and_i (f (g x)) (all (λ y. f (g y)) xs) (and_l (f (g x)) (all f (map g xs)) a) (of_map f g xs (and_r (f (g x)) (all f (map g xs)) a))

  pub to_keys : (f : ℕ → Bool) (es : List (ℕ × A)) → T (all (λ e. f e.0) es) → T (all f (keys es))
  to_keys f [] a = tt
  to_keys f (e ∷ es) a = and_i (f e.0) (all f (keys es)) (and_l (f e.0) (all (λ e. f e.0) es) a) (to_keys f es (and_r (f e.0) (all (λ e. f e.0) es) a))

  pub of_keys : (f : ℕ → Bool) (es : List (ℕ × A)) → T (all f (keys es)) → T (all (λ e. f e.0) es)
  of_keys f [] a = tt
  of_keys f (e ∷ es) a = and_i (f e.0) (all (λ e. f e.0) es) (and_l (f e.0) (all f (keys es)) a) (of_keys f es (and_r (f e.0) (all f (keys es)) a))

-- ---- entries of a table

module _ {A : Type 0} where
  abbrev pub push : ℕ → Option A → List (ℕ × A) → List (ℕ × A)
  push u none r = r
  push u (some a) r = (u, a) ∷ r

  abbrev pub entries : (ℕ → Option A) → List ℕ → List (ℕ × A)
  entries t [] = []
  entries t (u ∷ us) = push u (t u) (entries t us)

  -- a list over all units is a list over the entries
  pub flat_entries : (g : ℕ → Option A → List ℕ) → ((u : ℕ) → g u none ≡ []) → (t : ℕ → Option A) (us : List ℕ)
      → flat (λ u. g u (t u)) us ≡ joined (λ e. g e.0 (some e.1)) (entries t us)
  flat_entries g z t [] = refl
  flat_entries g z t (u ∷ us) = go (t u) (flat_entries g z t us)
    where
      go : (o : Option A) → flat (λ u. g u (t u)) us ≡ joined (λ e. g e.0 (some e.1)) (entries t us)
          → g u o ++ flat (λ u. g u (t u)) us ≡ joined (λ e. g e.0 (some e.1)) (push u o (entries t us))
      go none ih = ap₂ (λ (a b : List ℕ). a ++ b) (z u) ih
      go (some a) ih = ap (λ (l : List ℕ). g u (some a) ++ l) ih

  pub find_below : (es : List (ℕ × A)) (lo v : ℕ) → T (rising lo (keys es)) → v < lo → find es v ≡ none
  find_below [] lo v r h = refl
  find_below (e ∷ es) lo v r h =
      let l : lo ≤ e.0 = leb→le lo e.0 (and_l (leb lo e.0) (rising (suc e.0) (keys es)) r) in
      let x : eqb v e.0 ≡ false = F→eq (eqb v e.0) (λ t. let q : v ≡ e.0 = eqb→eq v e.0 t in omega arith) in
      rw x (find_below es (suc e.0) v (and_r (leb lo e.0) (rising (suc e.0) (keys es)) r) (omega arith))

  pub entries_cong : (t t' : ℕ → Option A) (k lo : ℕ) → ((v : ℕ) → lo ≤ v → t v ≡ t' v) → entries t (range k lo) ≡ entries t' (range k lo)
  entries_cong t t' zero lo h = refl
  entries_cong t t' (suc k) lo h =
      ap₂ (λ (o : Option A) (l : List (ℕ × A)). push lo o l) (h lo (omega arith)) (entries_cong t t' k (suc lo) (λ v g. h v (omega arith)))

  -- a rising list is the list of its table's entries
  pub entries_find : (k lo n : ℕ) (es : List (ℕ × A)) → n ≤ lo + k → T (rising lo (keys es)) → T (all (λ v. ltb v n) (keys es)) → entries (find es) (range k lo) ≡ es
  entries_find zero lo n [] g r a = refl
  entries_find zero lo n (e ∷ es) g r a =
      absurd (omega (arith, leb→le lo e.0 (and_l (leb lo e.0) (rising (suc e.0) (keys es)) r), ltb→lt e.0 n (and_l (ltb e.0 n) (all (λ v. ltb v n) (keys es)) a)))
  entries_find (suc k) lo n [] g r a = entries_find k (suc lo) n [] (omega arith) tt tt
  entries_find (suc k) lo n (e ∷ es) g r a =
      ⊎_elim
      (λ (q : lo ≡ e.0).
      ap₂ (λ (o : Option A) (l : List (ℕ × A)). push lo o l)
      (ap (λ (b : Bool). cond b (some e.1) (find es lo)) (T→eq (eqb lo e.0) (subst (λ (x : ℕ). T (eqb lo x)) q (eqb_refl lo))))
      (entries_cong (find (e ∷ es)) (find es) k (suc lo) (λ v l.
      ap (λ (b : Bool). cond b (some e.1) (find es v)) (F→eq (eqb v e.0) (λ t. let z : v ≡ e.0 = eqb→eq v e.0 t in omega arith)))
      ∙ entries_find k (suc lo) n es (omega arith) (subst (λ (x : ℕ). T (rising (suc x) (keys es))) (sym q) tail) (and_r (ltb e.0 n) (all (λ v. ltb v n) (keys es)) a))
      ∙ ap (λ (x : ℕ). (x, e.1) ∷ es) q)
      (λ (q : eqb lo e.0 ≡ false).
      let up : T (rising (suc lo) (keys (e ∷ es))) = and_i (leb (suc lo) e.0) (rising (suc e.0) (keys es)) (le→leb (suc lo) e.0 (later q)) tail in
      ap (λ (o : Option A). push lo o (entries (find (e ∷ es)) (range k (suc lo)))) (find_below (e ∷ es) (suc lo) lo up (omega arith))
      ∙ entries_find k (suc lo) n (e ∷ es) (omega arith) up a)
      (same? lo e.0)
    where
      tail : T (rising (suc e.0) (keys es))
      tail = and_r (leb lo e.0) (rising (suc e.0) (keys es)) r

      first : lo ≤ e.0
      first = leb→le lo e.0 (and_l (leb lo e.0) (rising (suc e.0) (keys es)) r)

      later : eqb lo e.0 ≡ false → lo < e.0
      later q = omega (arith, first, apart lo e.0 q)

  pub rising_entries : (t : ℕ → Option A) (k lo lo' : ℕ) → lo' ≤ lo → T (rising lo' (keys (entries t (range k lo))))
  rising_entries t zero lo lo' h = tt
  rising_entries t (suc k) lo lo' h = go (t lo) (rising_entries t k (suc lo) lo' (omega arith)) (rising_entries t k (suc lo) (suc lo) (omega arith))
    where
      go : (o : Option A) → T (rising lo' (keys (entries t (range k (suc lo))))) → T (rising (suc lo) (keys (entries t (range k (suc lo)))))
          → T (rising lo' (keys (push lo o (entries t (range k (suc lo))))))
      go none a b = a
      go (some x) a b = and_i (leb lo' lo) (rising (suc lo) (keys (entries t (range k (suc lo))))) (le→leb lo' lo h) b

  -- and the entries' table is the table
  pub find_entries : (t : ℕ → Option A) (k lo v : ℕ) → (T (is_some (t v)) → (lo ≤ v) × (v < lo + k)) → find (entries t (range k lo)) v ≡ t v
  find_entries t zero lo v h = go (t v) h
    where
      go : (o : Option A) → (T (is_some o) → (lo ≤ v) × (v < lo + zero)) → none ≡ o
      go none h = refl
      go (some a) h = absurd (let z = h tt in omega arith)
  find_entries t (suc k) lo v h =
      ⊎_elim
      (λ (q : v ≡ lo). subst (λ (x : ℕ). find (push lo (t lo) (entries t (range k (suc lo)))) x ≡ t x) (sym q) (here (t lo)))
      (λ (q : eqb v lo ≡ false). past (t lo) q ∙ find_entries t k (suc lo) v (λ z. let w = h z in (omega (arith, w.0, apart v lo q), omega (arith, w.1))))
      (same? v lo)
    where
      here : (o : Option A) → find (push lo o (entries t (range k (suc lo)))) lo ≡ o
      here none = find_below (entries t (range k (suc lo))) (suc lo) lo (rising_entries t k (suc lo) (suc lo) (omega arith)) (omega arith)
      here (some a) = ap (λ (b : Bool). cond b (some a) (find (entries t (range k (suc lo))) lo)) (T→eq (eqb lo lo) (eqb_refl lo))

      past : (o : Option A) → eqb v lo ≡ false → find (push lo o (entries t (range k (suc lo)))) v ≡ find (entries t (range k (suc lo))) v
      past none q = refl
      past (some a) q = ap (λ (b : Bool). cond b (some a) (find (entries t (range k (suc lo))) v)) q

  pub all_entries : (f : ℕ × A → Bool) (t : ℕ → Option A) (us : List ℕ) → ((u : ℕ) (a : A) → T (has u us) → t u ≡ some a → T (f (u, a))) → T (all f (entries t us))
  all_entries f t [] h = tt
  all_entries f t (u ∷ us) h = go (t u) refl (all_entries f t us (λ v a z. h v a (or_r (eqb u v) (has v us) z)))
    where
      go : (o : Option A) → t u ≡ o → T (all f (entries t us)) → T (all f (push u o (entries t us)))
      go none e r = r
      go (some a) e r = and_i (f (u, a)) (all f (entries t us)) (h u a (or_l (eqb u u) (has u us) (eqb_refl u)) e) r

  -- what a test of all entries says of what is found
  pub found : (f : ℕ × A → Bool) (es : List (ℕ × A)) → T (all f es) → (v : ℕ) (a : A) → find es v ≡ some a → T (f (v, a)) × T (has v (keys es))
  found f [] t v a e = absurd (subst (λ (o : Option A). T (is_some o)) (sym e) tt)
  found f (x ∷ es) t v a e = go (eqb v x.0) refl e (found f es (and_r (f x) (all f es) t) v a)
    where
      go : (b : Bool) → eqb v x.0 ≡ b → cond b (some x.1) (find es v) ≡ some a → (find es v ≡ some a → T (f (v, a)) × T (has v (keys es)))
          → T (f (v, a)) × T (has v (keys (x ∷ es)))
      go true q e ih =
          let z : x.0 ≡ v = sym (eqb→eq v x.0 (eq→T (eqb v x.0) q)) in
          let y : x.1 ≡ a = cc in (
            subst (λ (p : ℕ × A). T (f p)) (λ i. (z i, y i)) (and_l (f x) (all f es) t),
            or_l (eqb x.0 v) (has v (keys es)) (subst (λ (k : ℕ). T (eqb x.0 k)) z (eqb_refl x.0)),
          )
      go false q e ih = let r = ih e in (r.0, or_r (eqb x.0 v) (has v (keys es)) r.1)

  pub key_found : (es : List (ℕ × A)) (v : ℕ) → T (has v (keys es)) → T (is_some (find es v))
  key_found [] v t = absurd t
  key_found (x ∷ es) v t = go (key_found es v) (eqb v x.0) refl
    where
      go : (T (has v (keys es)) → T (is_some (find es v))) → (b : Bool) → eqb v x.0 ≡ b → T (is_some (cond b (some x.1) (find es v)))
      go ih true q = tt
      go ih false q =
          ⊎_elim
          (λ (z : T (eqb x.0 v)). absurd (eq→not (eqb v x.0) q (subst (λ (k : ℕ). T (eqb v k)) (sym (eqb→eq x.0 v z)) (eqb_refl v))))
          ih
          (or_e (eqb x.0 v) (has v (keys es)) t)

-- ---- records at the front

abbrev pub joint : List (List ℕ) → List ℕ
joint rs = joined (λ r. r) rs

pub lead_joint : (k n f : ℕ) (l : List ℕ) → joint (leading k n f l).0 ++ (leading k n f l).1 ≡ l
unfolding leading
lead_joint k n zero l = refl
lead_joint k n (suc f) l = go (eqb (get_or l 0 0) k) (lead_joint k n f (drop n l))
  where
    r : Cutting
    r = leading k n f (drop n l)

    go : (b : Bool) → joint r.0 ++ r.1 ≡ drop n l → joint (cond {A = Cutting} b (take n l ∷ r.0, r.1) ([], l)).0 ++ (cond {A = Cutting} b (take n l ∷ r.0, r.1) ([], l)).1 ≡ l
    go true ih = append_assoc (take n l) (joint r.0) r.1 ∙ ap (λ (x : List ℕ). take n l ++ x) ih ∙ take-append-drop n l
    go false ih = refl

pub lead_heads : (k n f : ℕ) (l : List ℕ) → T (all (λ r. eqb (get_or r 0 0) k) (leading k (suc n) f l).0)
unfolding leading
lead_heads k n zero l = tt
lead_heads k n (suc f) l = go (eqb (get_or l 0 0) k) refl (lead_heads k n f (drop (suc n) l))
  where
    r : Cutting
    r = leading k (suc n) f (drop (suc n) l)

    go : (b : Bool) → eqb (get_or l 0 0) k ≡ b → T (all (λ r. eqb (get_or r 0 0) k) r.0) → T (all (λ r. eqb (get_or r 0 0) k) (cond {A = Cutting} b (take (suc n) l ∷ r.0, r.1) ([], l)).0)
    go true e ih = and_i (eqb (get_or (take (suc n) l) 0 0) k) (all (λ r. eqb (get_or r 0 0) k) r.0) (subst (λ (x : ℕ). T (eqb x k)) (sym (get_or-take (suc n) l 0 0 (omega arith))) (eq→T (eqb (get_or l 0 0) k) e)) ih
    go false e ih = tt

abbrev pub sized : ℕ → ℕ → List ℕ → Bool
sized k n r = eqb (length r) n && eqb (get_or r 0 0) k

pub lead_all : (k n f : ℕ) (rs : List (List ℕ)) (rest : List ℕ) → 1 ≤ n → T (all (sized k n) rs) → eqb (get_or rest 0 0) k ≡ false → length rs ≤ f
    → leading k n f (joint rs ++ rest) ≡ (rs, rest)
unfolding leading
lead_all k n zero [] rest p a e h = refl
lead_all k n (suc f) [] rest p a e h = rw e
lead_all k n zero (r ∷ rs) rest p a e h = absurd (omega arith)
lead_all k n (suc f) (r ∷ rs) rest p a e h =
    let t = and_l (sized k n r) (all (sized k n) rs) a in
    let len : length r ≡ n = eqb→eq (length r) n (and_l (eqb (length r) n) (eqb (get_or r 0 0) k) t) in
    subst (λ (l : List ℕ). leading k n (suc f) l ≡ (r ∷ rs, rest)) (sym (append_assoc r (joint rs) rest))
    (step (joint rs ++ rest) len
    (T→eq (eqb (get_or (r ++ (joint rs ++ rest)) 0 0) k) (subst (λ (x : ℕ). T (eqb x k)) (sym (get_or-append r (joint rs ++ rest) 0 0 (omega arith))) (and_r (eqb (length r) n) (eqb (get_or r 0 0) k) t)))
    (lead_all k n f rs rest p (and_r (sized k n r) (all (sized k n) rs) a) e (omega arith)))
  where
    step : (x : List ℕ) → length r ≡ n → eqb (get_or (r ++ x) 0 0) k ≡ true → leading k n f x ≡ (rs, rest) → leading k n (suc f) (r ++ x) ≡ (r ∷ rs, rest)
    step x len hd ih =
        let d : drop n (r ++ x) ≡ x = drop_at r x n len in
        let t : take n (r ++ x) ≡ r = take_at r x n len in
        let q : leading k n f (drop n (r ++ x)) ≡ (rs, rest) = ap (leading k n f) d ∙ ih in
        ap (λ (b : Bool). cond {A = Cutting} b (take n (r ++ x) ∷ (leading k n f (drop n (r ++ x))).0, (leading k n f (drop n (r ++ x))).1) ([], r ++ x)) hd
        ∙ (λ i. (t i ∷ (q i).0, (q i).1))

-- what the first byte after the records is
abbrev pub After : ℕ → List ℕ → Type 0
After k l = (get_or l 0 0 ≡ 0) ⊎ (k < get_or l 0 0)

pub after : (j k n : ℕ) (rs : List (List ℕ)) (rest : List ℕ) → 1 ≤ n → j < k → T (all (sized k n) rs) → After k rest → After j (joint rs ++ rest)
after j k n [] rest p h a r = ⊎_elim (λ (e : get_or rest 0 0 ≡ 0). inl e) (λ (e : k < get_or rest 0 0). inr (omega arith)) r
after j k n (x ∷ rs) rest p h a r =
    let t = and_l (sized k n x) (all (sized k n) rs) a in
    let len : length x ≡ n = eqb→eq (length x) n (and_l (eqb (length x) n) (eqb (get_or x 0 0) k) t) in
    inr (omega (
      arith,
      eqb→eq (get_or x 0 0) k (and_r (eqb (length x) n) (eqb (get_or x 0 0) k) t),
      ap (λ (l : List ℕ). get_or l 0 0) (append_assoc x (joint rs) rest),
      get_or-append x (joint rs ++ rest) 0 0 (omega arith),
    ))

pub not_after : (k : ℕ) (l : List ℕ) → 1 ≤ k → After k l → eqb (get_or l 0 0) k ≡ false
not_after k l p r = F→eq (eqb (get_or l 0 0) k) (λ t. let e : get_or l 0 0 ≡ k = eqb→eq (get_or l 0 0) k t in ⊎_elim (λ (z : get_or l 0 0 ≡ 0). omega arith) (λ (z : k < get_or l 0 0). omega arith) r)

pub fewer : (k n : ℕ) (rs : List (List ℕ)) → 1 ≤ n → T (all (sized k n) rs) → length rs ≤ length (joint rs)
fewer k n [] p a = omega arith
fewer k n (r ∷ rs) p a =
    omega (
      arith,
      length-append r (joint rs),
      fewer k n rs p (and_r (sized k n r) (all (sized k n) rs) a),
      eqb→eq (length r) n (and_l (eqb (length r) n) (eqb (get_or r 0 0) k) (and_l (sized k n r) (all (sized k n) rs) a)),
    )
