-- An image of a right store has at most 8,192 bytes. Assumes nothing.
use mathlib.Core.Path.{◌≡◌, refl, sym, ap, ◌∙◌, subst}
use mathlib.Core.Bool.{false, cond}
use mathlib.Core.Logic.{⊎_elim}
use mathlib.Core.List.{List, [], ◌∷◌, ◌++◌, map}
use mathlib.Core.Option.{Option, none, some}
use Prim.Native.Nat.{ℕ, suc, ◌+◌, ◌*◌, ◌≤◌}
use native.Mathlib.Omega.{arith}
use lib.Dec.{T, eqb, eqb_refl, eqb→eq}
use lib.ListN.{length, length-append}
use Rattle.ways.specs.Ways.{sums, is, one, flat, has}
use Rattle.rules.specs.Tables.{range, times, joined, is_some, or_else}
use Rattle.rules.specs.Store.{units, Store, units_of, slot_units, owned}
use Rattle.right.specs.Ledger.{node_units}
use Rattle.rules.specs.Images.{image}
use Rattle.rules.specs.Right.{Right}
use Rattle.ways.proofs.Frame.{sums_cong}
use Rattle.ways.proofs.Tests.{F→eq, eq→not, or_l, or_r, same?}
use Rattle.ways.proofs.Members.{has_pos, sums_none}
use Rattle.right.proofs.Ledger.{has_unit}
use Rattle.right.proofs.Prune.{sums_le}
use Rattle.right.proofs.Extended.{units_once}
use Rattle.images.proofs.Listing.{push, entries, joint}
use Rattle.images.proofs.Stored.{slot_t, input_t, paint_n, paint_b, paint_s, paint_i, recs, image_parts, node_w, branch_w, slot_at, input_at_lem}

-- ---- a list of units, each once, has at most 255 members

sums_two : (f g : ℕ → ℕ) (l : List ℕ) → sums (λ c. f c + g c) l ≡ sums f l + sums g l
sums_two f g [] = refl
sums_two f g (x ∷ xs) = omega (arith, sums_two f g xs)

flip_is : (x u : ℕ) → is u x ≡ is x u
flip_is x u =
    ⊎_elim
    (λ (e : x ≡ u). subst (λ (k : ℕ). is k x ≡ is x k) e refl)
    (λ (e : eqb x u ≡ false). ap one (e ∙ sym (F→eq (eqb u x) (λ t. eq→not (eqb x u) e (subst (λ (k : ℕ). T (eqb k u)) (eqb→eq u x t) (eqb_refl u))))))
    (same? x u)

spread : (l : List ℕ) → ((x : ℕ) → T (has x l) → T (has x units)) → sums (λ u. times u l) units ≡ length l
spread [] h = sums_none (λ u. 0) units (λ c t. refl)
spread (x ∷ xs) h =
    omega (
      arith,
      sums_two (λ u. is u x) (λ u. times u xs) units,
      sums_cong (is x) (λ u. is u x) (λ u. flip_is x u) units,
      units_once x,
      has_pos x units (h x (or_l (eqb x x) (has x xs) (eqb_refl x))),
      spread xs (λ y t. h y (or_r (eqb x y) (has y xs) t)),
    )

ones : sums (λ u. 1) units ≡ 255
unfolding units
ones = refl

pub owned_few : (s : Store) → Right s → length (owned s) ≤ 255
owned_few s r =
    omega (
      arith,
      spread (owned s) (λ u t. let w = r.sound.unit u t in has_unit u w.0 w.1),
      sums_le (λ u. times u (owned s)) (λ u. 1) r.sound.single units,
      ones,
    )

-- ---- lengths by entries

module _ {A : Type 0} (t : ℕ → Option A) where
  entries_few : (us : List ℕ) → length (entries t us) ≤ length us
  entries_few [] = omega arith
  entries_few (u ∷ us) = go (t u) (entries_few us)
    where
      go : (o : Option A) → length (entries t us) ≤ length us → length (push u o (entries t us)) ≤ suc (length us)
      go none ih = omega arith
      go (some a) ih = omega arith

  entries_flat : (g : ℕ → Option A → List ℕ) → ((u : ℕ) (a : A) → t u ≡ some a → 1 ≤ length (g u (some a))) → (us : List ℕ)
      → length (entries t us) ≤ length (flat (λ u. g u (t u)) us)
  entries_flat g h [] = omega arith
  entries_flat g h (u ∷ us) = go (t u) refl (entries_flat g h us)
    where
      go : (o : Option A) → t u ≡ o → length (entries t us) ≤ length (flat (λ u. g u (t u)) us) → length (push u o (entries t us)) ≤ length (g u o ++ flat (λ u. g u (t u)) us)
      go none e ih = omega (arith, length-append (g u none) (flat (λ u. g u (t u)) us))
      go (some a) e ih = omega (arith, h u a e, length-append (g u (some a)) (flat (λ u. g u (t u)) us))

  joint_length : (p : ℕ × A → List ℕ) (n : ℕ) → ((u : ℕ) (a : A) → t u ≡ some a → length (p (u, a)) ≡ n) → (us : List ℕ)
      → length (joint (map p (entries t us))) ≡ n * length (entries t us)
  joint_length p n h [] = omega arith
  joint_length p n h (u ∷ us) = go (t u) refl (joint_length p n h us)
    where
      go : (o : Option A) → t u ≡ o → length (joint (map p (entries t us))) ≡ n * length (entries t us)
          → length (joint (map p (push u o (entries t us)))) ≡ n * length (push u o (entries t us))
      go none e ih = ih
      go (some a) e ih = omega (arith, h u a e, length-append (p (u, a)) (joint (map p (entries t us))))

-- ---- THEOREM

pub image_length : (s : Store) → Right s → length (image s) ≤ 8192
unfolding owned
image_length s r =
    let l3 : List ℕ = joint (recs s).inputs ++ [] in
    let l2 : List ℕ = joint (recs s).slots ++ l3 in
    let l1 : List ℕ = joint (recs s).branches ++ l2 in
    let i0 : length (image s) ≡ suc (suc (length (joint (recs s).nodes ++ l1))) = ap length (image_parts s r) in
    let i1 : length (joint (recs s).nodes ++ l1) ≡ length (joint (recs s).nodes) + length l1 = length-append (joint (recs s).nodes) l1 in
    let i2 : length l1 ≡ length (joint (recs s).branches) + length l2 = length-append (joint (recs s).branches) l2 in
    let i3 : length l2 ≡ length (joint (recs s).slots) + length l3 = length-append (joint (recs s).slots) l3 in
    let i4 : length l3 ≡ length (joint (recs s).inputs) + 0 = length-append (joint (recs s).inputs) [] in
    let n : length (joint (recs s).nodes) ≡ 30 * length (entries s.nodes units) = joint_length s.nodes (paint_n s) 30 (λ u a e. (node_w s r u a e).long) units in
    let b : length (joint (recs s).branches) ≡ 12 * length (entries s.branches units) = joint_length s.branches (paint_b s) 12 (λ u a e. (branch_w s r u a e).long) units in
    let k : length (joint (recs s).slots) ≡ 12 * length (entries (slot_t s) (range 4 0)) = joint_length (slot_t s) (paint_s s) 12 (λ u a e. (slot_at s r u a e).read.long) (range 4 0) in
    let i : length (joint (recs s).inputs) ≡ 11 * length (entries (input_t s) (range 4 0)) = joint_length (input_t s) (paint_i s) 11 (λ u a e. (input_at_lem s r u a e).long) (range 4 0) in
    let k4 : length (entries (slot_t s) (range 4 0)) ≤ 4 = entries_few (slot_t s) (range 4 0) in
    let i4' : length (entries (input_t s) (range 4 0)) ≤ 4 = entries_few (input_t s) (range 4 0) in
    let n1 : length (entries s.nodes units) ≤ length (flat (node_units s) units) = entries_flat s.nodes (λ u o. cond (is_some o) (u ∷ []) []) (λ u a e. omega arith) units in
    let b1 : length (entries s.branches units) ≤ length (flat (units_of s) units) = entries_flat s.branches (λ u o. or_else [] o) (λ u a e. (r.sound.branch u a e).least) units in
    let o : length (owned s) ≤ 255 = owned_few s r in
    let o1 : length (owned s) ≡ length (flat (node_units s) units) + length (flat (units_of s) units ++ joined slot_units s.slots) = length-append (flat (node_units s) units) (flat (units_of s) units ++ joined slot_units s.slots) in
    let o2 : length (flat (units_of s) units ++ joined slot_units s.slots) ≡ length (flat (units_of s) units) + length (joined slot_units s.slots) = length-append (flat (units_of s) units) (joined slot_units s.slots) in
    omega arith
