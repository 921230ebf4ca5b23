-- Putting one record, the loop over the records of a kind, and one kind after another. Assumes nothing.
use Rattle.std.specs.Prelude.{Bool, true, false, cond, ◌≡◌, refl, List, [], ◌∷◌, ◌++◌, map, ℕ, zero, suc, ◌+◌, ◌-◌, ◌≤◌, ◌<◌, leb, length, get_or, Option, Some, None, Ok}
use Rattle.std.proofs.Common.{ap, sym, ◌∙◌, add-zero, arith, eq-eqb, ne_eqb, le-leb, le-ltb}
use Rattle.std.proofs.lemmas.Bool.{lt-leb}
use Rattle.std.proofs.lemmas.Slice.{put_mid-paste}
use Rattle.std.specs.Iterator.{AlwaysYields}
use Rattle.std.specs.List.{filter_map, cons_option}
use Rattle.std.proofs.lemmas.Iterator.{YieldsList}
use Rattle.std.proofs.lemmas.Iterator.Consumers.{YieldsList-from_filter_map}
use Rattle.std.specs.Fn.{Called}
use Rattle.std.specs.Iterator.Adapters.{filter_map_source, filter_map_callee, filter_map_steps}
use Rattle.std.specs.declared.iter.FilterMap.{FilterMap}
use borrow.Rule.Slice.PartMut.{put_mid}
use denote.Param.Members.{Mut}
use Rattle.units.specs.Limits.{last_unit, slot_count, compactor_count, writer_wants}
use Rattle.rules.specs.Tables.{range}
use Rattle.records.proofs.Ranges.{map_up}
use Rattle.records.specs.Rows.{poured, poured_to, poured_paste}
use Rattle.writer.specs.Records.{unless_zero, some_record, node_of, branch_of, slot_of, input_of, records_in}
use Rattle.writer.specs.Written.{Place, put_in, wrote, length_of, write_in}

-- ---- one record

pub put_fits : (l : List ℕ) (at : ℕ) (r l' : List ℕ) (n : ℕ) → at + length r ≤ length l → l' ≡ poured l at r → n ≡ at + length r → (l', n) ≡ put_in (l, at) r
unfolding put_in
put_fits l at r l' n h el en = rw (le-leb (at + length r) (length l) h, el, en)

-- copied into the part from `at` to `end`
pub put_copied : (l : List ℕ) (at : ℕ) (r part : List ℕ) (end : ℕ) → end ≤ length l → end ≡ at + length r → part ≡ r → (put_mid at (end - at) l part, end) ≡ put_in (l, at) r
put_copied l at r part end h e p =
    put_fits l at r (put_mid at (end - at) l part) end (omega arith)
    (put_mid-paste at (end - at) l part r (length r) p (omega arith) refl ∙ sym (poured_paste l at r (omega arith)))
    e

pub put_not : (l : List ℕ) (at : ℕ) (r : List ℕ) → length l < at + length r → (l, at) ≡ put_in (l, at) r
unfolding put_in
put_not l at r h = rw (lt-leb (at + length r) (length l) h)

-- what `put` rests on
pub ruleset placed = (put_copied, put_not)

-- no record
pub put_none : (o : Place) → o ≡ put_in o []
unfolding put_in poured poured_to
put_none o = rw add-zero (go (leb o.1 (length o.0)))
  where
    go : (b : Bool) → o ≡ cond {A = Place} b (o.0, o.1) o
    go true = refl
    go false = refl

pub some_none : (n : ℕ) (r : List ℕ) → n ≡ 0 → None ≡ some_record (unless_zero n r)
some_none n r e = rw (eq-eqb n 0 e)

pub some_some : (n b : ℕ) (bs : List ℕ) → (n ≡ 0 → ⊥) → Some (b ∷ bs) ≡ some_record (unless_zero n (b ∷ bs))
some_some n b bs d = rw (ne_eqb n 0 d)

-- what the record of a number rests on, where there is one and where there is none
pub ruleset given = (some_none, some_some)

-- ---- the loop

module _ {S A : Type 0} (steps : S → Option A → S → Type 0) (bytes_of : A → List ℕ) (s₀ : S) (o₀ : Place) where
  -- the records that are left lead from here to where all of them lead from the start
  abbrev pub LeadsOn : S → Place → Type 0
  LeadsOn s o = (all : List (List ℕ)) → AlwaysYields steps bytes_of s₀ all → (left : List (List ℕ)) × AlwaysYields steps bytes_of s left × (wrote o left ≡ wrote o₀ all)

  pub put_turn : (s : S) (o : Place) (x : A) (t : S) (o' : Place) → LeadsOn s o → steps s (Some x) t → o' ≡ put_in o (bytes_of x) → LeadsOn t o'
  put_turn s o x t o' p step e all h = go (p all h).0 (p all h).1 (p all h).2
    where
      go : (left : List (List ℕ)) → AlwaysYields steps bytes_of s left → wrote o left ≡ wrote o₀ all → (rest : List (List ℕ)) × AlwaysYields steps bytes_of t rest × (wrote o' rest ≡ wrote o₀ all)
      go [] y w = absurd (y x t step)
      go (r ∷ rs) y w = (rs, (y.1 x t step).1, rw (e, (y.1 x t step).0) w)

  pub put_end : (s : S) (o : Place) (t : S) → LeadsOn s o → steps s None t → (all : List (List ℕ)) → AlwaysYields steps bytes_of s₀ all → o ≡ wrote o₀ all
  put_end s o t p step all h = go (p all h).0 (p all h).1 (p all h).2
    where
      go : (left : List (List ℕ)) → AlwaysYields steps bytes_of s left → wrote o left ≡ wrote o₀ all → o ≡ wrote o₀ all
      go [] y w = w
      go (r ∷ rs) y w = absurd (y.0 t step)

-- ---- the records of the numbers of a range

none_skipped : (f : ℕ → List ℕ) (ks : List ℕ) (o : Place) → wrote o (filter_map (λ k. some_record (f k)) ks) ≡ wrote o (map f ks)
none_skipped f [] o = refl
none_skipped f (k ∷ ks) o = go (f k) (filter_map (λ k. some_record (f k)) ks) (λ q. none_skipped f ks q)
  where
    go : (r : List ℕ) (rs : List (List ℕ)) → ((q : Place) → wrote q rs ≡ wrote q (map f ks)) → wrote o (cons_option (some_record r) rs) ≡ wrote (put_in o r) (map f ks)
    go [] rs h = h o ∙ ap (λ (q : Place). wrote q (map f ks)) (put_none o)
    go (b ∷ bs) rs h = h (put_in o (b ∷ bs))

pub records_wrote : {S F : Type 0} {steps : S → Option ℕ → S → Type 0} {s : FilterMap S F} {callee : F} {ks : List ℕ} (g : Mut F (ℕ × Unit {0}) (Option (List ℕ))) (f : ℕ → List ℕ)
    → YieldsList steps (λ x. x) (filter_map_source s) ks → filter_map_callee s ≡ callee
    → ((x : ℕ) (r : Option (List ℕ)) (q : F) → Called g callee (x, tt) r q → (q ≡ callee) × (r ≡ some_record (f x)))
    → (o last : Place) → ((all : List (List ℕ)) → AlwaysYields (filter_map_steps steps g) (λ y. y) s all → last ≡ wrote o all) → last ≡ wrote o (map f ks)
records_wrote g f y e h o last w = w _ (YieldsList-from_filter_map g (λ k. some_record (f k)) y e h).runs ∙ none_skipped f _ o

-- numbers counted from 0, each one up
pub map_next : (f : ℕ → List ℕ) (n a : ℕ) → map (λ k. f (k + 1)) (range n a) ≡ map f (range n (suc a))
map_next f n a = map_up f n a

-- ---- one kind after another

pub wrote_then : (rs ss : List (List ℕ)) (o : Place) → wrote (wrote o rs) ss ≡ wrote o (rs ++ ss)
wrote_then [] ss o = refl
wrote_then (r ∷ rs) ss o = wrote_then rs ss (put_in o r)

-- ---- all of it

module _ (tree counts hold out : List ℕ) (h : writer_wants ≤ length out) where
  pub write_all : (r : ℕ) (l₁ l₂ l₃ l₄ l₅ : List ℕ) (n₁ n₂ n₃ n₄ n₅ : ℕ) → r ≡ get_or tree 0 0
      → (l₁, n₁) ≡ put_in (out, 0) (32 ∷ r ∷ [])
      → (l₂, n₂) ≡ wrote (l₁, n₁) (map (node_of tree counts) (range last_unit 1))
      → (l₃, n₃) ≡ wrote (l₂, n₂) (map (branch_of counts hold) (range last_unit 1))
      → (l₄, n₄) ≡ wrote (l₃, n₃) (map (slot_of hold) (range slot_count 0))
      → (l₅, n₅) ≡ wrote (l₄, n₄) (map (input_of hold) (range compactor_count 0))
      → (l₅, Ok n₅) ≡ write_in tree counts hold out
  unfolding write_in records_in
  write_all r l₁ l₂ l₃ l₄ l₅ n₁ n₂ n₃ n₄ n₅ er e₁ e₂ e₃ e₄ e₅ =
      rw (le-ltb (length out) writer_wants h)
      (ap length_of
      (e₅ ∙ ap (to I) (e₄ ∙ ap (to S) (e₃ ∙ ap (to B) (e₂ ∙ ap (to N) (e₁ ∙ ap (λ (x : ℕ). put_in (out, 0) (32 ∷ x ∷ [])) er))))
      ∙ wrote_then S I (to B (to N start))
      ∙ wrote_then B (S ++ I) (to N start)
      ∙ wrote_then N (B ++ (S ++ I)) start))
    where
      N : List (List ℕ)
      N = map (node_of tree counts) (range last_unit 1)

      B : List (List ℕ)
      B = map (branch_of counts hold) (range last_unit 1)

      S : List (List ℕ)
      S = map (slot_of hold) (range slot_count 0)

      I : List (List ℕ)
      I = map (input_of hold) (range compactor_count 0)

      to : List (List ℕ) → Place → Place
      to rs o = wrote o rs

      start : Place
      start = put_in (out, 0) (32 ∷ get_or tree 0 0 ∷ [])
