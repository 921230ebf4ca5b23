-- Pass 21 as a program makes it is document 01's line 21. Assumes nothing.
use mathlib.Core.Path.{◌≡◌, refl, sym, ap, ap₂, ◌∙◌, subst}
use mathlib.Core.Bool.{Bool, true, false, ◌&&◌}
use mathlib.Core.Logic.{◌↔◌}
use mathlib.Core.List.{List, [], ◌∷◌, ◌++◌, map}
use Prim.Native.Nat.{ℕ, zero, suc, ◌+◌, ◌-◌, ◌*◌, ◌≤◌, ◌<◌}
use native.Mathlib.Omega.{arith}
use lib.Dec.{T, eqb, leb, eqb_refl, eqb→eq, leb→le, le→leb}
use lib.ListN.{length, get_or, take, drop, length-take, length-drop}
use lib.Seq.{get_or-take}
use Rattle.rules.specs.Tables.{all, keys, slice, rising}
use Rattle.ways.proofs.Tests.{T→eq, F→eq, eq→not, and_l, and_r, and_i}
use Rattle.right.proofs.Lists.{all_from}
use Rattle.rules.specs.Loads.{Cut, cut, node_of, node_laid, branch_of, branch_laid, slot_of, slot_laid, input_of, input_laid, every, lines, laid}
use Rattle.images.specs.Passes.{records_at, cut_at, next_key, laid_at, next_at, section_ok, n33, p34, n34, p35, n35, p36, n36, end, layout_lines, layout_at}
use Rattle.images.proofs.Loaded.{nth}
use Rattle.images.proofs.Stored.{every_of}
use Rattle.images.proofs.Passes.{cut_at_lem, records_more, whole_records, byte_at, node_laid_at_lem, branch_laid_at_lem, slot_laid_at_lem, input_laid_at_lem, all_more, map_more, keys_more, rising_more, next_more}
use Rattle.ways.proofs.Tests.{iff_eq}

-- ---- a section

module _ {A : Type 0} (g : List ℕ → ℕ × A) (f : List ℕ → Bool) (k n o : ℕ) (b : List ℕ) (p : ℕ)
    (tests : (at : ℕ) → at + n ≤ length b → f (slice at n b) ≡ laid_at k b at) (key : (at : ℕ) → (g (slice at n b)).0 ≡ get_or b (at + o) 0) where
  keys_to : ℕ → List ℕ
  keys_to m = keys (map g (records_at n b p m))

  keys_next : (m : ℕ) → keys_to (suc m) ≡ keys_to m ++ (get_or b ((p + n * m) + o) 0 ∷ [])
  unfolding keys_to
  keys_next m =
      ap (λ (l : List (List ℕ)). keys (map g l)) (records_more n b p m)
      ∙ ap keys (map_more g (records_at n b p m) (slice (p + n * m) n b))
      ∙ keys_more (map g (records_at n b p m)) (g (slice (p + n * m) n b))
      ∙ ap (λ (x : ℕ). keys_to m ++ (x ∷ [])) (key (p + n * m))

  next_is : (m : ℕ) → next_key 0 (keys_to m) ≡ next_at n o b p m
  unfolding keys_to next_at records_at
  next_is zero = refl
  next_is (suc m) = ap (next_key 0) (keys_next m) ∙ next_more 0 (keys_to m) (get_or b ((p + n * m) + o) 0)

  pub section_is : (m : ℕ) → p + n * m ≤ length b → section_ok k n o b p m ≡ (all f (records_at n b p m) && rising 0 (keys (map g (records_at n b p m))))
  unfolding section_ok records_at keys_to
  section_is zero h = refl
  section_is (suc m) h =
      let at : ℕ = p + n * m in
      let fs : all f (records_at n b p (suc m)) ≡ (all f (records_at n b p m) && laid_at k b at) =
      ap (all f) (records_more n b p m) ∙ all_more f (records_at n b p m) (slice at n b) ∙ ap (λ (t : Bool). all f (records_at n b p m) && t) (tests at (omega arith)) in
      let rs : rising 0 (keys_to (suc m)) ≡ (rising 0 (keys_to m) && leb (next_at n o b p m) (get_or b (at + o) 0)) =
      ap (rising 0) (keys_next m) ∙ rising_more 0 (keys_to m) (get_or b (at + o) 0) ∙ ap (λ (x : ℕ). rising 0 (keys_to m) && leb x (get_or b (at + o) 0)) (next_is m) in
      ap (λ (t : Bool). t && (laid_at k b at && leb (next_at n o b p m) (get_or b (at + o) 0))) (section_is m (omega arith))
      ∙ swap (all f (records_at n b p m)) (rising 0 (keys_to m)) (laid_at k b at) (leb (next_at n o b p m) (get_or b (at + o) 0))
      ∙ sym (ap₂ (λ (x y : Bool). x && y) fs rs)
    where
      swap : (a r d h : Bool) → ((a && r) && (d && h)) ≡ ((a && d) && (r && h))
      swap true true d h = refl
      swap true false true h = refl
      swap true false false h = refl
      swap false r d h = refl

  pub section_iff : (m : ℕ) → p + n * m ≤ length b → T (section_ok k n o b p m) ↔ (T (all f (records_at n b p m)) × T (rising 0 (keys (map g (records_at n b p m)))))
  section_iff m h =
      let x : Bool = all f (records_at n b p m) in
      let y : Bool = rising 0 (keys (map g (records_at n b p m))) in (
        λ t. let w : T (x && y) = subst (λ (q : Bool). T q) (section_is m h) t in (and_l x y w, and_r x y w),
        λ t. subst (λ (q : Bool). T q) (sym (section_is m h)) (and_i x y t.0 t.1),
      )

  -- a section whose records are all whole ends within the image
  pub ends_within : ((r : List ℕ) → T (f r) → T (eqb (length r) n)) → 1 ≤ n → p ≤ length b → (m : ℕ) → T (all f (records_at n b p m)) → p + n * m ≤ length b
  ends_within h pn hp zero t = omega arith
  ends_within h pn hp (suc m) t = whole_records n b p (suc m) pn (omega arith) (all_from (λ r. eqb (length r) n) f h (records_at n b p (suc m)) t)

-- ---- the whole

module _ (b : List ℕ) (bytes : T (all (λ x. leb x 255) b)) where
  nodes_is : p34 b ≤ length b → T (section_ok 33 30 1 b 2 (n33 b)) ↔ (T (all node_laid (records_at 30 b 2 (n33 b))) × T (rising 0 (keys (map node_of (records_at 30 b 2 (n33 b))))))
  nodes_is h = section_iff node_of node_laid 33 30 1 b 2 (λ at l. node_laid_at_lem b at l) (λ at. byte_at 30 1 at b (omega arith)) (n33 b) h

  branches_is : p35 b ≤ length b → T (section_ok 34 12 2 b (p34 b) (n34 b)) ↔ (T (all branch_laid (records_at 12 b (p34 b) (n34 b))) × T (rising 0 (keys (map branch_of (records_at 12 b (p34 b) (n34 b))))))
  branches_is h = section_iff branch_of branch_laid 34 12 2 b (p34 b) (λ at l. branch_laid_at_lem b at l) (λ at. byte_at 12 2 at b (omega arith)) (n34 b) h

  slots_is : p36 b ≤ length b → T (section_ok 35 12 1 b (p35 b) (n35 b)) ↔ (T (all slot_laid (records_at 12 b (p35 b) (n35 b))) × T (rising 0 (keys (map slot_of (records_at 12 b (p35 b) (n35 b))))))
  slots_is h = section_iff slot_of slot_laid 35 12 1 b (p35 b) (λ at l. slot_laid_at_lem b at l) (λ at. byte_at 12 1 at b (omega arith)) (n35 b) h

  inputs_is : end b ≤ length b → T (section_ok 36 11 1 b (p36 b) (n36 b)) ↔ (T (all input_laid (records_at 11 b (p36 b) (n36 b))) × T (rising 0 (keys (map input_of (records_at 11 b (p36 b) (n36 b))))))
  inputs_is h = section_iff input_of input_laid 36 11 1 b (p36 b) (λ at l. input_laid_at_lem b at l) (λ at. byte_at 11 1 at b (omega arith)) (n36 b) h

  number : (x y : ℕ) → x ≡ y → T (eqb x y)
  number x y e = subst (λ (q : ℕ). T (eqb x q)) e (eqb_refl x)

  there : T (every (lines b (cut_at b))) → T (every (layout_lines b))
  unfolding cut_at
  there t =
      let l : List Bool = lines b (cut_at b) in
      let low_first : 2 ≤ length b = omega (arith, eqb→eq (length (take 2 b)) 2 (nth l 1 t), length-take 2 b) in
      let h4 : p34 b ≤ length b = ends_within node_of node_laid 33 30 1 b 2 (λ at l. node_laid_at_lem b at l) (λ at. byte_at 30 1 at b (omega arith)) (λ r q. and_l (eqb (length r) 30) _ q) (omega arith) low_first (n33 b) (nth l 4 t) in
      let h5 : p35 b ≤ length b = ends_within branch_of branch_laid 34 12 2 b (p34 b) (λ at l. branch_laid_at_lem b at l) (λ at. byte_at 12 2 at b (omega arith)) (λ r q. and_l (eqb (length r) 12) _ q) (omega arith) h4 (n34 b) (nth l 5 t) in
      let h6 : p36 b ≤ length b = ends_within slot_of slot_laid 35 12 1 b (p35 b) (λ at l. slot_laid_at_lem b at l) (λ at. byte_at 12 1 at b (omega arith)) (λ r q. and_l (eqb (length r) 12) _ q) (omega arith) h5 (n35 b) (nth l 6 t) in
      let h7 : end b ≤ length b = ends_within input_of input_laid 36 11 1 b (p36 b) (λ at l. input_laid_at_lem b at l) (λ at. byte_at 11 1 at b (omega arith)) (λ r q. and_l (eqb (length r) 11) _ q) (omega arith) h6 (n36 b) (nth l 7 t) in
      let rest : length (drop (end b) b) ≡ 0 = eqb→eq (length (drop (end b) b)) 0 (nth l 3 t) in
      every_of (layout_lines b) (
        le→leb 2 (length b) low_first,
        (
          subst (λ (x : ℕ). T (eqb x 32)) (get_or-take 2 b 0 0 (omega arith)) (nth l 2 t),
          (
            le→leb (p34 b) (length b) h4,
            (
              le→leb (p35 b) (length b) h5,
              (
                le→leb (p36 b) (length b) h6,
                (
                  number (end b) (length b) (omega (arith, length-drop (end b) b)),
                  (
                    (nodes_is h4).1 (nth l 4 t, nth l 8 t),
                    ((branches_is h5).1 (nth l 5 t, nth l 9 t), ((slots_is h6).1 (nth l 6 t, nth l 10 t), ((inputs_is h7).1 (nth l 7 t, nth l 11 t), tt))),
                  ),
                ),
              ),
            ),
          ),
        ),
      )

  back : T (every (layout_lines b)) → T (every (lines b (cut_at b)))
  unfolding cut_at
  back t =
      let l : List Bool = layout_lines b in
      let low_first : 2 ≤ length b = leb→le 2 (length b) (nth l 0 t) in
      let n = (nodes_is (leb→le (p34 b) (length b) (nth l 2 t))).0 (nth l 6 t) in
      let r = (branches_is (leb→le (p35 b) (length b) (nth l 3 t))).0 (nth l 7 t) in
      let s = (slots_is (leb→le (p36 b) (length b) (nth l 4 t))).0 (nth l 8 t) in
      let e : end b ≡ length b = eqb→eq (end b) (length b) (nth l 5 t) in
      let i = (inputs_is (omega arith)).0 (nth l 9 t) in
      every_of (lines b (cut_at b)) (
        bytes,
        (
          number (length (take 2 b)) 2 (omega (arith, length-take 2 b)),
          (
            subst (λ (x : ℕ). T (eqb x 32)) (sym (get_or-take 2 b 0 0 (omega arith))) (nth l 1 t),
            (number (length (drop (end b) b)) 0 (omega (arith, length-drop (end b) b)), (n.0, (r.0, (s.0, (i.0, (n.1, (r.1, (s.1, (i.1, tt))))))))),
          ),
        ),
      )

  -- THEOREM: the program's test is line 21
  pub layout_is : laid b (cut b) ≡ layout_at b
  unfolding layout_at laid
  layout_is = ap (λ (c : Cut). every (lines b c)) (cut_at_lem b) ∙ iff_eq (every (lines b (cut_at b))) (every (layout_lines b)) there back

-- ---- loops

-- the section's loop
pub record SectionLoop (k n o : ℕ) (b : List ℕ) (p at i next : ℕ) : Type 0 where
  pub place : at ≡ p + n * i
  pub follows : next ≡ next_at n o b p i
  pub so_far : section_ok k n o b p i ≡ true

pub section_start : (k n o : ℕ) (b : List ℕ) (p : ℕ) → SectionLoop k n o b p p 0 0
unfolding next_at section_ok
section_start k n o b p = record { place = omega arith; follows = refl; so_far = refl }

section_next : (k n o : ℕ) (b : List ℕ) (p at i next : ℕ) → SectionLoop k n o b p at i next
    → section_ok k n o b p (i + 1) ≡ (laid_at k b at && leb next (get_or b (at + o) 0))
unfolding section_ok
section_next k n o b p at i next l =
    let e : i + 1 ≡ suc i = omega arith in
    ap (section_ok k n o b p) e
    ∙ (λ j. l.so_far j && (laid_at k b (sym l.place j) && leb (sym l.follows j) (get_or b (sym l.place j + o) 0)))

pub section_turn : (k n o : ℕ) (b : List ℕ) (p at i next : ℕ) → SectionLoop k n o b p at i next → laid_at k b at ≡ true → next ≤ get_or b (at + o) 0
    → SectionLoop k n o b p (at + n) (i + 1) (get_or b (at + o) 0 + 1)
unfolding next_at
section_turn k n o b p at i next l t h =
    let e : i + 1 ≡ suc i = omega arith in
    record {
      place = omega (arith, l.place);
      follows = omega (arith, ap (λ (x : ℕ). get_or b (x + o) 0) l.place, ap (next_at n o b p) e);
      so_far = section_next k n o b p at i next l ∙ (λ j. t j && leb next (get_or b (at + o) 0)) ∙ T→eq (leb next (get_or b (at + o) 0)) (le→leb next (get_or b (at + o) 0) h);
    }

pub section_on : (k n o : ℕ) (b : List ℕ) (p at i next key : ℕ) → SectionLoop k n o b p at i next → laid_at k b at ≡ true → key ≡ get_or b (at + o) 0 → next ≤ key
    → SectionLoop k n o b p (at + n) (i + 1) (key + 1)
section_on k n o b p at i next key l t e h =
    subst (λ (x : ℕ). SectionLoop k n o b p (at + n) (i + 1) (x + 1)) (sym e) (section_turn k n o b p at i next l t (omega arith))

section_down : (k n o : ℕ) (b : List ℕ) (p d j : ℕ) → T (section_ok k n o b p (d + j)) → T (section_ok k n o b p j)
unfolding section_ok
section_down k n o b p zero j t = let e : zero + j ≡ j = omega arith in subst (λ (x : ℕ). T (section_ok k n o b p x)) e t
section_down k n o b p (suc d) j t =
    let e : suc d + j ≡ suc (d + j) = omega arith in
    let t' : T (section_ok k n o b p (suc (d + j))) = subst (λ (x : ℕ). T (section_ok k n o b p x)) e t in
    section_down k n o b p d j (and_l (section_ok k n o b p (d + j)) _ t')

section_no : (k n o : ℕ) (b : List ℕ) (p m j : ℕ) → j ≤ m → section_ok k n o b p j ≡ false → false ≡ section_ok k n o b p m
section_no k n o b p m j h e =
    let x : m ≡ (m - j) + j = omega arith in
    sym (F→eq (section_ok k n o b p m) (λ t. eq→not (section_ok k n o b p j) e (section_down k n o b p (m - j) j (subst (λ (y : ℕ). T (section_ok k n o b p y)) x t))))

pub section_stop : (k n o : ℕ) (b : List ℕ) (p at i next m : ℕ) → SectionLoop k n o b p at i next → i < m → laid_at k b at ≡ false → false ≡ section_ok k n o b p m
section_stop k n o b p at i next m l h t =
    section_no k n o b p m (i + 1) (omega arith) (section_next k n o b p at i next l ∙ (λ j. t j && leb next (get_or b (at + o) 0)))

pub section_fall : (k n o : ℕ) (b : List ℕ) (p at i next m : ℕ) → SectionLoop k n o b p at i next → i < m → laid_at k b at ≡ true → get_or b (at + o) 0 < next → false ≡ section_ok k n o b p m
section_fall k n o b p at i next m l h t z =
    section_no k n o b p m (i + 1) (omega arith) (section_next k n o b p at i next l ∙ (λ j. t j && leb next (get_or b (at + o) 0))
    ∙ F→eq (leb next (get_or b (at + o) 0)) (λ q. omega (arith, leb→le next (get_or b (at + o) 0) q)))

-- ---- tests

-- a test that is not taken
pub other : (x y : ℕ) → (x ≡ y → ⊥) → eqb x y ≡ false
other x y h = F→eq (eqb x y) (λ t. h (eqb→eq x y t))

pub leb_yes : (m n : ℕ) → m ≤ n → leb m n ≡ true
leb_yes m n h = T→eq (leb m n) (le→leb m n h)

pub eqb_yes : (m n : ℕ) → m ≡ n → eqb m n ≡ true
eqb_yes m n e = T→eq (eqb m n) (subst (λ (k : ℕ). T (eqb m k)) e (eqb_refl m))

-- of bytes: the program's answer is document 01's line 21
pub laid_by : (x : Bool) (b : List ℕ) → ((i : ℕ) → get_or b i 0 ≤ 255) → x ≡ layout_at b → x ≡ laid b (cut b)
laid_by x b h e = e ∙ sym (layout_is b (bytes b h))
  where
    bytes : (l : List ℕ) → ((i : ℕ) → get_or l i 0 ≤ 255) → T (all (λ x. leb x 255) l)
    bytes [] h = tt
    bytes (y ∷ ys) h = and_i (leb y 255) (all (λ x. leb x 255) ys) (le→leb y 255 (h 0)) (bytes ys (λ i. h (suc i)))
