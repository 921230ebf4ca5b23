-- The turns of the walks: what a part counted, and what the rest then counts. Assumes nothing.
use mathlib.Core.Bool.{Bool, true, false, cond}
use mathlib.Core.Path.{◌≡◌, refl, ap, sym, ◌∙◌}
use mathlib.Core.List.{List, [], ◌∷◌, ◌++◌}
use mathlib.Core.Option.{Option, none, some}
use Prim.Native.Nat.{ℕ, zero, suc, ◌+◌, ◌-◌, ◌≤◌, ◌<◌}
use native.Mathlib.Omega.{arith}
use lib.Dec.{ltb}
use native.Mathlib.Numerals.{add-one}
use lib.ListN.{length, get_or, set, take, drop, drop_of_length-le}
use lib.Seq.{drop-cons}
use borrow.Author.Tests.{lt-ltb, le-ltb}
use Rattle.std.specs.Prelude.{Result, Ok, Err, IsErr, IsErrAnd}
use Rattle.std.proofs.lemmas.Result.{err_from_is_err_and}
use Rattle.units.specs.Limits.{most_count}
use Rattle.units.specs.declared.Refusal.{Refusal}
use Rattle.units.specs.declared.Refusal.TheVariants.{RecountTooHigh}
use Rattle.ways.specs.Ways.{flat, visits}
use Rattle.ways.proofs.Frame.{flat_append}
use Rattle.rules.specs.Tables.{slice}
use Rattle.counting.specs.declared.Node.{Node}
use Rattle.counting.specs.Nodes.{node_in}
use Rattle.counting.specs.Places.{place_of}
use Rattle.counting.specs.Graph.{children_in, buffers_in, node_children, node_buffers}
use Rattle.recount.specs.Walks.{counted, places_of, visit_of, counts_of, Outcome}

abbrev pub Answer : Type 0
Answer = Result (Unit {0}) Refusal

-- ---- a part, then the rest

abbrev then : Option (List ℕ) → (List ℕ → Option (List ℕ)) → Option (List ℕ)
then none f = none
then (some l) f = f l

counted_append : (a b t : List ℕ) → counted t (a ++ b) ≡ then (counted t a) (λ l. counted l b)
unfolding counted
counted_append [] b t = refl
counted_append (i ∷ a) b t = go (ltb (get_or t i 0) most_count) (counted_append a b (set t i (get_or t i 0 + 1)))
  where
    go : (y : Bool) → counted (set t i (get_or t i 0 + 1)) (a ++ b) ≡ then (counted (set t i (get_or t i 0 + 1)) a) (λ l. counted l b)
        → cond y (counted (set t i (get_or t i 0 + 1)) (a ++ b)) none ≡ then (cond y (counted (set t i (get_or t i 0 + 1)) a) none) (λ l. counted l b)
    go true e = e
    go false e = refl

-- all of the part was counted: the rest goes on from there
pub next : (a b t t' : List ℕ) → Outcome (counted t a) t' (Ok tt) → counted t (a ++ b) ≡ counted t' b
next a b t t' o = counted_append a b t ∙ go (counted t a) o
  where
    go : (x : Option (List ℕ)) → Outcome x t' (Ok tt) → then x (λ l. counted l b) ≡ counted t' b
    go none o = cc
    go (some l) o = ap (λ (l : List ℕ). counted l b) (sym o.1)

-- it was not: so neither is the whole, and what turned the part down is passed on
pub halt : (a b t t' : List ℕ) {e : Refusal} {r : Answer} → Outcome (counted t a) t' (Err e) → r ≡ Err e → Outcome (counted t (a ++ b)) t' r
halt a b t t' {e} {r} o p = rw (counted_append a b t, p) (go (counted t a) o)
  where
    go : (x : Option (List ℕ)) → Outcome x t' (Err e) → Outcome (then x (λ l. counted l b)) t' (Err e)
    go none o = o
    go (some l) o = absurd (cc o.0)

-- the same list in other words
pub on : {o o' : Option (List ℕ)} (t : List ℕ) (r : Answer) → o ≡ o' → Outcome o' t r → Outcome o t r
on t r e x = rw e x

-- what the exit of a `?` gives back
pub passed : (r : Answer) (e : Refusal) → IsErr r × IsErrAnd r (λ y. y ≡ e) → r ≡ Err e
passed r e h = let p = err_from_is_err_and r h.1 in p.1 ∙ ap Err p.2

-- ---- one place

pub one_done : (t : List ℕ) (i : ℕ) → get_or t i 0 < most_count → Outcome (counted t (i ∷ [])) (set t i (get_or t i 0 + 1)) (Ok tt)
unfolding counted
one_done t i h = rw (lt-ltb (get_or t i 0) most_count h) (refl, refl)

pub one_over : (t : List ℕ) (i : ℕ) → most_count ≤ get_or t i 0 → Outcome (counted t (i ∷ [])) t (Err RecountTooHigh)
unfolding counted
one_over t i h = rw (le-ltb (get_or t i 0) most_count h) refl

-- ---- the loop over the buffers: what is left, counted from here, gives what was asked

abbrev pub Left : (bs t₀ t : List ℕ) (i : ℕ) → Type 0
Left bs t₀ t i = counted t (places_of (drop i bs)) ≡ counted t₀ (places_of bs)

-- what stands from i on
buffers_from : (bs : List ℕ) (i : ℕ) → i < length bs → places_of (drop i bs) ≡ place_of (get_or bs i 0) ∷ places_of (drop (i + 1) bs)
buffers_from bs i h = rw (drop-cons bs i 0 h, add-one) refl

-- all places of a list, as far as it is used
part_whole : (n : ℕ) (l part : List ℕ) → part ≡ slice 0 (n - 0) l → part ≡ take n l
part_whole n l part e =
    let z : n - 0 ≡ n = omega arith in
    e ∙ ap (λ (k : ℕ). take k l) z

pub buffers_turn : (bs t₀ t t' : List ℕ) (i : ℕ) → i < length bs → Left bs t₀ t i → Outcome (counted t (place_of (get_or bs i 0) ∷ [])) t' (Ok tt) → Left bs t₀ t' (i + 1)
buffers_turn bs t₀ t t' i h v o =
    sym (next (place_of (get_or bs i 0) ∷ []) (places_of (drop (i + 1) bs)) t t' o) ∙ ap (counted t) (sym (buffers_from bs i h)) ∙ v

pub buffers_over : (bs t₀ t t' : List ℕ) (i : ℕ) {e : Refusal} {r : Answer} → i < length bs → Left bs t₀ t i → Outcome (counted t (place_of (get_or bs i 0) ∷ [])) t' (Err e)
    → r ≡ Err e → Outcome (counted t₀ (places_of bs)) t' r
buffers_over bs t₀ t t' i {e} {r} h v o p = on t' r (sym v ∙ ap (counted t) (buffers_from bs i h)) (halt (place_of (get_or bs i 0) ∷ []) (places_of (drop (i + 1) bs)) t t' o p)

pub buffers_end : (bs t₀ t : List ℕ) (i : ℕ) → length bs ≤ i → Left bs t₀ t i → Outcome (counted t₀ (places_of bs)) t (Ok tt)
unfolding counted
buffers_end bs t₀ t i h v =
    let z : drop i bs ≡ [] = drop_of_length-le bs {i = i} h in
    on {o' = some t} t (Ok tt) (sym v ∙ ap (λ (l : List ℕ). counted t (places_of l)) z) (refl, refl)

-- ---- one node

pub node_on : (tree : List ℕ) (u : ℕ) (n : Node) (bs t t' t'' : List ℕ) (r : Answer) → Outcome (counted t (u ∷ [])) t' (Ok tt) → n ≡ node_in tree u
    → bs ≡ slice 0 (n.buffer_number - 0) n.buffers → Outcome (counted t' (places_of bs)) t'' r → Outcome (counted t (visit_of tree u)) t'' r
node_on tree u n bs t t' t'' r o en eb o' =
    let same : bs ≡ buffers_in tree u = part_whole n.buffer_number n.buffers bs eb ∙ (node_buffers tree u n en).1 in
    on t'' r (next (u ∷ []) (places_of (buffers_in tree u)) t t' o) (rw same at o')

-- ---- the walks

-- the node, then its children
walk_split : (tree : List ℕ) (d u : ℕ) → (d ≡ 0 → ⊥) → counts_of tree (visits (children_in tree) d u) ≡ visit_of tree u ++ counts_of tree (flat (visits (children_in tree) (d - 1)) (children_in tree u))
unfolding visits
walk_split tree zero u h = absurd (h refl)
walk_split tree (suc d) u h =
    let p : suc d - 1 ≡ d = omega arith in
    rw p refl

pub walk_none : (tree : List ℕ) (d u : ℕ) (t : List ℕ) → d ≡ 0 → Outcome (counted t (counts_of tree (visits (children_in tree) d u))) t (Ok tt)
unfolding visits counted
walk_none tree d u t e = rw e (refl, refl)

-- no depth is left for a list
flat_blank : (f : ℕ → List ℕ) → ((u : ℕ) → f u ≡ []) → (cs : List ℕ) → flat f cs ≡ []
flat_blank f h [] = refl
flat_blank f h (c ∷ cs) = rw (h c) (flat_blank f h cs)

pub children_low : (tree : List ℕ) (d : ℕ) (cs t : List ℕ) → d ≡ 0 → Outcome (counted t (counts_of tree (flat (visits (children_in tree) d) cs))) t (Ok tt)
unfolding visits counted
children_low tree d cs t e = rw (e, flat_blank (visits (children_in tree) 0) (λ u. refl) cs) (refl, refl)

pub walk_on : (tree : List ℕ) (d u : ℕ) (n : Node) (cs t t' t'' : List ℕ) (r : Answer) → (d ≡ 0 → ⊥) → Outcome (counted t (visit_of tree u)) t' (Ok tt)
    → n ≡ node_in tree u → cs ≡ slice 0 (n.child_number - 0) n.children
    → Outcome (counted t' (counts_of tree (flat (visits (children_in tree) (d - 1)) cs))) t'' r
    → Outcome (counted t (counts_of tree (visits (children_in tree) d u))) t'' r
walk_on tree d u n cs t t' t'' r h o en ec o' =
    let same : cs ≡ children_in tree u = part_whole n.child_number n.children cs ec ∙ (node_children tree u n en).1 in
    on t'' r
    (ap (counted t) (walk_split tree d u h) ∙ next (visit_of tree u) (counts_of tree (flat (visits (children_in tree) (d - 1)) (children_in tree u))) t t' o)
    (rw same at o')

pub walk_over : (tree : List ℕ) (d u : ℕ) (t t' : List ℕ) {e : Refusal} {r : Answer} → (d ≡ 0 → ⊥) → Outcome (counted t (visit_of tree u)) t' (Err e) → r ≡ Err e
    → Outcome (counted t (counts_of tree (visits (children_in tree) d u))) t' r
walk_over tree d u t t' {e} {r} h o p =
    on t' r (ap (counted t) (walk_split tree d u h)) (halt (visit_of tree u) (counts_of tree (flat (visits (children_in tree) (d - 1)) (children_in tree u))) t t' o p)

-- the loop over the children: what is left, counted from here, gives what was asked

abbrev pub LeftChildren : (tree : List ℕ) (d : ℕ) (cs t₀ t : List ℕ) (i : ℕ) → Type 0
LeftChildren tree d cs t₀ t i = counted t (counts_of tree (flat (visits (children_in tree) d) (drop i cs))) ≡ counted t₀ (counts_of tree (flat (visits (children_in tree) d) cs))

-- what stands from i on
children_from : (tree : List ℕ) (d : ℕ) (cs : List ℕ) (i : ℕ) → i < length cs
    → counts_of tree (flat (visits (children_in tree) d) (drop i cs))
    ≡ counts_of tree (visits (children_in tree) d (get_or cs i 0)) ++ counts_of tree (flat (visits (children_in tree) d) (drop (i + 1) cs))
children_from tree d cs i h =
    rw (drop-cons cs i 0 h, add-one) (flat_append (visit_of tree) (visits (children_in tree) d (get_or cs i 0)) (flat (visits (children_in tree) d) (drop (suc i) cs)))

pub children_turn : (tree : List ℕ) (d : ℕ) (cs t₀ t t' : List ℕ) (i : ℕ) → i < length cs → LeftChildren tree d cs t₀ t i
    → Outcome (counted t (counts_of tree (visits (children_in tree) d (get_or cs i 0)))) t' (Ok tt) → LeftChildren tree d cs t₀ t' (i + 1)
children_turn tree d cs t₀ t t' i h v o =
    sym (next (counts_of tree (visits (children_in tree) d (get_or cs i 0))) (counts_of tree (flat (visits (children_in tree) d) (drop (i + 1) cs))) t t' o)
    ∙ ap (counted t) (sym (children_from tree d cs i h))
    ∙ v

pub children_over : (tree : List ℕ) (d : ℕ) (cs t₀ t t' : List ℕ) (i : ℕ) {e : Refusal} {r : Answer} → i < length cs → LeftChildren tree d cs t₀ t i
    → Outcome (counted t (counts_of tree (visits (children_in tree) d (get_or cs i 0)))) t' (Err e) → r ≡ Err e
    → Outcome (counted t₀ (counts_of tree (flat (visits (children_in tree) d) cs))) t' r
children_over tree d cs t₀ t t' i {e} {r} h v o p =
    on t' r (sym v ∙ ap (counted t) (children_from tree d cs i h))
    (halt (counts_of tree (visits (children_in tree) d (get_or cs i 0))) (counts_of tree (flat (visits (children_in tree) d) (drop (i + 1) cs))) t t' o p)

pub children_end : (tree : List ℕ) (d : ℕ) (cs t₀ t : List ℕ) (i : ℕ) → length cs ≤ i → LeftChildren tree d cs t₀ t i
    → Outcome (counted t₀ (counts_of tree (flat (visits (children_in tree) d) cs))) t (Ok tt)
unfolding counted
children_end tree d cs t₀ t i h v =
    let z : drop i cs ≡ [] = drop_of_length-le cs {i = i} h in
    on {o' = some t} t (Ok tt) (sym v ∙ ap (λ (l : List ℕ). counted t (counts_of tree (flat (visits (children_in tree) d) l))) z) (refl, refl)
