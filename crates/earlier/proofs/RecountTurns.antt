-- Laws of recount for loops and answers that src/ no longer has, over the Result that stands in place of Walk. Assumes nothing.
use mathlib.Core.Path.{◌≡◌, refl, ap, sym, ◌∙◌}
use mathlib.Core.List.{List, [], ◌∷◌, ◌++◌}
use mathlib.Core.Option.{Option, none, some}
use Prim.Native.Nat.{ℕ, ◌+◌, ◌-◌, ◌≤◌, ◌<◌}
use native.Mathlib.Omega.{arith}
use lib.ListN.{length, get_or, take}
use Rattle.std.specs.Prelude.{Ok, Err}
use Rattle.units.specs.Limits.{room}
use Rattle.units.specs.declared.Refusal.TheVariants.{RecountTooHigh}
use Rattle.ways.specs.Ways.{flat, visits}
use Rattle.ways.proofs.Frame.{flat_append}
use Rattle.rules.specs.Tables.{slice}
use Rattle.counting.specs.declared.Node.{Node}
use Rattle.counting.specs.Nodes.{node_in}
use Rattle.counting.specs.Places.{place_of, up_to}
use Rattle.counting.specs.Graph.{children_in, buffers_in, node_children}
use Rattle.recount.specs.Walks.{counted, places_of, visit_of, counts_of, Outcome}
use Rattle.recount.proofs.Turns.{Answer}
use Rattle.earlier.proofs.CountingEach.{run_whole, run_turn, run_end}
use Rattle.earlier.proofs.PathWalks.{rest, rest_drop}

-- ---- a part, then the rest

-- all of the part was counted: the rest goes on from there
pub next : (a b t t' : List ℕ) (r : Answer) → Outcome (counted t a) t' r → r ≡ Ok tt → counted t (a ++ b) ≡ counted t' b
next a b t t' r o e = Rattle.recount.proofs.Turns.next a b t t' (rw e at o)

-- it was not: so neither is the whole
pub halt : (a b t t' : List ℕ) (r : Answer) → Outcome (counted t a) t' r → r ≡ Err RecountTooHigh → counted t (a ++ b) ≡ none
halt a b t t' r o e = go (counted t (a ++ b)) (Rattle.recount.proofs.Turns.halt a b t t' (rw e at o) refl)
  where
    go : (x : Option (List ℕ)) → Outcome x t' (Err RecountTooHigh) → x ≡ none
    go none o = refl
    go (some l) o = absurd (cc o.0)

pub over : (o : Option (List ℕ)) (t : List ℕ) → o ≡ none → Outcome o t (Err RecountTooHigh)
over o t e = rw e refl

pub on : (o o' : Option (List ℕ)) (t : List ℕ) (r : Answer) → o ≡ o' → Outcome o' t r → Outcome o t r
on o o' t r e x = rw e x

-- ---- the loop over the buffers: what is left, counted from here, gives what was asked

pub record BufferLoop (bs t₀ t : List ℕ) (end i : ℕ) : Type 0 where
  pub eight : length bs ≡ room
  pub most : end ≤ room
  pub left : counted t (places_of (slice i (end - i) bs)) ≡ counted t₀ (places_of (slice 0 (end - 0) bs))

pub buffers_turn : {bs t₀ t : List ℕ} {end i : ℕ} (t' : List ℕ) (r : Answer) → BufferLoop bs t₀ t end i → i < end
    → Outcome (counted t (place_of (get_or bs i 0) ∷ [])) t' r → r ≡ Ok tt → BufferLoop bs t₀ t' end (i + 1)
buffers_turn {bs} {t₀} {t} {end} {i} t' r v p o e =
    record {
      eight = v.eight;
      most = v.most;
      left =
          sym (next (place_of (get_or bs i 0) ∷ []) (places_of (slice (i + 1) (end - (i + 1)) bs)) t t' r o e)
          ∙ ap (λ (l : List ℕ). counted t (places_of l)) (sym (run_turn bs i end p (omega (arith, v.eight, v.most))))
          ∙ v.left;
    }

pub buffers_over : {bs t₀ t : List ℕ} {end i : ℕ} (number : ℕ) (t' : List ℕ) (r : Answer) → BufferLoop bs t₀ t end i → i < end
    → Outcome (counted t (place_of (get_or bs i 0) ∷ [])) t' r → r ≡ Err RecountTooHigh → end ≡ up_to number → Outcome (counted t₀ (places_of (take number bs))) t' (Err RecountTooHigh)
buffers_over {bs} {t₀} {t} {end} {i} number t' r v p o e q =
    over (counted t₀ (places_of (take number bs))) t'
    (ap (λ (l : List ℕ). counted t₀ (places_of l)) (sym (run_whole bs number end v.eight q))
    ∙ sym v.left
    ∙ ap (λ (l : List ℕ). counted t (places_of l)) (run_turn bs i end p (omega (arith, v.eight, v.most)))
    ∙ halt (place_of (get_or bs i 0) ∷ []) (places_of (slice (i + 1) (end - (i + 1)) bs)) t t' r o e)

pub buffers_end : {bs t₀ t : List ℕ} {end i : ℕ} (number : ℕ) → BufferLoop bs t₀ t end i → end ≤ i → end ≡ up_to number
    → Outcome (counted t₀ (places_of (take number bs))) t (Ok tt)
unfolding counted
buffers_end {bs} {t₀} {t} {end} {i} number v p q =
    on (counted t₀ (places_of (take number bs))) (some t) t (Ok tt)
    (ap (λ (l : List ℕ). counted t₀ (places_of l)) (sym (run_whole bs number end v.eight q))
    ∙ sym v.left
    ∙ ap (λ (l : List ℕ). counted t (places_of l)) (run_end bs i end p))
    (refl, refl)

-- ---- one node

pub node_over : (tree : List ℕ) (u : ℕ) (t t' : List ℕ) (r : Answer) → Outcome (counted t (u ∷ [])) t' r → r ≡ Err RecountTooHigh → Outcome (counted t (visit_of tree u)) t' (Err RecountTooHigh)
node_over tree u t t' r o e = over (counted t (visit_of tree u)) t' (halt (u ∷ []) (places_of (buffers_in tree u)) t t' r o e)

-- ---- the walks

taken_children : (tree : List ℕ) (u : ℕ) (n : Node) (end : ℕ) → n ≡ node_in tree u → end ≡ up_to n.child_number → take end n.children ≡ children_in tree u
taken_children tree u n end e q =
    let z : end ≡ end - 0 = omega arith in
    let c = node_children tree u n e in
    ap (λ (k : ℕ). take k n.children) z ∙ run_whole n.children n.child_number end c.0 q ∙ c.1

pub children_none : (tree : List ℕ) (d : ℕ) (cs t : List ℕ) → length cs ≡ 0 → Outcome (counted t (counts_of tree (flat (visits (children_in tree) d) cs))) t (Ok tt)
unfolding counted
children_none tree d [] t e = (refl, refl)
children_none tree d (c ∷ cs) t e = absurd (omega arith)

-- the first, then the others
children_split : (tree : List ℕ) (d : ℕ) (cs : List ℕ) → 0 < length cs
    → counts_of tree (flat (visits (children_in tree) d) cs) ≡ counts_of tree (visits (children_in tree) d (get_or cs 0 0)) ++ counts_of tree (flat (visits (children_in tree) d) (rest cs))
children_split tree d [] h = absurd (omega arith)
children_split tree d (c ∷ cs) h =
    flat_append (visit_of tree) (visits (children_in tree) d c) (flat (visits (children_in tree) d) cs)
    ∙ ap (λ (l : List ℕ). counts_of tree (visits (children_in tree) d c) ++ counts_of tree (flat (visits (children_in tree) d) l)) (sym (rest_drop (c ∷ cs)))

pub children_on : (tree : List ℕ) (d : ℕ) (cs t t' t'' : List ℕ) (r r' : Answer) → 0 < length cs
    → Outcome (counted t (counts_of tree (visits (children_in tree) d (get_or cs 0 0)))) t' r → r ≡ Ok tt
    → Outcome (counted t' (counts_of tree (flat (visits (children_in tree) d) (rest cs)))) t'' r'
    → Outcome (counted t (counts_of tree (flat (visits (children_in tree) d) cs))) t'' r'
children_on tree d cs t t' t'' r r' h o e o' =
    let more = counts_of tree (flat (visits (children_in tree) d) (rest cs)) in
    on (counted t (counts_of tree (flat (visits (children_in tree) d) cs))) (counted t' more) t'' r'
    (ap (counted t) (children_split tree d cs h) ∙ next (counts_of tree (visits (children_in tree) d (get_or cs 0 0))) more t t' r o e)
    o'
