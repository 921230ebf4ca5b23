-- A number looked for in a list, place after place. Assumes nothing.
use Rattle.std.proofs.Common.{◌≡◌, ℕ, ◌+◌, ◌≤◌, ◌<◌, Bool, true, false, ◌||◌, List, eqb, min, length, get_or, take, drop, sym, ap, ◌∙◌, subst, add-one}
use Rattle.std.proofs.lemmas.List.{take_min}
use lib.Dec.{T, eqb_refl, eqb→eq}
use lib.ListN.{drop_of_length-le}
use lib.Seq.{drop-cons}
use Rattle.units.specs.Limits.{room}
use Rattle.ways.specs.Ways.{has}
use Rattle.ways.proofs.Tests.{T→eq, F→eq}

-- eight places have no more than eight in front
pub take_room : (l : List ℕ) (n m : ℕ) → length l ≡ room → m ≡ min n room → take m l ≡ take n l
take_room l n m h e = ap (λ (k : ℕ). take k l) (e ∙ ap (min n) (sym h)) ∙ take_min n l

-- the place before those that are left
has_next : (u : ℕ) (l : List ℕ) (i : ℕ) → i < length l → has u (drop i l) ≡ (eqb (get_or l i 0) u || has u (drop (i + 1) l))
has_next u l i h = rw add-one (ap (has u) (drop-cons l i 0 h))

pub has_here : (u : ℕ) (l : List ℕ) (i : ℕ) → i < length l → get_or l i 0 ≡ u → true ≡ has u (drop i l)
has_here u l i h e =
    let yes : eqb (get_or l i 0) u ≡ true = T→eq (eqb (get_or l i 0) u) (subst (λ (k : ℕ). T (eqb (get_or l i 0) k)) e (eqb_refl (get_or l i 0))) in
    sym (has_next u l i h ∙ ap (λ (t : Bool). t || has u (drop (i + 1) l)) yes)

pub has_later : (u : ℕ) (l : List ℕ) (i : ℕ) → i < length l → (get_or l i 0 ≡ u → ⊥) → has u (drop i l) ≡ has u (drop (i + 1) l)
has_later u l i h n =
    let no : eqb (get_or l i 0) u ≡ false = F→eq (eqb (get_or l i 0) u) (λ t. n (eqb→eq (get_or l i 0) u t)) in
    has_next u l i h ∙ ap (λ (t : Bool). t || has u (drop (i + 1) l)) no

pub has_none : (u : ℕ) (l : List ℕ) (i : ℕ) → length l ≤ i → has u (drop i l) ≡ false
has_none u l i h = ap (has u) (drop_of_length-le l {i = i} h)
