-- Demand 2 for images: an image is accepted exactly when it is what the writer writes for a right store, and then as that store; so
-- writing and loading undo one another; and each refusal is given exactly when its line is the first that applies. Assumes nothing.
use mathlib.Core.Path.{◌≡◌, sym, ap, ◌∙◌, subst}
use mathlib.Core.Bool.{Bool}
use mathlib.Core.Logic.{◌↔◌}
use mathlib.Core.List.{List, [], ◌∷◌}
use Prim.Native.Nat.{ℕ, ◌≤◌}
use lib.ListN.{length}
use Rattle.units.specs.Limits.{writer_wants}
use Rattle.rules.specs.Store.{Store}
use Rattle.rules.specs.Steps.{accepted, refused}
use Rattle.rules.specs.Images.{image}
use Rattle.rules.specs.Right.{Right}
use Rattle.rules.specs.Loads.{Cut, cut, built, laid, owned_once, named, shallow, countable, all_held, counts_agree, judge, load}
use Rattle.right.specs.Runs.{First}
use Rattle.right.proofs.Demands.{first_iff}
use Rattle.images.proofs.Loaded.{load_taken}
use Rattle.images.proofs.Stored.{load_image}
use Rattle.images.proofs.Size as size

-- accepted as s exactly when s is right and is written so
pub accepts : (b : List ℕ) (s : Store) → (load b ≡ accepted s) ↔ (Right s × (image s ≡ b))
accepts b s = (
  λ e. let t = load_taken b s e in (t.right, t.written),
  λ h. subst (λ (x : List ℕ). load x ≡ accepted s) h.1 (load_image s h.0),
)

-- two right stores with the same image are the same store
pub one_store : (s s' : Store) → Right s → Right s' → image s ≡ image s' → s ≡ s'
one_store s s' r r' e =
    let a : load (image s) ≡ accepted s = load_image s r in
    let a' : load (image s') ≡ accepted s' = load_image s' r' in
    let q : accepted s ≡ accepted s' = sym a ∙ ap load e ∙ a' in
    cc

-- what the writer wants is enough, and no longer image is accepted
pub image_length : (s : Store) → Right s → length (image s) ≤ writer_wants
image_length s r = size.image_length s r

pub accepted_length : (b : List ℕ) (s : Store) → load b ≡ accepted s → length b ≤ writer_wants
accepted_length b s e = let t = load_taken b s e in subst (λ (x : List ℕ). length x ≤ writer_wants) t.written (size.image_length s t.right)

-- 21 to 27, in their order
unfoldable pub tests : List ℕ → List (Bool × ℕ)
tests b =
    let c : Cut = cut b in
    let s : Store = built c in
    (laid b c, 21)
    ∷ (owned_once c, 22)
    ∷ (named c, 23)
    ∷ (shallow s, 24)
    ∷ (countable s c, 25)
    ∷ (all_held s c, 26)
    ∷ (counts_agree s c, 27)
    ∷ []

pub refuses : (b : List ℕ) (n : ℕ) → (load b ≡ refused n) ↔ First (tests b) n
unfolding load judge tests
refuses b n = first_iff (tests b) (built (cut b)) n
