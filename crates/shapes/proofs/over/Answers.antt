-- The default is the blank node; with one child it is the root over that child.
use Rattle.std.proofs.Common.{◌≡◌, ℕ, [], ◌∷◌, ap, sym, ◌∙◌, arith, ne_eqb}
use Rattle.std.proofs.lemmas.Grind.{common_steps}
use Rattle.counting.specs.declared.Node.{Node}
use Rattle.counting.specs.Nodes.{coded, blank_node}
use Rattle.counting.specs.Places.{up_to}
use Rattle.shapes.specs.Ends.{over_root}
use Rattle.shapes.specs.Shapes.{replace_children}
use Rattle.shapes.proofs.over.Goals as goal

over_one : (n : Node) (r : ℕ) → n ≡ blank_node → (r ≡ 0 → ⊥) → replace_children n 0 0 (r ∷ []) (0 ∷ []) ≡ coded (over_root r)
unfolding replace_children up_to
over_one n r e h = rw (e, ne_eqb r 0 h)

pub returns-then-r-eq0 : goal.returns-then-r-eq0
returns-then-r-eq0 c =
    let bare : c.default.result ≡ blank_node = grind (arith, common_steps) in
    bare ∙ ap (λ (u : ℕ). coded (over_root u)) (sym c.if-r-eq0.true)

pub returns : goal.returns
returns c = c.replace_children.ensures ∙ over_one c.default-2.result c.args.r.0 (grind (arith, common_steps)) c.if-r-eq0.false
