use Rattle.std.proofs.Common.{◌≡◌, ◌&&◌, ltb, length, rules}
use Rattle.path.specs.Graph.{named}
use Rattle.bodies.specs.Bodies.{is_found}
use Rattle.pathed.proofs.Answers.{ends_are}
use Rattle.pathed.proofs.ends_of.Goals as goal
use Rattle.pathed.proofs.ends_of.Goals.{then-is_some, else-is_some}

pub returns : goal.returns
returns c =
    let leads_to : c.if-is_some.leads_to ≡ (is_found c.target-target.result && ltb c.args.c (length (named c.read_node-node.result))) =
    elim c.if-is_some.branch [ then-is_some w ↦ search rules | else-is_some w ↦ search rules ] in
    ends_are _ _ _ _ _ _ _ _ c.target-target.ensures (search rules) c.child_at-child.ensures c.read_node-below.ensures leads_to
