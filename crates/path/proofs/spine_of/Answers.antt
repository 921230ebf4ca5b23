use Rattle.std.proofs.Common.{arith, rules}
use Rattle.path.proofs.Walks.{path_turn, path_end}
use Rattle.path.proofs.spine_of.Goals as goal

pub loop-k-preserved : goal.loop-k-preserved
loop-k-preserved c = record {
  few = c.loop-k.invariant.few;
  eight_units = search rules;
  on_path = path_turn _ _ _ _ _ _ _ _ c.loop-k-test.true (omega (arith, c.loop-k.invariant.few)) c.loop-k.invariant.on_path c.read_node-n.ensures c.child_at-at.ensures;
}

pub returns : goal.returns
returns c = path_end _ _ _ _ _ _ _ c.min-end.ensures c.loop-k-test.false c.loop-k.invariant.on_path
