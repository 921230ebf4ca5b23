use Rattle.std.proofs.Common.{◌≡◌, [], length, ap, ◌∙◌, arith, rules}
use Rattle.held_map.specs.Left.{left}
use Rattle.held_map.specs.Lists.{bits_of}
use Rattle.held_map.proofs.Lists.{lowest, bits_none}
use Rattle.held_map.proofs.UnitsIterator.next.Goals as goal

pub returns-then-self-eq0-clause-steps : goal.returns-then-self-eq0-clause-steps
returns-then-self-eq0-clause-steps c =
    let s = c.args.self.now in
    let e : left s ≡ [] = ap (bits_of 64 s.base) c.if-self-eq0.true ∙ bits_none 64 s.base in
    (e, e)

pub returns-clause-steps : goal.returns-clause-steps
returns-clause-steps c = lowest 64 _ _ (omega (arith, c.if-self-eq0.false)) (search rules)

pub returns-clause-goes : goal.returns-clause-goes
returns-clause-goes c =
    let s = c.args.self.now in
    let e = ap length (lowest 64 s.base s.word (omega (arith, c.if-self-eq0.false)) (search rules)) in
    record { on = λ _. (tt, tt, omega (arith, e)); keeps = tt; rests = λ _. tt }
