use Rattle.std.proofs.Common.{arith, rules, ap, length}
use Rattle.held_map.proofs.Lists.{AllLess, gone_four, gone_le, gone_out}
use Rattle.held_map.proofs.list_gone.Goals as goal

pub list_four-requires : goal.list_four-requires
list_four-requires c =
    let a = c.args.before.now in
    let b = c.args.after.now in
    let w = c.from_fn-words.result in
    let l : AllLess a b w = λ i p. let h = c.from_fn-words.ensures.items.at i 0 p in search rules in
    let e = gone_four a b w c.from_fn-words.ensures.items.long l in
    omega (arith, ap length e, gone_le a b)

pub returns : goal.returns
returns c =
    let a = c.args.before.now in
    let b = c.args.after.now in
    let w = c.from_fn-words.result in
    let l : AllLess a b w = λ i p. let h = c.from_fn-words.ensures.items.at i 0 p in search rules in
    let e = gone_four a b w c.from_fn-words.ensures.items.long l in
    let r = gone_out c.args.out.now e (omega (arith, gone_le a b)) c.list_four.ensures.list c.list_four.ensures.next in
    record { list = r.0; next = r.1 }
