use Rattle.std.proofs.Common.{ℕ, ◌+◌, ◌*◌, arith, ap}
use Rattle.images.proofs.Laying.{SectionLoop, section_start, section_on, section_stop, section_fall}
use Rattle.scan.proofs.records_laid.Goals as goal
use Rattle.scan.proofs.records_laid.Goals.{then-not-laid-via-then-not-laid, then-not-laid-via-else-not-laid+then-key-next}

pub loop-i-init : goal.loop-i-init
loop-i-init g c =
    let r = g.R.Record in
    let s = section_start r.KIND r.SIZE r.KEY c.args.b.now c.args.p in
    record { follows = s.follows; so_far = s.so_far; small = omega arith }

pub returns-then-not-laid : goal.returns-then-not-laid
returns-then-not-laid g c =
    let r = g.R.Record in
    let b = c.args.b.now in
    let p = c.args.p in
    let i = c.loop-i.i in
    let next = c.loop-i.next in
    let at = p + c.SIZE.result * i in
    let v = c.loop-i.invariant in
    let s : SectionLoop r.KIND r.SIZE r.KEY b p at i next = record { place = ap (λ (n : ℕ). p + n * i) c.SIZE.ensures; follows = v.follows; so_far = v.so_far } in
    let key = rw c.KEY.ensures at c.from-key.ensures in
    elim c.then-not-laid.branch [
      | then-not-laid-via-then-not-laid w ↦ section_stop r.KIND r.SIZE r.KEY b p at i next c.args.m s (omega arith) (cc)
      | then-not-laid-via-else-not-laid+then-key-next w ↦ section_fall r.KIND r.SIZE r.KEY b p at i next c.args.m s (omega arith) (cc) (omega arith)
    ]

pub loop-i-preserved : goal.loop-i-preserved
loop-i-preserved g c =
    let r = g.R.Record in
    let b = c.args.b.now in
    let p = c.args.p in
    let i = c.loop-i.i in
    let next = c.loop-i.next in
    let at = p + c.SIZE.result * i in
    let v = c.loop-i.invariant in
    let s : SectionLoop r.KIND r.SIZE r.KEY b p at i next = record { place = ap (λ (n : ℕ). p + n * i) c.SIZE.ensures; follows = v.follows; so_far = v.so_far } in
    let on = section_on r.KIND r.SIZE r.KEY b p at i next c.from-key.result s (cc) (rw c.KEY.ensures at c.from-key.ensures) c.if-key-next.false in
    record { follows = on.follows; so_far = on.so_far; small = omega (arith, c.type_inv.b (at + c.KEY.result)) }
