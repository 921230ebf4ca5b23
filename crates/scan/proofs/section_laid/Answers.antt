use Rattle.std.proofs.Common.{◌+◌, ◌*◌, arith, refl}
use Rattle.images.proofs.Laying.{SectionLoop, section_start, section_on, section_stop, section_fall}
use Rattle.scan.proofs.section_laid.Goals as goal
use Rattle.scan.proofs.section_laid.Goals.{then-not-laid_at-via-then-not-laid_at, then-not-laid_at-via-else-not-laid_at+then-key-least}

pub loop-i-init : goal.loop-i-init
loop-i-init c =
    let s = section_start c.args.kind c.args.size c.args.o c.args.b.now c.args.p in
    record { follows = s.follows; so_far = s.so_far; small = omega arith }

pub returns-then-not-laid_at : goal.returns-then-not-laid_at
returns-then-not-laid_at c =
    let b = c.args.b.now in
    let p = c.args.p in
    let i = c.loop-i.i in
    let next = c.loop-i.least in
    let at = p + c.args.size * i in
    let v = c.loop-i.invariant in
    let s : SectionLoop c.args.kind c.args.size c.args.o b p at i next = record { place = refl; follows = v.follows; so_far = v.so_far } in
    let key = c.from-key.ensures in
    elim c.then-not-laid_at.branch [
      | then-not-laid_at-via-then-not-laid_at w ↦ section_stop c.args.kind c.args.size c.args.o b p at i next c.args.m s (omega arith) (cc)
      | then-not-laid_at-via-else-not-laid_at+then-key-least w ↦ section_fall c.args.kind c.args.size c.args.o b p at i next c.args.m s (omega arith) (cc) (omega arith)
    ]

pub loop-i-preserved : goal.loop-i-preserved
loop-i-preserved c =
    let b = c.args.b.now in
    let p = c.args.p in
    let i = c.loop-i.i in
    let next = c.loop-i.least in
    let at = p + c.args.size * i in
    let v = c.loop-i.invariant in
    let s : SectionLoop c.args.kind c.args.size c.args.o b p at i next = record { place = refl; follows = v.follows; so_far = v.so_far } in
    let on = section_on c.args.kind c.args.size c.args.o b p at i next c.from-key.result s (cc) (c.from-key.ensures) c.if-key-least.false in
    record { follows = on.follows; so_far = on.so_far; small = omega (arith, c.type_inv.b (at + c.args.o)) }
