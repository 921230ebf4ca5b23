use Rattle.std.proofs.Common.{◌≡◌, arith}
use Rattle.held_map.proofs.Lowest.{word_from1, first_word, other_word, lowest_word, all_words}
use Rattle.held_map.proofs.lowest_free.Goals as goal
use Rattle.held_map.proofs.lowest_free.Goals.{then-i-eq0, else-i-eq0}

pub returns-then-zero-lt64 : goal.returns-then-zero-lt64
returns-then-zero-lt64 c =
    let m = c.args.map.now in
    let i = c.loop-i.i in
    let word : c.if-i-eq0.word ≡ word_from1 m i = elim c.if-i-eq0.branch [
      | then-i-eq0 w ↦ first_word m i c.if-i-eq0.word w.if-i-eq0.true w.word-is
      | else-i-eq0 w ↦ other_word m i c.if-i-eq0.word w.if-i-eq0.false w.word-is
    ] in
    lowest_word m i c.loop-i-test.true c.loop-i.invariant (rw word at c.lowest_zero-zero.ensures) c.if-zero-lt64.true

pub returns : goal.returns
returns c =
    let n : 4 ≡ c.loop-i.i = omega arith in
    all_words c.args.map.now (rw n c.loop-i.invariant)
