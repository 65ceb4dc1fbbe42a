use native.Mathlib.Omega.{arith}
use Rattle.line.specs.Line.{line_of}
use Rattle.line.proofs.Putting.{put_both}
use Rattle.line.proofs.Sizes.{line_size}
use Rattle.line.proofs.Line.put_all.Goals as goal

pub put_decimal-requires : goal.put_decimal-requires
put_decimal-requires c = let a = c.args in rw c.from.ensures (omega (arith, line_size a.number a.answer a.who a.outcome))

pub put_word-requires : goal.put_word-requires
put_word-requires c = let a = c.args in rw c.from-2.ensures (omega (arith, rw c.from.ensures at c.put_decimal.ensures.count_is, line_size a.number a.answer a.who a.outcome))

pub put_if_ended-requires : goal.put_if_ended-requires
put_if_ended-requires c =
    let a = c.args in
    omega (arith, rw c.from.ensures at c.put_decimal.ensures.count_is, rw c.from-2.ensures at c.put_word.ensures.count_is, line_size a.number a.answer a.who a.outcome)

pub put-requires : goal.put-requires
put-requires c =
    let a = c.args in
    omega (arith, rw c.from.ensures at c.put_decimal.ensures.count_is, rw c.from-2.ensures at c.put_word.ensures.count_is, line_size a.number a.answer a.who a.outcome)

pub returns : goal.returns
unfolding line_of
returns c =
    put_both (put_both (put_both (rw c.from.ensures at c.put_decimal.ensures) (rw c.from-2.ensures at c.put_word.ensures)) c.put_if_ended.ensures) c.put.ensures
