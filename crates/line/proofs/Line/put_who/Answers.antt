use native.Mathlib.Omega.{arith}
use Rattle.line.specs.Line.{who_text}
use Rattle.line.proofs.Putting.{put_both}
use Rattle.line.proofs.Sizes.{who_size}
use Rattle.line.proofs.Line.put_who.Goals as goal

pub put-requires : goal.put-requires
put-requires c = omega (arith, who_size c.args.who c.args.number)

pub put_word-requires : goal.put_word-requires
put_word-requires c = rw c.from.ensures (omega (arith, who_size c.args.who c.args.number))

pub put_word-requires-2 : goal.put_word-requires-2
put_word-requires-2 c = rw c.from-2.ensures (omega (arith, rw c.from.ensures at c.put_word.ensures.count_is, who_size c.args.who c.args.number))

pub returns : goal.returns
unfolding who_text
returns c = put_both (put_both c.put.ensures (rw c.from.ensures at c.put_word.ensures)) (rw c.from-2.ensures at c.put_word-2.ensures)
