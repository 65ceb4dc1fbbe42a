use native.Mathlib.Omega.{arith}
use Rattle.line.specs.Line.{sent_text}
use Rattle.line.proofs.Putting.{put_none, put_both}
use Rattle.line.proofs.Sizes.{count_size}
use Rattle.line.proofs.Line.put_sent.Goals as goal

pub put-requires : goal.put-requires
unfolding sent_text
put-requires c = omega (arith, count_size c.args.sent, rw (← c.is_append.ensures, c.if-is_append.true) at c.requires)

pub put_word-requires : goal.put_word-requires
unfolding sent_text
put_word-requires c = rw c.from.ensures (omega (arith, count_size c.args.sent, rw (← c.is_append.ensures, c.if-is_append.true) at c.requires))

pub returns-then-is_append : goal.returns-then-is_append
unfolding sent_text
returns-then-is_append c =
    rw (← c.is_append.ensures, c.if-is_append.true) (put_both c.put.ensures (rw c.from.ensures at c.put_word.ensures))

pub returns-else-is_append : goal.returns-else-is_append
unfolding sent_text
returns-else-is_append c = rw (← c.is_append.ensures, c.if-is_append.false) (put_none _ (omega arith))
