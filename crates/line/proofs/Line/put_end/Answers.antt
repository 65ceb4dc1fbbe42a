use native.Mathlib.Omega.{arith}
use Rattle.line.specs.Line.{end_text}
use Rattle.line.proofs.Putting.{put_both}
use Rattle.line.proofs.Sizes.{end_size}
use Rattle.line.proofs.Line.put_end.Goals as goal

pub put_who-requires : goal.put_who-requires
put_who-requires c = let a = c.args in omega (arith, end_size a.who a.outcome)

pub put_word-requires : goal.put_word-requires
put_word-requires c = let a = c.args in omega (arith, end_size a.who a.outcome)

pub put_word-requires-2 : goal.put_word-requires-2
put_word-requires-2 c = let a = c.args in rw c.from.ensures (omega (arith, end_size a.who a.outcome))

pub put_page-requires : goal.put_page-requires
put_page-requires c = let a = c.args in omega (arith, rw c.from.ensures at c.put_word-2.ensures.count_is, end_size a.who a.outcome)

pub put_sent-requires : goal.put_sent-requires
put_sent-requires c = let a = c.args in omega (arith, rw c.from.ensures at c.put_word-2.ensures.count_is, end_size a.who a.outcome)

pub returns : goal.returns
unfolding end_text
returns c =
    put_both
    (put_both (put_both (put_both c.put_who.ensures c.put_word.ensures) (rw c.from.ensures at c.put_word-2.ensures)) c.put_page.ensures)
    c.put_sent.ensures
