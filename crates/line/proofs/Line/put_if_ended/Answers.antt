use native.Mathlib.Omega.{arith}
use borrow.Author.Tests.{eq-eqb, ne_eqb}
use Rattle.line.proofs.Putting.{put_none}
use Rattle.line.proofs.Line.put_if_ended.Goals as goal

pub returns-then-who-ne0 : goal.returns-then-who-ne0
returns-then-who-ne0 c = rw (ne_eqb c.args.who 0 c.if-who-ne0.true) c.put_end.ensures

pub returns-else-who-ne0 : goal.returns-else-who-ne0
returns-else-who-ne0 c = rw (eq-eqb c.args.who 0 c.if-who-ne0.false) (put_none _ (omega arith))
