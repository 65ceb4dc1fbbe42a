use native.Mathlib.Omega.{arith}
use Rattle.line.proofs.Digits.{decimal_some, decimal_one, decimal_more, decimal_longer}
use Rattle.line.proofs.Putting.{put_both}
use Rattle.line.proofs.Line.+put_decimal.Goals as goal
use Rattle.line.proofs.Line.+put_decimal.Goals.{then-n-gt9, else-n-gt9}

pub put_decimal-requires : goal.put_decimal-requires
put_decimal-requires t c = (omega (arith, c.decreases), omega (arith, c.requires, decimal_longer c.args.n c.if-n-gt9.true (omega arith)))

pub put-requires : goal.put-requires
put-requires t c =
    elim c.if-n-gt9.branch [
      | then-n-gt9 w ↦ rw w.self-is (omega (arith, decimal_longer c.args.n w.if-n-gt9.true (omega arith)))
      | else-n-gt9 w ↦ rw w.self-is (omega (arith, decimal_some c.args.n))
    ]

pub returns : goal.returns
returns t c =
    elim c.if-n-gt9.branch [
      | then-n-gt9 w ↦ rw (decimal_more c.args.n w.if-n-gt9.true (omega arith)) (put_both w.put_decimal.ensures (rw w.self-is at c.put.ensures))
      | else-n-gt9 w ↦ rw (decimal_one c.args.n w.if-n-gt9.false) (rw w.self-is at c.put.ensures)
    ]
