use Rattle.std.proofs.Common.{arith}
use Rattle.unit.proofs.Words.{four_none, four_more, four_all}
use Rattle.unit.proofs.field.four_zero.Goals as goal

pub loop-i-init : goal.loop-i-init
loop-i-init c = four_none _ _ _

pub loop-i-preserved : goal.loop-i-preserved
loop-i-preserved c = four_more c.loop-i.invariant (omega arith) (omega arith)

pub returns : goal.returns
returns c = four_all c.loop-i.invariant (omega arith)
