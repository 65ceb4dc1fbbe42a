use Rattle.std.proofs.Common.{arith}
use Rattle.unit.proofs.Stores.{gap_none, gap_more}
use Rattle.unit.proofs.store.move_up.Goals as goal

pub loop-i-init : goal.loop-i-init
loop-i-init c = gap_none _ _ _ (omega arith)

pub loop-i-preserved : goal.loop-i-preserved
loop-i-preserved c = gap_more _ _ _ _ _ _ _ c.loop-i.invariant (omega arith) (omega arith) (omega arith) (omega arith) (omega arith)
