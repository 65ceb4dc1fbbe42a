use native.Mathlib.Omega.{arith}
use Rattle.num.proofs.Reading.{summed_none, summed_more, summed_small}
use Rattle.num.proofs.bytes.number_within.Goals as goal

pub loop-i-init : goal.loop-i-init
loop-i-init c = summed_none _ _ _

pub overflow_mul-n : goal.overflow_mul-n
overflow_mul-n c = omega (arith, summed_small c.loop-i.invariant c.type_inv.bytes (omega arith) (omega arith))

pub overflow_add-n : goal.overflow_add-n
overflow_add-n c = omega (arith, summed_small c.loop-i.invariant c.type_inv.bytes (omega arith) (omega arith))

pub loop-i-preserved : goal.loop-i-preserved
loop-i-preserved c = summed_more c.loop-i.invariant c.from.result (omega arith) (omega arith) c.from.ensures
