use Rattle.std.proofs.Common.{arith}
use Rattle.num.proofs.Storing.{storing_none, storing_bytes, stored_bytes}
use Rattle.unit.proofs.write.put_bytes.Goals as goal

pub loop-i-init : goal.loop-i-init
loop-i-init c = (omega arith, storing_none _ _ _)

pub bounds-bytes-i : goal.bounds-bytes-i
bounds-bytes-i c = omega arith

pub overflow_add-mem : goal.overflow_add-mem
overflow_add-mem c = omega arith

pub bounds-mem-at : goal.bounds-mem-at
bounds-mem-at c = omega (arith, c.loop-i.invariant.1.same)

pub overflow_add-i : goal.overflow_add-i
overflow_add-i c = omega arith

pub loop-i-smaller : goal.loop-i-smaller
loop-i-smaller c = omega arith

pub loop-i-preserved : goal.loop-i-preserved
loop-i-preserved c = (omega arith, storing_bytes c.args.at c.loop-i.i c.args.bytes.now c.loop-i.invariant.1 (omega arith))

pub shape_of-mem : goal.shape_of-mem
shape_of-mem c = c.loop-i.invariant.1.same

pub returns : goal.returns
returns c = stored_bytes c.loop-i.i c.args.bytes.now c.loop-i.invariant.1 (omega arith)
