use Rattle.std.proofs.Common.{arith}
use Rattle.layout.proofs.Dropped.{outside_more, outside_all}
use Rattle.desk.proofs.made.are_outside.Goals as goal

pub loop-u-preserved : goal.loop-u-preserved
loop-u-preserved c = outside_more c.args.drops.now c.loop-u.u-index c.loop-u.outside (omega arith) c.loop-u.invariant

pub returns : goal.returns
returns c = outside_all c.args.drops.now c.loop-u.u-index c.loop-u.outside (omega arith) c.loop-u.invariant
