use native.Mathlib.Omega.{arith}
use Rattle.num.proofs.Storing.{storing_number, stored_number}
use Rattle.num.proofs.bytes.store_within.Goals as goal

pub loop-i-preserved : goal.loop-i-preserved
loop-i-preserved c = storing_number c.args.at c.loop-i.i c.args.width c.loop-i.rest c.loop-i.invariant (omega arith)

pub returns : goal.returns
returns c = stored_number c.loop-i.i c.args.width c.loop-i.rest c.loop-i.invariant (omega arith)
