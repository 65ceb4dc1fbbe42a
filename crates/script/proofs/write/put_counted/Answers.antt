use native.Mathlib.Omega.{arith}
use lib.ListN.{length-set}
use Rattle.script.proofs.Putting.{counted_put, mid_sets}
use Rattle.script.proofs.write.put_counted.Goals as goal

pub returns : goal.returns
returns c = counted_put c.args.out.now c.args.xs.now _ c.args.at (mid_sets _ _ _ _ _ c.copy_from_slice.ensures.after (omega arith) (rw length-set (omega arith)))
