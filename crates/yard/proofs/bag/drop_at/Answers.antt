use Rattle.yard.proofs.Drops.{dropped}
use Rattle.yard.proofs.bag.drop_at.Goals as goal

pub returns-then-count-table : goal.returns-then-count-table
returns-then-count-table c =
    rw (c.copy_within.ensures.after, c.blank.ensures) (dropped c.args.table.now c.args.count c.args.i c.if-i-count.true c.if-count-table.true)
