use Rattle.rule.specs.Steps.{step}
use Rattle.yard.proofs.Delivering.{decided_same}
use Rattle.yard.proofs.decide.chosen.Goals as goal

pub returns-in-Begin : goal.returns-in-Begin
unfolding step
returns-in-Begin c = rw c.in-Begin.is (decided_same c.args.core.yard.held.shape c.args.units.now c.type_inv.units c.requires c.begins.ensures)

pub returns-in-Deliver : goal.returns-in-Deliver
unfolding step
returns-in-Deliver c = rw c.in-Deliver.is c.delivers.ensures

pub returns-in-Drop : goal.returns-in-Drop
unfolding step
returns-in-Drop c = rw c.in-Drop.is (decided_same c.args.core.yard.held.shape c.args.units.now c.type_inv.units c.requires c.drops.ensures)

pub returns-in-Stop : goal.returns-in-Stop
unfolding step
returns-in-Stop c = rw c.in-Stop.is (decided_same c.args.core.yard.held.shape c.args.units.now c.type_inv.units c.requires c.stops.ensures)

pub returns-in-Restart : goal.returns-in-Restart
unfolding step
returns-in-Restart c = rw c.in-Restart.is (decided_same c.args.core.yard.held.shape c.args.units.now c.type_inv.units c.requires c.restarts.ensures)

pub returns-in-GiveUp : goal.returns-in-GiveUp
unfolding step
returns-in-GiveUp c = rw c.in-GiveUp.is (decided_same c.args.core.yard.held.shape c.args.units.now c.type_inv.units c.requires c.gives_up.ensures)

pub returns-in-Forget : goal.returns-in-Forget
unfolding step
returns-in-Forget c = rw c.in-Forget.is (decided_same c.args.core.yard.held.shape c.args.units.now c.type_inv.units c.requires c.forgets.ensures)
