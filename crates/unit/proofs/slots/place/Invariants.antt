use Rattle.std.proofs.Common.{◌+◌, ◌-◌}
use Rattle.unit.proofs.Places.{Between}
use Rattle.unit.proofs.slots.place.Given as goal

abbrev pub invariant-loop-size : goal.invariant-loop-size
invariant-loop-size l = Between l.cap l.mem l.count l.p l.low (l.low + l.size - 1)

abbrev pub decreases-loop-size : goal.decreases-loop-size
decreases-loop-size l = l.size
