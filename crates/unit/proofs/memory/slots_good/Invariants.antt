use Rattle.std.proofs.Common.{◌-◌}
use Rattle.unit.proofs.Checking.{Checked}
use Rattle.unit.proofs.memory.slots_good.Given as goal

abbrev pub invariant-loop : goal.invariant-loop
invariant-loop l = Checked l.cap l.mem l.count l.low (l.count - l.counter) l.least l.at l.faults l.a l.b l.c l.d
