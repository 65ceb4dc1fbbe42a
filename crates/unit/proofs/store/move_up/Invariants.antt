use Rattle.std.proofs.Common.{◌≡◌, ◌+◌}
use Rattle.unit.specs.InsideMoves.{gap}
use Rattle.unit.proofs.store.move_up.Given as goal

abbrev pub invariant-loop-i : goal.invariant-loop-i
invariant-loop-i l = l.mem ≡ gap l.fn.mem (l.at + l.i) (l.at + l.count) l.size
