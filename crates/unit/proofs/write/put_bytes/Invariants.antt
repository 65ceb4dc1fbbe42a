use Rattle.std.proofs.Common.{◌+◌, ◌-◌, ◌≤◌, length, drop}
use lib.Seq.{sets}
use Rattle.num.proofs.Storing.{Storing}
use Rattle.unit.proofs.write.put_bytes.Given as goal

abbrev pub invariant-loop-i : goal.invariant-loop-i
invariant-loop-i l = (l.i ≤ length l.bytes) × Storing (sets l.initial.mem l.at l.bytes) (length l.initial.mem) l.mem (l.at + l.i) (drop l.i l.bytes)

abbrev pub decreases-loop-i : goal.decreases-loop-i
decreases-loop-i l = length l.bytes - l.i
