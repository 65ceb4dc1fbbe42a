use Prim.Native.Nat.{◌+◌, ◌-◌}
use lib.ListN.{length}
use lib.Seq.{sets}
use Rattle.num.specs.Bytes.{le_bytes}
use Rattle.num.proofs.Storing.{Storing}
use Rattle.num.proofs.bytes.store_within.Given as goal

abbrev pub invariant-loop-i : goal.invariant-loop-i
invariant-loop-i l = Storing (sets l.initial.bytes l.at (le_bytes l.width l.n)) (length l.initial.bytes) l.bytes (l.at + l.i) (le_bytes (l.width - l.i) l.rest)
