use lib.ListN.{length, drop}
use Rattle.layout.specs.Value.{padded}
use Rattle.layout.specs.Codec.{set_front}
use Rattle.layout.proofs.Stored.{Copying}
use Rattle.script.proofs.step.copy_counted.Given as goal

abbrev pub invariant-loop-i : goal.invariant-loop-i
invariant-loop-i l = Copying (length l.initial.out) (padded (length l.initial.out) 0 (set_front (drop 2 l.b))) l.initial.out l.i l.out
