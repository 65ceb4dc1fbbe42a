use lib.ListN.{length}
use lib.Seq.{sets}
use mathlib.Core.List.{map}
use Rattle.layout.specs.Value.{units_in}
use Rattle.layout.specs.Codec.{sets_bytes}
use Rattle.script.proofs.Putting.{Laying}
use Rattle.script.proofs.write.put_sets.Given as goal

abbrev pub invariant-loop-c : goal.invariant-loop-c
invariant-loop-c l = Laying l.c-items (sets l.initial.out l.initial.past (sets_bytes (map units_in l.c-items))) (length l.initial.out) l.c-index l.out l.past
