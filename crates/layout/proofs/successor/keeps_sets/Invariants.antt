use Rattle.std.proofs.Common.{◌≡◌, map, drop}
use Rattle.layout.specs.Value.{units_in}
use Rattle.layout.specs.Successor.{keeps_sets}
use Rattle.layout.proofs.successor.keeps_sets.Given as goal

abbrev pub invariant-loop-o : goal.invariant-loop-o
invariant-loop-o l = keeps_sets (map units_in (drop l.o-index l.old)) (map units_in l.rest) ≡ keeps_sets (map units_in l.old) (map units_in l.new)
