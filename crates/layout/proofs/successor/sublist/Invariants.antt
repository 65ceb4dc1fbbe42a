use Rattle.std.proofs.Common.{◌≡◌, drop}
use Rattle.layout.specs.Successor.{sublist}
use Rattle.layout.proofs.successor.sublist.Given as goal

abbrev pub invariant-loop-unit : goal.invariant-loop-unit
invariant-loop-unit l = sublist l.rest (drop l.unit-index l.old) ≡ sublist l.new l.old
