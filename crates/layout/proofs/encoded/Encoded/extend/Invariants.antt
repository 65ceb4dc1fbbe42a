use Rattle.std.proofs.Common.{◌≡◌, drop}
use Rattle.layout.specs.InsideGrowing.{grown, written}
use Rattle.layout.proofs.encoded.Encoded.extend.Given as goal

abbrev pub invariant-loop-b : goal.invariant-loop-b
invariant-loop-b l = grown (written l.self) (drop l.b-index l.more) ≡ grown (written l.initial.self) l.more
