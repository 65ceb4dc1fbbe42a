use Rattle.std.proofs.Common.{◌≡◌, map, drop}
use Rattle.layout.specs.Value.{units_in}
use Rattle.layout.specs.Codec.{sets_bytes}
use Rattle.layout.specs.InsideGrowing.{grown, written}
use Rattle.layout.proofs.encoded.Encoded.push_sets.Given as goal

abbrev pub invariant-loop-c : goal.invariant-loop-c
invariant-loop-c l = grown (written l.self) (sets_bytes (map units_in (drop l.c-index l.sets))) ≡ grown (written l.initial.self) (sets_bytes (map units_in l.sets))
