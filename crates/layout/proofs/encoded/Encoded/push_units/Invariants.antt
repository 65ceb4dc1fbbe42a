use Rattle.std.proofs.Common.{◌≡◌, map}
use Rattle.layout.specs.Lay.{units_of}
use Rattle.layout.specs.Value.{units_in}
use Rattle.layout.specs.InsideGrowing.{grown, written}
use Rattle.layout.proofs.GrownSections.{used_above}
use Rattle.layout.proofs.encoded.Encoded.push_units.Given as goal

abbrev pub invariant-loop-u : goal.invariant-loop-u
invariant-loop-u l = grown (written l.self) (used_above l.u (map units_in l.sets)) ≡ grown (written l.initial.self) (units_of (map units_in l.sets))
