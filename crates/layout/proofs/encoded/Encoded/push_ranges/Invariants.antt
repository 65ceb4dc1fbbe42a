use Rattle.std.proofs.Common.{◌≡◌, map, drop}
use Rattle.layout.specs.Value.{span_in}
use Rattle.layout.specs.Codec.{spans_bytes}
use Rattle.layout.specs.InsideGrowing.{grown, written}
use Rattle.layout.proofs.encoded.Encoded.push_ranges.Given as goal

abbrev pub invariant-loop-r : goal.invariant-loop-r
invariant-loop-r l = grown (written l.self) (spans_bytes (map span_in (drop l.r-index l.ranges))) ≡ grown (written l.initial.self) (spans_bytes (map span_in l.ranges))
