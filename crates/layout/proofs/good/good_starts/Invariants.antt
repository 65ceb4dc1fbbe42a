use Rattle.std.proofs.Common.{◌≡◌, map, drop}
use Rattle.layout.specs.Lay.{good_spans}
use Rattle.layout.specs.Value.{span_in}
use Rattle.layout.proofs.good.good_starts.Given as goal

abbrev pub invariant-loop-r : goal.invariant-loop-r
invariant-loop-r l = good_spans l.low (map span_in (drop l.r-index l.ranges)) ≡ good_spans 0 (map span_in l.ranges)
