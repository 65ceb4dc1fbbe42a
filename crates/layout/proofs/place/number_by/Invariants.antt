use Rattle.std.proofs.Common.{◌≡◌, ◌*◌, ◌≤◌, map, drop}
use Rattle.layout.specs.Value.{span_in}
use Rattle.layout.specs.Places.{placed}
use Rattle.layout.proofs.place.number_by.Given as goal

abbrev pub invariant-loop-r : goal.invariant-loop-r
invariant-loop-r l = (l.before ≤ 255 * l.r-index) × (placed (map span_in (drop l.r-index l.ranges)) l.before l.found l.p ≡ placed (map span_in l.ranges) 0 0 l.p)
