use Rattle.std.proofs.Common.{◌≡◌, ◌+◌, ◌≤◌, length, map}
use Rattle.layout.specs.Lay.{units_of}
use Rattle.layout.specs.Value.{units_in}
use Rattle.layout.proofs.GrownSections.{used_above}
use Rattle.layout.proofs.encoded.units_used.Given as goal

abbrev pub invariant-loop-u : goal.invariant-loop-u
invariant-loop-u l = (l.n + 1 ≤ l.u) × (l.n + length (used_above l.u (map units_in l.sets)) ≡ length (units_of (map units_in l.sets)))
