use Rattle.std.proofs.Common.{◌≡◌, drop}
use Rattle.layout.specs.Lay.{rising}
use Rattle.layout.proofs.good.rises.Given as goal

abbrev pub invariant-loop-unit : goal.invariant-loop-unit
invariant-loop-unit l = rising l.low (drop l.unit-index l.units) ≡ rising 0 l.units
