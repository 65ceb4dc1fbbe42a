use Rattle.std.proofs.Common.{sym, ◌∙◌}
use Rattle.layout.proofs.PlaceAnswer.{units_rise}
use Rattle.layout.proofs.Rising.{from_one}
use Rattle.layout.proofs.NextUnit.{after_absent}
use Rattle.layout.proofs.place.unit_after.Goals as goal

pub returns-in_err-at-clause-unit : goal.returns-in_err-at-clause-unit
returns-in_err-at-clause-unit c = rw (c.from_residual.ensures, ← c.units_at-units.ensures) (after_absent _ _ (sym c.place_among.ensures ∙ c.in_err-at.was))

pub returns-clause-from_one : goal.returns-clause-from_one
returns-clause-from_one c = rw (c.unit_at.ensures, c.units_at-units.ensures) (from_one 0 _ _ (units_rise _ _))
