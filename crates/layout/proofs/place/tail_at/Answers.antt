use Rattle.layout.proofs.PlaceAnswer.{units_rise}
use Rattle.layout.proofs.Rising.{from_one}
use Rattle.layout.proofs.place.tail_at.Goals as goal

pub returns-clause-from_one : goal.returns-clause-from_one
returns-clause-from_one c = rw (c.copied.ensures, c.last.ensures.value, c.units_at.ensures) (from_one 0 _ _ (units_rise _ _))
