use Rattle.unit.specs.Memory.{decode}
use Rattle.unit.specs.Unit.{says}
use Rattle.unit.proofs.good.Good.may_seal.Goals as goal

pub returns : goal.returns
unfolding decode says
returns c = rw (c.lowest.ensures, c.when.ensures, c.from.ensures, c.sealed.ensures)
