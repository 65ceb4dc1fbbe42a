use Rattle.num.specs.Edges.{largest}
use Rattle.num.proofs.largest.largest.Goals as goal

pub returns : goal.returns
unfolding largest
returns c = rw (c.larger.ensures, c.larger-2.ensures)
