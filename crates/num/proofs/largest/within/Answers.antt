use mathlib.Core.Path.{refl}
use Rattle.num.specs.Edges.{within}
use Rattle.num.proofs.largest.within.Goals as goal

pub returns : goal.returns
unfolding within
returns c = refl
