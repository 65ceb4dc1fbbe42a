use Rattle.layout.specs.Value.{lay_of}
use Rattle.layout.proofs.GoodLay.{good_says}
use Rattle.layout.proofs.place.number_of.Goals as goal

pub number_by-requires-clause-good : goal.number_by-requires-clause-good
unfolding lay_of
number_by-requires-clause-good c = rw c.ranges-2.ensures (good_says (lay_of c.args.l) c.requires).spans_good
