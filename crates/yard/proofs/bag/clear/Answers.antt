use Rattle.yard.proofs.Blanks.{blanked_is}
use Rattle.yard.proofs.bag.clear.Goals as goal

pub returns : goal.returns
returns c = rw (c.fill.ensures.after (λ y e. e), c.blank.ensures, c.min-n.ensures) (blanked_is c.args.table.now c.args.count)
