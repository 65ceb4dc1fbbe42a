use Rattle.yard.proofs.Stepping.{forgets_fine}
use Rattle.yard.proofs.other_steps.forgets.Goals as goal

pub returns : goal.returns
returns c = rw (c.quiet.ensures, c.forget.ensures.after_is) (forgets_fine c.args.core.yard c.args.core.sequencer)
