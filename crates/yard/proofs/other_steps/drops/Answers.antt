use Rattle.yard.proofs.Stepping.{drops_nobody, drops_fine}
use Rattle.yard.proofs.other_steps.drops.Goals as goal

pub returns-then-core-i : goal.returns-then-core-i
returns-then-core-i c = drops_nobody c.args.core.yard c.args.core.sequencer c.args.i c.if-core-i.true

pub returns : goal.returns
returns c = rw c.quiet.ensures (drops_fine c.args.core.yard c.args.core.sequencer c.args.i c.if-core-i.false)
