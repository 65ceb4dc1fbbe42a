use Rattle.std.proofs.Common.{◌∙◌, sym}
use Rattle.yard.proofs.Stepping.{stops_nobody, stops_fine}
use Rattle.yard.proofs.other_steps.stops.Goals as goal

pub returns-then-not-is_running : goal.returns-then-not-is_running
returns-then-not-is_running c = stops_nobody c.args.core.yard c.args.core.sequencer c.args.u (sym c.is_running.ensures ∙ c.if-not-is_running.true)

pub returns : goal.returns
returns c = rw (c.quiet.ensures, c.from.ensures) (stops_fine c.args.core.yard c.args.core.sequencer c.args.u (sym c.is_running.ensures ∙ c.if-not-is_running.false))
