use Rattle.std.proofs.Common.{ap, ◌∙◌, true}
use Rattle.std.proofs.lemmas.Result.{err_from_is_err_and}
use Rattle.client.specs.Turn.{Turn}
use Rattle.yard.specs.InsideMoves.{turning}
use Rattle.yard.proofs.Stepping.{passed_on, gives_up_nobody, gives_up_turned}
use Rattle.yard.proofs.other_steps.gives_up.Goals as goal

pub returns-in_err-client : goal.returns-in_err-client
returns-in_err-client c =
    rw (passed_on c.args.core (err_from_is_err_and _ c.from_residual.ensures.1), c.in_err-client.ensures.1) (gives_up_nobody c.args.core.yard c.args.core.sequencer c.args.c c.in_err-client.ensures.0)

pub returns : goal.returns
returns c =
    let k = c.args.core in
    rw (c.turned.ensures ∙ ap (λ (t : Turn). turning k.yard k.sequencer true c.args.c t) c.give_up-turn.ensures, c.in_ok-client.ensures.1) (gives_up_turned c.args.core.yard c.args.core.sequencer c.args.c c.in_ok-client.ensures.0)
