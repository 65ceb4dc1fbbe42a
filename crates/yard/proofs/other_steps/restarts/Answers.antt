use Rattle.std.proofs.Common.{ap, sym}
use Rattle.num.proofs.Refusals.{number_above}
use Rattle.client.specs.Begin.{Restarted}
use Rattle.std.proofs.lemmas.Result.{err_from_is_err_and}
use Rattle.yard.proofs.Stepping.{passed_on, restarts_nobody, restarts_spent, restarts_fine}
use Rattle.yard.proofs.other_steps.restarts.Goals as goal

pub returns-in_err-client : goal.returns-in_err-client
returns-in_err-client c =
    rw (passed_on c.args.core (err_from_is_err_and _ c.from_residual.ensures.1), c.in_err-client.ensures.1) (restarts_nobody c.args.core.yard c.args.core.sequencer c.args.c c.in_err-client.ensures.0)

pub returns-in_err-client-2 : goal.returns-in_err-client-2
returns-in_err-client-2 c =
    let e = rw c.in_ok-client.ensures.1 at (ap (λ (r : Restarted). r.answer) c.in_err-client-2.ensures) in
    rw (passed_on c.args.core (err_from_is_err_and _ c.from_residual-in_err-client-2.ensures.1)) (restarts_spent c.args.core.yard c.args.core.sequencer c.args.c c.in_ok-client.ensures.0 (number_above _) e)

pub returns : goal.returns
returns c =
    let e = rw c.in_ok-client.ensures.1 at c.in_ok-client-2.ensures in
    rw (c.quiet.ensures, c.with_client.ensures, ap (λ (r : Restarted). r.client) e) (restarts_fine c.args.core.yard c.args.core.sequencer c.args.c c.in_ok-client.ensures.0 (sym (ap (λ (r : Restarted). r.answer) e)))
