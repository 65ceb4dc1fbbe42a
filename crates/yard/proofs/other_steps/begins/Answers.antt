use Rattle.std.proofs.Common.{◌∙◌, ap, sym, true}
use Rattle.std.proofs.lemmas.Result.{err_from_is_err_and}
use Rattle.num.proofs.Refusals.{number_above}
use Rattle.client.specs.Begin.{Begun}
use Rattle.yard.specs.InsideMoves.{turning}
use Rattle.yard.proofs.Stepping.{passed_on, begins_nobody, unready, crowded, unasked, begins_refused, begins_turned}
use Rattle.yard.proofs.other_steps.begins.Goals as goal

pub returns-in_err-client : goal.returns-in_err-client
returns-in_err-client c =
    let k = c.args.core in
    rw (passed_on k (err_from_is_err_and _ c.from_residual.ensures.1), c.in_err-client.ensures.1) (begins_nobody k.yard k.sequencer c.args.c c.args.job c.in_err-client.ensures.0)

pub returns-in_err-ready_answer : goal.returns-in_err-ready_answer
returns-in_err-ready_answer c =
    let k = c.args.core in
    let e = rw c.in_ok-client.ensures.1 at c.in_err-ready_answer.ensures in
    rw (passed_on k (err_from_is_err_and _ c.from_residual-in_err-ready_answer.ensures.1))
    (begins_refused k.yard k.sequencer c.args.c c.args.job c.in_ok-client.ensures.0 (number_above _) (unready k.yard k.sequencer c.args.c c.args.job (number_above _) e))

pub returns-in_err-lowest : goal.returns-in_err-lowest
returns-in_err-lowest c =
    let k = c.args.core in
    let r = rw c.in_ok-client.ensures.1 at c.in_ok-ready_answer.ensures in
    rw (passed_on k (err_from_is_err_and _ c.from_residual-in_err-lowest.ensures.1))
    (begins_refused k.yard k.sequencer c.args.c c.args.job c.in_ok-client.ensures.0 (number_above _) (crowded k.yard k.sequencer c.args.c c.args.job (number_above _) (sym r) (rw c.when.ensures at c.in_err-lowest.ensures)))

pub returns-in_err-turn : goal.returns-in_err-turn
returns-in_err-turn c =
    let k = c.args.core in
    let r = rw c.in_ok-client.ensures.1 at c.in_ok-ready_answer.ensures in
    let e = rw c.in_ok-client.ensures.1 at (ap (λ (b : Begun). b.answer) c.in_err-turn.ensures) in
    rw (passed_on k (err_from_is_err_and _ c.from_residual-in_err-turn.ensures.1))
    (begins_refused k.yard k.sequencer c.args.c c.args.job c.in_ok-client.ensures.0 (number_above _) (unasked k.yard k.sequencer c.args.c c.args.job (sym r) (sym (rw c.when.ensures at c.in_ok-lowest.ensures)) e))

pub returns : goal.returns
returns c =
    let k = c.args.core in
    let r = rw c.in_ok-client.ensures.1 at c.in_ok-ready_answer.ensures in
    let e = rw c.in_ok-client.ensures.1 at c.in_ok-turn.ensures in
    let n = unasked k.yard k.sequencer c.args.c c.args.job (sym r) (sym (rw c.when.ensures at c.in_ok-lowest.ensures)) (ap (λ (b : Begun). b.answer) e) in
    rw (c.turned.ensures ∙ ap (λ (b : Begun). turning k.yard k.sequencer true c.args.c b.turn) e) (begins_turned k.yard k.sequencer c.args.c c.args.job c.in_ok-client.ensures.0 (sym n))
