use Rattle.std.proofs.Common.{arith, sym, ap, ◌∙◌}
use Rattle.std.proofs.lemmas.Result.{err_from_is_err_and}
use Rattle.num.proofs.Refusals.{number_above}
use Rattle.num.proofs.Tests.{cond_zero}
use Rattle.client.specs.Turn.{Turn}
use Rattle.yard.specs.InsideMoves.{sends, turning}
use Rattle.yard.proofs.Stepping.{passed_on, lowest_one}
use Rattle.yard.proofs.Delivering.{applies, answers_nobody, answers_full, answers_turned}
use Rattle.yard.proofs.deliver.returns_to.Goals as goal

pub returns-in_err-client : goal.returns-in_err-client
returns-in_err-client c =
    let a = c.args in
    λ i k h. rw (passed_on a.core (err_from_is_err_and _ c.from_residual.ensures.1), c.in_err-client.ensures.1) (answers_nobody a.core.yard a.core.sequencer a.d.keeps k a.d.letter c.requires c.in_err-client.ensures.0 i)

pub returns-in_err-has_room : goal.returns-in_err-has_room
returns-in_err-has_room c =
    let a = c.args in
    let e = rw (c.is_sending.ensures ∙ ap (λ (t : Turn). sends t.act) c.take-turn.ensures, c.in_ok-client.ensures.1) at c.in_err-has_room.ensures in
    λ i k h. rw (passed_on a.core (err_from_is_err_and _ c.from_residual-in_err-has_room.ensures.1), lowest_one _ _ 16 (number_above _) e)
    (answers_full a.core.yard a.core.sequencer a.d.keeps k a.d.letter c.requires c.in_ok-client.ensures.0 i h (applies _ 16 (number_above _) e))

pub returns : goal.returns
returns c =
    let a = c.args in
    let e = rw (c.is_sending.ensures ∙ ap (λ (t : Turn). sends t.act) c.take-turn.ensures, c.in_ok-client.ensures.1) at c.in_ok-has_room.ensures in
    λ i k h. rw (c.turned.ensures ∙ ap (λ (t : Turn). turning a.core.yard a.core.sequencer a.d.keeps a.d.letter.stamp.client t) c.take-turn.ensures, c.in_ok-client.ensures.1)
    (answers_turned a.core.yard a.core.sequencer a.d.keeps k a.d.letter c.requires c.in_ok-client.ensures.0 i h (cond_zero _ 16 0 (omega arith) (sym e)).0)
