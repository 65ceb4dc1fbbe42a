use mathlib.Core.Path.{refl, ◌∙◌}
use Rattle.num.proofs.Telling.{told_new, told_held}
use Rattle.num.proofs.Refusals.{number_above}
use Rattle.desk.proofs.layout_plan.Goals as goal

pub returns-in-Ok : goal.returns-in-Ok
returns-in-Ok c =
    let d = c.in-Ok.ensures in
    record { answer_is = d.answer_is; out_is = d.out_is; written_is = told_new _ d.answer_is refl (d.count_is refl) }

pub returns-in-Err : goal.returns-in-Err
returns-in-Err c =
    let d = c.in-Err.ensures in
    record { answer_is = c.number.ensures ∙ d.answer_is; out_is = d.out_is; written_is = told_held _ _ d.answer_is (number_above c.in-Err.refusal) }
