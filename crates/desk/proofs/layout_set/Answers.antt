use mathlib.Core.Path.{refl, ◌∙◌}
use Rattle.num.proofs.Telling.{told_new, told_held}
use Rattle.num.proofs.Refusals.{number_above}
use Rattle.desk.proofs.Telling.{place_answered, place_found}
use Rattle.desk.proofs.layout_set.Goals as goal

pub returns-in-Ok : goal.returns-in-Ok
returns-in-Ok c =
    let l = c.layout_in.ensures in
    let a = place_answered _ _ _ _ l c.in-Ok.ensures in
    record { answer_is = a; set_is = told_new _ a refl (c.from.ensures ∙ place_found _ _ _ _ l c.in-Ok.ensures refl) }

pub returns-in-Err : goal.returns-in-Err
returns-in-Err c =
    let a = place_answered _ _ _ _ c.layout_in.ensures c.in-Err.ensures in
    record { answer_is = c.number.ensures ∙ a; set_is = told_held _ _ a (number_above c.in-Err.refusal) }
