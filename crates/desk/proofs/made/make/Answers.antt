use Rattle.std.proofs.lemmas.Result.{err_from_is_err_and}
use Rattle.std.specs.Prelude.{Ok, Err}
use Rattle.desk.proofs.Making.{made_refused, made_started}
use Rattle.desk.proofs.made.make.Goals as goal

pub returns-in_err-plan : goal.returns-in_err-plan
returns-in_err-plan c =
    let p = err_from_is_err_and c.from_residual.result c.from_residual.ensures.1 in
    rw (p.1, p.2) (made_refused _ _ _ _ _ c.wish_for.ensures _ c.in_err-plan.ensures)

pub returns-in_err-started : goal.returns-in_err-started
returns-in_err-started c =
    let p = err_from_is_err_and c.from_residual-in_err-started.result c.from_residual-in_err-started.ensures.1 in
    rw (p.1, p.2) (made_started _ _ _ _ _ c.wish_for.ensures _ (Err c.in_err-started.field-0.0) c.in_ok-plan.ensures c.in_err-started.ensures)

pub returns : goal.returns
returns c = made_started _ _ _ _ _ c.wish_for.ensures _ (Ok c.in_ok-started.started) c.in_ok-plan.ensures c.in_ok-started.ensures
