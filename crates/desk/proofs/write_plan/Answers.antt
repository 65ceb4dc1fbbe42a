use Rattle.std.proofs.lemmas.Result.{err_from_is_err_and}
use Rattle.desk.proofs.Making.{not_made, put}
use Rattle.desk.proofs.write_plan.Goals as goal

pub returns-in_err-new : goal.returns-in_err-new
returns-in_err-new c =
    let p = err_from_is_err_and c.from_residual.result c.from_residual.ensures.1 in
    rw (p.1, p.2) (not_made c.layout_in.ensures _ c.in_err-new.ensures)

pub returns : goal.returns
returns c = put c.layout_in.ensures c.in_ok-new.ensures c.write_layout.ensures
