use Rattle.std.proofs.Common.{sym}
use Rattle.unit.proofs.Answers.{trimmable}
use Rattle.unit.proofs.Asked.{bad_asked, refused_asked, done_asked}
use Rattle.unit.proofs.trim.trim.Goals as goal

pub returns-in_err-good : goal.returns-in_err-good
returns-in_err-good c = bad_asked _ _ _ _ c.from_residual.ensures.1 c.in_err-good.ensures

pub returns-in_err-may_trim : goal.returns-in_err-may_trim
returns-in_err-may_trim c =
    let g = c.in_ok-good.good in
    rw (← c.in_ok-good.ensures) (refused_asked _ _ g.shape g.named g.is_good _ _ c.from_residual-in_err-may_trim.ensures.1 c.in_err-may_trim.ensures)

pub trim_page-requires-clause-mem_value_2 : goal.trim_page-requires-clause-mem_value_2
trim_page-requires-clause-mem_value_2 c = rw (← c.in_ok-good.ensures) (trimmable _ _ c.args.epoch c.args.p (sym c.in_ok-may_trim.ensures)).needs

pub returns : goal.returns
returns c =
    let g = c.in_ok-good.good in
    rw (← c.in_ok-good.ensures) (done_asked _ _ g.shape g.named g.is_good _ c.in_ok-may_trim.ensures (rw c.in_ok-good.ensures c.trim_page.ensures))
