use Rattle.std.proofs.Common.{sym, refl, ap, ◌∙◌}
use Rattle.num.proofs.Refusals.{handed_none}
use Rattle.unit.specs.Unit.{Report}
use Rattle.unit.specs.Unit.Request.{measure}
use Rattle.unit.proofs.Encoding.{unchanged}
use Rattle.unit.proofs.Lasting.{measure_edges}
use Rattle.unit.proofs.Asked.{bad_asked, done_asked, told_asked, silent_asked}
use Rattle.unit.proofs.edges.measure.Goals as goal

pub returns-in_err-good : goal.returns-in_err-good
returns-in_err-good c =
    let i = c.from_residual.ensures.1 in
    let a = bad_asked _ measure _ _ i c.in_err-good.ensures in
    record { answered = a; edges_is = handed_none _ _ _ i ∙ sym (ap (λ (t : Report). t.edges) (silent_asked _ _ _ _ i _ a)) }

pub returns : goal.returns
returns c =
    let g = c.in_ok-good.good in
    let a = done_asked _ measure g.shape g.named g.is_good _ (sym (measure_edges _ _).0) (unchanged _ _ (rw c.in_ok-good.ensures c.type_inv.mem) g.is_good refl) in
    rw (← c.in_ok-good.ensures) (record { answered = a; edges_is = c.edges.ensures ∙ sym (ap (λ (t : Report). t.edges) (told_asked _ _ g.shape g.named g.is_good a)) })
