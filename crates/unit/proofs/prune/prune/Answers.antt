use Rattle.unit.proofs.Shapes.{sized}
use Rattle.unit.proofs.Asked.{bad_asked, refused_asked, done_asked}
use Rattle.unit.proofs.prune.prune.Goals as goal

pub returns-in_err-good : goal.returns-in_err-good
returns-in_err-good c = bad_asked _ _ _ _ c.from_residual.ensures.1 c.in_err-good.ensures

pub returns-in_err-may_prune : goal.returns-in_err-may_prune
returns-in_err-may_prune c =
    let g = c.in_ok-good.good in
    rw (← c.in_ok-good.ensures) (refused_asked _ _ g.shape g.named g.is_good _ _ c.from_residual-in_err-may_prune.ensures.1 c.in_err-may_prune.ensures)

pub raise_floor-requires : goal.raise_floor-requires
raise_floor-requires c =
    let g = c.in_ok-good.good in
    rw (← c.in_ok-good.ensures) (g.is_good, rw g.named (sized _).cap)

pub returns : goal.returns
returns c =
    let g = c.in_ok-good.good in
    rw (← c.in_ok-good.ensures) (done_asked _ _ g.shape g.named g.is_good _ c.in_ok-may_prune.ensures (rw c.in_ok-good.ensures c.raise_floor.ensures))
