use Rattle.std.proofs.Common.{sym, ap, ◌∙◌}
use Rattle.num.proofs.Refusals.{handed_none}
use Rattle.unit.specs.Unit.{Report}
use Rattle.unit.proofs.Asked.{bad_asked, refused_asked, done_asked, told_asked, silent_asked}
use Rattle.unit.proofs.seal.seal.Goals as goal

pub returns-in_err-good : goal.returns-in_err-good
returns-in_err-good c =
    let i = c.from_residual.ensures.1 in
    let a = bad_asked _ _ _ _ i c.in_err-good.ensures in
    record { answered = a; edges_is = handed_none _ _ _ i ∙ sym (ap (λ (t : Report). t.edges) (silent_asked _ _ _ _ i _ a)) }

pub returns-in_err-may_seal : goal.returns-in_err-may_seal
returns-in_err-may_seal c =
    let g = c.in_ok-good.good in
    let i = c.from_residual-in_err-may_seal.ensures.1 in
    let a = refused_asked _ _ g.shape g.named g.is_good _ _ i c.in_err-may_seal.ensures in
    rw (← c.in_ok-good.ensures) (record { answered = a; edges_is = handed_none _ _ _ i ∙ sym (ap (λ (t : Report). t.edges) (silent_asked _ _ _ _ i _ a)) })

pub put_sealed-requires : goal.put_sealed-requires
put_sealed-requires c = let g = c.in_ok-good.good in rw (← c.in_ok-good.ensures) g.is_good

pub returns : goal.returns
returns c =
    let g = c.in_ok-good.good in
    let a = done_asked _ _ g.shape g.named g.is_good _ c.in_ok-may_seal.ensures (rw c.in_ok-good.ensures (rw c.from.ensures at c.put_sealed.ensures)) in
    rw (← c.in_ok-good.ensures) (record { answered = a; edges_is = c.edges-edges.ensures ∙ sym (ap (λ (t : Report). t.edges) (told_asked _ _ g.shape g.named g.is_good a)) })
