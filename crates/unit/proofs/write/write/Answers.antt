use Rattle.std.proofs.Common.{◌≤◌, sym, le_trans}
use Rattle.unit.specs.State.{content}
use Rattle.unit.proofs.Shapes.{sized}
use Rattle.unit.proofs.Answers.{writable, count_room}
use Rattle.unit.proofs.Asked.{bad_asked, refused_asked, done_asked}
use Rattle.unit.proofs.write.write.Goals as goal

pub returns-in_err-good : goal.returns-in_err-good
returns-in_err-good c = bad_asked _ _ _ _ c.from_residual.ensures.1 c.in_err-good.ensures

pub returns-in_err-may_write : goal.returns-in_err-may_write
returns-in_err-may_write c =
    let g = c.in_ok-good.good in
    rw (← c.in_ok-good.ensures) (refused_asked _ _ g.shape g.named g.is_good _ _ c.from_residual-in_err-may_write.ensures.1 c.in_err-may_write.ensures)

pub insert_slot-requires : goal.insert_slot-requires
insert_slot-requires c =
    let g = c.in_ok-good.good in
    let w = writable g.shape _ c.args.epoch c.args.p (content c.args.kind c.args.bytes.now) (sym c.in_ok-may_write.ensures) in
    let n = c.count-count.ensures in
    let short : g.shape.cap ≤ 255 = rw g.named (sized _).cap in
    rw (← c.in_ok-good.ensures) (record { mem_value = g.is_good; at_value = (c.find-found.ensures.0, n, rw n (count_room g.shape _ w), w.takes.short, le_trans w.takes.short short); p_value = w.free })

pub returns : goal.returns
returns c =
    let g = c.in_ok-good.good in
    rw (← c.in_ok-good.ensures) (done_asked _ _ g.shape g.named g.is_good _ c.in_ok-may_write.ensures (rw c.in_ok-good.ensures c.insert_slot.ensures))
