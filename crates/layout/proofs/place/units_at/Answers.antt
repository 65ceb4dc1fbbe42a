use Rattle.std.proofs.Common.{◌≡◌, length, sym, arith}
use Rattle.layout.proofs.PlaceAnswer.{Found, found, found_none}
use Rattle.layout.proofs.place.units_at.Goals as goal

pub bounds-l-from : goal.bounds-l-from
bounds-l-from c =
    let room : length c.args.l.now.sets ≡ 16 = omega arith in
    let k : Found c.args.l.now c.args.p.0 c.in-Ok.k = found c.args.l.now c.args.p.0 c.in-Ok.k room c.in-Ok.ensures in
    omega (arith, k.within, c.from.ensures)

pub returns-in-Err : goal.returns-in-Err
returns-in-Err c = sym (found_none _ _ _ c.in-Err.ensures)
