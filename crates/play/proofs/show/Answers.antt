-- `play::show` meets its contract.
use native.Mathlib.Omega.{arith}
use Rattle.line.proofs.Fitting.{line_stands}
use Rattle.play.proofs.Showing.{no_room, room}
use Rattle.play.proofs.show.Goals as goal

pub returns-in_err-size : goal.returns-in_err-size
returns-in_err-size c =
    let e = c.ended-who.ensures in
    rw c.from_residual.ensures (no_room (rw (c.in_err-size.was, c.number_of.ensures, e.0, e.1) at c.put_line.ensures))

pub overflow_add-result-2 : goal.overflow_add-result-2
overflow_add-result-2 c = omega (arith, (line_stands c.in_ok-size.ensures).1.0, c.well_formed)

pub returns : goal.returns
returns c =
    let e = c.ended-who.ensures in
    room (rw (c.number_of.ensures, e.0, e.1) at c.in_ok-size.ensures)
