use Rattle.play.proofs.Chunks.{lent_shown, none_shown}
use Rattle.desk.proofs.play_lines.Goals as goal

pub returns-in-Ok : goal.returns-in-Ok
returns-in-Ok c = lent_shown c.in-Ok.ensures _ _

pub returns-in-Err : goal.returns-in-Err
returns-in-Err c = rw c.number.ensures (none_shown _ _ c.in-Err.ensures)
