-- `book::tell` is safe: what was written of the buffer is within it, and no more lines are told than are left of 65,536.
use mathlib.Core.Path.{sym}
use native.Mathlib.Omega.{arith}
use lib.Seq.{length-take-le}
use Rattle.play.proofs.Chunks.{lines_few, bytes_few}
use Rattle.book.proofs.tell.Goals as goal

pub slice_bounds-write_all-end-2 : goal.slice_bounds-write_all-end-2
slice_bounds-write_all-end-2 g c = omega (arith, bytes_few c.in-Ok.ensures, c.show_lines.auto.out)

pub slice_bounds-write_all-end-3 : goal.slice_bounds-write_all-end-3
slice_bounds-write_all-end-3 g c = sym (length-take-le _ _ (omega (arith, bytes_few c.in-Ok.ensures, c.show_lines.auto.out)))

pub returns-then-is_ok : goal.returns-then-is_ok
returns-then-is_ok g c = omega (arith, lines_few c.in-Ok.ensures)
