-- `book::main` is safe: each buffer is as long as it was made.
use Rattle.std.proofs.Common.{ℕ, sym}
use Rattle.std.proofs.Math.ListN.{length-replicate}
use Rattle.book.proofs.main.Goals as goal

pub slice_bounds-tell_all-end-2 : goal.slice_bounds-tell_all-end-2
slice_bounds-tell_all-end-2 c = sym (length-replicate {A = ℕ} 1048576 0)
