use native.Mathlib.Omega.{arith}
use mathlib.Core.Path.{refl}
use Rattle.script.proofs.Putting.{put_short, put_whole, mid_sets}
use Rattle.script.proofs.write.put_bytes.Goals as goal

pub returns-in_err-end : goal.returns-in_err-end
returns-in_err-end c = rw c.from_residual.ensures (put_short _ _ _ _ _ refl c.in_err-end.ensures)

pub returns : goal.returns
returns c =
    let fits = c.in_ok-end.ensures in
    put_whole _ _ _ _ _ _ refl refl fits.0 (mid_sets _ _ _ _ _ c.copy_from_slice.ensures.after (omega (arith, fits.1)) fits.0)
