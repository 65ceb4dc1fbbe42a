use native.Mathlib.Omega.{arith}
use Prim.Native.Nat.{◌+◌}
use mathlib.Core.Path.{◌≡◌}
use lib.ListN.{length}
use Rattle.std.proofs.Common.{inl, inr}
use Rattle.script.proofs.Putting.{put_unwanted, put_whole}
use Rattle.script.proofs.Changing.{change_bytes, change_many, change_large, change_fits_lem, change_length, change_put}
use Rattle.script.proofs.write.put_reorganise.Goals as goal
use Rattle.script.proofs.write.put_reorganise.Goals.{then-n-gt-DROPS-via-then-n-gt-DROPS, then-n-gt-DROPS-via-else-n-gt-DROPS+then-wish-gt-MOST}

pub returns-then-n-gt-DROPS : goal.returns-then-n-gt-DROPS
returns-then-n-gt-DROPS c =
    elim c.then-n-gt-DROPS.branch [
      | then-n-gt-DROPS-via-then-n-gt-DROPS w ↦ put_unwanted _ _ _ _ (change_many c.args.change c.from-n.result c.from-n.ensures (inl w.if-n-gt-DROPS.true))
      | then-n-gt-DROPS-via-else-n-gt-DROPS+then-wish-gt-MOST w ↦
          put_unwanted _ _ _ _ (change_many c.args.change c.from-n.result c.from-n.ensures (inr w.if-wish-gt-MOST.true))
    ]

pub returns-in_err-size : goal.returns-in_err-size
returns-in_err-size c =
    rw c.from_residual.ensures (put_unwanted _ _ _ _ (change_large c.args.change c.from-n.result c.from-n.ensures c.in_err-size.ensures))

pub returns : goal.returns
returns c =
    let h = c.args.change in
    let n = c.from-n.result in
    let eight : length h.drops ≡ 8 = omega arith in
    let whole : length (change_bytes c.args.client h) ≡ (3 + n) + c.in_ok-size.field-0 =
    change_length h n c.from-n.ensures c.args.client c.in_ok-size.field-0 (omega (arith, eight)) c.in_ok-size.ensures.0 in
    let fine = change_fits_lem h n c.from-n.ensures c.if-n-gt-DROPS.false c.if-wish-gt-MOST.false c.in_ok-size.ensures.1.0 in
    put_whole _ _ _ _ _ _ fine whole c.in_ok-room.ensures.0
    (change_put h n c.from-n.ensures c.args.out.now c.put_counted.new.out c.put_sets.new.out c.args.at c.args.client (omega (arith, eight)) c.put_counted.ensures c.put_sets.ensures)
