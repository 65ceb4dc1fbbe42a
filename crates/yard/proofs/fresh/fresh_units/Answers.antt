use Rattle.std.proofs.Common.{◌≡◌, ℕ, ◌+◌, ◌-◌, ◌*◌, arith}
use Rattle.yard.proofs.Freshening.{filled_none, filled_again, filled_all}
use Rattle.yard.proofs.fresh.fresh_units.Goals as goal

pub loop-i-init : goal.loop-i-init
loop-i-init c = filled_none c.args.shape c.args.units.now c.requires.units_len

pub loop-i-preserved : goal.loop-i-preserved
loop-i-preserved c =
    let i : ℕ = c.loop-i.i in
    let e : (i - 1) * 6168 + 6168 - (i - 1) * 6168 ≡ 6168 = omega arith in
    rw e (filled_again c.requires.shape_le_last_shape c.loop-i.invariant c.loop-i-test.true (rw e at c.fresh.ensures))

pub returns : goal.returns
returns c = let e : c.loop-i.i ≡ 0 = omega arith in filled_all (rw e at c.loop-i.invariant)
