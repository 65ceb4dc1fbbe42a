use Rattle.std.proofs.Common.{◌≡◌, ◌∙◌, ◌+◌, ◌-◌, ◌*◌, suc, add-one, arith, sym}
use Rattle.rule.specs.Lent.{good_unit}
use Rattle.yard.proofs.Memories.{passed_stop, passed_more, passed_all, wrong_length, part}
use Rattle.yard.proofs.units.good_units.Goals as goal

pub returns-then-units-ne-SIZE : goal.returns-then-units-ne-SIZE
returns-then-units-ne-SIZE c = wrong_length c.args.shape c.args.units.now c.if-units-ne-SIZE.true

pub returns-then-not-good_unit : goal.returns-then-not-good_unit
returns-then-not-good_unit c =
    let e : c.loop-i.i * 6168 + 6168 - c.loop-i.i * 6168 ≡ 6168 = omega arith in
    let k : c.good_unit.result ≡ good_unit c.args.shape (suc c.loop-i.i) (part c.args.units.now c.loop-i.i) = rw (e, add-one) at c.good_unit.ensures in
    passed_stop c.loop-i.invariant c.loop-i-test.true (sym k ∙ c.if-not-good_unit.true)

pub loop-i-preserved : goal.loop-i-preserved
loop-i-preserved c =
    let e : c.loop-i.i * 6168 + 6168 - c.loop-i.i * 6168 ≡ 6168 = omega arith in
    let k : c.good_unit.result ≡ good_unit c.args.shape (suc c.loop-i.i) (part c.args.units.now c.loop-i.i) = rw (e, add-one) at c.good_unit.ensures in
    rw add-one (passed_more c.loop-i.invariant c.loop-i-test.true (sym k ∙ c.if-not-good_unit.false))

pub returns : goal.returns
returns c = let e : c.loop-i.i ≡ 8 = omega arith in passed_all (rw e at c.loop-i.invariant) (omega arith)
