use native.Mathlib.Omega.{arith}
use mathlib.Core.Path.{◌≡◌, ap}
use mathlib.Core.List.{[]}
use lib.ListN.{length, get_or, length-take}
use Rattle.layout.specs.declared.Chain.{Chain}
use Rattle.script.proofs.Putting.{measure_none, measure_more, measure_stop, measure_all}
use Rattle.script.proofs.write.measure.Goals as goal

pub loop-c-init : goal.loop-c-init
loop-c-init c = measure_none _

pub overflow_add-size-in-loop-c : goal.overflow_add-size-in-loop-c
overflow_add-size-in-loop-c c =
    let d : Chain = get_or c.sets-c-items.result.now c.loop-c.c-index (record { count = 0; units = [] }) in
    let room : length c.args.wish.sets ≡ 16 = omega arith in
    omega (arith, ap length c.units.ensures, length-take d.count d.units, c.loop-c.invariant.far, ap length c.sets-c-items.ensures, length-take c.args.wish.count c.args.wish.sets)

pub loop-c-preserved : goal.loop-c-preserved
loop-c-preserved c = measure_more c.loop-c.invariant _ c.loop-c-test.true _ c.if-c-gt-MOST.false (ap length c.units.ensures)

pub returns-then-c-gt-MOST : goal.returns-then-c-gt-MOST
returns-then-c-gt-MOST c = rw c.sets-c-items.ensures at (measure_stop c.loop-c.invariant _ c.loop-c-test.true c.if-c-gt-MOST.true)

pub returns : goal.returns
returns c =
    let room : length c.args.wish.sets ≡ 16 = omega arith in
    let all = rw c.sets-c-items.ensures at (measure_all c.loop-c.invariant c.loop-c-test.false) in
    (all.0, (all.1, omega (arith, c.loop-c.invariant.far, ap length c.sets-c-items.ensures, length-take c.args.wish.count c.args.wish.sets)))
