use native.Mathlib.Omega.{arith}
use mathlib.Core.Path.{◌∙◌}
use Rattle.script.proofs.Reaching.{reach_none, reach_more, reach_stop, reach_all}
use Rattle.script.proofs.step.reach.Goals as goal

pub loop-init : goal.loop-init
loop-init c = reach_none _ _

pub loop-preserved : goal.loop-preserved
loop-preserved c = reach_more c.loop.invariant c.from.result c.loop-test.true (c.from.ensures ∙ c.byte_at-units.ensures) (omega (arith, c.from.ensures))

pub returns-then-units-gt-MOST : goal.returns-then-units-gt-MOST
returns-then-units-gt-MOST c = reach_stop c.loop.invariant _ c.loop-test.true c.byte_at-units.ensures c.if-units-gt-MOST.true c.byte_at-n.ensures

pub returns : goal.returns
returns c =
    let all = reach_all c.loop.invariant c.loop-test.false c.byte_at-n.ensures in
    (all.0, (all.1, omega (arith, c.loop.invariant.far)))
