use native.Mathlib.Omega.{arith}
use mathlib.Core.Path.{sym, ◌∙◌}
use Rattle.script.proofs.Walking.{walk_none, walk_more, walk_stop, walk_all}
use Rattle.script.proofs.judge.are_steps.Goals as goal

pub loop-init : goal.loop-init
loop-init c = walk_none _ _ _ c.requires

pub overflow_add-past : goal.overflow_add-past
overflow_add-past c =
    omega (arith, (walk_more c.loop.invariant c.loop-test.true (sym c.step_at.ensures ∙ c.in-Some.is)).within)

pub loop-preserved : goal.loop-preserved
loop-preserved c = walk_more c.loop.invariant c.loop-test.true (sym c.step_at.ensures ∙ c.in-Some.is)

pub returns-in_default : goal.returns-in_default
returns-in_default c = walk_stop c.loop.invariant c.loop-test.true (sym c.step_at.ensures ∙ c.in_default.is)

pub returns : goal.returns
returns c = walk_all c.loop.invariant (omega arith)
