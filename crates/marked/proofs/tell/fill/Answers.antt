use Rattle.std.proofs.Common.{ap, ◌∙◌}
use Rattle.num.specs.Refusals.{answered}
use Rattle.marked.proofs.Telling.{and_answered, filled_none, filled_more}
use Rattle.marked.proofs.tell.fill.Goals as goal

pub loop-p-init : goal.loop-p-init
loop-p-init c = filled_none c.args.mem.now

pub loop-p-preserved : goal.loop-p-preserved
loop-p-preserved c =
    filled_more c.loop-p.invariant c.write.ensures (ap answered c.and-answer.ensures ∙ and_answered c.loop-p.answer c.write.result)
