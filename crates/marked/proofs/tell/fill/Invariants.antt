use Rattle.num.specs.Refusals.{answered}
use Rattle.marked.specs.Asks.{IsFilled}
use Rattle.marked.proofs.tell.fill.Given as goal

abbrev pub invariant-loop-p : goal.invariant-loop-p
invariant-loop-p l = IsFilled l.initial.mem l.p (answered l.answer) l.mem
