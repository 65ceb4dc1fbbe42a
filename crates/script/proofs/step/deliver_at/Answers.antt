use borrow.Author.Tests.{le-leb}
use Rattle.script.specs.Cue.{step_for, job_for}
use Rattle.script.specs.Steps.{cue_bytes, has_room}
use Rattle.script.proofs.step.deliver_at.Goals as goal

pub returns-then-answer-le1 : goal.returns-then-answer-le1
unfolding has_room cue_bytes step_for job_for
returns-then-answer-le1 c =
    rw (c.sized.ensures, c.of.ensures, ← c.byte_at.ensures, ← c.byte_at-answer.ensures, ← c.byte_at-letter.ensures, le-leb _ 1 c.if-letter-le1.true, le-leb _ 1 c.if-answer-le1.true)
