use mathlib.Core.Bool.{Bool, true, false}
use mathlib.Core.Path.{◌≡◌, refl, ◌∙◌}
use mir.Val.{bool_byte}
use Rattle.script.specs.Steps.{flag, cue_bytes}
use Rattle.script.specs.Put.{cue_of, step_fits}
use Rattle.script.proofs.write.put_step.Goals as goal

byte_flag : (b : Bool) → bool_byte b ≡ flag b
byte_flag true = refl
byte_flag false = refl

pub returns-in-Begin : goal.returns-in-Begin
unfolding step_fits cue_of cue_bytes
returns-in-Begin c = rw c.in-Begin.is c.put_begin.ensures

pub returns-in-Deliver : goal.returns-in-Deliver
unfolding step_fits cue_of cue_bytes
returns-in-Deliver c =
    let letter = c.from.ensures ∙ byte_flag c.in-Deliver.letter in
    let answer = c.from-in-Deliver.ensures ∙ byte_flag c.in-Deliver.answer in
    rw c.in-Deliver.is (rw (letter, answer) at c.put_bytes.ensures)

pub returns-in-Drop : goal.returns-in-Drop
unfolding step_fits cue_of cue_bytes
returns-in-Drop c = rw c.in-Drop.is c.put_bytes-in-Drop.ensures

pub returns-in-Stop : goal.returns-in-Stop
unfolding step_fits cue_of cue_bytes
returns-in-Stop c = rw c.in-Stop.is c.put_bytes-in-Stop.ensures

pub returns-in-Restart : goal.returns-in-Restart
unfolding step_fits cue_of cue_bytes
returns-in-Restart c = rw c.in-Restart.is c.put_bytes-in-Restart.ensures

pub returns-in-GiveUp : goal.returns-in-GiveUp
unfolding step_fits cue_of cue_bytes
returns-in-GiveUp c = rw c.in-GiveUp.is c.put_bytes-in-GiveUp.ensures

pub returns-in-Forget : goal.returns-in-Forget
unfolding step_fits cue_of cue_bytes
returns-in-Forget c = rw c.in-Forget.is c.put_bytes-in-Forget.ensures
