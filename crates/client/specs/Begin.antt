-- An operation begins, is given up, or is forgotten with the client's life (docs/RULES.md, 9.2).
use Rattle.std.specs.Prelude.{ℕ, ◌+◌, cond, List, [], ◌∷◌, ◌++◌, eqb, leb, Result, Ok, Err}
use Rattle.num.specs.Checks.{Check, lowest, ◌if◌}
use Rattle.num.specs.Refusals.{number, answered, given}
use Rattle.num.specs.declared.refusal.Refusal.{Refusal}
use Rattle.layout.specs.Value.{blank}
use Rattle.client.specs.declared.Ask.TheVariants.{Fetch}
use Rattle.client.specs.declared.state.Job.{Job}
use Rattle.client.specs.declared.Stage.TheVariants.{Fetching}
use Rattle.client.specs.declared.Client.{Client}
use Rattle.client.specs.Message.{plain}
use Rattle.client.specs.Client.{last_number, last_life, busy, idle}
use Rattle.client.specs.declared.turn.Turn.{Turn as TurnNow}
use Rattle.client.specs.Turn.{Turn, turn_in, rests, ends, sends}
use Rattle.client.specs.Job.{job_checks, position_for, page_for, change_for}

-- what a begin answers, and what comes of it
pub record Begun : Type 0 where
  pub answer : ℕ
  pub turn : Turn

-- what a restart answers, and the client afterwards
pub record Restarted : Type 0 where
  pub answer : ℕ
  pub client : Client

-- 18: client has an operation. 19: request number 2^32 - 1 used
abbrev pub ready_checks : Client → List Check
ready_checks c = 18 if busy c.stage ∷ 19 if leb last_number c.used.0 ∷ []

abbrev pub ready_answer : Client → ℕ
ready_answer c = lowest (ready_checks c)

-- position, page and how many to drop come after them (the yard has its own 16 between)
abbrev pub begin_answer : Client → Job → ℕ → ℕ
begin_answer c j shape = lowest (ready_checks c ++ job_checks j shape)

-- the client with the operation
abbrev pub with_job : Client → Job → Client
with_job c j = record {
  life = c.life;
  used = c.used;
  begun = c.used;
  stage = Fetching;
  work = j.work;
  change = change_for j.work j.change;
  position = position_for j.work;
  page = page_for j.work j.len j.bytes;
  layout = blank;
  plan = blank;
}

-- every operation first fetches the layout; a refusal uses no number, and nothing is sent
unfoldable pub begin_turn : Client → Job → ℕ → Turn
begin_turn c j shape = cond (eqb (begin_answer c j shape) 0) (sends (with_job c j) (plain Fetch)) (rests c)

-- shape: that of the layout held by the yard in which it begins
abbrev pub begin_step : Client → Job → ℕ → Begun
begin_step c j shape = record { answer = begin_answer c j shape; turn = begin_turn c j shape }

-- what the code returns, where the client rests if it is refused
abbrev pub begun_in : Client → Result TurnNow Refusal → Begun
begun_in c (Ok t) = record { answer = 0; turn = turn_in t }
begun_in c (Err r) = record { answer = number r; turn = rests c }

-- 20: the client was told to give up. "Giving up at an idle client is fine and changes nothing"
unfoldable pub give_up : Client → Turn
give_up c = cond (busy c.stage) (ends c 20) (rests c)

-- 19: life 65,535
abbrev pub restart_answer : Client → ℕ
restart_answer c = lowest (19 if leb last_life c.life ∷ [])

-- "its operation forgotten, life plus 1, numbers unused again"
unfoldable pub restarted : Client → Client
restarted c = cond (leb last_life c.life) c (idle (c.life + 1) (record { 0 = 0 }))

abbrev pub restart_step : Client → Restarted
restart_step c = record { answer = restart_answer c; client = restarted c }

-- what the code returns, where the client stays as it is if it is refused
abbrev pub restarted_in : Client → Result Client Refusal → Restarted
restarted_in c r = record { answer = answered r; client = given c r }
