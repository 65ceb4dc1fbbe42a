-- What a step answers, by numbers, as the rules say it; and what the code returns, as that.
use Rattle.std.specs.Prelude.{ℕ, Option, None, Some}
use Rattle.num.specs.Refusals.{answered}
use Rattle.client.specs.declared.Outcome.{Outcome}
use Rattle.client.specs.Turn.{no_outcome}
use Rattle.rule.specs.declared.Yard.{Yard}
use Rattle.rule.specs.declared.Ended.{Ended}
use Rattle.rule.specs.declared.Stepped.{Stepped as Returned}

-- who: the client whose operation ended, 0 where none did; outcome: how it ended
pub record Stepped : Type 0 where
  pub answer : ℕ
  pub who : ℕ
  pub outcome : Outcome
  pub yard : Yard

abbrev pub who_of : Option Ended → ℕ
who_of None = 0
who_of (Some e) = e.who

abbrev pub outcome_of : Option Ended → Outcome
outcome_of None = no_outcome
outcome_of (Some e) = e.outcome

abbrev pub stepped_in : Returned → Stepped
stepped_in r = record { answer = answered r.answer; who = who_of r.ended; outcome = outcome_of r.ended; yard = r.yard }
