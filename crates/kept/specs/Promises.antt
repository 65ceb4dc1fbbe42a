-- A yard kept by value but for the memories: its promises are those of a step and of making a yard, over what is kept.
use Rattle.std.specs.Prelude.{ℕ, List, replicate, Result}
use Rattle.num.specs.declared.refusal.Refusal.{Refusal}
use Rattle.num.specs.Refusals.{answered, given}
use Rattle.layout.specs.declared.Layout.{Layout}
use Rattle.layout.specs.Value.{blank}
use Rattle.sequencer.specs.declared.Sequencer.{Sequencer}
use Rattle.sequencer.specs.Rules as sequencer
use Rattle.client.specs.declared.state.Job.{Job}
use Rattle.rule.specs.declared.Letter.{Letter}
use Rattle.rule.specs.declared.Step.{Step}
use Rattle.rule.specs.declared.Stepped.{Stepped as Returned}
use Rattle.kept.specs.declared.Kept.{Kept}
use Rattle.rule.specs.World.{letter_limit, blank_letter}
use Rattle.rule.specs.Stepped.{Stepped, stepped_in}
use Rattle.rule.specs.Lent.{lent_of, IsStep}
use Rattle.rule.specs.Fresh.{fresh_yard, IsMade}

-- what a step answers, as `Stepped` says it, and the sequencer and the table afterwards
pub record KeptStep : Type 0 where
  pub stepped : Stepped
  pub sequencer : Sequencer
  pub table : List Letter

abbrev pub kept_step_in : Returned → Kept → KeptStep
kept_step_in r k = record { stepped = stepped_in r; sequencer = k.sequencer; table = k.table }

abbrev pub IsKeptStep : Kept → List ℕ → Step → Job → KeptStep → List ℕ → Type 0
IsKeptStep k m s j r after = IsStep (lent_of k.yard k.sequencer k.table m) s j r.stepped r.sequencer r.table after

-- what making a yard answers, and what is kept
pub record KeptMade : Type 0 where
  pub answer : ℕ
  pub kept : Kept

-- over a fresh sequencer and a table of blank letters, which a refusal leaves as they are
abbrev pub unmade : Kept
unmade = record { yard = fresh_yard blank; sequencer = sequencer.fresh; table = replicate letter_limit blank_letter }

abbrev pub kept_made_in : Result Kept Refusal → KeptMade
kept_made_in r = record { answer = answered r; kept = given unmade r }

abbrev pub IsKeptMade : Layout → List ℕ → KeptMade → List ℕ → Type 0
IsKeptMade l m r after =
    IsMade l sequencer.fresh (replicate letter_limit blank_letter) m (record { answer = r.answer; yard = r.kept.yard }) r.kept.sequencer r.kept.table after
