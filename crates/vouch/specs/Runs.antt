-- Runs of a yard: any moves from a fresh yard, made by any step function. The yard's rule is one, and the theorems are about it; proofs/Shams has others.
-- Rests on the yard's rules (step, freshWorld).
use Rattle.layout.specs.declared.Layout.{Layout}
use Rattle.client.specs.declared.state.Job.{Job}
use Rattle.rule.specs.declared.Step.{Step}
use Rattle.rule.specs.World.{World}
use Rattle.rule.specs.Steps.{Done, step}
use Rattle.rule.specs.Fresh.{fresh_world}

-- ---- moves

-- a step of the yard; job: what a begin asks for (the other steps do not look at it)
pub record Move : Type 0 where
  pub does : Step
  pub job : Job

-- moves from a fresh yard, the latest last
pub data Moves : Type 0 where
  none : Moves
  ◌▸◌ : Moves → Move → Moves

infixl 20 ◌▸◌
-- ms₁ is ms₂, or the first part of it
pub data ◌≼◌ : Moves → Moves → Type 0 where
  all_of : {ms : Moves} → ms ≼ ms
  part_of : {ms₁ ms₂ : Moves} {m : Move} → ms₁ ≼ ms₂ → ms₁ ≼ (ms₂ ▸ m)

infix 15 ◌≼◌
-- ---- by a step function

abbrev pub Stepping : Type 0
Stepping = World → Step → Job → Done

-- what a move answers, whose operation it ends and how, and the yard afterwards
abbrev pub result_by : Stepping → World → Move → Done
result_by f w m = f w m.does m.job

-- the yard after the moves
unfoldable pub world_by : Stepping → Layout → Moves → World
world_by f l none = fresh_world l
world_by f l (ms ▸ m) = (result_by f (world_by f l ms) m).world

-- ---- by the yard's rule

abbrev pub result : World → Move → Done
result = result_by step

abbrev pub world : Layout → Moves → World
world = world_by step
