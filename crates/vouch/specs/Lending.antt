-- The runs again, in what is lent: the yard's public step, from what its fresh yard leaves. `proofs/Lending` proves that no step of a run is refused for
-- what it is lent, and that the yard which is lent is the run's: so demand 3 speaks of the public function.
-- Rests on Runs and on the yard's Lent and Fresh.
use Rattle.std.specs.Prelude.{◌≡◌}
use Rattle.layout.specs.declared.Layout.{Layout}
use Rattle.rule.specs.Lent.{Lent, Outcomes, lent_number, seen, steps}
use Rattle.rule.specs.Fresh.{fresh_lent}
use Rattle.vouch.specs.Runs.{Move, Moves, result, world}
use Rattle.vouch.specs.Runs.Moves.{none, ◌▸◌}

-- what is lent after the moves
unfoldable pub lent : Layout → Moves → Lent
lent l none = fresh_lent l
lent l (ms ▸ m) = (steps (lent l ms) m.does m.job).lent

-- what the public step answers then
abbrev pub stepped : Layout → Moves → Move → Outcomes
stepped l ms m = steps (lent l ms) m.does m.job

pub record Lends (l : Layout) (ms : Moves) : Type 0 where
  pub not_refused : lent_number (lent l ms) ≡ 0
  pub seen_is : seen (lent l ms) ≡ world l ms
  pub answer_is : (m : Move) → (stepped l ms m).stepped.answer ≡ (result (world l ms) m).answer
  pub who_is : (m : Move) → (stepped l ms m).stepped.who ≡ (result (world l ms) m).who
  pub outcome_is : (m : Move) → (stepped l ms m).stepped.outcome ≡ (result (world l ms) m).outcome
  -- the yard that a step hands back is the one that is lent next
  pub yard_is : (m : Move) → (stepped l ms m).stepped.yard ≡ (stepped l ms m).lent.yard
