-- Names for what is promised of a whole decision: what a step comes to, with what it does to the table.
use Rattle.std.specs.Prelude.{ℕ, ◌≤◌, List, ◌≡◌, length}
use Rattle.sequencer.specs.declared.Sequencer.{Sequencer}
use Rattle.client.specs.declared.state.Job.{Job}
use Rattle.rule.specs.declared.Letter.{Letter}
use Rattle.rule.specs.declared.Yard.{Yard}
use Rattle.rule.specs.declared.Step.{Step}
use Rattle.rule.specs.declared.Step.TheVariants.{Begin, Deliver, Drop, Stop, Restart, GiveUp, Forget}
use Rattle.rule.specs.Stepped.{Stepped}
use Rattle.yard.specs.Bag.{take_at}
use Rattle.rule.specs.Lent.{Lent, lent_of, steps}
use Rattle.yard.specs.InsideMoves.{Moves, count_after, table_after}

-- the place of the letter that a step is about, 0 where it is about none
abbrev pub letter_place : Step → ℕ
letter_place (Begin c) = 0
letter_place (Deliver i keep keep_answer) = i
letter_place (Drop i) = i
letter_place (Stop u) = 0
letter_place (Restart c) = 0
letter_place (GiveUp c) = 0
letter_place Forget = 0

-- what is answered of a step that found n letters
abbrev pub settled : ℕ → Moves → Stepped
settled n m = record {
  answer = m.answer;
  who = m.who;
  outcome = m.outcome;
  yard = record { held = m.yard.held; clients = m.yard.clients; stopped = m.yard.stopped; count = count_after n m.keeps m.posts };
}

-- the whole promise of a step, for the decision m over it
pub record Settles (b : Lent) (s : Step) (j : Job) (m : Moves) (after : List ℕ) : Type 0 where
  pub stepped_is : settled b.yard.count m ≡ (steps b s j).stepped
  pub sequencer_is : m.sequencer ≡ (steps b s j).lent.sequencer
  pub table_is : table_after b.yard.count (letter_place s) m b.table ≡ (steps b s j).lent.table
  pub memories_is : after ≡ (steps b s j).lent.memories
  pub small : m.answer ≡ 0 → count_after b.yard.count m.keeps m.posts ≤ 255

-- for every table of so many places that has the letter l at the step's place
pub record Decides (y : Yard) (q : Sequencer) (places : ℕ) (l : Letter) (m : List ℕ) (s : Step) (j : Job) (r : Moves) (after : List ℕ) : Type 0 where
  pub settles : (table : List Letter) → length table ≡ places → take_at table (letter_place s) ≡ l → Settles (lent_of y q table m) s j r after
