-- What a step is lent, and what it leaves there: the yard by value, the sequencer, the table of letters, and the eight unit memories in one (docs/RULES.md, 9.1).
use Rattle.std.specs.Prelude.{ℕ, zero, suc, ◌-◌, max, Bool, true, false, ◌&&◌, ◌||◌, not, cond, List, [], ◌∷◌, ◌++◌, ◌≡◌, eqb, ltb, length, take, drop, replicate}
use Rattle.num.specs.Checks.{lowest, ◌if◌}
use Rattle.layout.specs.Value.{good_value}
use Rattle.unit.specs.declared.shape.Shape.{Shape}
use Rattle.unit.specs.Shape.{shape_of}
use Rattle.unit.specs.State.{State}
use Rattle.unit.specs.Memory.{good, decode, encode, number_of, code_of}
use Rattle.sequencer.specs.declared.Sequencer.{Sequencer}
use Rattle.client.specs.declared.Client.{Client}
use Rattle.client.specs.declared.state.Job.{Job}
use Rattle.client.specs.declared.Stage.{Stage}
use Rattle.client.specs.declared.Stage.TheVariants.{Idle, Fetching, Working}
use Rattle.client.specs.Turn.{no_outcome}
use Rattle.rule.specs.declared.Letter.{Letter}
use Rattle.rule.specs.declared.Yard.{Yard}
use Rattle.rule.specs.declared.Step.{Step}
use Rattle.rule.specs.World.{World, shape_under, unit_limit, letter_limit, blank_letter}
use Rattle.rule.specs.Steps.{Done, step}
use Rattle.rule.specs.Stepped.{Stepped}

pub record Lent : Type 0 where
  pub yard : Yard
  pub sequencer : Sequencer
  pub table : List Letter
  pub memories : List ℕ

abbrev pub lent_of : Yard → Sequencer → List Letter → List ℕ → Lent
lent_of y s table m = record { yard = y; sequencer = s; table = table; memories = m }

-- ---- "A step first tests what it is lent"

-- the bytes of one unit, of either shape
abbrev pub unit_size : ℕ
unit_size = 6168

-- the memory of unit u in a yard of a shape: good, of its number and of that shape
unfoldable pub good_unit : ℕ → ℕ → List ℕ → Bool
good_unit shape u m = good (shape_of m) m && eqb (number_of m) u && eqb (code_of m) shape

-- n memories, from unit u on, and nothing behind them
unfoldable pub good_units : ℕ → ℕ → ℕ → List ℕ → Bool
good_units shape u zero m = eqb (length m) 0
good_units shape u (suc n) m = good_unit shape u (take unit_size m) && good_units shape (suc u) n (drop unit_size m)

-- the client has fetched a layout
abbrev pub fetched : Stage → Bool
fetched Idle = false
fetched Fetching = false
fetched (Working p) = true

unfoldable pub good_clients : List Client → Bool
good_clients [] = true
good_clients (c ∷ cs) = (not (fetched c.stage) || good_value c.layout) && good_clients cs

-- 1: a unit memory not good, not of its number or not of the held layout's shape. 10: a held or fetched layout not good. 16: a table not of 32 places or a count above it
unfoldable pub test_number : Yard → ℕ → List ℕ → ℕ
test_number y places m =
    lowest (
    1 if not (good_units y.held.shape 1 unit_limit m)
    ∷ 10 if not (good_value y.held && good_clients y.clients)
    ∷ 16 if (not (eqb places letter_limit) || ltb letter_limit y.count)
    ∷ []
    )

unfoldable pub lent_number : Lent → ℕ
lent_number b = test_number b.yard (length b.table) b.memories

-- ---- the yard that is lent

unfoldable pub units_in : Shape → ℕ → List ℕ → List State
units_in sh zero m = []
units_in sh (suc n) m = decode sh (take unit_size m) ∷ units_in sh n (drop unit_size m)

unfoldable pub seen : Lent → World
seen b = record {
  held = b.yard.held;
  clients = b.yard.clients;
  stopped = b.yard.stopped;
  units = units_in (shape_under b.yard.held) unit_limit b.memories;
  sequencer = b.sequencer;
  letters = take b.yard.count b.table;
}

-- ---- and what is left there

unfoldable pub units_bytes : Shape → List State → List ℕ
units_bytes sh [] = []
units_bytes sh (u ∷ us) = encode sh u ++ units_bytes sh us

-- the letters in the first places, a blank one in each place that they left, and behind both what stood there
unfoldable pub laid : List Letter → ℕ → List Letter → List Letter
laid ls count table = ls ++ replicate (count - length ls) blank_letter ++ drop (max count (length ls)) table

unfoldable pub left : Lent → World → Lent
left b w = record {
  yard = record { held = w.held; clients = w.clients; stopped = w.stopped; count = length w.letters };
  sequencer = w.sequencer;
  table = laid w.letters b.yard.count b.table;
  memories = units_bytes (shape_under w.held) w.units;
}

-- ---- a step: what it answers, and what is lent afterwards

pub record Outcomes : Type 0 where
  pub stepped : Stepped
  pub lent : Lent

unfoldable pub done : Lent → Done → Outcomes
done b d = record {
  stepped = record { answer = d.answer; who = d.who; outcome = d.outcome; yard = (left b d.world).yard };
  lent = left b d.world;
}

unfoldable pub unlent : Lent → ℕ → Outcomes
unlent b n = record { stepped = record { answer = n; who = 0; outcome = no_outcome; yard = b.yard }; lent = b }

unfoldable pub steps : Lent → Step → Job → Outcomes
steps b s j = cond (eqb (lent_number b) 0) (done b (step (seen b) s j)) (unlent b (lent_number b))

-- the promise of a step, whole
pub record IsStep (b : Lent) (s : Step) (j : Job) (r : Stepped) (sequencer : Sequencer) (table : List Letter) (memories : List ℕ) : Type 0 where
  pub result_is : r ≡ (steps b s j).stepped
  pub sequencer_is : sequencer ≡ (steps b s j).lent.sequencer
  pub table_is : table ≡ (steps b s j).lent.table
  pub memories_is : memories ≡ (steps b s j).lent.memories
