-- "Fresh yard: a good layout of epoch 1 (else 10), sequencer at epoch 1 and 0, eight units sealed at 0 with floor and count 0, no letters,
-- clients idle in life 1 with no number used." (docs/RULES.md, 9.4)
use Rattle.std.specs.Prelude.{ℕ, zero, suc, ◌*◌, false, ◌&&◌, not, cond, List, [], ◌∷◌, ◌≡◌, eqb, length, replicate, Result}
use Rattle.num.specs.Checks.{lowest, ◌if◌}
use Rattle.num.specs.Refusals.{answered, given}
use Rattle.num.specs.declared.refusal.Refusal.{Refusal}
use Rattle.layout.specs.declared.Layout.{Layout}
use Rattle.layout.specs.Value.{good_value, blank}
use Rattle.unit.specs.State.{State}
use Rattle.unit.specs.Unit.{fresh_unit}
use Rattle.sequencer.specs.declared.Sequencer.{Sequencer}
use Rattle.sequencer.specs.Rules as sequencer
use Rattle.client.specs.Client as client
use Rattle.rule.specs.declared.Letter.{Letter}
use Rattle.rule.specs.declared.Yard.{Yard}
use Rattle.rule.specs.World.{World, shape_under, unit_limit, client_limit, letter_limit, blank_letter}
use Rattle.rule.specs.Lent.{Lent, unit_size, units_bytes}

-- n fresh units, from unit u on
unfoldable pub fresh_units : ℕ → ℕ → List State
fresh_units u zero = []
fresh_units u (suc n) = fresh_unit u ∷ fresh_units (suc u) n

unfoldable pub fresh_world : Layout → World
fresh_world l = record {
  held = l;
  clients = replicate client_limit client.fresh;
  stopped = replicate unit_limit false;
  units = fresh_units 1 unit_limit;
  sequencer = sequencer.fresh;
  letters = [];
}

-- ---- over what is lent for it

-- 1: memories of another length. 10: a layout that is not good, or not of epoch 1. 16: a table not of 32 places
unfoldable pub fresh_number_of : Layout → ℕ → ℕ → ℕ
fresh_number_of l places size =
    lowest (
    1 if not (eqb size (unit_limit * unit_size))
    ∷ 10 if not (good_value l && eqb l.epoch.0 1)
    ∷ 16 if not (eqb places letter_limit)
    ∷ []
    )

unfoldable pub fresh_number : Layout → List Letter → List ℕ → ℕ
fresh_number l table memories = fresh_number_of l (length table) (length memories)

abbrev pub fresh_yard : Layout → Yard
fresh_yard l = record { held = l; clients = replicate client_limit client.fresh; stopped = replicate unit_limit false; count = 0 }

-- whatever was lent is overwritten: the memories are of the layout's shape, and all 32 places are blank
unfoldable pub fresh_lent : Layout → Lent
fresh_lent l = record {
  yard = fresh_yard l;
  sequencer = sequencer.fresh;
  table = replicate letter_limit blank_letter;
  memories = units_bytes (shape_under l) (fresh_units 1 unit_limit);
}

-- a refusal leaves what was lent as it was, and makes a yard that holds no layout
unfoldable pub makes : Layout → Sequencer → List Letter → List ℕ → Lent
makes l s table memories =
    cond (eqb (fresh_number l table memories) 0) (fresh_lent l)
    (record { yard = fresh_yard blank; sequencer = s; table = table; memories = memories })

-- what making a yard answers, and the yard
pub record Made : Type 0 where
  pub answer : ℕ
  pub yard : Yard

-- what the code returns, as that
abbrev pub made_in : Result Yard Refusal → Made
made_in r = record { answer = answered r; yard = given (fresh_yard blank) r }

pub record IsMade (l : Layout) (s : Sequencer) (table : List Letter) (memories : List ℕ) (r : Made) (s' : Sequencer) (table' : List Letter) (memories' : List ℕ) : Type 0 where
  pub answer_is : r.answer ≡ fresh_number l table memories
  pub yard_is : r.yard ≡ (makes l s table memories).yard
  pub sequencer_is : s' ≡ (makes l s table memories).sequencer
  pub table_is : table' ≡ (makes l s table memories).table
  pub memories_is : memories' ≡ (makes l s table memories).memories
