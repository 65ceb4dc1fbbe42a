-- The yard as docs/RULES.md, 9, speaks of it, without bytes.
use Rattle.std.specs.Prelude.{ℕ, ◌-◌, Bool, true, ◌&&◌, not, List, leb, get_or}
use Rattle.layout.specs.declared.Layout.{Layout}
use Rattle.layout.specs.Value.{blank}
use Rattle.unit.specs.declared.shape.Shape.{Shape}
use Rattle.unit.specs.Shape.{shape_for}
use Rattle.unit.specs.State.{State}
use Rattle.unit.specs.Unit.{fresh_unit}
use Rattle.sequencer.specs.declared.Sequencer.{Sequencer}
use Rattle.client.specs.declared.Client.{Client}
use Rattle.client.specs.Client.{fresh}
use Rattle.client.specs.Message.{no_page}
use Rattle.rule.specs.declared.Body.TheVariants.{Blank}
use Rattle.rule.specs.declared.Letter.{Letter}
pub use Rattle.num.specs.Limits.{unit_limit}

-- held: the holder's layout. stopped: unit by unit. letters: the bag
pub record World : Type 0 where
  pub held : Layout
  pub clients : List Client
  pub stopped : List Bool
  pub units : List State
  pub sequencer : Sequencer
  pub letters : List Letter

-- the shape of the units under a layout: the yard's is that under its held layout
abbrev pub shape_under : Layout → Shape
shape_under l = shape_for l.shape

-- ---- units 1 to 8, clients 1 to 4, letters at most 32

abbrev pub client_limit : ℕ
client_limit = 4

abbrev pub letter_limit : ℕ
letter_limit = 32

abbrev pub is_client : ℕ → Bool
is_client c = leb 1 c && leb c client_limit

abbrev pub is_unit : ℕ → Bool
is_unit u = leb 1 u && leb u unit_limit

-- there is such a unit, and it has not stopped
abbrev pub running : List Bool → ℕ → Bool
running stopped u = is_unit u && not (get_or stopped (u - 1) true)

abbrev pub client_at : World → ℕ → Client
client_at w c = get_or w.clients (c - 1) fresh

abbrev pub unit_at : World → ℕ → State
unit_at w u = get_or w.units (u - 1) (fresh_unit u)

-- ---- letters

-- what stands in a place of the table that no letter uses
abbrev pub blank_letter : Letter
blank_letter = record {
  stamp = record { client = 0; life = 0; number = record { 0 = 0 } };
  body = Blank;
  page = no_page;
  layout = blank;
}

-- the letter at a place from 0 on; a blank one where there is none
abbrev pub letter_at : World → ℕ → Letter
letter_at w i = get_or w.letters i blank_letter
