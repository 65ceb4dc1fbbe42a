-- Names for what the private functions over the lent memories promise.
use Rattle.std.specs.Prelude.{ℕ, ◌-◌, List, ◌≡◌, get_or, set, Result, Ok, Err}
use Rattle.num.specs.declared.refusal.Refusal.{Refusal}
use Rattle.num.specs.Refusals.{number}
use Rattle.layout.specs.declared.Layout.{Layout}
use Rattle.unit.specs.declared.shape.Shape.{Shape}
use Rattle.unit.specs.Shape.{shape_of}
use Rattle.unit.specs.State.{State}
use Rattle.unit.specs.Memory.{decode, encode}
use Rattle.unit.specs.Unit.{fresh_unit}
use Rattle.client.specs.declared.Response.{Response}
use Rattle.client.specs.declared.Reply.TheVariants.{Refused}
use Rattle.sequencer.specs.declared.Sequencer.{Sequencer}
use Rattle.rule.specs.declared.Letter.{Letter}
use Rattle.rule.specs.declared.Yard.{Yard}
use Rattle.rule.specs.World.{World, shape_under, unit_limit}
use Rattle.rule.specs.Serve.{ServedWorld, bare}
use Rattle.rule.specs.Lent.{units_in, units_bytes}

-- what is answered; a refusal, by its number
abbrev pub response_in : Result Response Refusal → Response
response_in (Ok r) = r
response_in (Err e) = bare (Refused (number e))

-- the unit that a memory holds, in the shape that it names
abbrev pub held_in : List ℕ → State
held_in m = decode (shape_of m) m

-- one memory: what is answered, and the memory of the unit afterwards
pub record OnUnit (sh : Shape) (says : Response) (s : State) (r : Response) (after : List ℕ) : Type 0 where
  pub response_is : r ≡ says
  pub memory_is : after ≡ encode sh s

-- the unit u of the lent memories
abbrev pub unit_of : Shape → List ℕ → ℕ → State
unit_of sh m u = get_or (units_in sh unit_limit m) (u - 1) (fresh_unit u)

-- all eight: the memories with the unit u changed
pub record AtUnit (sh : Shape) (m : List ℕ) (u : ℕ) (says : Response) (s : State) (r : Response) (after : List ℕ) : Type 0 where
  pub response_is : r ≡ says
  pub memories_is : after ≡ units_bytes sh (set (units_in sh unit_limit m) (u - 1) s)

-- the yard over lent memories, with some letters
abbrev pub world_of : Yard → Sequencer → List Letter → List ℕ → World
world_of y s ls m = record { held = y.held; clients = y.clients; stopped = y.stopped; units = units_in (shape_under y.held) unit_limit m; sequencer = s; letters = ls }

abbrev pub with_held_in : Yard → Layout → Yard
with_held_in y l = record { held = l; clients = y.clients; stopped = y.stopped; count = y.count }

-- a machine of the yard y has served: v is what the rule says, and y', q' and after are the yard, the sequencer and the memories afterwards
pub record IsServed (y : Yard) (v : ServedWorld) (r : Response) (y' : Yard) (q' : Sequencer) (after : List ℕ) : Type 0 where
  pub response_is : r ≡ v.response
  pub yard_is : y' ≡ with_held_in y v.world.held
  pub sequencer_is : q' ≡ v.world.sequencer
  pub memories_is : after ≡ units_bytes (shape_under y.held) v.world.units
