-- What a machine answers to a request, and what the yard's machines are afterwards (docs/RULES.md, 9.3).
use Rattle.std.specs.Prelude.{ℕ, ◌-◌, Bool, false, not, cond, List, [], eqb, leb, length, take, set}
use Rattle.num.specs.declared.Edges.{Edges}
use Rattle.num.specs.declared.Epoch.{Epoch}
use Rattle.num.specs.declared.Position.{Position}
use Rattle.layout.specs.declared.Layout.{Layout}
use Rattle.layout.specs.Value.{blank, padded}
use Rattle.layout.specs.Holder.{Fetched, Offered, offered_to, fetched_from}
use Rattle.unit.specs.declared.shape.Shape.{Shape}
use Rattle.unit.specs.State.{Content, State, content}
use Rattle.unit.specs.Unit.{Request, says, after as unit_after_lem, report}
use Rattle.unit.specs.Unit.Request.{write, read, trim, prune, seal}
use Rattle.sequencer.specs.declared.Sequencer.{Sequencer}
use Rattle.sequencer.specs.declared.Asked.{Asked}
use Rattle.sequencer.specs.declared.Asked.TheVariants as asked
use Rattle.sequencer.specs.Rules.{Told, At, Number, told, after}
use Rattle.client.specs.declared.Page.{Page}
use Rattle.client.specs.declared.UnitAsk.{UnitAsk}
use Rattle.client.specs.declared.UnitAsk.TheVariants.{Write, Read, Trim, Prune, Seal}
use Rattle.client.specs.declared.Ask.{Ask}
use Rattle.client.specs.declared.Ask.TheVariants.{Fetch, Token, Unit, Offer, Start}
use Rattle.client.specs.declared.Reply.{Reply}
use Rattle.client.specs.declared.Reply.TheVariants.{Held, Given, Fine, Shown, Edged, Refused}
use Rattle.client.specs.declared.Response.{Response}
use Rattle.client.specs.Message.{page_limit, no_page}
use Rattle.rule.specs.World.{World, shape_under, running, unit_at}

-- an answer, and the yard once it is given
pub record ServedWorld : Type 0 where
  pub response : Response
  pub world : World

-- ---- answers

-- "a machine's number travels in its letter"
abbrev pub saying : ℕ → Reply
saying n = cond (eqb n 0) Fine (Refused n)

-- with no page and no layout
abbrev pub bare : Reply → Response
bare r = record { reply = r; page = no_page; layout = blank }

-- ---- a unit

-- the page that a letter carries; where it is longer than a letter has room for, one of a kind that no unit takes
unfoldable pub kind_of : Page → ℕ
kind_of g = cond (leb g.len page_limit) g.kind 0

unfoldable pub bytes_of : Page → List ℕ
bytes_of g = cond (leb g.len page_limit) (take g.len g.bytes) []

unfoldable pub page_of : Content → Page
page_of s = record { kind = s.kind; len = length s.payload; bytes = padded page_limit 0 s.payload }

unfoldable pub page_shown : Shape → State → Epoch → Position → Response
page_shown sh u e p =
    cond (eqb (says sh u (read e p)) 0)
    (record { reply = Shown; page = page_of (report sh u (read e p)).page; layout = blank })
    (bare (Refused (says sh u (read e p))))

-- the edges where the number is 0
abbrev pub edges_or : ℕ → Edges → Reply
edges_or n e = cond (eqb n 0) (Edged e) (Refused n)

unfoldable pub edged : Shape → State → Epoch → Reply
edged sh u e = edges_or (says sh u (seal e)) (report sh u (seal e)).edges

-- what a unit is asked by a letter that bears the page g
abbrev pub request_of : UnitAsk → Page → Request
request_of (Write e p) g = write e p (content (kind_of g) (bytes_of g))
request_of (Read e p) g = read e p
request_of (Trim e p) g = trim e p
request_of (Prune e p) g = prune e p
request_of (Seal e) g = seal e

-- what it answers, in its shape
unfoldable pub unit_says : Shape → State → UnitAsk → Page → Response
unit_says sh s (Write e p) g = bare (saying (says sh s (write e p (content (kind_of g) (bytes_of g)))))
unit_says sh s (Read e p) g = page_shown sh s e p
unit_says sh s (Trim e p) g = bare (saying (says sh s (trim e p)))
unit_says sh s (Prune e p) g = bare (saying (says sh s (prune e p)))
unit_says sh s (Seal e) g = bare (edged sh s e)

-- and what it is afterwards
unfoldable pub unit_after : Shape → State → UnitAsk → Page → State
unit_after sh s a g = unit_after_lem sh s (request_of a g)

abbrev pub with_unit : World → ℕ → State → World
with_unit w u s = record {
  held = w.held;
  clients = w.clients;
  stopped = w.stopped;
  units = set w.units (u - 1) s;
  sequencer = w.sequencer;
  letters = w.letters;
}

-- ---- the sequencer

abbrev pub telling : Told → Reply
telling (At p) = Given p
telling (Number n) = saying n

abbrev pub with_sequencer : World → Sequencer → World
with_sequencer w s = record {
  held = w.held;
  clients = w.clients;
  stopped = w.stopped;
  units = w.units;
  sequencer = s;
  letters = w.letters;
}

unfoldable pub asking : World → Asked → ServedWorld
asking w a = record { response = bare (telling (told w.sequencer a)); world = with_sequencer w (after w.sequencer a) }

-- ---- the holder

abbrev pub with_held : World → Layout → World
with_held w l = record {
  held = l;
  clients = w.clients;
  stopped = w.stopped;
  units = w.units;
  sequencer = w.sequencer;
  letters = w.letters;
}

unfoldable pub fetching : Fetched → Response
fetching f = cond (eqb f.answer 0) (record { reply = Held; page = no_page; layout = f.layout }) (bare (Refused f.answer))

unfoldable pub offering_to : World → Offered → ServedWorld
offering_to w o = record { response = bare (saying o.answer); world = with_held w o.held }

-- ---- a request goes to its machine: a unit by its number, fetch and offer to the holder, token and start to the sequencer

abbrev pub at_unit : World → ℕ → Response → State → ServedWorld
at_unit w u r s = record { response = r; world = with_unit w u s }

unfoldable pub serve : World → Ask → Page → Layout → ServedWorld
serve w Fetch g l = record { response = fetching (fetched_from w.held); world = w }
serve w (Token e) g l = asking w (asked.Token e)
serve w (Unit u a) g l = at_unit w u (unit_says (shape_under w.held) (unit_at w u) a g) (unit_after (shape_under w.held) (unit_at w u) a g)
serve w Offer g l = offering_to w (offered_to w.held l)
serve w (Start e p) g l = asking w (asked.Start e p)

-- it asks a unit outside 1 to 8, or one that has stopped
abbrev pub unserved : List Bool → Ask → Bool
unserved stopped Fetch = false
unserved stopped (Token e) = false
unserved stopped (Unit u a) = not (running stopped u)
unserved stopped Offer = false
unserved stopped (Start e p) = false
