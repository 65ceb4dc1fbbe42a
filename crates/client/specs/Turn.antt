-- What comes of a step at a client: it rests, a request is sent, or its operation ends (docs/RULES.md, 8.2).
use Rattle.std.specs.Prelude.{ℕ, ◌+◌, ◌-◌, cond, leb}
use Rattle.num.specs.declared.Request.{Request}
use Rattle.client.specs.declared.Page.{Page}
use Rattle.client.specs.declared.Query.{Query}
use Rattle.client.specs.declared.Work.TheVariants.{Append}
use Rattle.client.specs.declared.Client.{Client}
use Rattle.client.specs.declared.Act.{Act as Does}
use Rattle.client.specs.declared.Act.TheVariants.{Rests as RestsNow, Sends as SendsNow, Ends as EndsNow}
use Rattle.client.specs.declared.Outcome.{Outcome}
use Rattle.client.specs.declared.turn.Turn.{Turn as TurnNow}
use Rattle.client.specs.Message.{no_page, no_query, no_refusal}
use Rattle.client.specs.Client.{last_number, idle}

pub data Act : Type 0 where
  Rests : Act
  Sends : Request → Act
  Ends : Act

-- the client afterwards; the request where one is sent, and the outcome where the operation ends
pub record Turn : Type 0 where
  pub client : Client
  pub act : Act
  pub query : Query
  pub outcome : Outcome

abbrev pub no_outcome : Outcome
no_outcome = record { number = 0; position = record { 0 = 0 }; epoch = record { 0 = 0 }; page = no_page; work = Append; sent = 0 }

-- the requests that the operation sent: each has used one number, and one that is not sent for want of a number uses none
abbrev pub sent_so_far : Client → ℕ
sent_so_far c = c.used.0 - c.begun.0

-- the position under way, the epoch of the layout fetched (0 before), a page, the operation, and the requests that it sent
abbrev pub outcome_of : Client → ℕ → Page → Outcome
outcome_of c n g = record { number = n; position = c.position; epoch = c.layout.epoch; page = g; work = c.work; sent = sent_so_far c }

-- nothing happens
abbrev pub rests : Client → Turn
rests c = record { client = c; act = Rests; query = no_query; outcome = no_outcome }

-- the operation is over, with a number and a page
abbrev pub over : Client → ℕ → Page → Turn
over c n g = record { client = idle c.life c.used; act = Ends; query = no_query; outcome = outcome_of c n g }

-- with a number alone
abbrev pub ends : Client → ℕ → Turn
ends c n = over c n no_page

-- its numbers used up to this one
abbrev pub numbered : Client → Request → Client
numbered c n = record c { used = n }

-- the number after the last one used
abbrev pub next : Client → Request
next c = record { 0 = c.used.0 + 1 }

abbrev pub sent : Client → Query → Turn
sent c q = record { client = numbered c (next c); act = Sends (next c); query = q; outcome = no_outcome }

-- with no number left to send, the operation ends with 19
unfoldable pub sends : Client → Query → Turn
sends c q = cond (leb last_number c.used.0) (ends c 19) (sent c q)

-- any other answer ends the operation with its number; one that has none, or one that no machine gives, never answers what was asked, and is ignored
unfoldable pub otherwise : Client → ℕ → Turn
otherwise c n = cond (no_refusal n) (rests c) (ends c n)

-- ---- a turn of the code as one of the rules

abbrev pub act_in : Does → Act
act_in RestsNow = Rests
act_in (SendsNow n q) = Sends n
act_in (EndsNow o) = Ends

abbrev pub query_in : Does → Query
query_in RestsNow = no_query
query_in (SendsNow n q) = q
query_in (EndsNow o) = no_query

abbrev pub outcome_in : Does → Outcome
outcome_in RestsNow = no_outcome
outcome_in (SendsNow n q) = no_outcome
outcome_in (EndsNow o) = o

abbrev pub turn_in : TurnNow → Turn
turn_in t = record { client = t.client; act = act_in t.act; query = query_in t.act; outcome = outcome_in t.act }
