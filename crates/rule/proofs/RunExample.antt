-- Two runs from a fresh yard in which letters are doubled and lost, clients restart and reorganisers compete, so that a rule under which nothing of the kind ever happens does not pass for this one.
-- Each is a table: a step, what it answers, how an operation ends with it, and what lies in the bag then.
--   letters   a write is doubled and reaches its unit twice, its first answer is lost, its client restarts, the sequencer forgets, a token is retried, a fill meets 6 and
--             carries the page, a late answer of an earlier life is passed over, and a read is answered "trimmed"
--   ranges    two reorganisers at once, of whom one loses, and an append in the new range of the other
-- Rests on the rules, computed.
use mathlib.Core.Path.{◌≡◌, refl}
use mathlib.Core.Bool.{true, false}
use mathlib.Core.List.{List, [], ◌∷◌}
use Prim.Native.Nat.{ℕ}
use lib.ListN.{replicate}
use Rattle.num.specs.declared.Epoch.{Epoch}
use Rattle.num.specs.declared.Position.{Position}
use Rattle.num.specs.Edges.{no_edges, largest, within}
use Rattle.layout.specs.declared.Layout.{Layout}
use Rattle.layout.specs.Lay.{rising, good_set, good_sets, good_spans, first_at_zero, used, good, ◌in?◌, in_sets, used_from, units_of}
use Rattle.layout.specs.Value.{padded, no_chain, lay_of, value_of, zeros, tidy_chain, tidy_chains, blank_ranges, tidy, good_value}
use Rattle.layout.specs.Places.{placed, set_number, set_at, head_of, tail_of, after, above, place_answer, units_at}
use Rattle.layout.specs.Plan.{without, bad_drops, emptied, plan_answer, planned, last_start, new_start, start_answer, first_free, good_chains, reorganise_answer, planned_for, ends_open, open_start, start_set, settle_answer, settled, settled_first, started_at}
use Rattle.layout.specs.Holder.{offer_answer, offered_to, fetched_from}
use Rattle.layout.specs.Successor.{sublist, keeps_sets, keeps_spans, lawful}
use Rattle.unit.specs.Shape.{shape_for}
use Rattle.unit.specs.State.{lookup, insert, keep_from, before, last_end, edge, written_end, written_edge, retire}
use Rattle.unit.specs.Kinds.{is_page, has_bytes, is_gone, was_written}
use Rattle.unit.specs.Unit.{written, retired, trimmed_at, sealed_at, says as unit_says_lem, after as unit_after_lem, report}
use Rattle.sequencer.specs.Rules.{number, position, told, after as sequencer_after}
use Rattle.client.specs.declared.Ask.{Ask}
use Rattle.client.specs.declared.Ask.TheVariants.{Fetch, Token, Unit, Offer, Start}
use Rattle.client.specs.declared.UnitAsk.TheVariants.{Write, Read, Trim, Seal}
use Rattle.client.specs.declared.Reply.{Reply}
use Rattle.client.specs.declared.Reply.TheVariants.{Held, Given, Fine, Shown, Edged, Refused}
use Rattle.client.specs.declared.Work.TheVariants as work
use Rattle.client.specs.declared.Change.{Change}
use Rattle.client.specs.declared.state.Job.{Job}
use Rattle.client.specs.Message.{no_refusal, is_showable, data_limit}
use Rattle.client.specs.Client.{idle, job_of, append_of, reorganise_of, no_change}
use Rattle.client.specs.Turn.{sends, otherwise}
use Rattle.client.specs.Append.{writes_at, writes_on, not_at_head, not_later, not_written}
use Rattle.client.specs.Fill.{page_carried, fills_on, not_filled}
use Rattle.client.specs.Read.{page_taken}
use Rattle.client.specs.Trim.{trims_on}
use Rattle.client.specs.Begin.{begin_turn, restarted}
use Rattle.client.specs.Take.{holds, works_on, awaited, takes}
use Rattle.client.specs.Reorganise.{all_sealed, seals_on, reorganises, edges_taken, not_started}
use Rattle.rule.specs.declared.Body.{Body}
use Rattle.rule.specs.declared.Body.TheVariants.{Asks, Answers}
use Rattle.rule.specs.declared.Letter.{Letter}
use Rattle.rule.specs.declared.Step.{Step}
use Rattle.rule.specs.declared.Step.TheVariants.{Begin, Deliver, Restart, Forget}
use Rattle.rule.specs.World.{World}
use Rattle.rule.specs.Steps.{Done, without as letters_without, turned, begin_number, begins, served, taken, delivered, delivers, restart_number, restarts, forgets, step}
use Rattle.rule.specs.Serve.{kind_of, bytes_of, page_of, page_shown, edged, asking, fetching, offering_to, unit_says, unit_after, serve}
use Rattle.rule.specs.Fresh.{fresh_units, fresh_world}

-- ---- what a run comes to

-- what a letter says, with its page's kind and bytes
pub record Mail : Type 0 where
  pub says : Body
  pub kind : ℕ
  pub bytes : List ℕ

-- how an operation ended: whose, with which number, at which position, with which bytes
pub record End : Type 0 where
  pub who : ℕ
  pub number : ℕ
  pub at : ℕ
  pub bytes : List ℕ

-- a step with its job, and what comes of it
pub record Line : Type 0 where
  pub does : Step
  pub job : Job
  pub answer : ℕ
  pub end : End
  pub bag : List Mail

abbrev pub mail_of : Letter → Mail
mail_of x = record { says = x.body; kind = kind_of x.page; bytes = bytes_of x.page }

unfoldable pub mails : List Letter → List Mail
mails [] = []
mails (x ∷ xs) = mail_of x ∷ mails xs

abbrev pub line_of : Step → Job → Done → Line
line_of s j d = record {
  does = s;
  job = j;
  answer = d.answer;
  end = record { who = d.who; number = d.outcome.number; at = d.outcome.position.0; bytes = bytes_of d.outcome.page };
  bag = mails d.world.letters;
}

-- the steps of a table, made from w
unfoldable pub story : World → List Line → List Line
story w [] = []
story w (x ∷ xs) = line_of x.does x.job (step w x.does x.job) ∷ story (step w x.does x.job).world xs

-- one set, of units 1 and 2
abbrev pub l : Layout
l = value_of (record { epoch = 1; shape = 0; sets = (1 ∷ 2 ∷ []) ∷ []; spans = record { start = 0; uses = 1 } ∷ [] })

-- FROM A FRESH YARD THEY COME TO WHAT THE TABLE SAYS
abbrev pub Happens : List Line → Type 0
Happens table = story (fresh_world l) table ≡ table

-- ---- the words of the tables

abbrev e : ℕ → Epoch
e n = record { 0 = n }

abbrev p : ℕ → Position
p n = record { 0 = n }

abbrev asks : Ask → Mail
asks a = record { says = Asks a; kind = 0; bytes = [] }

-- a write of data, and one of junk
abbrev writing : ℕ → ℕ → ℕ → List ℕ → Mail
writing u n q bs = record { says = Asks (Unit u (Write (e n) (p q))); kind = 1; bytes = bs }

abbrev junking : ℕ → ℕ → ℕ → Mail
junking u n q = record { says = Asks (Unit u (Write (e n) (p q))); kind = 2; bytes = [] }

abbrev told_so : Reply → Mail
told_so r = record { says = Answers r; kind = 0; bytes = [] }

abbrev shows : List ℕ → Mail
shows bs = record { says = Answers Shown; kind = 1; bytes = bs }

-- no operation ends
abbrev none : End
none = record { who = 0; number = 0; at = 0; bytes = [] }

-- of client c, with a number, at a position, with no bytes
abbrev over_at : ℕ → ℕ → ℕ → End
over_at c n q = record { who = c; number = n; at = q; bytes = [] }

-- steps that are fine: a begin with its job, and the others
abbrev begin : ℕ → Job → List Mail → Line
begin c j bag = record { does = Begin c; job = j; answer = 0; end = none; bag = bag }

abbrev ending : Step → End → List Mail → Line
ending s o bag = record { does = s; job = job_of work.Append; answer = 0; end = o; bag = bag }

infix 10 ◌then◌
abbrev ◌then◌ : Step → List Mail → Line
s then bag = ending s none bag

-- the letter at place k is delivered and dropped, its answer kept
abbrev deliver : ℕ → Step
deliver k = Deliver k false true

-- it is kept, and its answer lost
abbrev doubled : ℕ → Step
doubled k = Deliver k true false

abbrev append : ℕ → ℕ → List Mail → Line
append c byte bag = begin c (append_of 1 (byte ∷ replicate 79 0)) bag

-- ---- letters

-- client 1's write of 7 at 0, which stays in the bag until it has reached unit 1 twice
abbrev first : Mail
first = writing 1 1 0 (7 ∷ [])

abbrev letters : List Line
letters =
    append 1 7 (asks Fetch ∷ [])
    ∷ (deliver 0 then told_so Held ∷ [])
    ∷ (deliver 0 then asks (Token (e 1)) ∷ [])
    ∷ (deliver 0 then told_so (Given (p 0)) ∷ [])
    ∷ (deliver 0 then first ∷ [])
    ∷ (doubled 0 then first ∷ [])
    ∷ (Restart 1 then first ∷ [])
    ∷ (Forget then first ∷ [])
    -- the same token again, and 6 at the head
    ∷ append 2 9 (first ∷ asks Fetch ∷ [])
    ∷ (deliver 1 then first ∷ told_so Held ∷ [])
    ∷ (deliver 1 then first ∷ asks (Token (e 1)) ∷ [])
    ∷ (deliver 1 then first ∷ told_so (Given (p 0)) ∷ [])
    ∷ (deliver 1 then first ∷ writing 1 1 0 (9 ∷ []) ∷ [])
    ∷ (deliver 1 then first ∷ told_so (Refused 6) ∷ [])
    ∷ (deliver 1 then first ∷ asks (Token (e 1)) ∷ [])
    ∷ (deliver 1 then first ∷ told_so (Given (p 1)) ∷ [])
    ∷ (deliver 1 then first ∷ writing 1 1 1 (9 ∷ []) ∷ [])
    ∷ (deliver 1 then first ∷ told_so Fine ∷ [])
    ∷ (deliver 1 then first ∷ writing 2 1 1 (9 ∷ []) ∷ [])
    ∷ (deliver 1 then first ∷ told_so Fine ∷ [])
    ∷ ending (deliver 1) (over_at 2 0 1) (first ∷ [])
    -- a fill of 0 in client 1's second life. Its third request lies in the bag when the third of its first life is answered once more
    ∷ begin 1 (job_of (work.Fill (p 0))) (first ∷ asks Fetch ∷ [])
    ∷ (deliver 1 then first ∷ told_so Held ∷ [])
    ∷ (deliver 1 then first ∷ junking 1 1 0 ∷ [])
    ∷ (deliver 1 then first ∷ told_so (Refused 6) ∷ [])
    ∷ (deliver 1 then first ∷ asks (Unit 1 (Read (e 1) (p 0))) ∷ [])
    ∷ (deliver 0 then asks (Unit 1 (Read (e 1) (p 0))) ∷ told_so (Refused 6) ∷ [])
    ∷ (deliver 1 then asks (Unit 1 (Read (e 1) (p 0))) ∷ [])
    ∷ (deliver 0 then shows (7 ∷ []) ∷ [])
    ∷ (deliver 0 then writing 2 1 0 (7 ∷ []) ∷ [])
    ∷ (deliver 0 then told_so Fine ∷ [])
    ∷ ending (deliver 0) (over_at 1 0 0) []
    -- the page that was carried is read, then trimmed
    ∷ begin 3 (job_of (work.Read (p 0))) (asks Fetch ∷ [])
    ∷ (deliver 0 then told_so Held ∷ [])
    ∷ (deliver 0 then asks (Unit 2 (Read (e 1) (p 0))) ∷ [])
    ∷ (deliver 0 then shows (7 ∷ []) ∷ [])
    ∷ ending (deliver 0) (record { who = 3; number = 0; at = 0; bytes = 7 ∷ [] }) []
    ∷ begin 4 (job_of (work.Trim (p 0))) (asks Fetch ∷ [])
    ∷ (deliver 0 then told_so Held ∷ [])
    ∷ (deliver 0 then asks (Unit 1 (Trim (e 1) (p 0))) ∷ [])
    ∷ (deliver 0 then told_so Fine ∷ [])
    ∷ (deliver 0 then asks (Unit 2 (Trim (e 1) (p 0))) ∷ [])
    ∷ (deliver 0 then told_so Fine ∷ [])
    ∷ ending (deliver 0) (over_at 4 0 0) []
    ∷ begin 3 (job_of (work.Read (p 0))) (asks Fetch ∷ [])
    ∷ (deliver 0 then told_so Held ∷ [])
    ∷ (deliver 0 then asks (Unit 2 (Read (e 1) (p 0))) ∷ [])
    ∷ (deliver 0 then told_so (Refused 5) ∷ [])
    ∷ ending (deliver 0) (over_at 3 5 0) []
    ∷ []

pub letters_happen : Happens letters
unfolding padded lay_of value_of zeros tidy_chain tidy_chains blank_ranges tidy good_value rising good_set good_sets good_spans first_at_zero used good placed set_number set_at head_of tail_of after place_answer units_at fetched_from lookup insert keep_from before retire written retired trimmed_at number position told sequencer_after idle sends otherwise data_limit shape_for writes_at writes_on not_at_head not_later not_written fills_on not_filled trims_on begin_turn restarted holds works_on is_showable page_taken no_refusal page_carried awaited takes letters_without turned begin_number begins served taken delivered delivers restart_number restarts forgets step kind_of bytes_of page_of page_shown asking fetching unit_says unit_after serve fresh_units fresh_world mails story is_page has_bytes is_gone unit_says_lem unit_after_lem report
letters_happen = refl

-- ---- ranges

-- client 1 asks for a new range on units 3 and 4; client 2 drops unit 1
abbrev wider : Change
wider = record { count = 0; drops = replicate 8 0; wish = record { count = 1; sets = record { count = 2; units = 3 ∷ 4 ∷ 0 ∷ 0 ∷ [] } ∷ replicate 15 no_chain } }

abbrev narrower : Change
narrower = record { count = 1; drops = 1 ∷ replicate 7 0; wish = no_change.wish }

abbrev seal : ℕ → Mail
seal u = asks (Unit u (Seal (e 1)))

abbrev ranges : List Line
ranges =
    begin 1 (reorganise_of wider) (asks Fetch ∷ [])
    ∷ begin 2 (reorganise_of narrower) (asks Fetch ∷ asks Fetch ∷ [])
    ∷ (deliver 0 then asks Fetch ∷ told_so Held ∷ [])
    ∷ (deliver 1 then asks Fetch ∷ seal 1 ∷ [])
    ∷ (deliver 0 then seal 1 ∷ told_so Held ∷ [])
    ∷ (deliver 1 then seal 1 ∷ seal 2 ∷ [])
    ∷ (deliver 0 then seal 2 ∷ told_so (Edged no_edges) ∷ [])
    ∷ (deliver 1 then seal 2 ∷ seal 2 ∷ [])
    ∷ (deliver 1 then seal 2 ∷ told_so (Edged no_edges) ∷ [])
    ∷ (deliver 1 then seal 2 ∷ seal 3 ∷ [])
    ∷ (deliver 1 then seal 2 ∷ told_so (Edged no_edges) ∷ [])
    ∷ (deliver 1 then seal 2 ∷ seal 4 ∷ [])
    ∷ (deliver 1 then seal 2 ∷ told_so (Edged no_edges) ∷ [])
    ∷ (deliver 1 then seal 2 ∷ asks Offer ∷ [])
    ∷ (deliver 0 then asks Offer ∷ told_so (Edged no_edges) ∷ [])
    ∷ (deliver 1 then asks Offer ∷ asks Offer ∷ [])
    -- client 1's offer comes first, and client 2's is overtaken
    ∷ (deliver 0 then asks Offer ∷ told_so Fine ∷ [])
    ∷ (deliver 0 then told_so Fine ∷ told_so (Refused 11) ∷ [])
    ∷ ending (deliver 1) (over_at 2 11 0) (told_so Fine ∷ [])
    ∷ (deliver 0 then asks (Start (e 2) (p 1)) ∷ [])
    ∷ (deliver 0 then told_so Fine ∷ [])
    ∷ ending (deliver 0) (over_at 1 0 0) []
    -- the new range starts at 1, on units 3 and 4
    ∷ append 3 7 (asks Fetch ∷ [])
    ∷ (deliver 0 then told_so Held ∷ [])
    ∷ (deliver 0 then asks (Token (e 2)) ∷ [])
    ∷ (deliver 0 then told_so (Given (p 1)) ∷ [])
    ∷ (deliver 0 then writing 3 2 1 (7 ∷ []) ∷ [])
    ∷ (deliver 0 then told_so Fine ∷ [])
    ∷ (deliver 0 then writing 4 2 1 (7 ∷ []) ∷ [])
    ∷ (deliver 0 then told_so Fine ∷ [])
    ∷ ending (deliver 0) (over_at 3 0 1) []
    ∷ []

pub ranges_happen : Happens ranges
unfolding rising good_set good_sets good_spans first_at_zero used good ◌in?◌ in_sets used_from units_of padded lay_of value_of zeros tidy_chain tidy_chains blank_ranges tidy good_value placed set_number set_at head_of tail_of after above place_answer units_at without bad_drops emptied plan_answer planned last_start new_start start_answer first_free good_chains reorganise_answer planned_for ends_open open_start start_set settle_answer settled settled_first started_at offer_answer offered_to fetched_from sublist keeps_sets keeps_spans lawful lookup insert last_end edge written_end written_edge was_written written sealed_at number position told sequencer_after idle sends otherwise data_limit shape_for writes_at writes_on begin_turn holds works_on is_showable page_taken no_refusal awaited takes all_sealed seals_on reorganises largest within edges_taken not_started letters_without turned begin_number begins served taken delivered delivers step kind_of bytes_of page_of edged asking fetching offering_to unit_says unit_after serve fresh_units fresh_world mails story is_page has_bytes is_gone unit_says_lem unit_after_lem report
ranges_happen = refl
