-- A run, so that demand 3 does not speak of nothing: client 1 appends a page, which is done at 0; client 2 reads it there, under the layout in force.
-- Then client 1 fills 1, and client 2 reads junk there.
-- Rests on Stated and on the rules, computed.
use mathlib.Core.Path.{◌≡◌, refl, ap, subst}
use mathlib.Core.Bool.{true, false}
use mathlib.Core.List.{[], ◌∷◌}
use Prim.Native.Nat.{ℕ}
use lib.ListN.{replicate}
use Rattle.layout.specs.declared.Layout.{Layout}
use Rattle.layout.specs.Lay.{Lay, rising, good_set, good_sets, good_spans, first_at_zero, used, good}
use Rattle.layout.specs.Value.{padded, lay_of, value_of, zeros, tidy_chain, tidy_chains, blank_ranges, tidy, good_value}
use Rattle.layout.specs.Places.{placed, set_number, set_at, head_of, tail_of, after, place_answer, units_at}
use Rattle.layout.specs.Holder.{fetched_from}
use Rattle.unit.specs.Shape.{shape_for}
use Rattle.unit.specs.State.{lookup, insert}
use Rattle.unit.specs.Kinds.{is_page, has_bytes, is_gone}
use Rattle.unit.specs.Unit.{written, says as unit_says_lem, after as unit_after_lem, report}
use Rattle.sequencer.specs.Rules.{number, position, told, after as sequencer_after}
use Rattle.client.specs.declared.Work.{Work}
use Rattle.client.specs.declared.Work.TheVariants.{Append, Read, Fill}
use Rattle.client.specs.declared.state.Job.{Job}
use Rattle.client.specs.declared.Page.{Page}
use Rattle.client.specs.declared.Outcome.{Outcome}
use Rattle.client.specs.Message.{is_showable, no_page, data_limit}
use Rattle.client.specs.Client.{idle, job_of, append_of}
use Rattle.client.specs.Turn.{ends, sends}
use Rattle.client.specs.Append.{writes_at, writes_on}
use Rattle.client.specs.Fill.{page_carried, fills_on}
use Rattle.client.specs.Begin.{begin_turn}
use Rattle.client.specs.Read.{page_taken}
use Rattle.client.specs.Take.{holds, works_on, awaited, takes}
use Rattle.rule.specs.declared.Step.TheVariants.{Begin, Deliver}
use Rattle.rule.specs.World.{client_at}
use Rattle.rule.specs.Steps.{without, turned, begin_number, begins, served, taken, delivered, delivers, step}
use Rattle.rule.specs.Serve.{kind_of, bytes_of, page_of, page_shown, asking, fetching, unit_says, unit_after, serve}
use Rattle.rule.specs.Fresh.{fresh_units, fresh_world}
use Rattle.history.specs.Words.Page.{junk, bytes}
use Rattle.history.specs.Words.Answer.{shows}
use Rattle.vouch.specs.Runs.{Move, Moves, result, world, world_by}
use Rattle.vouch.specs.Runs.Moves.{none, ◌▸◌}
use Rattle.vouch.specs.Pages.{data_page, junk_page}
use Rattle.vouch.specs.Demand.{AppendDone, ReadEnds, PageAsked}
use Rattle.vouch.proofs.Fields as fields
use Rattle.vouch.proofs.Fields.Returns.{returns_page}
use Rattle.vouch.proofs.Stated.{append_stated, read_stated, demand_3}

-- one set, of units 1 and 2
abbrev pub lay : Lay
lay = record { epoch = 1; shape = 0; sets = (1 ∷ 2 ∷ []) ∷ []; spans = record { start = 0; uses = 1 } ∷ [] }

abbrev pub l : Layout
l = value_of lay

-- the letter at place 0 is delivered and dropped, its answer kept
abbrev pub deliver : Move
deliver = record { does = Deliver 0 false true; job = job_of Append }

abbrev pub begin : ℕ → Job → Move
begin c j = record { does = Begin c; job = j }

-- layout, token, head, tail: the last delivery ends it
abbrev pub appending : Moves
appending = none ▸ begin 1 (append_of 1 (7 ∷ replicate 79 0)) ▸ deliver ▸ deliver ▸ deliver ▸ deliver ▸ deliver ▸ deliver ▸ deliver

-- layout, tail
abbrev pub reading : Moves
reading = appending ▸ deliver ▸ begin 2 (job_of (Read (record { 0 = 0 }))) ▸ deliver ▸ deliver ▸ deliver

-- layout, head, tail; layout, tail
abbrev pub filling : Moves
filling =
    reading ▸ deliver ▸ begin 1 (job_of (Fill (record { 0 = 1 }))) ▸ deliver ▸ deliver ▸ deliver ▸ deliver ▸ deliver ▸ deliver
    ▸ begin 2 (job_of (Read (record { 0 = 1 }))) ▸ deliver ▸ deliver ▸ deliver

-- the page of one byte, 7
abbrev pub page_7 : Page
page_7 = data_page 1 (7 ∷ [])

-- with the page g at p, of the operation w that sent n requests
abbrev pub returned : ℕ → Page → Work → ℕ → Outcome
returned p g w n = record { number = 0; position = record { 0 = p }; epoch = record { 0 = 1 }; page = g; work = w; sent = n }

record Ran : Type 0 where
  l_is_good : good_value l ≡ true
  append_ran : fields.AppendDone l appending deliver 0 (bytes (7 ∷ []))
  append_returns : (result (world l appending) deliver).outcome ≡ returned 0 no_page Append 4
  append_page : (client_at (world l appending) append_ran.client).page ≡ page_7
  read_ran : fields.ReadEnds l reading deliver 0 1 (shows (bytes (7 ∷ [])))
  read_returns : (result (world l reading) deliver).outcome ≡ returned 0 page_7 (Read (record { 0 = 0 })) 2
  junk_ran : fields.ReadEnds l filling deliver 1 1 (shows junk)
  junk_returns : (result (world l filling) deliver).outcome ≡ returned 1 junk_page (Read (record { 0 = 1 })) 2

-- by the rules, computed
computed : Ran
unfolding padded lay_of value_of zeros tidy_chain tidy_chains blank_ranges tidy good_value rising good_set good_sets good_spans first_at_zero used good placed set_number set_at head_of tail_of after place_answer units_at fetched_from lookup insert written number position told sequencer_after idle sends data_limit shape_for writes_at writes_on begin_turn holds works_on is_showable page_taken page_carried awaited takes without turned begin_number begins served taken delivered delivers step kind_of bytes_of asking fetching unit_says unit_after serve fresh_units fresh_world world_by page_of page_shown fills_on is_page has_bytes is_gone unit_says_lem unit_after_lem report
computed = record {
  l_is_good = refl;
  append_ran = record {
    client = 1;
    ends = record { of_client = refl; was_busy = refl; work_is = refl; who_is = refl };
    number_is = refl;
    position_is = refl;
    page_is = refl;
  };
  append_returns = refl;
  append_page = refl;
  read_ran = record {
    client = 2;
    position = record { 0 = 0 };
    ends = record { of_client = refl; was_busy = refl; work_is = refl; who_is = refl };
    position_is = refl;
    epoch_is = refl;
    returns = returns_page refl;
  };
  read_returns = refl;
  junk_ran = record {
    client = 2;
    position = record { 0 = 1 };
    ends = record { of_client = refl; was_busy = refl; work_is = refl; who_is = refl };
    position_is = refl;
    epoch_is = refl;
    returns = returns_page refl;
  };
  junk_returns = refl;
}

pub l_good : good_value l ≡ true
l_good = computed.l_is_good

-- the append is done,
pub append_done : AppendDone step l appending deliver 0 page_7
unfolding value_of
append_done = subst (λ (g : Page). AppendDone step l appending deliver 0 g) computed.append_page (append_stated l l_good refl computed.append_ran)

pub append_returned : (result (world l appending) deliver).outcome ≡ returned 0 no_page Append 4
append_returned = computed.append_returns

-- the read ends with its page,
pub read_ends : ReadEnds step l reading deliver 0
unfolding value_of
read_ends = read_stated l l_good refl computed.read_ran

pub read_returned : (result (world l reading) deliver).outcome ≡ returned 0 page_7 (Read (record { 0 = 0 })) 2
read_returned = computed.read_returns

-- and the read of what was filled with junk
pub junk_ends : ReadEnds step l filling deliver 1
unfolding value_of
junk_ends = read_stated l l_good refl computed.junk_ran

pub junk_returned : (result (world l filling) deliver).outcome ≡ returned 1 junk_page (Read (record { 0 = 1 })) 2
junk_returned = computed.junk_returns

-- by demand 3, an append asked for those bytes,
pub page_asked : PageAsked step l (reading ▸ deliver) 0 page_7
unfolding value_of
page_asked =
    subst (λ (o : Outcome). PageAsked step l (reading ▸ deliver) 0 o.page) read_returned
    ((demand_3 l l_good refl).page_asked read_ends (ap (λ (o : Outcome). o.number) read_returned))

-- and a fill for junk at 1
pub junk_asked : PageAsked step l (filling ▸ deliver) 1 junk_page
unfolding value_of
junk_asked =
    subst (λ (o : Outcome). PageAsked step l (filling ▸ deliver) 1 o.page) junk_returned
    ((demand_3 l l_good refl).page_asked junk_ends (ap (λ (o : Outcome). o.number) junk_returned))
