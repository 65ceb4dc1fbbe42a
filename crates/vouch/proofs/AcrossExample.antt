-- A run in which two reads return a page across a reorganise: after the run of RunExample a reorganise drops unit 2, the tail, though it works, and leaves it unsealed.
-- The first read was answered by unit 2 in epoch 1; the second is answered by unit 1 in epoch 2, with the same page.
-- Rests on RunExample.
use mathlib.Core.Path.{◌≡◌, refl, ap}
use mathlib.Core.Bool.{true, false}
use mathlib.Core.List.{[], ◌∷◌}
use Prim.Native.Nat.{ℕ}
use lib.ListN.{replicate}
use Rattle.num.specs.Edges.{largest, within}
use Rattle.layout.specs.Lay.{rising, good_set, good_sets, good_spans, first_at_zero, used, good, ◌in?◌, in_sets, used_from, units_of}
use Rattle.layout.specs.Value.{padded, lay_of, value_of, zeros, tidy_chain, tidy_chains, blank_ranges, tidy, good_value, blank}
use Rattle.layout.specs.Places.{placed, set_number, set_at, head_of, tail_of, after, above, place_answer, units_at}
use Rattle.layout.specs.Plan.{without, bad_drops, emptied, planned, last_start, good_chains, reorganise_answer, planned_for, ends_open, settle_answer, settled, settled_first, started_at}
use Rattle.layout.specs.Holder.{offer_answer, offered_to, fetched_from}
use Rattle.layout.specs.Successor.{sublist, keeps_sets, keeps_spans, lawful}
use Rattle.unit.specs.Shape.{shape_for}
use Rattle.unit.specs.State.{lookup, insert, last_end, edge, written_end, written_edge}
use Rattle.unit.specs.Kinds.{is_page, has_bytes, is_gone, was_written}
use Rattle.unit.specs.Unit.{written, sealed_at, says as unit_says_lem, after as unit_after_lem, report}
use Rattle.sequencer.specs.Rules.{number, position, told, after as sequencer_after}
use Rattle.client.specs.declared.UnitAsk.TheVariants as unit_ask
use Rattle.client.specs.declared.Ask.TheVariants as ask
use Rattle.client.specs.declared.Outcome.{Outcome}
use Rattle.client.specs.Message.{is_showable, data_limit, no_page}
use Rattle.client.specs.declared.Work.TheVariants.{Read}
use Rattle.rule.specs.declared.Letter.{Letter}
use Rattle.rule.specs.declared.Body.TheVariants.{Asks}
use Rattle.rule.specs.Steps.{without as letters_without, turned, begin_number, begins, served, taken, delivered, delivers, step}
use Rattle.rule.specs.Serve.{kind_of, bytes_of, page_of, page_shown, edged, asking, fetching, offering_to, unit_says, unit_after, serve}
use Rattle.client.specs.Client.{idle, job_of, reorganise_of, no_change}
use Rattle.client.specs.Turn.{ends, sends}
use Rattle.client.specs.Append.{writes_at, writes_on}
use Rattle.client.specs.Begin.{begin_turn}
use Rattle.client.specs.Read.{page_taken}
use Rattle.client.specs.Take.{holds, works_on, awaited, takes}
use Rattle.client.specs.Reorganise.{all_sealed, seals_on, reorganises, edges_taken}
use Rattle.rule.specs.World.{letter_at}
use Rattle.rule.specs.Fresh.{fresh_units, fresh_world}
use Rattle.history.specs.Words.Page.{bytes}
use Rattle.history.specs.Words.Answer.{shows}
use Rattle.vouch.specs.Runs.{Moves, ◌≼◌, result, world, world_by}
use Rattle.vouch.specs.Runs.Moves.{◌▸◌}
use Rattle.vouch.specs.Runs.◌≼◌.{all_of, part_of}
use Rattle.vouch.specs.Demand.{ReadEnds, Reaches, InForce, OrSealed}
use Rattle.vouch.proofs.Fields as fields
use Rattle.vouch.proofs.Fields.Returns.{returns_page}
use Rattle.vouch.proofs.Stated.{read_stated, demand_3}
use Rattle.vouch.proofs.RunExample.{l, l_good, deliver, begin, appending, reading, page_7, append_done, read_ends, read_returned}

-- layout, unit 1's seal, offer, start
abbrev reorganised : Moves
reorganised =
    reading ▸ deliver ▸ begin 1 (reorganise_of (record { count = 1; drops = 2 ∷ replicate 7 0; wish = no_change.wish }))
    ▸ deliver ▸ deliver ▸ deliver ▸ deliver ▸ deliver ▸ deliver ▸ deliver ▸ deliver

-- layout, tail: before the request reaches the tail, and before its answer is taken
abbrev pub asked_first : Moves
asked_first = appending ▸ deliver ▸ begin 2 (job_of (Read (record { 0 = 0 }))) ▸ deliver ▸ deliver

abbrev asked_again : Moves
asked_again = reorganised ▸ begin 2 (job_of (Read (record { 0 = 0 }))) ▸ deliver ▸ deliver

abbrev reading_again : Moves
reading_again = asked_again ▸ deliver

-- the request of client 2 numbered n to read 0 of the unit u in epoch e
abbrev asks : ℕ → ℕ → ℕ → Letter
asks n u e = record { stamp = record { client = 2; life = 1; number = record { 0 = n } }; body = Asks (ask.Unit u (unit_ask.Read (record { 0 = e }) (record { 0 = 0 }))); page = no_page; layout = blank }

record Ran : Type 0 where
  first_reached : Reaches step l asked_first deliver reading deliver 0 1
  first_in_force : InForce step l asked_first 1
  second_ran : fields.ReadEnds l reading_again deliver 0 2 (shows (bytes (7 ∷ [])))
  second_returns : (result (world l reading_again) deliver).outcome ≡ record { number = 0; position = record { 0 = 0 }; epoch = record { 0 = 2 }; page = page_7; work = Read (record { 0 = 0 }); sent = 2 }
  second_reached : Reaches step l asked_again deliver reading_again deliver 0 2
  second_in_force : InForce step l asked_again 2

-- by the rules, computed; the first read's end is `read_ends` of RunExample
computed : Ran
unfolding rising good_set good_sets good_spans first_at_zero used good ◌in?◌ in_sets used_from units_of padded lay_of value_of zeros tidy_chain tidy_chains blank_ranges tidy good_value placed set_number set_at head_of tail_of after above place_answer units_at without bad_drops emptied planned last_start good_chains reorganise_answer planned_for ends_open settle_answer settled settled_first started_at offer_answer offered_to fetched_from sublist keeps_sets keeps_spans lawful lookup insert last_end edge written_end written_edge written sealed_at number position told sequencer_after idle sends data_limit shape_for writes_at writes_on begin_turn holds works_on is_showable page_taken awaited takes all_sealed seals_on reorganises largest within edges_taken letters_without turned begin_number begins served taken delivered delivers step kind_of bytes_of page_of page_shown edged asking fetching offering_to unit_says unit_after serve fresh_units fresh_world world_by is_page has_bytes is_gone was_written unit_says_lem unit_after_lem report
computed = record {
  first_reached = record {
    earlier = all_of;
    request = asks 2 2 1;
    brings = record { place = 0; keep = false; keep_answer = true; is_delivery = refl; letter_is = refl; not_refused = refl };
    unit = 2;
    epoch = record { 0 = 1 };
    position = record { 0 = 0 };
    asks = refl;
    epoch_is = refl;
    position_is = refl;
    answer_kept = refl;
    takes = record { place = 0; keep = false; keep_answer = true; is_delivery = refl; letter_is = refl; not_refused = refl };
  };
  first_in_force = refl;
  second_ran = record {
    client = 2;
    position = record { 0 = 0 };
    ends = record { of_client = refl; was_busy = refl; work_is = refl; who_is = refl };
    position_is = refl;
    epoch_is = refl;
    returns = returns_page refl;
  };
  second_returns = refl;
  second_reached = record {
    earlier = all_of;
    request = asks 4 1 2;
    brings = record { place = 0; keep = false; keep_answer = true; is_delivery = refl; letter_is = refl; not_refused = refl };
    unit = 1;
    epoch = record { 0 = 2 };
    position = record { 0 = 0 };
    asks = refl;
    epoch_is = refl;
    position_is = refl;
    answer_kept = refl;
    takes = record { place = 0; keep = false; keep_answer = true; is_delivery = refl; letter_is = refl; not_refused = refl };
  };
  second_in_force = refl;
}

pub first_reaches : Reaches step l asked_first deliver reading deliver 0 1
first_reaches = computed.first_reached

pub first_in_force : InForce step l asked_first 1
first_in_force = computed.first_in_force

pub second_ends : ReadEnds step l reading_again deliver 0
unfolding value_of
second_ends = read_stated l l_good refl computed.second_ran

since : appending ▸ deliver ≼ asked_again
since = part_of (part_of (part_of (part_of (part_of (part_of (part_of (part_of (part_of (part_of (part_of (part_of (part_of (part_of (part_of (part_of (part_of all_of))))))))))))))))

-- the second read is one of which demand 3 speaks: under the layout in force, after the append's done
pub rightly : OrSealed step l asked_again 0 page_7 (result (world l reading_again) deliver).outcome
unfolding value_of
rightly = (demand_3 l l_good refl).after_done append_done since computed.second_reached computed.second_in_force second_ends

-- and by demand 3 both returned one page
pub same_page : (result (world l reading) deliver).outcome.page ≡ (result (world l reading_again) deliver).outcome.page
unfolding value_of
same_page =
    (demand_3 l l_good refl).one_page (part_of (part_of (part_of (part_of (part_of (part_of (part_of (part_of (part_of (part_of (part_of (part_of (part_of (part_of all_of)))))))))))))) all_of read_ends second_ends (ap (λ (o : Outcome). o.number) read_returned) (ap (λ (o : Outcome). o.number) computed.second_returns)
