-- The runs of which proofs/Shams speaks, computed: a read that ends while another page is asked for, two steps that make another operation of what was begun, and one that takes an answer to an earlier request.
-- Rests on Wrapped, RunExample and AcrossExample.
use mathlib.Core.Path.{◌≡◌, refl, sym, ◌∙◌}
use mathlib.Core.Bool.{true, false, cond}
use mathlib.Core.List.{[], ◌∷◌}
use Prim.Native.Nat.{ℕ, ◌≤◌}
use native.Mathlib.Omega.{arith}
use lib.Dec.{eqb}
use lib.ListN.{set, replicate}
use Rattle.num.specs.Edges.{largest, within}
use Rattle.client.specs.declared.Page.{Page}
use Rattle.client.specs.declared.state.Job.{Job}
use Rattle.rule.specs.declared.Step.{Step}
use Rattle.rule.specs.declared.Step.TheVariants.{Begin, Deliver, Drop, Stop, Restart, GiveUp, Forget}
use Rattle.layout.specs.Lay.{rising, good_set, good_sets, good_spans, first_at_zero, used, good, ◌in?◌, in_sets, used_from, units_of}
use Rattle.layout.specs.Value.{padded, lay_of, value_of, zeros, tidy_chain, tidy_chains, blank_ranges, tidy, good_value, blank}
use Rattle.layout.specs.Places.{placed, set_number, set_at, head_of, tail_of, after, above, place_answer, units_at}
use Rattle.layout.specs.Plan.{without, bad_drops, emptied, planned, last_start, good_chains, reorganise_answer, planned_for, ends_open, settle_answer, settled, settled_first, started_at}
use Rattle.layout.specs.Holder.{offer_answer, offered_to, fetched_from}
use Rattle.layout.specs.Successor.{sublist, keeps_sets, keeps_spans, lawful}
use Rattle.unit.specs.Shape.{shape_for}
use Rattle.unit.specs.State.{lookup, insert, last_end, edge, written_end, written_edge}
use Rattle.unit.specs.Kinds.{is_page, has_bytes, is_gone, was_written}
use Rattle.unit.specs.Unit.{written, sealed_at, says as unit_says_lem, after as unit_after_lem, report}
use Rattle.sequencer.specs.Rules.{number, position, told, after as sequencer_after}
use Rattle.client.specs.declared.Ask.TheVariants as ask
use Rattle.client.specs.declared.UnitAsk.TheVariants as unit_ask
use Rattle.client.specs.Message.{no_refusal, is_showable, page_limit, data_limit, no_page}
use Rattle.client.specs.declared.Work.{Work}
use Rattle.client.specs.declared.Work.TheVariants.{Append, Read, Fill, Trim, Prune, Reorganise}
use Rattle.client.specs.Client.{idle, in_phase, at_position, holding, planning, job_of, append_of, reorganise_of, no_change}
use Rattle.client.specs.Turn.{outcome_of, over, ends, numbered, sends, otherwise}
use Rattle.client.specs.Way.{head_for, tail_for, after_for, unit_above, plan_for, start_for}
use Rattle.client.specs.Append.{draws, writes, writes_at, on_token, writes_on, on_written}
use Rattle.client.specs.Read.{page_taken, reads, on_read}
use Rattle.client.specs.Fill.{page_carried, fills, fills_on, on_filled}
use Rattle.client.specs.Begin.{begin_answer, with_job, begin_turn, give_up}
use Rattle.client.specs.Take.{goes_on, holds, on_fetched, works_on, answered, awaited, takes}
use Rattle.client.specs.Reorganise.{seals, offers, all_sealed, seals_on, reorganises, edges_taken, on_sealed, starts, on_offered, on_started}
use Rattle.client.specs.declared.Reply.TheVariants.{Shown}
use Rattle.rule.specs.World.{World, client_at, letter_at}
use Rattle.rule.specs.declared.Letter.{Letter}
use Rattle.rule.specs.declared.Body.{Body}
use Rattle.rule.specs.declared.Body.TheVariants.{Blank, Asks, Answers}
use Rattle.rule.specs.Steps.{without as letters_without, with_letters, turned, begin_number, begins, served, taken, delivered, delivers, gives_up, step}
use Rattle.rule.specs.Serve.{kind_of, bytes_of, page_of, page_shown, edged, asking, fetching, offering_to, unit_says, unit_after, serve}
use Rattle.rule.specs.Fresh.{fresh_units, fresh_world}
use Rattle.history.specs.Words.Page.{bytes}
use Rattle.history.specs.Words.Answer.{shows}
use Rattle.vouch.specs.Runs.{Moves, Stepping, result, world, world_by}
use Rattle.vouch.specs.Runs.Moves.{none, ◌▸◌}
use Rattle.vouch.specs.Runs.◌≼◌.{all_of, part_of}
use Rattle.vouch.specs.Pages.{data_page, junk_page, job_page}
use Rattle.vouch.specs.Operations.{outcome, Ends}
use Rattle.vouch.specs.Operations.UnderWay.{begun, still}
use Rattle.vouch.specs.Operations.Ends.{later}
use Rattle.vouch.specs.Demand.{last_letter, AppendDone, ReadEnds, Reaches, InForce}
use Rattle.vouch.proofs.Fields as fields
use Rattle.vouch.proofs.Fields.Returns.{returns_page}
use Rattle.vouch.proofs.Wrapped.{goes_on_lem}
use Rattle.vouch.proofs.RunExample.{l, deliver, begin, appending, reading, page_7, returned}
use Rattle.vouch.proofs.AcrossExample.{asked_first}

-- ---- a page of one's own and another's

-- client 3's append of 9 is under way when client 2's read of 0 ends
abbrev pub page_9 : Page
page_9 = data_page 1 (9 ∷ [])

abbrev pub append_9 : Job
append_9 = append_of 1 (9 ∷ replicate 79 0)

abbrev pub both : Moves
both = reading ▸ begin 3 append_9

-- the answer to client 2
abbrev pub shows_7 : Letter
shows_7 = record { stamp = record { client = 2; life = 1; number = record { 0 = 2 } }; body = Answers Shown; page = page_7; layout = blank }

pub record Swapped : Type 0 where
  pub not_refused : (result (world l reading) (begin 3 append_9)).answer ≡ 0
  pub ran : fields.ReadEnds l both deliver 0 1 (shows (bytes (7 ∷ [])))
  pub returns : (result (world l both) deliver).outcome ≡ returned 0 page_7 (Read (record { 0 = 0 })) 2
  pub reached : Reaches step l asked_first deliver both deliver 0 1

pub swapped_run : Swapped
unfolding rising good_set good_sets good_spans first_at_zero used good ◌in?◌ in_sets used_from units_of padded lay_of value_of zeros tidy_chain tidy_chains blank_ranges tidy good_value placed set_number set_at head_of tail_of after above place_answer units_at without bad_drops emptied planned last_start good_chains reorganise_answer planned_for ends_open settle_answer settled settled_first started_at offer_answer offered_to fetched_from sublist keeps_sets keeps_spans lawful lookup insert last_end edge written_end written_edge written sealed_at number position told sequencer_after idle sends data_limit shape_for writes_at writes_on begin_turn holds works_on is_showable page_taken page_carried awaited takes all_sealed seals_on reorganises largest within edges_taken letters_without turned begin_number begins served taken delivered delivers step kind_of bytes_of page_of page_shown edged asking fetching offering_to unit_says unit_after serve fresh_units fresh_world world_by fills_on is_page has_bytes is_gone was_written unit_says_lem unit_after_lem report
swapped_run =
    let taken_it : letter_at (world l both) 0 ≡ shows_7 = refl in
    let given : last_letter (world l reading) ≡ shows_7 = refl in
    record {
      not_refused = refl;
      ran = record {
        client = 2;
        position = record { 0 = 0 };
        ends = record { of_client = refl; was_busy = refl; work_is = refl; who_is = refl };
        position_is = refl;
        epoch_is = refl;
        returns = returns_page refl;
      };
      returns = refl;
      reached = record {
        earlier = part_of all_of;
        request = record { stamp = record { client = 2; life = 1; number = record { 0 = 2 } }; body = Asks (ask.Unit 2 (unit_ask.Read (record { 0 = 1 }) (record { 0 = 0 }))); page = no_page; layout = blank };
        brings = record { place = 0; keep = false; keep_answer = true; is_delivery = refl; letter_is = refl; not_refused = refl };
        unit = 2;
        epoch = record { 0 = 1 };
        position = record { 0 = 0 };
        asks = refl;
        epoch_is = refl;
        position_is = refl;
        answer_kept = refl;
        takes = record { place = 0; keep = false; keep_answer = true; is_delivery = refl; letter_is = taken_it ∙ sym given; not_refused = refl };
      };
    }

-- ---- what an operation does

abbrev one : 1 ≤ 1
one = omega arith

abbrev two : 1 ≤ 2
two = omega arith

no_restart : (k : ℕ) → ¬ (Deliver 0 false true ≡ Restart k)
no_restart k e = let z : ◌≡◌ {A = ℕ} 0 1 = cc in omega arith

not_yet : {n c : ℕ} → 1 ≤ c → n ≡ 0 → ¬ (n ≡ c)
not_yet low nobody e = omega (arith, low, nobody, e)

-- A read with a length other than 0 reads position 0 instead of its own.
abbrev pub at_zero : Work → Work
at_zero Append = Append
at_zero (Read p) = Read (record { 0 = 0 })
at_zero (Fill p) = Fill p
at_zero (Trim p) = Trim p
at_zero (Prune p) = Prune p
at_zero Reorganise = Reorganise

abbrev pub elsewhere : Stepping
elsewhere w s j = step w s (cond (eqb j.len 0) j (record { work = at_zero j.work; len = j.len; bytes = j.bytes; change = j.change }))

-- a read of 1
abbrev pub read_1 : ℕ → Job
read_1 n = record { work = Read (record { 0 = 1 }); len = n; bytes = replicate page_limit 0; change = no_change }

-- client 1 appends, client 2 reads 1 with length 1; client 1 fills 1, client 2 reads 1 with length 0
abbrev pub astray : Moves
astray = appending ▸ deliver ▸ begin 2 (read_1 1) ▸ deliver ▸ deliver ▸ deliver

abbrev pub honest : Moves
honest =
    astray ▸ deliver ▸ begin 1 (job_of (Fill (record { 0 = 1 }))) ▸ deliver ▸ deliver ▸ deliver ▸ deliver ▸ deliver ▸ deliver
    ▸ begin 2 (read_1 0) ▸ deliver ▸ deliver ▸ deliver

pub record Astray : Type 0 where
  pub first_ends : ReadEnds elsewhere l astray deliver 1
  pub first_returns : outcome elsewhere l astray deliver ≡ returned 0 page_7 (Read (record { 0 = 0 })) 2
  pub second_ends : ReadEnds elsewhere l honest deliver 1
  pub second_returns : outcome elsewhere l honest deliver ≡ returned 1 junk_page (Read (record { 0 = 1 })) 2

pub astray_run : Astray
unfolding rising good_set good_sets good_spans first_at_zero used good ◌in?◌ in_sets used_from units_of padded lay_of value_of zeros tidy_chain tidy_chains blank_ranges tidy good_value placed set_number set_at head_of tail_of after above place_answer units_at without bad_drops emptied planned last_start good_chains reorganise_answer planned_for ends_open settle_answer settled settled_first started_at offer_answer offered_to fetched_from sublist keeps_sets keeps_spans lawful lookup insert last_end edge written_end written_edge written sealed_at number position told sequencer_after idle sends data_limit shape_for writes_at writes_on begin_turn holds works_on is_showable page_taken page_carried awaited takes all_sealed seals_on reorganises largest within edges_taken letters_without turned begin_number begins served taken delivered delivers step kind_of bytes_of page_of page_shown edged asking fetching offering_to unit_says unit_after serve fresh_units fresh_world world_by fills_on is_page has_bytes is_gone was_written unit_says_lem unit_after_lem report
astray_run = record {
  first_ends = record {
    client = 2;
    job = read_1 1;
    ends = later
        (still (still (still (begun (record { does_begin = refl; job_is = refl; not_refused = refl }) (not_yet two refl)) (goes_on_lem deliver two no_restart refl)) (goes_on_lem deliver two no_restart refl))
        (goes_on_lem deliver two no_restart refl)) refl;
    position = record { 0 = 1 };
    is_read = refl;
    position_is = refl;
  };
  first_returns = refl;
  second_ends = record {
    client = 2;
    job = read_1 0;
    ends = later
        (still (still (still (begun (record { does_begin = refl; job_is = refl; not_refused = refl }) (not_yet two refl)) (goes_on_lem deliver two no_restart refl)) (goes_on_lem deliver two no_restart refl))
        (goes_on_lem deliver two no_restart refl)) refl;
    position = record { 0 = 1 };
    is_read = refl;
    position_is = refl;
  };
  second_returns = refl;
}

-- An append of 3 bytes is lost but acknowledged: it becomes an empty reorganise, which reports 0.
abbrev pub lost_or : Work → Job → Job
lost_or Append j = cond (eqb j.len 3) (reorganise_of no_change) j
lost_or (Read p) j = j
lost_or (Fill p) j = j
lost_or (Trim p) j = j
lost_or (Prune p) j = j
lost_or Reorganise j = j

abbrev pub losing : Stepping
losing w s j = step w s (lost_or j.work j)

abbrev pub append_3 : Job
append_3 = append_of 3 (1 ∷ 2 ∷ 3 ∷ replicate 77 0)

-- layout, both seals, offer, start: the last delivery ends it
abbrev pub lost : Moves
lost = none ▸ begin 1 append_3 ▸ deliver ▸ deliver ▸ deliver ▸ deliver ▸ deliver ▸ deliver ▸ deliver ▸ deliver ▸ deliver

abbrev pub lost_asked : Moves
lost_asked = lost ▸ deliver ▸ begin 2 (job_of (Read (record { 0 = 0 }))) ▸ deliver ▸ deliver

pub record Lost : Type 0 where
  pub acknowledged : AppendDone losing l lost deliver 0 (job_page append_3)
  pub reached : Reaches losing l lost_asked deliver (lost_asked ▸ deliver) deliver 0 2
  pub in_force : InForce losing l lost_asked 2
  pub read_ends_so : ReadEnds losing l (lost_asked ▸ deliver) deliver 0
  pub number_is : (outcome losing l (lost_asked ▸ deliver) deliver).number ≡ 7

pub lost_run : Lost
unfolding rising good_set good_sets good_spans first_at_zero used good ◌in?◌ in_sets used_from units_of padded lay_of value_of zeros tidy_chain tidy_chains blank_ranges tidy good_value placed set_number set_at head_of tail_of after above place_answer units_at without bad_drops emptied planned last_start good_chains reorganise_answer planned_for ends_open settle_answer settled settled_first started_at offer_answer offered_to fetched_from sublist keeps_sets keeps_spans lawful lookup insert last_end edge written_end written_edge written sealed_at number position told sequencer_after idle sends data_limit shape_for writes_at writes_on begin_turn holds works_on is_showable page_taken no_refusal awaited takes all_sealed seals_on reorganises largest within edges_taken letters_without turned begin_number begins served taken delivered delivers step kind_of bytes_of page_of page_shown edged asking fetching offering_to unit_says unit_after serve fresh_units fresh_world world_by otherwise is_page has_bytes is_gone was_written unit_says_lem unit_after_lem report
lost_run = record {
  acknowledged = record {
    client = 1;
    job = append_3;
    ends = later
        (still (still (still (still (still (still (still (still (still (begun (record { does_begin = refl; job_is = refl; not_refused = refl }) (not_yet one refl))
        (goes_on_lem deliver one no_restart refl)) (goes_on_lem deliver one no_restart refl)) (goes_on_lem deliver one no_restart refl)) (goes_on_lem deliver one no_restart refl))
        (goes_on_lem deliver one no_restart refl)) (goes_on_lem deliver one no_restart refl)) (goes_on_lem deliver one no_restart refl)) (goes_on_lem deliver one no_restart refl))
        (goes_on_lem deliver one no_restart refl)) refl;
    for_append = refl;
    number_is = refl;
    position_is = refl;
    page_is = refl;
  };
  reached = record {
    earlier = all_of;
    request = record { stamp = record { client = 2; life = 1; number = record { 0 = 2 } }; body = Asks (ask.Unit 2 (unit_ask.Read (record { 0 = 2 }) (record { 0 = 0 }))); page = no_page; layout = blank };
    brings = record { place = 0; keep = false; keep_answer = true; is_delivery = refl; letter_is = refl; not_refused = refl };
    unit = 2;
    epoch = record { 0 = 2 };
    position = record { 0 = 0 };
    asks = refl;
    epoch_is = refl;
    position_is = refl;
    answer_kept = refl;
    takes = record { place = 0; keep = false; keep_answer = true; is_delivery = refl; letter_is = refl; not_refused = refl };
  };
  in_force = refl;
  read_ends_so = record {
    client = 2;
    job = job_of (Read (record { 0 = 0 }));
    ends = later
        (still (still (still (begun (record { does_begin = refl; job_is = refl; not_refused = refl }) (not_yet two refl)) (goes_on_lem deliver two no_restart refl)) (goes_on_lem deliver two no_restart refl))
        (goes_on_lem deliver two no_restart refl)) refl;
    position = record { 0 = 0 };
    is_read = refl;
    position_is = refl;
  };
  number_is = refl;
}

-- An answer to an earlier request is taken: whatever answer is delivered bears the life and the number that its client waits for.
abbrev renumbered : World → Letter → Body → Letter
renumbered w k Blank = k
renumbered w k (Asks a) = k
renumbered w k (Answers r) =
    let c = client_at w k.stamp.client in
    record { stamp = record { client = k.stamp.client; life = c.life; number = c.used }; body = k.body; page = k.page; layout = k.layout }

abbrev first_renumbered : World → Step → World
first_renumbered w (Deliver i keep keep_answer) = with_letters w (set w.letters i (renumbered w (letter_at w i) (letter_at w i).body))
first_renumbered w (Begin c) = w
first_renumbered w (Drop i) = w
first_renumbered w (Stop u) = w
first_renumbered w (Restart c) = w
first_renumbered w (GiveUp c) = w
first_renumbered w Forget = w

abbrev pub stale : Stepping
stale w s j = step (first_renumbered w s) s j

-- client 2 reads 0, which is unwritten, and is told to give up while the answer lies in the bag
abbrev pub given_up : Moves
given_up = none ▸ begin 2 (job_of (Read (record { 0 = 0 }))) ▸ deliver ▸ deliver ▸ deliver ▸ record { does = GiveUp 2; job = job_of Append }

-- and reads 0 again
abbrev pub late : Job
late = record { work = Read (record { 0 = 0 }); len = 1; bytes = replicate page_limit 0; change = no_change }

pub record Stale : Type 0 where
  pub late_ends : Ends stale l (given_up ▸ begin 2 late) deliver 2 late
  pub number_is : (outcome stale l (given_up ▸ begin 2 late) deliver).number ≡ 7

pub stale_run : Stale
unfolding rising good_set good_sets good_spans first_at_zero used good ◌in?◌ in_sets used_from units_of padded lay_of value_of zeros tidy_chain tidy_chains blank_ranges tidy good_value placed set_number set_at head_of tail_of after above place_answer units_at without bad_drops emptied planned last_start good_chains reorganise_answer planned_for ends_open settle_answer settled settled_first started_at offer_answer offered_to fetched_from sublist keeps_sets keeps_spans lawful lookup insert last_end edge written_end written_edge written sealed_at number position told sequencer_after idle sends data_limit shape_for writes_at writes_on begin_turn holds works_on is_showable page_taken no_refusal awaited takes all_sealed seals_on reorganises largest within edges_taken letters_without turned begin_number begins served taken delivered delivers step kind_of bytes_of page_of page_shown edged asking fetching offering_to unit_says unit_after serve fresh_units fresh_world world_by otherwise give_up gives_up is_page has_bytes is_gone was_written unit_says_lem unit_after_lem report
stale_run = record {
  late_ends = later (begun (record { does_begin = refl; job_is = refl; not_refused = refl }) (not_yet two refl)) refl;
  number_is = refl;
}
