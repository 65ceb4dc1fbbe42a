-- A run in which a unit stops and the page is answered again: client 1's append is done at 0 on units 1 and 2; unit 2, the tail, stops; client 2's read finds
-- nobody, and it gives up. Then the yard meets the conditions of the last sentence; client 1 reorganises, and its read of 0 ends with the page, from unit 1 alone.
-- Rests on RunExample and Closing.
use mathlib.Core.Path.{◌≡◌, refl, sym, ap, subst}
use mathlib.Core.Bool.{Bool, true, false, not}
use mathlib.Core.List.{List, [], ◌∷◌, ◌++◌}
use mathlib.Core.Logic.{⊎_elim}
use Prim.Native.Nat.{ℕ, zero, suc, ◌<◌}
use native.Mathlib.Omega.{arith}
use lib.ListN.{length, get_or, replicate}
use Rattle.num.specs.Edges.{largest, within as edges_within}
use Rattle.layout.specs.Lay.{rising, good_set, good_sets, good_spans, first_at_zero, used, good, ◌in?◌, in_sets, used_from, units_of}
use Rattle.layout.specs.Value.{padded, lay_of, value_of, zeros, tidy_chain, tidy_chains, blank_ranges, tidy, good_value}
use Rattle.layout.specs.Places.{placed, set_number, set_at, head_of, tail_of, after, above, place_answer, units_at}
use Rattle.layout.specs.Plan.{without, bad_drops, emptied, planned, last_start, good_chains, reorganise_answer, planned_for, ends_open, settle_answer, settled, settled_first, started_at}
use Rattle.layout.specs.Holder.{offer_answer, offered_to, fetched_from}
use Rattle.layout.specs.Successor.{sublist, keeps_sets, keeps_spans, lawful}
use Rattle.layout.proofs.InSets.{in_none, in_cases}
use Rattle.unit.specs.Shape.{shape_for}
use Rattle.unit.specs.State.{lookup, insert, last_end, edge, written_end, written_edge}
use Rattle.unit.specs.Kinds.{is_page, has_bytes, is_gone, was_written}
use Rattle.unit.specs.Unit.{written, sealed_at, says as unit_says_lem, after as unit_after_lem, report}
use Rattle.sequencer.specs.Rules.{number, position, told, after as sequencer_after}
use Rattle.client.specs.declared.Work.TheVariants.{Append, Read}
use Rattle.client.specs.declared.Stage.TheVariants.{Idle}
use Rattle.client.specs.declared.state.Job.{Job}
use Rattle.client.specs.Client.{idle, job_of, reorganise_of, no_change}
use Rattle.client.specs.Message.{is_showable, data_limit}
use Rattle.rule.specs.declared.Step.{Step}
use Rattle.rule.specs.declared.Step.TheVariants.{Drop, Stop, GiveUp}
use Rattle.rule.specs.World.{is_unit, running, client_at}
use Rattle.rule.specs.Steps.{without as letters_without, turned, begin_number, begins, served, taken, delivered, delivers, drops as drops_letter, stops, gives_up, step}
use Rattle.rule.specs.Serve.{kind_of, bytes_of, page_of, page_shown, edged, asking, fetching, offering_to, unit_says, unit_after, serve}
use Rattle.client.specs.Turn.{ends, sends}
use Rattle.client.specs.Append.{writes_at, writes_on}
use Rattle.client.specs.Begin.{begin_turn, give_up}
use Rattle.client.specs.Read.{page_taken}
use Rattle.client.specs.Take.{holds, works_on, awaited, takes}
use Rattle.client.specs.Reorganise.{all_sealed, seals_on, reorganises, edges_taken}
use Rattle.rule.specs.Fresh.{fresh_units, fresh_world}
use Rattle.history.specs.Words.Page.{bytes}
use Rattle.history.specs.Words.Answer.{shows}
use Rattle.vouch.specs.Runs.{Move, Moves, result, world, world_by}
use Rattle.vouch.specs.Runs.Moves.{◌▸◌}
use Rattle.vouch.specs.Runs.◌≼◌.{all_of, part_of}
use Rattle.vouch.specs.Demand.{ReadEnds}
use Rattle.vouch.specs.LastSentence.{stopped_from, WorkingUnit, Conditions, DropsStopped, unit_count, Again}
use Rattle.vouch.proofs.Fields as fields
use Rattle.vouch.proofs.Fields.Returns.{returns_page}
use Rattle.vouch.proofs.Stated.{read_stated}
use Rattle.vouch.proofs.Closing.{last_sentence}
use Rattle.vouch.proofs.RunExample.{l, l_good, deliver, begin, appending, page_7, append_done}

abbrev step_of : Step → Move
step_of s = record { does = s; job = job_of Append }

abbrev read : Job
read = job_of (Read (record { 0 = 0 }))

-- unit 2 has stopped, and the request to read it lies in the bag
abbrev stuck : Moves
stuck = appending ▸ deliver ▸ step_of (Stop 2) ▸ begin 2 read ▸ deliver ▸ deliver

abbrev left : Moves
left = stuck ▸ deliver ▸ step_of (GiveUp 2) ▸ step_of (Drop 0)

-- it names unit 2 twice, and unit 5, which is not in the layout
abbrev drops : List ℕ
drops = 2 ∷ 5 ∷ 2 ∷ []

abbrev reorganise : Job
reorganise = reorganise_of (record { count = 3; drops = drops ++ replicate 5 0; wish = no_change.wish })

-- layout, unit 1's seal, offer, start; then layout and tail
abbrev reading_again : Moves
reading_again =
    left ▸ begin 1 reorganise
    ▸ deliver ▸ deliver ▸ deliver ▸ deliver ▸ deliver ▸ deliver ▸ deliver ▸ deliver ▸ begin 1 read ▸ deliver ▸ deliver ▸ deliver

-- the yard that is left, as far as the conditions speak of it
record Left : Type 0 where
  nobody : (result (world l stuck) deliver).answer ≡ 17
  idle_there : (client_at (world l left) 1).stage ≡ Idle
  used_there : (client_at (world l left) 1).used.0 ≡ 4
  letters_there : (world l left).letters ≡ []
  epoch_there : (world l left).held.epoch.0 ≡ 1
  sets_there : (lay_of (world l left).held).sets ≡ (1 ∷ 2 ∷ []) ∷ []
  stopped_there : (world l left).stopped ≡ false ∷ true ∷ replicate 6 false
  units_there : unit_count (world l left) ≡ 1

record Ran : Type 0 where
  yard_left : Left
  answered : fields.ReadEnds l reading_again deliver 0 2 (shows (bytes (7 ∷ [])))
  returns : (result (world l reading_again) deliver).outcome ≡ record { number = 0; position = record { 0 = 0 }; epoch = record { 0 = 2 }; page = page_7; work = Read (record { 0 = 0 }); sent = 2 }

-- by the rules, computed
computed : Ran
unfolding rising good_set good_sets good_spans first_at_zero used good ◌in?◌ in_sets used_from units_of padded lay_of value_of zeros tidy_chain tidy_chains blank_ranges tidy good_value placed set_number set_at head_of tail_of after above place_answer units_at without bad_drops emptied planned last_start good_chains reorganise_answer planned_for ends_open settle_answer settled settled_first started_at offer_answer offered_to fetched_from sublist keeps_sets keeps_spans lawful lookup insert last_end edge written_end written_edge written sealed_at number position told sequencer_after idle sends data_limit shape_for writes_at writes_on begin_turn give_up holds works_on is_showable page_taken awaited takes all_sealed seals_on reorganises largest edges_within edges_taken letters_without turned begin_number begins served taken delivered delivers drops_letter stops gives_up step kind_of bytes_of page_of page_shown edged asking fetching offering_to unit_says unit_after serve fresh_units fresh_world world_by stopped_from is_page has_bytes is_gone was_written unit_says_lem unit_after_lem report
computed = record {
  yard_left = record {
    nobody = refl;
    idle_there = refl;
    used_there = refl;
    letters_there = refl;
    epoch_there = refl;
    sets_there = refl;
    stopped_there = refl;
    units_there = refl;
  };
  answered = record {
    client = 1;
    position = record { 0 = 0 };
    ends = record { of_client = refl; was_busy = refl; work_is = refl; who_is = refl };
    position_is = refl;
    epoch_is = refl;
    returns = returns_page refl;
  };
  returns = refl;
}

pub answered_again : ReadEnds step l reading_again deliver 0
unfolding value_of
answered_again = read_stated l l_good refl computed.answered

pub returned_again : (result (world l reading_again) deliver).outcome ≡ record { number = 0; position = record { 0 = 0 }; epoch = record { 0 = 2 }; page = page_7; work = Read (record { 0 = 0 }); sent = 2 }
returned_again = computed.returns

works : (k : ℕ) → k < 1 → WorkingUnit (false ∷ true ∷ replicate 6 false) (get_or ((1 ∷ 2 ∷ []) ∷ []) k [])
unfolding ◌in?◌
works zero lt = record { unit = 1; inside = refl; works = refl }
works (suc k) lt = absurd (omega arith)

-- the conditions of the last sentence do not speak of nothing
pub conditions : Conditions (world l left) 1
conditions =
    let there = computed.yard_left in
    record {
      of_client = refl;
      is_idle = there.idle_there;
      few_letters = omega (arith, ap length there.letters_there);
      numbers_left = omega (arith, there.used_there, there.units_there);
      epoch_left = omega (arith, there.epoch_there);
      set_works =
          subst (λ (sets : List (List ℕ)). (k : ℕ) → k < length sets → WorkingUnit (world l left).stopped (get_or sets k [])) (sym there.sets_there)
          (subst (λ (stopped : List Bool). (k : ℕ) → k < 1 → WorkingUnit stopped (get_or ((1 ∷ 2 ∷ []) ∷ []) k [])) (sym there.stopped_there) works);
    }

within : (u : ℕ) → (u in? drops) ≡ true → is_unit u ≡ true
within u i = ⊎_elim one (λ rest. ⊎_elim five (λ last. ⊎_elim one (λ none. absurd (in_none u none)) (in_cases u 2 [] last)) (in_cases u 5 (2 ∷ []) rest)) (in_cases u 2 (5 ∷ 2 ∷ []) i)
  where
    one : u ≡ 2 → is_unit u ≡ true
    one e = ap is_unit e

    five : u ≡ 5 → is_unit u ≡ true
    five e = ap is_unit e

-- of units 1 and 2 it names the one that has stopped
named : (u : ℕ) → (u in? (1 ∷ 2 ∷ [])) ≡ true → (u in? drops) ≡ not (running (false ∷ true ∷ replicate 6 false) u)
unfolding ◌in?◌
named u i = ⊎_elim one (λ rest. ⊎_elim two (λ none. absurd (in_none u none)) (in_cases u 2 [] rest)) (in_cases u 1 (2 ∷ []) i)
  where
    one : u ≡ 1 → (u in? drops) ≡ not (running (false ∷ true ∷ replicate 6 false) u)
    one e = subst (λ (v : ℕ). (v in? drops) ≡ not (running (false ∷ true ∷ replicate 6 false) v)) (sym e) refl

    two : u ≡ 2 → (u in? drops) ≡ not (running (false ∷ true ∷ replicate 6 false) u)
    two e = subst (λ (v : ℕ). (v in? drops) ≡ not (running (false ∷ true ∷ replicate 6 false) v)) (sym e) refl

-- and this is a reorganise that drops the stopped units
pub drops_stopped : DropsStopped (world l left) reorganise
unfolding units_of used_from in_sets ◌in?◌
drops_stopped =
    let there = computed.yard_left in
    record {
      is_reorganise = refl;
      drops_few = omega arith;
      drops_within = within;
      drops_are =
          subst (λ (sets : List (List ℕ)). (u : ℕ) → (u in? units_of sets) ≡ true → (u in? drops) ≡ not (running (world l left).stopped u)) (sym there.sets_there)
          (subst (λ (stopped : List Bool). (u : ℕ) → (u in? (1 ∷ 2 ∷ [])) ≡ true → (u in? drops) ≡ not (running stopped u)) (sym there.stopped_there) named);
      without_range = refl;
    }

pub again : Again step l left 1 reorganise (record { 0 = 0 }) page_7
unfolding value_of
again = (last_sentence l l_good refl).answerable_again append_done (part_of (part_of (part_of (part_of (part_of (part_of (part_of all_of))))))) conditions drops_stopped
