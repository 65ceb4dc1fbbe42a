-- A sham step that does NOT meet the last sentence: a reorganise starts the sequencer at the largest edge, so that a trim of a position never written moves the count.
-- It is refuted by a run that is computed: client 1 trims 5, which nobody wrote, and reorganises; the count comes to 6, and no unit has written anything.
-- Rests on Again and RunExample.
use mathlib.Core.Path.{◌≡◌, refl, sym, ap, subst, ◌∙◌}
use mathlib.Core.Bool.{Bool, true, false, not, cond}
use mathlib.Core.List.{List, [], ◌∷◌}
use mathlib.Core.Logic.{⊎_elim}
use Prim.Native.Nat.{ℕ, zero, suc, ◌<◌, max}
use native.Mathlib.Omega.{arith}
use lib.Dec.{eqb}
use lib.ListN.{length, get_or, replicate}
use Rattle.num.specs.Edges.{largest, within as edges_within}
use Rattle.layout.specs.Lay.{rising, good_set, good_sets, good_spans, first_at_zero, used, good, ◌in?◌, in_sets, used_from, units_of}
use Rattle.layout.specs.Value.{padded, lay_of, value_of, zeros, tidy_chain, tidy_chains, blank_ranges, tidy, good_value}
use Rattle.layout.specs.Places.{placed, set_number, set_at, head_of, tail_of, after, above, place_answer, units_at}
use Rattle.layout.specs.Plan.{without, bad_drops, emptied, planned, last_start, good_chains, reorganise_answer, planned_for, ends_open, settle_answer, settled, settled_first, started_at}
use Rattle.layout.specs.Holder.{offer_answer, offered_to, fetched_from}
use Rattle.layout.specs.Successor.{sublist, keeps_sets, keeps_spans, lawful}
use Rattle.layout.proofs.InSets.{in_none, in_cases}
use Rattle.unit.specs.Shape.{shape_for}
use Rattle.unit.specs.State.{lookup, insert, retire, last_end, edge, written_end, written_edge}
use Rattle.unit.specs.Kinds.{is_page, has_bytes, is_gone, was_written}
use Rattle.unit.specs.Unit.{written, retired, trimmed_at, sealed_at, says as unit_says_lem, after as unit_after_lem, report}
use Rattle.sequencer.specs.declared.Sequencer.{Sequencer}
use Rattle.sequencer.specs.Rules.{number, position, told, after as sequencer_after}
use Rattle.client.specs.declared.Work.TheVariants.{Trim}
use Rattle.client.specs.declared.Stage.TheVariants.{Idle}
use Rattle.client.specs.declared.state.Job.{Job}
use Rattle.client.specs.Client.{idle, job_of, reorganise_of, no_change}
use Rattle.client.specs.Message.{data_limit}
use Rattle.client.specs.Turn.{sends}
use Rattle.client.specs.Begin.{begin_turn}
use Rattle.client.specs.Trim.{trims_on}
use Rattle.client.specs.Take.{holds, works_on, awaited, takes}
use Rattle.client.specs.Reorganise.{all_sealed, seals_on, reorganises, edges_taken}
use Rattle.rule.specs.World.{World, running, client_at, unit_at}
use Rattle.rule.specs.Steps.{without as letters_without, turned, begin_number, begins, served, taken, delivered, delivers, step}
use Rattle.rule.specs.Serve.{kind_of, bytes_of, page_of, edged, with_sequencer, asking, fetching, offering_to, unit_says, unit_after, serve}
use Rattle.rule.specs.Fresh.{fresh_units, fresh_world}
use Rattle.vouch.specs.Runs.{Moves, Stepping, world_by}
use Rattle.vouch.specs.Runs.Moves.{none, ◌▸◌}
use Rattle.vouch.specs.LastSentence.{exchanges, stopped_from, unit_count, reorganising, WorkingUnit, Conditions, DropsStopped, largest_written, ◌▸▸◌, LastSentence}
use Rattle.vouch.proofs.Again.{goes_world}
use Rattle.vouch.proofs.RunExample.{l, deliver, begin}

-- ---- the step

unfoldable pub largest_edge : World → List ℕ → ℕ
largest_edge w [] = 0
largest_edge w (u ∷ us) = max (edge (unit_at w u)) (largest_edge w us)

-- w before the step, v afterwards: where the sequencer has a new epoch, it counts on from the largest edge
abbrev counting : World → World → Sequencer
counting w v =
    cond (eqb w.sequencer.epoch.0 v.sequencer.epoch.0) v.sequencer
    (record { epoch = v.sequencer.epoch; next = record { 0 = largest_edge v (units_of (lay_of v.held).sets) } })

abbrev pub from_edge : Stepping
from_edge w s j =
    let d = step w s j in
    record { answer = d.answer; who = d.who; outcome = d.outcome; world = with_sequencer d.world (counting w d.world) }

-- ---- the run

-- layout, head, tail
abbrev stray : Moves
stray = none ▸ begin 1 (job_of (Trim (record { 0 = 5 }))) ▸ deliver ▸ deliver ▸ deliver ▸ deliver ▸ deliver ▸ deliver

abbrev before : World
before = world_by from_edge l stray

abbrev reorganise : Job
reorganise = reorganise_of no_change

-- layout, both seals, offer, start
abbrev afterwards : World
afterwards = world_by from_edge l (stray ▸▸ reorganising before 1 reorganise)

record Ran : Type 0 where
  idle_there : (client_at before 1).stage ≡ Idle
  used_there : (client_at before 1).used.0 ≡ 3
  letters_there : before.letters ≡ []
  epoch_there : before.held.epoch.0 ≡ 1
  sets_there : (lay_of before.held).sets ≡ (1 ∷ 2 ∷ []) ∷ []
  stopped_there : before.stopped ≡ replicate 8 false
  units_there : unit_count before ≡ 2
  counted : afterwards.sequencer.next.0 ≡ 6
  none_written : largest_written afterwards (units_of (lay_of afterwards.held).sets) ≡ 0

computed : Ran
unfolding rising good_set good_sets good_spans first_at_zero used good ◌in?◌ in_sets used_from units_of padded lay_of value_of zeros tidy_chain tidy_chains blank_ranges tidy good_value placed set_number set_at head_of tail_of after above place_answer units_at without bad_drops emptied planned last_start good_chains reorganise_answer planned_for ends_open settle_answer settled settled_first started_at offer_answer offered_to fetched_from sublist keeps_sets keeps_spans lawful lookup insert retire last_end edge written_end written_edge written retired trimmed_at sealed_at number position told sequencer_after idle sends data_limit shape_for trims_on begin_turn holds works_on awaited takes all_sealed seals_on reorganises largest edges_within edges_taken letters_without turned begin_number begins served taken delivered delivers step kind_of bytes_of page_of edged asking fetching offering_to unit_says unit_after serve fresh_units fresh_world world_by stopped_from is_page has_bytes is_gone was_written unit_says_lem unit_after_lem report largest_edge largest_written exchanges ◌▸▸◌
computed = record {
  idle_there = refl;
  used_there = refl;
  letters_there = refl;
  epoch_there = refl;
  sets_there = refl;
  stopped_there = refl;
  units_there = refl;
  counted = refl;
  none_written = refl;
}

-- ---- it meets the conditions

works : (k : ℕ) → k < 1 → WorkingUnit (replicate 8 false) (get_or ((1 ∷ 2 ∷ []) ∷ []) k [])
unfolding ◌in?◌
works zero lt = record { unit = 1; inside = refl; works = refl }
works (suc k) lt = absurd (omega arith)

conditions : Conditions before 1
conditions = record {
  of_client = refl;
  is_idle = computed.idle_there;
  few_letters = omega (arith, ap length computed.letters_there);
  numbers_left = omega (arith, computed.used_there, computed.units_there);
  epoch_left = omega (arith, computed.epoch_there);
  set_works =
      subst (λ (sets : List (List ℕ)). (k : ℕ) → k < length sets → WorkingUnit before.stopped (get_or sets k [])) (sym computed.sets_there)
      (subst (λ (stopped : List Bool). (k : ℕ) → k < 1 → WorkingUnit stopped (get_or ((1 ∷ 2 ∷ []) ∷ []) k [])) (sym computed.stopped_there) works);
}

-- units 1 and 2 work, and none is named
named : (u : ℕ) → (u in? (1 ∷ 2 ∷ [])) ≡ true → (u in? []) ≡ not (running (replicate 8 false) u)
unfolding ◌in?◌
named u i = ⊎_elim (of 1 refl) (λ rest. ⊎_elim (of 2 refl) (λ none. absurd (in_none u none)) (in_cases u 2 [] rest)) (in_cases u 1 (2 ∷ []) i)
  where
    of : (v : ℕ) → (v in? []) ≡ not (running (replicate 8 false) v) → u ≡ v → (u in? []) ≡ not (running (replicate 8 false) u)
    of v so e = subst (λ (z : ℕ). (z in? []) ≡ not (running (replicate 8 false) z)) (sym e) so

drops_stopped : DropsStopped before reorganise
unfolding units_of used_from in_sets ◌in?◌
drops_stopped = record {
  is_reorganise = refl;
  drops_few = omega arith;
  drops_within = λ u i. absurd (in_none u i);
  drops_are =
      subst (λ (sets : List (List ℕ)). (u : ℕ) → (u in? units_of sets) ≡ true → (u in? []) ≡ not (running before.stopped u)) (sym computed.sets_there)
      (subst (λ (stopped : List Bool). (u : ℕ) → (u in? (1 ∷ 2 ∷ [])) ≡ true → (u in? []) ≡ not (running stopped u)) (sym computed.stopped_there) named);
  without_range = refl;
}

-- ---- so it is shut out

abbrev count : World → ℕ
count w = w.sequencer.next.0

abbrev written_up_to : World → ℕ
written_up_to w = largest_written w (units_of (lay_of w.held).sets)

pub count_from_the_edge : ¬ LastSentence from_edge l
count_from_the_edge s =
    let r = s.reorganises stray conditions drops_stopped in
    let there : afterwards ≡ r.done.world = goes_world l stray refl r.goes in
    let z : ◌≡◌ {A = ℕ} 6 0 = sym computed.counted ∙ (ap count there ∙ (r.counts_on ∙ (sym (ap written_up_to there) ∙ computed.none_written))) in
    omega (arith, z)
