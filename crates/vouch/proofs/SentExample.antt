-- Two runs in a yard with a set of four, so that the bounds of specs/Sent are met: after a prune to 7 an append meets seven heads that fail it and sends 20 requests;
-- after a prune to 8 it meets eight, and ends with 17.
-- Rests on the rules, computed.
use mathlib.Core.Path.{◌≡◌, refl}
use mathlib.Core.Bool.{Bool, true}
use mathlib.Core.List.{[], ◌∷◌}
use Prim.Native.Nat.{ℕ, zero, suc, ◌+◌}
use lib.ListN.{replicate}
use Rattle.layout.specs.declared.Layout.{Layout}
use Rattle.layout.specs.Lay.{Lay, rising, good_set, good_sets, good_spans, first_at_zero, used, good, ◌in?◌, in_sets, used_from, units_of}
use Rattle.layout.specs.Value.{padded, lay_of, value_of, zeros, tidy_chain, tidy_chains, blank_ranges, tidy, good_value}
use Rattle.layout.specs.Places.{placed, set_number, set_at, head_of, tail_of, after, above, place_answer, units_at}
use Rattle.layout.specs.Holder.{fetched_from}
use Rattle.unit.specs.Shape.{shape_for}
use Rattle.unit.specs.State.{lookup, insert, keep_from}
use Rattle.unit.specs.Kinds.{is_page, has_bytes, is_gone}
use Rattle.unit.specs.Unit.{written, pruned, pruned_to, says as unit_says_lem, after as unit_after_lem, report}
use Rattle.sequencer.specs.Rules.{number, position, told, after as sequencer_after}
use Rattle.client.specs.declared.Work.TheVariants.{Append, Prune}
use Rattle.client.specs.declared.state.Job.{Job}
use Rattle.client.specs.declared.Outcome.{Outcome}
use Rattle.client.specs.Message.{no_page, no_refusal, data_limit}
use Rattle.client.specs.Client.{idle, job_of, append_of}
use Rattle.client.specs.Turn.{ends, sends, otherwise}
use Rattle.client.specs.Append.{writes_at, writes_on, not_at_head, not_later, not_written}
use Rattle.client.specs.Trim.{prunes_on}
use Rattle.client.specs.Begin.{begin_turn}
use Rattle.client.specs.Take.{holds, works_on, awaited, takes}
use Rattle.rule.specs.Steps.{without, turned, begin_number, begins, served, taken, delivered, delivers, step}
use Rattle.rule.specs.Serve.{kind_of, bytes_of, page_of, asking, fetching, unit_says, unit_after, serve}
use Rattle.rule.specs.Fresh.{fresh_units, fresh_world}
use Rattle.vouch.specs.Runs.{Move, Moves, result, world, world_by}
use Rattle.vouch.specs.Runs.Moves.{none, ◌▸◌}
use Rattle.vouch.specs.Sent.{one, fails}
use Rattle.vouch.proofs.RunExample.{deliver, begin}

-- one set, of units 1 to 4
abbrev pub lay : Lay
lay = record { epoch = 1; shape = 0; sets = (1 ∷ 2 ∷ 3 ∷ 4 ∷ []) ∷ []; spans = record { start = 0; uses = 1 } ∷ [] }

abbrev pub l : Layout
l = value_of lay

-- n deliveries more
abbrev pub times : ℕ → Moves → Moves
times zero ms = ms
times (suc n) ms = times n ms ▸ deliver

-- client 1 has pruned to p: a fetch and four units. Then it appends
abbrev pub appending : ℕ → Moves
appending p = times 10 (none ▸ begin 1 (job_of (Prune (record { 0 = p })))) ▸ begin 1 (append_of 1 (7 ∷ replicate 79 0))

-- how many of the moves are such
abbrev pub all : (Moves → Move → Bool) → Moves → ℕ
all such none = 0
all such (ms ▸ m) = all such ms + one (such ms m)

abbrev pub over : ℕ → ℕ → Outcome
over number sent = record { number = number; position = record { 0 = 7 }; epoch = record { 0 = 1 }; page = no_page; work = Append; sent = sent }

pub record Ran : Type 0 where
  pub l_is_good : good_value l ≡ true
  -- a fetch, eight tokens, seven failed heads, four units
  pub twenty : (result (world l (times 39 (appending 7))) deliver).outcome ≡ over 0 20
  -- a fetch, eight tokens, eight failed heads
  pub seventeen : (result (world l (times 33 (appending 8))) deliver).outcome ≡ over 5 17
  pub eight_heads_lem : all (fails step l 1) (times 34 (appending 8)) ≡ 8

-- by the rules, computed
pub computed : Ran
unfolding padded lay_of value_of zeros tidy_chain tidy_chains blank_ranges tidy good_value rising good_set good_sets good_spans first_at_zero used good ◌in?◌ in_sets used_from units_of placed set_number set_at head_of tail_of after above place_answer units_at fetched_from lookup insert keep_from written pruned pruned_to number position told sequencer_after idle sends otherwise no_refusal data_limit shape_for writes_at writes_on not_at_head not_later not_written prunes_on begin_turn holds works_on awaited takes without turned begin_number begins served taken delivered delivers step kind_of bytes_of page_of asking fetching unit_says unit_after serve fresh_units fresh_world world_by is_page has_bytes is_gone unit_says_lem unit_after_lem report
computed = record { l_is_good = refl; twenty = refl; seventeen = refl; eight_heads_lem = refl }
