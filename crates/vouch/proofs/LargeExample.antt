-- The same in a yard of large units: client 1 appends 80 bytes, which is done at 0, and client 2 reads them there. In a yard of small units that append is refused with 3.
-- Rests on RunExample and on the rules, computed.
use mathlib.Core.Path.{◌≡◌, refl, subst}
use mathlib.Core.Bool.{true}
use mathlib.Core.List.{List, [], ◌∷◌}
use Prim.Native.Nat.{ℕ}
use lib.ListN.{replicate}
use Rattle.layout.specs.declared.Layout.{Layout}
use Rattle.layout.specs.Lay.{rising, good_set, good_sets, good_spans, first_at_zero, used, good}
use Rattle.layout.specs.Value.{padded, lay_of, value_of, zeros, tidy_chain, tidy_chains, blank_ranges, tidy, good_value}
use Rattle.layout.specs.Places.{placed, set_number, set_at, head_of, tail_of, after, place_answer, units_at}
use Rattle.layout.specs.Holder.{fetched_from}
use Rattle.unit.specs.Shape.{large, shape_for}
use Rattle.unit.specs.State.{lookup, insert}
use Rattle.unit.specs.Kinds.{is_page, has_bytes, is_gone}
use Rattle.unit.specs.Unit.{written, says as unit_says_lem, after as unit_after_lem, report}
use Rattle.sequencer.specs.Rules.{number, position, told, after as sequencer_after}
use Rattle.client.specs.declared.Work.TheVariants.{Read}
use Rattle.client.specs.declared.state.Job.{Job}
use Rattle.client.specs.declared.Page.{Page}
use Rattle.client.specs.Message.{is_showable, data_limit}
use Rattle.rule.specs.World.{client_at}
use Rattle.client.specs.Client.{idle, job_of, append_of}
use Rattle.client.specs.Turn.{ends, sends}
use Rattle.client.specs.Append.{writes_at, writes_on}
use Rattle.client.specs.Begin.{begin_turn}
use Rattle.client.specs.Read.{page_taken}
use Rattle.client.specs.Take.{holds, works_on, awaited, takes}
use Rattle.rule.specs.Steps.{without, turned, begin_number, begins, served, taken, delivered, delivers, step}
use Rattle.rule.specs.Serve.{kind_of, bytes_of, page_of, page_shown, asking, fetching, unit_says, unit_after, serve}
use Rattle.rule.specs.Fresh.{fresh_units, fresh_world}
use Rattle.history.specs.Words.Page.{bytes}
use Rattle.history.specs.Words.Answer.{shows}
use Rattle.vouch.specs.Runs.{Moves, result, world, world_by}
use Rattle.vouch.specs.Runs.Moves.{none, ◌▸◌}
use Rattle.vouch.specs.Pages.{data_page}
use Rattle.vouch.specs.Demand.{AppendDone, ReadEnds}
use Rattle.vouch.specs.Shapes.{Vouched}
use Rattle.vouch.proofs.Fields as fields
use Rattle.vouch.proofs.Fields.Returns.{returns_page}
use Rattle.vouch.proofs.Stated.{append_stated, read_stated}
use Rattle.vouch.proofs.RunExample.{l as small_layout, deliver, begin}
use Rattle.vouch.proofs.Shapes.{large_yard}

-- one set, of units 1 and 2
abbrev l : Layout
l = value_of (record { epoch = 1; shape = 1; sets = (1 ∷ 2 ∷ []) ∷ []; spans = record { start = 0; uses = 1 } ∷ [] })

abbrev record_80 : List ℕ
record_80 = replicate 80 7

abbrev append_80 : Job
append_80 = append_of 80 record_80

-- layout, token, head, tail: the last delivery ends it
abbrev appending : Moves
appending = none ▸ begin 1 append_80 ▸ deliver ▸ deliver ▸ deliver ▸ deliver ▸ deliver ▸ deliver ▸ deliver

-- layout, tail
abbrev reading : Moves
reading = appending ▸ deliver ▸ begin 2 (job_of (Read (record { 0 = 0 }))) ▸ deliver ▸ deliver ▸ deliver

abbrev page_80 : Page
page_80 = data_page 80 record_80

record Ran : Type 0 where
  l_is_good : good_value l ≡ true
  append_ran : fields.AppendDone l appending deliver 0 (bytes record_80)
  append_page : (client_at (world l appending) append_ran.client).page ≡ page_80
  read_ran : fields.ReadEnds l reading deliver 0 1 (shows (bytes record_80))
  read_returns : (result (world l reading) deliver).outcome.page ≡ page_80
  refused : (result (world small_layout none) (begin 1 append_80)).answer ≡ 3

-- by the rules, computed
computed : Ran
unfolding padded lay_of value_of zeros tidy_chain tidy_chains blank_ranges tidy good_value rising good_set good_sets good_spans first_at_zero used good placed set_number set_at head_of tail_of after place_answer units_at fetched_from shape_for lookup insert written number position told sequencer_after idle sends data_limit writes_at writes_on begin_turn holds works_on is_showable page_taken awaited takes without turned begin_number begins served taken delivered delivers step kind_of bytes_of asking fetching unit_says unit_after serve fresh_units fresh_world world_by page_of page_shown is_page has_bytes is_gone unit_says_lem unit_after_lem report
computed = record {
  l_is_good = refl;
  append_ran = record {
    client = 1;
    ends = record { of_client = refl; was_busy = refl; work_is = refl; who_is = refl };
    number_is = refl;
    position_is = refl;
    page_is = refl;
  };
  append_page = refl;
  read_ran = record {
    client = 2;
    position = record { 0 = 0 };
    ends = record { of_client = refl; was_busy = refl; work_is = refl; who_is = refl };
    position_is = refl;
    epoch_is = refl;
    returns = returns_page refl;
  };
  read_returns = refl;
  refused = refl;
}

pub append_done : AppendDone step l appending deliver 0 page_80
unfolding value_of
append_done = subst (λ (g : Page). AppendDone step l appending deliver 0 g) computed.append_page (append_stated l computed.l_is_good refl computed.append_ran)

pub read_ends : ReadEnds step l reading deliver 0
unfolding value_of
read_ends = read_stated l computed.l_is_good refl computed.read_ran

pub read_returned : (result (world l reading) deliver).outcome.page ≡ page_80
read_returned = computed.read_returns

-- so all that is vouched for in large yards is vouched for here
pub here : Vouched large l
unfolding value_of
here = large_yard l computed.l_is_good refl refl

-- 3: longer than a small unit's slot holds
pub small_refuses : (result (world small_layout none) (begin 1 append_80)).answer ≡ 3
small_refuses = computed.refused
