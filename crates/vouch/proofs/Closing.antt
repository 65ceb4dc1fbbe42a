-- Demand 3's last sentence of every run of the yard, with no hypothesis but its conditions.
-- Rests on Again, Soundness and Stated.
use mathlib.Core.Path.{◌≡◌, sym, subst}
use mathlib.Core.Bool.{true}
use Prim.Native.Nat.{ℕ, ◌≤◌, ◌<◌}
use Rattle.num.specs.Limits.{limit}
use Rattle.num.specs.declared.Position.{Position}
use Rattle.layout.specs.declared.Layout.{Layout}
use Rattle.layout.specs.Value.{lay_of, good_value}
use Rattle.layout.specs.Places.{set_at, head_of}
use Rattle.layout.proofs.ValueOf.{value_of_good}
use Rattle.unit.specs.declared.shape.Shape.{Shape}
use Rattle.unit.specs.State.{State}
use Rattle.unit.proofs.Shown.{shown, shown_limit}
use Rattle.client.specs.declared.Page.{Page}
use Rattle.client.specs.declared.Work.TheVariants.{Reorganise}
use Rattle.client.specs.declared.state.Job.{Job}
use Rattle.rule.specs.World.{World, shape_under, unit_at}
use Rattle.rule.specs.Steps.{step}
use Rattle.rule.proofs.Lists.{client_range}
use Rattle.history.specs.Words.{UnitNo, Pos}
use Rattle.history.specs.Words.{Page as Noted}
use Rattle.history.specs.Maps.{Map, Serves}
use Rattle.history.specs.History.{History, MarkedBy, held}
use Rattle.history.specs.History.Mark.{page}
use Rattle.history.specs.Events.{Run}
use Rattle.history.specs.Safety.{Answers, Settled}
use Rattle.vouch.proofs.Layouts.{map_of}
use Rattle.vouch.specs.Runs.{Move, Moves, ◌≼◌, world}
use Rattle.vouch.specs.Runs.Moves.{◌▸◌}
use Rattle.vouch.specs.Demand.{AppendDone}
use Rattle.vouch.specs.LastSentence.{Conditions, DropsStopped, Reorganised, Again, LastSentence}
use Rattle.history.proofs.Epochs.{laid_by, held_laid}
use Rattle.history.proofs.Settled.{settled_later}
use Rattle.vouch.proofs.GoodMap.{good_map, unit_within}
use Rattle.vouch.proofs.Walks.{head_serves}
use Rattle.vouch.proofs.UnitIs.{UnitIs}
use Rattle.vouch.proofs.Untouched.{not_marked}
use Rattle.vouch.proofs.Writing.{empty_answers}
use Rattle.vouch.proofs.Coming.{come, outcome_of_lem}
use Rattle.vouch.proofs.Stated.{append_fields}
use Rattle.vouch.proofs.Forward.{Sound}
use Rattle.vouch.proofs.LastSentence.{reorganised}
use Rattle.vouch.proofs.Again.{again}
use Rattle.vouch.proofs.Soundness.{sound_of, stopped_long}

-- a unit that a page is marked at has it below 2^40
marked_below : {sh : Shape} {h : History} {u : UnitNo} {M : State} {p : Pos} {X : Noted} {e : ℕ} → UnitIs sh h u M → MarkedBy h u p (page X) e → p < limit
marked_below {sh} {h} {u} {M} {p} is mark =
    shown_limit sh M p is.stays_valid (λ z. not_marked (subst (λ r. Answers h u p r) (empty_answers (shown M p) z) (is.shown_is p)) _ _ mark.marked)

settled_below : {h : History} (w : World) {L : Map} {p : Pos} {X : Noted} → Run h → held h ≡ map_of (lay_of w.held) → good_value w.held ≡ true →
    ((u : UnitNo) → 1 ≤ u → u ≤ 8 → UnitIs (shape_under w.held) h u (unit_at w u)) → Settled h L p (page X) → p < limit
settled_below {h} w {L} {p} {X} run holds good units settled =
    let lay_good = (value_of_good w.held good).0 in
    let u = head_of (set_at (lay_of w.held) p) in
    let serves = head_serves (lay_of w.held) lay_good p in
    let range = unit_within (lay_of w.held) ((good_map (lay_of w.held) lay_good).set_within p u serves) in
    let now = settled_later run (held_laid run) (laid_by run settled.laid) settled in
    marked_below (units u range.0 range.1) (now.all u (subst (λ (m : Map). Serves m p u) (sym holds) serves))

module _ (l : Layout) (good : good_value l ≡ true) (first : l.epoch.0 ≡ 1) where
  pub sound_at : (ms : Moves) → Sound (world l ms)
  sound_at ms =
      let g = (come l good first ms).good in
      sound_of g.machines.run g.machines.held_is g.machines.held_good g.machines.sequencer_low g.machines.units_long g.machines.units g.clients_long (stopped_long l ms)

  appended_below : {ms : Moves} {m : Move} {p : Pos} {X : Page} → AppendDone step l ms m p X → p < limit
  appended_below {ms} {m} {p} append =
      let done = append_fields l good first append in
      let range = client_range done.client done.ends.of_client in
      let ok = (outcome_of_lem l good first ms m done.client range.0 range.1 done.ends.who_is).append_done done.ends.work_is done.number_is in
      let g = (come l good first (ms ▸ m)).good in
      let lt = settled_below (world l (ms ▸ m)) g.machines.run g.machines.held_is g.machines.held_good g.machines.units ok.settled in
      subst (λ q. q < limit) done.position_is lt

  -- a reorganise is known by what it is asked
  same_job : {w : World} (j : Job) → DropsStopped w j → record { work = Reorganise; len = j.len; bytes = j.bytes; change = j.change } ≡ j
  same_job j drops = λ i. record { work = sym drops.is_reorganise i; len = j.len; bytes = j.bytes; change = j.change }

  again_so : {ms₀ ms : Moves} {m₀ : Move} {c : ℕ} {j : Job} {p : Position} {X : Page} → AppendDone step l ms₀ m₀ p.0 X → (ms₀ ▸ m₀) ≼ ms →
      Conditions (world l ms) c → DropsStopped (world l ms) j → Again step l ms c j p X
  again_so {ms = ms} {c = c} {j} {p} {X} append before may drops =
      subst (λ (k : Job). Again step l ms c k p X) (same_job j drops) (again l good first ms c (sound_at ms) may j drops p (appended_below append) append before)

  reorganises_so : (ms : Moves) {c : ℕ} {j : Job} → Conditions (world l ms) c → DropsStopped (world l ms) j → Reorganised step (world l ms) c j
  reorganises_so ms {c} {j} may drops =
      subst (λ (k : Job). Reorganised step (world l ms) c k) (same_job j drops) (reorganised (world l ms) c (sound_at ms) may j drops)

  -- "If each set still has a working unit, one undisturbed reorganise that drops the stopped ones makes the page answerable again."
  pub last_sentence : LastSentence step l
  last_sentence = record { reorganises = reorganises_so; answerable_again = again_so }
