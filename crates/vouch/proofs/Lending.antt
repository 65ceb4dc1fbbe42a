-- A run starts at what making a fresh yard leaves (`lent_first`), and goes from what one step leaves to the next (`lent_next`).
-- No step of a run is refused for what it is lent, and the yard that is lent is the run's: `lends`.
-- Rests on Coming, Numbered and the rule's laws.
use mathlib.Core.Path.{◌≡◌, refl, sym, ap, subst, ◌∙◌}
use mathlib.Core.Bool.{true, not, ◌||◌}
use Prim.Native.Nat.{ℕ, ◌+◌, ◌-◌, ◌<◌}
use native.Mathlib.Omega.{arith}
use mathlib.Core.List.{List}
use lib.ListN.{length, get_or}
use Rattle.layout.specs.declared.Layout.{Layout}
use Rattle.layout.specs.Value.{good_value}
use Rattle.unit.specs.Memory.{good}
use Rattle.unit.specs.Unit.{fresh_unit}
use Rattle.sequencer.specs.declared.Sequencer.{Sequencer}
use Rattle.client.specs.declared.Client.{Client}
use Rattle.client.specs.declared.Stage.{Stage}
use Rattle.client.specs.declared.Stage.TheVariants.{Idle, Fetching, Working}
use Rattle.client.specs.Client.{fresh}
use Rattle.rule.specs.declared.Letter.{Letter}
use Rattle.rule.specs.World.{shape_under, unit_at, client_at}
use Rattle.rule.specs.Lent.{Lent, Outcomes, fetched, lent_number, seen, laid, left, done, steps}
use Rattle.rule.specs.Fresh.{fresh_world, fresh_lent, fresh_number_of, fresh_number, makes}
use Rattle.rule.proofs.Leaving.{Fit, HoldsGood, Lendable, Room, all_from, left_room, left_seen, left_number}
use Rattle.history.specs.History.{History}
use Rattle.vouch.specs.Runs.{Move, Moves, result, world, world_by}
use Rattle.vouch.specs.Runs.Moves.{none, ◌▸◌}
use Rattle.vouch.specs.Lending.{lent, stepped, Lends}
use Rattle.vouch.proofs.Meaning.{StageOk}
use Rattle.vouch.proofs.Walking.{phase_good}
use Rattle.vouch.proofs.Coming.{come}
use Rattle.vouch.proofs.Numbered.{tidy}

-- ---- from move to move

pub lent_first : (l : Layout) (s : Sequencer) (table : List Letter) (m : List ℕ) → fresh_number_of l (length table) (length m) ≡ 0 → makes l s table m ≡ lent l none
unfolding makes fresh_number lent
lent_first l s table m fine = rw fine

pub lent_next : (l : Layout) (ms : Moves) (m : Move) → lent l (ms ▸ m) ≡ (stepped l ms m).lent
unfolding lent
lent_next l ms m = refl

-- ---- clients

stage_good : (h : History) (c : Client) (st : Stage) → StageOk h c st → (not (fetched st) || good_value c.layout) ≡ true
stage_good h c Idle ok = refl
stage_good h c Fetching ok = refl
stage_good h c (Working p) ok = phase_good h c p ok

-- ---- every run

module _ (l : Layout) (good_layout : good_value l ≡ true) (first : l.epoch.0 ≡ 1) where
  pub lendable : (ms : Moves) → Lendable (world l ms)
  lendable ms =
      let w = world l ms in
      let c = come l good_layout first ms in
      let t = tidy l ms in
      record {
        units_fit = all_from (Fit (shape_under w.held)) fresh_unit 8 1 w.units t.eight (λ i lt. unit i lt);
        eight = t.eight;
        held_good = c.good.machines.held_good;
        clients_fit = all_from HoldsGood (λ k. fresh) 4 1 w.clients c.good.clients_long (λ i lt. client i lt);
        few = t.few;
      }
    where
      unit : (i : ℕ) → i < 8 → Fit (shape_under (world l ms).held) (1 + i) (get_or (world l ms).units i (fresh_unit (1 + i)))
      unit i lt =
          let at : 1 + i - 1 ≡ i = omega arith in
          let fit : Fit (shape_under (world l ms).held) (1 + i) (unit_at (world l ms) (1 + i))
          = record {
            stays_valid = ((come l good_layout first ms).good.machines.units (1 + i) (omega arith) (omega arith)).stays_valid;
            number_is = (tidy l ms).numbers (1 + i) (omega arith) (omega arith);
          } in
          subst (λ j. Fit (shape_under (world l ms).held) (1 + i) (get_or (world l ms).units j (fresh_unit (1 + i)))) at fit

      client : (i : ℕ) → i < 4 → HoldsGood (1 + i) (get_or (world l ms).clients i fresh)
      client i lt =
          let at : 1 + i - 1 ≡ i = omega arith in
          let c = client_at (world l ms) (1 + i) in
          subst (λ j. HoldsGood (1 + i) (get_or (world l ms).clients j fresh)) at
          (stage_good (come l good_layout first ms).now c c.stage ((come l good_layout first ms).good.stages (1 + i) (omega arith) (omega arith)))

  -- what is lent is what a step left of the run's yard
  record Left (ms : Moves) : Type 0 where
    before : Lent
    room : Room before
    lent_is : lent l ms ≡ left before (world l ms)

  -- so the next step sees that yard
  steps_are : (ms : Moves) (m : Move) → Left ms → steps (lent l ms) m.does m.job ≡ done (lent l ms) (result (world l ms) m)
  unfolding steps
  steps_are ms m is =
      let zero_number : lent_number (lent l ms) ≡ 0 = ap lent_number is.lent_is ∙ left_number is.before is.room (world l ms) (lendable ms) in
      let sees : seen (lent l ms) ≡ world l ms = ap seen is.lent_is ∙ left_seen is.before is.room (world l ms) (lendable ms) in
      rw (zero_number, sees)

  is_left : (ms : Moves) → Left ms
  unfolding lent world_by fresh_lent fresh_world left laid done
  is_left none = record {
    before = fresh_lent l;
    room = record { long = refl; count = omega arith };
    lent_is = refl;
  }
  is_left (ms ▸ m) =
      let was = is_left ms in
      record {
        before = lent l ms;
        room = subst Room (sym was.lent_is) (left_room was.before was.room (world l ms) (lendable ms));
        lent_is = ap (λ (o : Outcomes). o.lent) (steps_are ms m was);
      }

  -- The public step never meets anything but the run's yard.
  pub lends : (ms : Moves) → Lends l ms
  unfolding done
  lends ms =
      let is = is_left ms in
      record {
        not_refused = ap lent_number is.lent_is ∙ left_number is.before is.room (world l ms) (lendable ms);
        seen_is = ap seen is.lent_is ∙ left_seen is.before is.room (world l ms) (lendable ms);
        answer_is = λ m. ap (λ (o : Outcomes). o.stepped.answer) (steps_are ms m is);
        who_is = λ m. ap (λ (o : Outcomes). o.stepped.who) (steps_are ms m is);
        outcome_is = λ m. ap (λ (o : Outcomes). o.stepped.outcome) (steps_are ms m is);
        yard_is = λ m. ap (λ (o : Outcomes). o.stepped.yard) (steps_are ms m is) ∙ sym (ap (λ (o : Outcomes). o.lent.yard) (steps_are ms m is));
      }
