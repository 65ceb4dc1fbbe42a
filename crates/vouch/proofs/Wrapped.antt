-- Steps made by wrapping the rule's: one that reports another outcome goes through the same yards as the rule, and what was computed of the rule's run serves for it.
-- Rests on specs/Demand.
use mathlib.Core.Path.{◌≡◌, refl, sym, ap, ◌∙◌}
use mathlib.Core.Bool.{Bool, true, false, ◌&&◌, ◌||◌}
use Prim.Native.Nat.{ℕ, ◌≤◌}
use native.Mathlib.Omega.{arith}
use Rattle.num.proofs.Tests.{false_true}
use Rattle.layout.specs.declared.Layout.{Layout}
use Rattle.client.specs.declared.Page.{Page}
use Rattle.client.specs.declared.state.Job.{Job}
use Rattle.client.specs.declared.Outcome.{Outcome}
use Rattle.rule.specs.declared.Letter.{Letter}
use Rattle.rule.specs.declared.Step.{Step}
use Rattle.rule.specs.declared.Step.TheVariants.{Begin, Deliver, Drop, Stop, Restart, GiveUp, Forget}
use Rattle.rule.specs.World.{World, letter_at}
use Rattle.rule.specs.Steps.{step}
use Rattle.vouch.specs.Runs.{Move, Moves, ◌≼◌, Stepping, result, world, world_by}
use Rattle.vouch.specs.Runs.Moves.{none, ◌▸◌}
use Rattle.vouch.specs.Runs.◌≼◌.{all_of, part_of}
use Rattle.vouch.specs.Operations.{done, outcome, Begins, Leaves, UnderWay, Ends, Asked}
use Rattle.vouch.specs.Operations.UnderWay.{begun, still}
use Rattle.vouch.specs.Operations.Ends.{later, at_once}
use Rattle.vouch.specs.Demand.{last_letter, AppendDone, ReadEnds, Delivers, Reaches, InForce}

-- ---- a step that reports another outcome

module _ (g : Outcome → Outcome) where
  abbrev pub reporting : Stepping
  reporting w s j = record { answer = (step w s j).answer; who = (step w s j).who; outcome = g (step w s j).outcome; world = (step w s j).world }

  module _ (l : Layout) where
    same : (ms : Moves) → world_by reporting l ms ≡ world l ms
    unfolding world_by
    same none = refl
    same (ms ▸ m) = ap (λ (w : World). (result w m).world) (same ms)

    pub outcome_is : (ms : Moves) (m : Move) → outcome reporting l ms m ≡ g (result (world l ms) m).outcome
    outcome_is ms m = ap (λ (w : World). g (result w m).outcome) (same ms)

    answer_is : (ms : Moves) (m : Move) → (done reporting l ms m).answer ≡ (result (world l ms) m).answer
    answer_is ms m = ap (λ (w : World). (result w m).answer) (same ms)

    who_is : (ms : Moves) (m : Move) → (done reporting l ms m).who ≡ (result (world l ms) m).who
    who_is ms m = ap (λ (w : World). (result w m).who) (same ms)

    pub begins_so : {ms : Moves} {m : Move} {c : ℕ} {j : Job} → Begins step l ms m c j → Begins reporting l ms m c j
    begins_so {ms} {m} b = record { does_begin = b.does_begin; job_is = b.job_is; not_refused = answer_is ms m ∙ b.not_refused }

    under_so : {c : ℕ} {j : Job} {ms : Moves} → UnderWay step l c j ms → UnderWay reporting l c j ms
    under_so (begun {ms = ms} {m} b not_ended) = begun (begins_so b) (λ e. not_ended (sym (who_is ms m) ∙ e))
    under_so (still {ms = ms} {m} way leaves) =
        still (under_so way) (record { not_ended = λ e. leaves.not_ended (sym (who_is ms m) ∙ e); not_restarted = λ is e. leaves.not_restarted is (sym (answer_is ms m) ∙ e) })

    ends_so : {ms : Moves} {m : Move} {c : ℕ} {j : Job} → Ends step l ms m c j → Ends reporting l ms m c j
    ends_so {ms} {m} (later way who) = later (under_so way) (who_is ms m ∙ who)
    ends_so {ms} {m} (at_once b who) = at_once (begins_so b) (who_is ms m ∙ who)

    pub read_so : {ms : Moves} {m : Move} {p : ℕ} → ReadEnds step l ms m p → ReadEnds reporting l ms m p
    read_so read =
        record { client = read.client; job = read.job; ends = ends_so read.ends; position = read.position; is_read = read.is_read; position_is = read.position_is }

    -- o: the outcome that the rule reports
    pub append_so : {ms : Moves} {m : Move} {p : ℕ} {X : Page} (o : Outcome) → (result (world l ms) m).outcome ≡ o → (g o).number ≡ 0 → (g o).position.0 ≡ p → AppendDone step l ms m p X →
        AppendDone reporting l ms m p X
    append_so {ms} {m} o is number position append =
        let out : outcome reporting l ms m ≡ g o = outcome_is ms m ∙ ap g is in
        record {
          client = append.client;
          job = append.job;
          ends = ends_so append.ends;
          for_append = append.for_append;
          number_is = ap (λ (x : Outcome). x.number) out ∙ number;
          position_is = ap (λ (x : Outcome). x.position.0) out ∙ position;
          page_is = append.page_is;
        }

    delivers_so : {ms : Moves} {m : Move} {k : Letter} → Delivers step l ms m k → Delivers reporting l ms m k
    delivers_so {ms} {m} d = record {
      place = d.place;
      keep = d.keep;
      keep_answer = d.keep_answer;
      is_delivery = d.is_delivery;
      letter_is = ap (λ (w : World). letter_at w d.place) (same ms) ∙ d.letter_is;
      not_refused = answer_is ms m ∙ d.not_refused;
    }

    pub reaches_so : {ms₁ ms : Moves} {m₁ m : Move} {p e : ℕ} → Reaches step l ms₁ m₁ ms m p e → Reaches reporting l ms₁ m₁ ms m p e
    unfolding delivers_so
    reaches_so {ms₁} {ms} {m₁} {m} r =
        let d = r.takes in
        record {
          earlier = r.earlier;
          request = r.request;
          brings = delivers_so r.brings;
          unit = r.unit;
          epoch = r.epoch;
          position = r.position;
          asks = r.asks;
          epoch_is = r.epoch_is;
          position_is = r.position_is;
          answer_kept = r.answer_kept;
          takes = record {
            place = d.place;
            keep = d.keep;
            keep_answer = d.keep_answer;
            is_delivery = d.is_delivery;
            letter_is = ap (λ (w : World). letter_at w d.place) (same ms) ∙ (d.letter_is ∙ ap last_letter (sym (same (ms₁ ▸ m₁))));
            not_refused = answer_is ms m ∙ d.not_refused;
          };
        }

    pub in_force_so : (ms : Moves) {e : ℕ} → InForce step l ms e → InForce reporting l ms e
    in_force_so ms is = ap (λ (w : World). w.held.epoch.0) (same ms) ∙ is

-- ---- what was asked stands among the moves

abbrev is_begin : Step → Bool
is_begin (Begin c) = true
is_begin (Deliver i keep keep_answer) = false
is_begin (Drop i) = false
is_begin (Stop u) = false
is_begin (Restart c) = false
is_begin (GiveUp c) = false
is_begin Forget = false

-- a begin of a job that meets the test
unfoldable pub some_begin : (Job → Bool) → Moves → Bool
some_begin test none = false
some_begin test (ms ▸ m) = (is_begin m.does && test m.job) || some_begin test ms

pub asked_among : {f : Stepping} {l : Layout} {ms : Moves} {j : Job} (test : Job → Bool) → Asked f l ms j → test j ≡ true → some_begin test ms ≡ true
unfolding some_begin
asked_among {f} {l} {j = j} test a yes_test = go a.within
  where
    here : (is_begin a.move.does && test a.move.job) ≡ true
    here = rw (ap is_begin a.begins.does_begin, ap test a.begins.job_is) yes_test

    first : (x y : Bool) → x ≡ true → (x || y) ≡ true
    first true y e = refl
    first false y e = absurd (false_true e)

    second : (x y : Bool) → y ≡ true → (x || y) ≡ true
    second true y e = refl
    second false y e = e

    go : {ms : Moves} → a.before ▸ a.move ≼ ms → some_begin test ms ≡ true
    go all_of = first (is_begin a.move.does && test a.move.job) (some_begin test a.before) here
    go (part_of {ms₂ = ms₂} {m} part) = second (is_begin m.does && test m.job) (some_begin test ms₂) (go part)

-- an operation under way was asked for
pub under_asked : {f : Stepping} {l : Layout} {c : ℕ} {j : Job} {ms : Moves} → UnderWay f l c j ms → Asked f l ms j
under_asked {c = c} (begun {ms = ms} {m} b not_ended) = record { before = ms; move = m; within = all_of; client = c; begins = b }
under_asked (still way leaves) = let a = under_asked way in record { before = a.before; move = a.move; within = part_of a.within; client = a.client; begins = a.begins }

-- ---- a move that goes on, in a run that is computed

pub goes_on_lem : {f : Stepping} {l : Layout} {ms : Moves} {c : ℕ} (m : Move) → 1 ≤ c → ((k : ℕ) → ¬ (m.does ≡ Restart k)) → (done f l ms m).who ≡ 0 → Leaves f l ms m c
goes_on_lem {c = c} m low clash nobody = record { not_ended = λ e. omega (arith, nobody, e); not_restarted = λ is. absurd (clash c is) }
