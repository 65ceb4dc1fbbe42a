-- Every run of the yard has its history: `come`.
-- Rests on Stepping.
use mathlib.Core.Path.{◌≡◌, refl, sym, ap, subst, ◌∙◌}
use mathlib.Core.Bool.{true}
use Prim.Native.Nat.{ℕ, zero, suc, ◌+◌, ◌-◌, ◌≤◌}
use native.Mathlib.Omega.{arith}
use lib.ListN.{get_or, replicate}
use Rattle.layout.specs.declared.Layout.{Layout}
use Rattle.layout.specs.Value.{lay_of, good_value}
use Rattle.layout.proofs.ValueOf.{value_of_good}
use Rattle.unit.specs.State.{State}
use Rattle.unit.specs.Unit.{fresh_unit}
use Rattle.client.specs.declared.Client.{Client}
use Rattle.client.specs.declared.Stage.{Stage}
use Rattle.client.specs.Client.{fresh as fresh_client}
use Rattle.client.proofs.Clients.{idle_stage}
use Rattle.rule.specs.World.{shape_under, client_at, unit_at}
use Rattle.rule.specs.Fresh.{fresh_units, fresh_world}
use Rattle.history.specs.History.{Note, History, ◌⊑◌, Noted, held}
use Rattle.history.specs.History.History.{fresh}
use Rattle.history.specs.History.◌⊑◌.{here}
use Rattle.history.specs.Events.Run.{run_fresh}
use Rattle.vouch.proofs.Layouts.{map_of}
use Rattle.history.specs.Maps.{Map}
use Rattle.vouch.specs.Runs.{Move, Moves, ◌≼◌, result, world, world_by}
use Rattle.vouch.proofs.Fields.{Asked}
use Rattle.vouch.specs.Runs.Moves.{none, ◌▸◌}
use Rattle.vouch.specs.Runs.◌≼◌.{all_of, part_of}
use Rattle.history.proofs.Moments.{part_trans}
use Rattle.vouch.proofs.GoodMap.{good_map}
use Rattle.vouch.proofs.Untouched.{fresh_is}
use Rattle.vouch.proofs.UnitIs.{UnitIs}
use Rattle.vouch.proofs.Meaning.{StageOk, OutcomeOk}
use Rattle.vouch.proofs.GoodMap.{epoch_of_lem}
use Rattle.rule.proofs.Lists.All.{all_none}
use Rattle.vouch.proofs.Together.{Good, Next, Or}
use Rattle.vouch.proofs.Together.Or.{either, other}
use Rattle.vouch.proofs.Stepping.{step_ok}

-- ---- a fresh yard

pub fresh_unit_lem : (n k i : ℕ) → get_or (fresh_units k n) i (fresh_unit (k + i)) ≡ fresh_unit (k + i)
unfolding fresh_units
fresh_unit_lem zero k i = refl
fresh_unit_lem (suc n) k zero = ap fresh_unit (omega arith)
fresh_unit_lem (suc n) k (suc i) = subst (λ j. get_or (fresh_units (suc k) n) i (fresh_unit j) ≡ fresh_unit j) (omega arith) (fresh_unit_lem n (suc k) i)

pub fresh_client_lem : (n i : ℕ) → get_or (replicate n fresh_client) i fresh_client ≡ fresh_client
fresh_client_lem zero i = refl
fresh_client_lem (suc n) zero = refl
fresh_client_lem (suc n) (suc i) = fresh_client_lem n i

pub fresh_good : (l : Layout) → good_value l ≡ true → l.epoch.0 ≡ 1 → Good l none (fresh (map_of (lay_of l))) (fresh_world l)
unfolding fresh_world fresh_units held
fresh_good l good first = record {
  machines = record {
    run = run_fresh (good_map (lay_of l) (value_of_good l good).0) (epoch_of_lem l ∙ first);
    held_is = refl;
    held_good = good;
    sequencer_low = omega (arith, epoch_of_lem l, first);
    units_long = refl;
    units = unit;
  };
  clients_long = refl;
  stages = stage;
  letters = all_none;
}
  where
    unit : (u : ℕ) → 1 ≤ u → u ≤ 8 → UnitIs (shape_under l) (fresh (map_of (lay_of l))) u (unit_at (fresh_world l) u)
    unit u low high =
        let at : 1 + (u - 1) ≡ u = omega arith in
        let same : unit_at (fresh_world l) u ≡ fresh_unit u = subst (λ j. get_or (fresh_units 1 8) (u - 1) (fresh_unit j) ≡ fresh_unit j) at (fresh_unit_lem 8 1 (u - 1)) in
        subst (λ (M : State). UnitIs (shape_under l) (fresh (map_of (lay_of l))) u M) (sym same) (fresh_is (shape_under l) (map_of (lay_of l)) u low high)

    stage : (c : ℕ) → 1 ≤ c → c ≤ 4 → StageOk (fresh (map_of (lay_of l))) (client_at (fresh_world l) c) (client_at (fresh_world l) c).stage
    stage c low high = subst (λ (d : Client). StageOk (fresh (map_of (lay_of l))) d d.stage) (sym (fresh_client_lem 4 (c - 1)))
        (subst (λ (st : Stage). StageOk (fresh (map_of (lay_of l))) fresh_client st) (sym (idle_stage 1 (record { 0 = 0 }))) tt)

-- ---- every run

-- the history that the moves ms made, and all that was asked in it was asked by a begin among them
pub record Come (l : Layout) (ms : Moves) : Type 0 where
  pub now : History
  pub good : Good l ms now (world l ms)
  pub asked : (n : Note) → Noted now n → Asked l ms n

asked_later : {l : Layout} {ms : Moves} {m : Move} {n : Note} → Asked l ms n → Asked l (ms ▸ m) n
asked_later a = record {
  before = a.before;
  move = a.move;
  within = part_of a.within;
  client = a.client;
  begins = a.begins;
  not_refused = a.not_refused;
  wants = a.wants;
}

not_noted : {L : Map} {n : Note} → ¬ Noted (fresh L) n
not_noted = elim [ ]

module _ (l : Layout) (good : good_value l ≡ true) (first : l.epoch.0 ≡ 1) where
  pub come : (ms : Moves) → Come l ms
  unfolding world_by
  come none = record { now = fresh (map_of (lay_of l)); good = fresh_good l good first; asked = λ n noted. absurd (not_noted noted) }
  come (ms ▸ m) = let next = step_ok l ms m.does m.job (come ms).good in record { now = next.now; good = next.good; asked = λ n noted. join n (next.asked n noted) (λ old. (come ms).asked n old) }
    where
      join : {A : Type 0} (n : Note) → Or A (Asked l (ms ▸ m) n) → (A → Asked l ms n) → Asked l (ms ▸ m) n
      join n (either old) f = asked_later (f old)
      join n (other new) f = new

  -- the move m after ms, and what came of it
  pub next : (ms : Moves) (m : Move) → Next l ms m (come ms).now (world l ms) (result (world l ms) m)
  next ms m = step_ok l ms m.does m.job (come ms).good

  -- an operation that ends vouches for its outcome
  pub outcome_of_lem : (ms : Moves) (m : Move) (c : ℕ) → 1 ≤ c → c ≤ 4 → (result (world l ms) m).who ≡ c →
      OutcomeOk (come (ms ▸ m)).now (client_at (world l ms) c).work (client_at (world l ms) c).page (result (world l ms) m).outcome
  unfolding come next
  outcome_of_lem ms m c low high who = (next ms m).outcome_ok c low high who

  -- an earlier moment of a run has an earlier history
  pub come_part : {ms₁ ms₂ : Moves} → ms₁ ≼ ms₂ → (come ms₁).now ⊑ (come ms₂).now
  unfolding come next
  come_part all_of = here
  come_part (part_of {ms₂ = ms₂} {m} part) = part_trans (come_part part) (next ms₂ m).part
