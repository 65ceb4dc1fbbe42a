-- A yard that a history made is sound; and there are eight marks of stopped units after any moves.
-- Rests on Forward, UnitIs and Epochs.
use mathlib.Core.Path.{◌≡◌, refl, ap, ◌∙◌}
use mathlib.Core.Bool.{Bool, true, false, cond}
use mathlib.Core.List.{List, ◌++◌}
use Prim.Native.Nat.{ℕ, ◌-◌, ◌≤◌}
use native.Mathlib.Omega.{arith}
use lib.Dec.{eqb, ltb}
use lib.ListN.{length, length-set}
use Rattle.layout.specs.declared.Layout.{Layout}
use Rattle.layout.specs.Value.{lay_of, good_value}
use Rattle.client.specs.declared.state.Job.{Job}
use Rattle.client.specs.Take.{takes}
use Rattle.rule.specs.declared.Body.{Body}
use Rattle.rule.specs.declared.Body.TheVariants.{Blank, Asks, Answers}
use Rattle.rule.specs.declared.Letter.{Letter}
use Rattle.rule.specs.declared.Step.{Step}
use Rattle.rule.specs.declared.Step.TheVariants.{Begin, Deliver, Drop, Stop, Restart, GiveUp, Forget}
use Rattle.rule.specs.World.{World, shape_under, is_client, running, client_at, unit_at, letter_at}
use Rattle.rule.specs.Serve.{serve}
use Rattle.rule.specs.Steps.{Done, refused, fine, keeping, too_many, with_letters, sent_by, turned, begin_number, begins, answers, served, taken, unbrought, brought, delivered, delivers, drops, stops, restart_number, restarts, gives_up, forgets, response, step}
use Rattle.rule.specs.Fresh.{fresh_world}
use Rattle.rule.proofs.Serving.{serve_stopped}
use Rattle.history.specs.Words.{UnitNo}
use Rattle.history.specs.History.{History, held}
use Rattle.history.specs.Events.{Run}
use Rattle.history.specs.Maps.{Map}
use Rattle.vouch.proofs.Layouts.{map_of}
use Rattle.vouch.specs.Runs.{Moves, world, world_by}
use Rattle.vouch.specs.Runs.Moves.{none, ◌▸◌}
use Rattle.history.proofs.Epochs.{sealed_to}
use Rattle.vouch.proofs.UnitIs.{UnitIs}
use Rattle.vouch.proofs.Forward.{Sound}

-- ---- from a history

pub sound_of : {h : History} {w : World} → Run h → held h ≡ map_of (lay_of w.held) → good_value w.held ≡ true → w.sequencer.epoch.0 ≤ (held h).epoch →
    length w.units ≡ 8 → ((u : UnitNo) → 1 ≤ u → u ≤ 8 → UnitIs (shape_under w.held) h u (unit_at w u)) → length w.clients ≡ 4 → length w.stopped ≡ 8 → Sound w
unfolding lay_of
sound_of {h} {w} run holds good low eight_units units four eight_stopped =
    let same : (held h).epoch ≡ w.held.epoch.0 = ap (λ (m : Map). m.epoch) holds in
    record {
      held_good = good;
      four_clients = four;
      eight_stopped = eight_stopped;
      eight_units = eight_units;
      unit_valid = λ u a b. (units u a b).stays_valid;
      unit_low = λ u a b. omega (arith, same, (units u a b).sealed_is, sealed_to run u);
      sequencer_low = omega (arith, same, low);
    }

-- ---- the stopped units

-- neither of two ends changes their number
either_end : (n : ℕ) (t : Bool) (d e : Done) → length d.world.stopped ≡ n → length e.world.stopped ≡ n → length (cond t d e).world.stopped ≡ n
either_end n true d e a b = a
either_end n false d e a b = b

brought_stopped : (w : World) (ls : List Letter) (keep : Bool) (l : Letter) (b : Body) → length (brought w ls keep l b).world.stopped ≡ length w.stopped
unfolding served taken turned
brought_stopped w ls keep l Blank = refl
brought_stopped w ls keep l (Asks a) =
    let v = serve w a l.page l.layout in
    either_end (length w.stopped) (too_many (ls ++ answers keep l.stamp v.response)) (refused w 16)
    (fine (with_letters v.world (ls ++ answers keep l.stamp v.response))) refl (ap length (serve_stopped w a l.page l.layout))
brought_stopped w ls keep l (Answers r) =
    let c = l.stamp.client in
    let t = takes c (client_at w c) l.stamp (response r l) in
    either_end (length w.stopped) (too_many (ls ++ sent_by c t)) (refused w 16) (turned w ls c t) refl refl

step_stopped : (w : World) (s : Step) (j : Job) → length (step w s j).world.stopped ≡ length w.stopped
unfolding step begins turned delivers delivered drops stops restarts gives_up forgets
step_stopped w (Begin c) j = either_end (length w.stopped) (eqb (begin_number w c j) 0) _ (refused w (begin_number w c j)) refl refl
step_stopped w (Deliver i keep k) j =
    either_end (length w.stopped) (unbrought w (letter_at w i) (letter_at w i).body) (refused w 17) _ refl
    (brought_stopped w (keeping keep i w.letters) k (letter_at w i) (letter_at w i).body)
step_stopped w (Drop i) j = either_end (length w.stopped) (ltb i (length w.letters)) _ (refused w 17) refl refl
step_stopped w (Stop u) j = either_end (length w.stopped) (running w.stopped u) _ (refused w 17) (length-set w.stopped (u - 1) true) refl
step_stopped w (Restart c) j = either_end (length w.stopped) (eqb (restart_number w c) 0) _ (refused w (restart_number w c)) refl refl
step_stopped w (GiveUp c) j = either_end (length w.stopped) (is_client c) _ (refused w 17) refl refl
step_stopped w Forget j = refl

pub stopped_long : (l : Layout) (ms : Moves) → length (world l ms).stopped ≡ 8
unfolding world_by fresh_world
stopped_long l none = refl
stopped_long l (ms ▸ m) = step_stopped (world l ms) m.does m.job ∙ stopped_long l ms
