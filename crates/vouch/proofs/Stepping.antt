-- Every step of the yard is at most one event of a history: `step_ok`. So what holds of every run of events holds of the yard.
-- Rests on Asking and Delivering.
use mathlib.Core.Path.{◌≡◌, refl}
use mathlib.Core.Bool.{Bool, true, false, not, cond}
use mathlib.Core.List.{List}
use Prim.Native.Nat.{ℕ, ◌+◌, ◌-◌, ◌≤◌}
use native.Mathlib.Omega.{arith}
use lib.Dec.{eqb, ltb}
use lib.ListN.{length, set}
use borrow.Author.Tests.{eqb-true, not-false}
use Rattle.num.proofs.Tests.{cond_zero}
use Rattle.layout.specs.declared.Layout.{Layout}
use Rattle.sequencer.specs.declared.Asked.TheVariants as asked
use Rattle.sequencer.specs.Rules.{number, becomes, after}
use Rattle.client.specs.declared.Stamp.{Stamp}
use Rattle.client.specs.declared.state.Job.{Job}
use Rattle.client.specs.declared.Client.{Client}
use Rattle.client.specs.Client.{idle}
use Rattle.client.specs.Begin.{give_up, restart_answer, restarted}
use Rattle.client.proofs.Clients.{idle_life, restarted_cases}
use Rattle.client.proofs.Turns.{give_up_cases}
use Rattle.rule.specs.declared.Step.{Step}
use Rattle.rule.specs.declared.Step.TheVariants.{Begin, Deliver, Drop, Stop, Restart, GiveUp, Forget}
use Rattle.rule.specs.World.{World, is_client, client_at, running}
use Rattle.rule.specs.Steps.{refused, fine, without, with_letters, with_client, turned, drops, with_stopped, stops, restart_number, restarts, gives_up, forgets, step}
use Rattle.history.specs.History.{History, held}
use Rattle.vouch.specs.Runs.{Move, Moves, world}
use Rattle.vouch.specs.Runs.Moves.{◌▸◌}
use Rattle.rule.proofs.Lists.{all_without, client_range}
use Rattle.vouch.proofs.Machines.{Machines}
use Rattle.vouch.proofs.Turns.{TurnOk, quiet_ok, ends_ok}
use Rattle.vouch.proofs.Turns.TurnOk.{rests_ok}
use Rattle.vouch.proofs.Together.{NotLater, Good, Next}
use Rattle.vouch.proofs.Together.NotLater.{older_life, this_life}
use Rattle.vouch.proofs.Turning.{later_letters, silent, refused_ok, with_letters_lem, same_client, new_client, idle_ok, idle_newer, turned_ok}
use Rattle.vouch.proofs.Asking.{begin_ok}
use Rattle.vouch.proofs.Delivering.{deliver_ok}

module _ (l : Layout) (ms : Moves) (m : Move) {h : History} (good : Good l ms h (world l ms)) where
  -- ---- drop, stop, forget

  drop_ok : (i : ℕ) → Next l ms m h (world l ms) (drops (world l ms) i)
  unfolding drops
  drop_ok i = go (ltb i (length (world l ms).letters))
    where
      go : (b : Bool) → Next l ms m h (world l ms) (cond b (fine (with_letters (world l ms) (without i (world l ms).letters))) (refused (world l ms) 17))
      go true = silent l ms m good _ refl (with_letters_lem l ms m good (all_without i (world l ms).letters good.letters))
      go false = refused_ok l ms m good 17

  -- a stopped unit keeps what it has
  stop_ok : (u : ℕ) → Next l ms m h (world l ms) (stops (world l ms) u)
  unfolding stops
  stop_ok u = go (running (world l ms).stopped u)
    where
      machines : (bs : List Bool) → Machines h (with_stopped (world l ms) bs)
      machines bs =
          let k = good.machines in
          record { run = k.run; held_is = k.held_is; held_good = k.held_good; sequencer_low = k.sequencer_low; units_long = k.units_long; units = k.units }

      go : (b : Bool) → Next l ms m h (world l ms) (cond b (fine (with_stopped (world l ms) (set (world l ms).stopped (u - 1) true))) (refused (world l ms) 17))
      go true = silent l ms m good _ refl (record {
        machines = machines (set (world l ms).stopped (u - 1) true);
        clients_long = good.clients_long;
        stages = good.stages;
        letters = later_letters l ms m good good.letters;
      })
      go false = refused_ok l ms m good 17

  forget_ok : Next l ms m h (world l ms) (forgets (world l ms))
  unfolding forgets after
  forget_ok =
      let k = good.machines in
      silent l ms m good _ refl (record {
        machines = record {
          run = k.run;
          held_is = k.held_is;
          held_good = k.held_good;
          sequencer_low = go (eqb (number (world l ms).sequencer asked.Forget) 0);
          units_long = k.units_long;
          units = k.units;
        };
        clients_long = good.clients_long;
        stages = good.stages;
        letters = later_letters l ms m good good.letters;
      })
    where
      go : (b : Bool) → (cond b (becomes (world l ms).sequencer asked.Forget) (world l ms).sequencer).epoch.0 ≤ (held h).epoch
      go true = good.machines.sequencer_low
      go false = good.machines.sequencer_low

  -- ---- give up: outcome 20

  give_up_turn : (c : Client) → TurnOk h c (give_up c)
  give_up_turn c = give_up_cases (TurnOk h c) c (λ working. ends_ok c 20 refl refl (quiet_ok c 20 (omega arith) (omega arith) (omega arith))) (λ resting. rests_ok)

  give_up_ok : (c : ℕ) → Next l ms m h (world l ms) (gives_up (world l ms) c)
  unfolding gives_up
  give_up_ok c = go (is_client c) refl
    where
      w : World
      w = world l ms

      go : (b : Bool) → is_client c ≡ b → Next l ms m h w (cond b (turned w w.letters c (give_up (client_at w c))) (refused w 17))
      go true e =
          let range = client_range c e in
          turned_ok l ms m good c range.0 range.1 e w.letters good.letters (give_up (client_at w c)) (give_up_turn (client_at w c))
      go false e = refused_ok l ms m good 17

  -- ---- restart: the next life, so that no letter is of it

  restart_ok : (c : ℕ) → Next l ms m h (world l ms) (restarts (world l ms) c)
  unfolding restarts restart_number
  restart_ok c = go (eqb (restart_number (world l ms) c) 0) refl
    where
      w : World
      w = world l ms

      of_client : restart_number w c ≡ 0 → is_client c ≡ true
      of_client e = not-false (is_client c) (cond_zero (not (is_client c)) 17 (cond (not (eqb (restart_answer (client_at w c)) 0)) 19 0) (omega arith) e).0

      numbers : (s : Stamp) → NotLater (client_at w c) s → NotLater (idle ((client_at w c).life + 1) (record { 0 = 0 })) s
      numbers s (older_life lt) = older_life (omega (arith, idle_life ((client_at w c).life + 1) (record { 0 = 0 })))
      numbers s (this_life e le) = older_life (omega (arith, e, idle_life ((client_at w c).life + 1) (record { 0 = 0 })))

      new : is_client c ≡ true → Good l (ms ▸ m) h (with_client w c (restarted (client_at w c)))
      new is =
          let range = client_range c is in
          restarted_cases (λ (x : Client). Good l (ms ▸ m) h (with_client w c x)) (client_at w c) (λ last. same_client l ms m good c w.letters good.letters)
          (λ next. new_client l ms m good c range.0 range.1 (idle ((client_at w c).life + 1) (record { 0 = 0 })) w.letters w.letters
          (idle_newer l ms m good c range.0 range.1 ((client_at w c).life + 1) (record { 0 = 0 }) numbers) (idle_ok l ms m good ((client_at w c).life + 1) (record { 0 = 0 })) good.letters (λ all. all))

      go : (b : Bool) → eqb (restart_number w c) 0 ≡ b → Next l ms m h w (cond b (fine (with_client w c (restarted (client_at w c)))) (refused w (restart_number w c)))
      go true e = silent l ms m good _ refl (new (of_client (eqb-true (restart_number w c) 0 e)))
      go false e = refused_ok l ms m good (restart_number w c)

-- ---- every step

pub step_ok : (l : Layout) (ms : Moves) (s : Step) (j : Job) {h : History} → Good l ms h (world l ms) →
    Next l ms (record { does = s; job = j }) h (world l ms) (step (world l ms) s j)
unfolding step
step_ok l ms (Begin c) j good = begin_ok l ms c j good
step_ok l ms (Deliver i keep keep_answer) j good = deliver_ok l ms i keep keep_answer j good
step_ok l ms (Drop i) j good = drop_ok l ms (record { does = Drop i; job = j }) good i
step_ok l ms (Stop u) j good = stop_ok l ms (record { does = Stop u; job = j }) good u
step_ok l ms (Restart c) j good = restart_ok l ms (record { does = Restart c; job = j }) good c
step_ok l ms (GiveUp c) j good = give_up_ok l ms (record { does = GiveUp c; job = j }) good c
step_ok l ms Forget j good = forget_ok l ms (record { does = Forget; job = j }) good
