-- Which step ends an operation: the delivery of an answer, or a give-up.
-- Rests on Begun and the rules.
use mathlib.Core.Path.{◌≡◌, refl, sym, ap, subst, ◌∙◌}
use mathlib.Core.Bool.{Bool, true, false, cond}
use mathlib.Core.List.{List, ◌++◌}
use Prim.Native.Nat.{ℕ, ◌-◌, ◌≤◌}
use native.Mathlib.Omega.{arith}
use lib.Dec.{eqb, ltb}
use lib.ListN.{length, set}
use Rattle.client.specs.declared.Reply.{Reply}
use Rattle.client.specs.declared.state.Job.{Job}
use Rattle.client.specs.Client.{busy}
use Rattle.client.specs.Turn.{Act, Rests, Sends, Ends, Turn, rests, over, ends, outcome_of}
use Rattle.client.specs.Begin.{begin_turn, give_up, restarted}
use Rattle.client.specs.Take.{takes}
use Rattle.rule.specs.declared.Letter.{Letter}
use Rattle.rule.specs.declared.Body.{Body}
use Rattle.rule.specs.declared.Body.TheVariants.{Blank, Asks, Answers}
use Rattle.rule.specs.declared.Step.{Step}
use Rattle.rule.specs.declared.Step.TheVariants.{Begin, Deliver, Drop, Stop, Restart, GiveUp, Forget}
use Rattle.rule.specs.World.{World, is_client, running, client_at, letter_at}
use Rattle.rule.specs.Serve.{serve}
use Rattle.rule.specs.Steps.{Done, refused, fine, without, with_letters, with_client, with_stopped, keeping, too_many, sent_by, ended, turned, begin_number, begins, answers, served, taken, response, unbrought, brought, delivered, delivers, drops, stops, restart_number, restarts, gives_up, forgets, step}
use Rattle.vouch.proofs.Begun.{began}

-- the turn of the client i ends the operation of c
record Ended (i c : ℕ) (a : Act) : Type 0 where
  act_is : a ≡ Ends
  same : i ≡ c

ended_by : (i c : ℕ) (a : Act) → 1 ≤ c → ended i a ≡ c → Ended i c a
ended_by i c Rests low who = absurd (omega (arith, who))
ended_by i c (Sends n) low who = absurd (omega (arith, who))
ended_by i c Ends low who = record { act_is = refl; same = who }

-- the step s is the delivery of an answer to c, whose turn is then over
pub record Took (w : World) (s : Step) (j : Job) (c : ℕ) : Type 0 where
  pub place : ℕ
  pub keep : Bool
  pub keep_answer : Bool
  pub is_delivery : s ≡ Deliver place keep keep_answer
  pub not_refused : (step w s j).answer ≡ 0
  pub reply : Reply
  pub body_is : (letter_at w place).body ≡ Answers reply
  pub client_is : (letter_at w place).stamp.client ≡ c
  pub act_is : (takes c (client_at w c) (letter_at w place).stamp (response reply (letter_at w place))).act ≡ Ends
  pub outcome_is : (step w s j).outcome ≡ (takes c (client_at w c) (letter_at w place).stamp (response reply (letter_at w place))).outcome

pub data How (w : World) (s : Step) (j : Job) (c : ℕ) : Type 0 where
  took : Took w s j c → How w s j c
  gave_up : (step w s j).outcome.number ≡ 20 → s ≡ GiveUp c → How w s j c

module _ (w : World) (four : length w.clients ≡ 4) (j : Job) (c : ℕ) (low : 1 ≤ c) where
  nobody : {A : Type 0} (d : Done) → d.who ≡ 0 → d.who ≡ c → A
  nobody d none who = absurd (omega (arith, none, who))

  module _ (i : ℕ) (keep keep_answer : Bool) where
    abbrev there : Letter
    there = letter_at w i

    abbrev kept : List Letter
    kept = keeping keep i w.letters

    abbrev by_body : Body → Done
    by_body b = cond (unbrought w there b) (refused w 17) (brought w kept keep_answer there b)

    deliver_how : (b : Body) → there.body ≡ b → delivers w i keep keep_answer ≡ by_body b → (by_body b).who ≡ c → Took w (Deliver i keep keep_answer) j c
    unfolding served taken step turned
    deliver_how Blank is whole who = nobody (refused w 17) refl who
    deliver_how (Asks a) is whole who = go (unbrought w there (Asks a)) (too_many full) who
      where
        full : List Letter
        full = kept ++ answers keep_answer there.stamp (serve w a there.page there.layout).response

        go : (b t : Bool) → (cond b (refused w 17) (cond t (refused w 16) (fine (with_letters (serve w a there.page there.layout).world full)))).who ≡ c → Took w (Deliver i keep keep_answer) j c
        go true t who = nobody (refused w 17) refl who
        go false true who = nobody (refused w 16) refl who
        go false false who = nobody (fine (with_letters (serve w a there.page there.layout).world full)) refl who
    deliver_how (Answers x) is whole who = go (unbrought w there (Answers x)) (too_many (kept ++ sent_by k t)) whole who
      where
        k : ℕ
        k = there.stamp.client

        t : Turn
        t = takes k (client_at w k) there.stamp (response x there)

        turn : delivers w i keep keep_answer ≡ turned w kept k t → ended k t.act ≡ c → Took w (Deliver i keep keep_answer) j c
        turn is_turn who =
            let e = ended_by k c t.act low who in
            record {
              place = i;
              keep = keep;
              keep_answer = keep_answer;
              is_delivery = refl;
              not_refused = ap (λ (d : Done). d.answer) is_turn;
              reply = x;
              body_is = is;
              client_is = e.same;
              act_is = subst (λ n. (takes n (client_at w n) there.stamp (response x there)).act ≡ Ends) e.same e.act_is;
              outcome_is = ap (λ (d : Done). d.outcome) is_turn ∙ ap (λ n. (takes n (client_at w n) there.stamp (response x there)).outcome) e.same;
            }

        go : (b f : Bool) → delivers w i keep keep_answer ≡ cond b (refused w 17) (cond f (refused w 16) (turned w kept k t)) →
            (cond b (refused w 17) (cond f (refused w 16) (turned w kept k t))).who ≡ c → Took w (Deliver i keep keep_answer) j c
        go true f whole who = nobody (refused w 17) refl who
        go false true whole who = nobody (refused w 16) refl who
        go false false whole who = turn whole who

    delivery : (delivers w i keep keep_answer).who ≡ c → Took w (Deliver i keep keep_answer) j c
    unfolding delivers delivered
    delivery who = deliver_how there.body refl refl who

  begin_not : (i : ℕ) → ¬ ((begins w i j).who ≡ c)
  unfolding begins turned step
  begin_not i who = go (eqb (begin_number w i j) 0) refl who
    where
      d : Done
      d = turned w w.letters i (begin_turn (client_at w i) j w.held.shape)

      fine_so : eqb (begin_number w i j) 0 ≡ true → step w (Begin i) j ≡ d
      fine_so e = ap (λ (b : Bool). cond b d (refused w (begin_number w i j))) e

      go : (b : Bool) → eqb (begin_number w i j) 0 ≡ b → ¬ ((cond b d (refused w (begin_number w i j))).who ≡ c)
      go true e who =
          let now = began w i j four (ap (λ (x : Done). x.answer) (fine_so e)) in
          nobody d (sym (ap (λ (x : Done). x.who) (fine_so e)) ∙ now.who_none) who
      go false e who = nobody (refused w (begin_number w i j)) refl who

  give_up_how : (i : ℕ) → (gives_up w i).who ≡ c → How w (GiveUp i) j c
  unfolding gives_up give_up turned step
  give_up_how i who = go (is_client i) (busy (client_at w i).stage) refl who
    where
      end : Bool → Bool → Done
      end a b = cond a (turned w w.letters i (cond b (ends (client_at w i) 20) (rests (client_at w i)))) (refused w 17)

      go : (a b : Bool) → gives_up w i ≡ end a b → (end a b).who ≡ c → How w (GiveUp i) j c
      go true true is who = gave_up (ap (λ (d : Done). d.outcome.number) is) (ap GiveUp who)
      go true false is who = nobody (refused w 17) refl who
      go false b is who = nobody (refused w 17) refl who

  pub how : (s : Step) → (step w s j).who ≡ c → How w s j c
  unfolding step drops stops restarts forgets
  how (Begin i) who = absurd (begin_not i who)
  how (Deliver i keep keep_answer) who = took (delivery i keep keep_answer who)
  how (Drop i) who = go (ltb i (length w.letters)) who
    where
      go : (b : Bool) → (cond b (fine (with_letters w (without i w.letters))) (refused w 17)).who ≡ c → How w (Drop i) j c
      go true who = nobody (fine w) refl who
      go false who = nobody (refused w 17) refl who
  how (Stop u) who = go (running w.stopped u) who
    where
      go : (b : Bool) → (cond b (fine (with_stopped w (set w.stopped (u - 1) true))) (refused w 17)).who ≡ c → How w (Stop u) j c
      go true who = nobody (fine w) refl who
      go false who = nobody (refused w 17) refl who
  how (Restart i) who = go (eqb (restart_number w i) 0) who
    where
      go : (b : Bool) → (cond b (fine (with_client w i (restarted (client_at w i)))) (refused w (restart_number w i))).who ≡ c → How w (Restart i) j c
      go true who = nobody (fine w) refl who
      go false who = nobody (refused w 17) refl who
  how (GiveUp i) who = give_up_how i who
  how Forget who = nobody (fine w) refl who
