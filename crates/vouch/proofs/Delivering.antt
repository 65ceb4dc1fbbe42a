-- A delivery: a request to its machine, an answer to its client; kept or dropped, its answer kept or lost.
-- Rests on Machines, Replies and Turning.
use mathlib.Core.Path.{◌≡◌, refl, sym, ap, subst, ◌∙◌}
use mathlib.Core.Bool.{Bool, true, false, not, cond, ◌||◌}
use mathlib.Core.List.{List, ◌++◌}
use Prim.Native.Nat.{ℕ, ◌≤◌}
use native.Mathlib.Omega.{arith}
use lib.ListN.{length}
use Rattle.num.proofs.Tests.{or_false}
use Rattle.layout.specs.declared.Layout.{Layout}
use Rattle.client.specs.declared.Ask.{Ask}
use Rattle.client.specs.declared.Reply.{Reply}
use Rattle.client.specs.declared.Stamp.{Stamp}
use Rattle.client.specs.declared.state.Job.{Job}
use Rattle.client.specs.declared.Stage.{Stage}
use Rattle.client.specs.declared.Stage.TheVariants.{Idle, Fetching, Working}
use Rattle.client.specs.declared.Client.{Client}
use Rattle.client.specs.Turn.{Turn}
use Rattle.client.specs.Client.{busy}
use Rattle.client.specs.Take.{answered, takes}
use Rattle.client.proofs.Turns.{takes_cases}
use Rattle.rule.specs.declared.Letter.{Letter}
use Rattle.rule.specs.declared.Body.{Body}
use Rattle.rule.specs.declared.Body.TheVariants.{Blank, Asks, Answers}
use Rattle.rule.specs.declared.Step.TheVariants.{Deliver}
use Rattle.rule.specs.World.{World, is_client, client_at, letter_at, blank_letter}
use Rattle.rule.specs.Serve.{ServedWorld, serve, unserved}
use Rattle.rule.specs.Steps.{Done, refused, fine, keeping, too_many, with_letters, sent_by, turned, answer_to, answers, served, taken, response, unbrought, brought, delivered, delivers, step}
use Rattle.history.specs.History.{History}
use Rattle.vouch.specs.Runs.{Move, Moves, world, result}
use Rattle.vouch.specs.Runs.Moves.{◌▸◌}
use Rattle.vouch.specs.Runs.◌≼◌.{all_of, part_of}
use Rattle.vouch.proofs.Meaning.{StageOk}
use Rattle.rule.proofs.Lists.{All, all_map, all_at, all_without, all_end, all_same, client_range}
use Rattle.vouch.proofs.Machines.{ServedOk, serve_ok}
use Rattle.vouch.proofs.Turns.{TurnOk}
use Rattle.vouch.proofs.Turns.TurnOk.{rests_ok}
use Rattle.vouch.proofs.Replies.{reply_ok}
use Rattle.vouch.proofs.Together.{RequestOk, BodyOk, client_of, LetterOk, Good, Next, Or, letters_on, stages_on}
use Rattle.vouch.proofs.Together.Or.{either, other}
use Rattle.vouch.proofs.Turning.{machines_as, refused_ok, turned_ok}

-- ---- an answer is taken

pub busy_or_idle : (st : Stage) → Or (busy st ≡ true) (st ≡ Idle)
busy_or_idle Idle = other refl
busy_or_idle Fetching = either refl
busy_or_idle (Working p) = either refl

module _ {l : Layout} {ms : Moves} {h : History} {w : World} (good : Good l ms h w) where
  -- what a client that waits takes is the answer to its outstanding request
  take_turn : (letter : Letter) (r : Reply) → is_client letter.stamp.client ≡ true → BodyOk l ms h (client_at w letter.stamp.client) letter (Answers r) →
      TurnOk h (client_at w letter.stamp.client) (takes letter.stamp.client (client_at w letter.stamp.client) letter.stamp (response r letter))
  take_turn letter r is ok =
      takes_cases (TurnOk h c) c i s (response r letter) (λ mine. answer mine.life_is mine.number_is (busy_or_idle c.stage)) (λ other. rests_ok)
    where
      s : Stamp
      s = letter.stamp

      i : ℕ
      i = letter.stamp.client

      c : Client
      c = client_at w letter.stamp.client

      range : (1 ≤ i) × (i ≤ 4)
      range = client_range letter.stamp.client is

      answer : s.life ≡ c.life → s.number.0 ≡ c.used.0 → Or (busy c.stage ≡ true) (c.stage ≡ Idle) → TurnOk h c (answered c.stage c (response r letter))
      answer life number (either waiting) =
          let was = ok (record { life_is = life; number_is = number; is_busy = waiting }) in
          reply_ok good.machines.run c c.stage (good.stages i range.0 range.1) was.waits was.means
      answer life number (other idle) = subst (λ st. TurnOk h c (answered st c (response r letter))) (sym idle) rests_ok

-- ---- the delivery

module _ (l : Layout) (ms : Moves) (i : ℕ) (keep keep_answer : Bool) (j : Job) {h : History} (good : Good l ms h (world l ms)) where
  abbrev m : Move
  m = record { does = Deliver i keep keep_answer; job = j }

  -- the letters before the answer
  abbrev kept : List Letter
  kept = keeping keep i (world l ms).letters

  keeps : All (LetterOk l ms h (world l ms).clients) kept
  keeps = go keep
    where
      go : (b : Bool) → All (LetterOk l ms h (world l ms).clients) (keeping b i (world l ms).letters)
      go true = good.letters
      go false = all_without i (world l ms).letters good.letters

  abbrev there : Letter
  there = letter_at (world l ms) i

  -- ---- a request

  module _ (a : Ask) (asks : there.body ≡ Asks a) (ok : LetterOk l ms h (world l ms).clients there) (to : unserved (world l ms).stopped a ≡ false) where
    abbrev v : ServedWorld
    v = serve (world l ms) a there.page there.layout

    request_ok : RequestOk h (client_of (world l ms).clients there.stamp.client) there.stamp a there.page there.layout
    request_ok = subst (λ b. BodyOk l ms h (client_of (world l ms).clients there.stamp.client) there b) asks ok.body_ok

    done : ServedOk h (world l ms) a there.page there.layout v
    done = serve_ok good.machines to request_ok.vouches

    -- the answer, in the move m that was not refused
    answer_ok : keep_answer ≡ true → (result (world l ms) m).answer ≡ 0 → LetterOk l (ms ▸ m) done.now (world l ms).clients (answer_to there.stamp v.response)
    answer_ok kept_it fine = record {
      of_client = ok.of_client;
      not_later_lem = ok.not_later_lem;
      body_ok = λ current. record {
        ask = a;
        page = there.page;
        layout = there.layout;
        waits = request_ok.current current;
        means = done.means;
        origin = record {
          before = ms;
          move = m;
          within = all_of;
          request = there;
          delivers = record { place = i; keep = keep; keep_answer = keep_answer; is_delivery = refl; letter_is = refl; not_refused = fine };
          kept = kept_it;
          current = current;
          asks = asks;
          answer_is = refl;
        };
      };
    }

    answers_ok : (b : Bool) → keep_answer ≡ b → (result (world l ms) m).answer ≡ 0 → All (LetterOk l (ms ▸ m) done.now (world l ms).clients) (kept ++ answers b there.stamp v.response)
    answers_ok true is fine = all_end kept (letters_on l (part_of all_of) done.machines.run done.part keeps) (answer_ok is fine)
    answers_ok false is fine = all_same kept (letters_on l (part_of all_of) done.machines.run done.part keeps)

    served_good : (result (world l ms) m).answer ≡ 0 → Next l ms m h (world l ms) (fine (with_letters v.world (kept ++ answers keep_answer there.stamp v.response)))
    served_good fine = record {
      now = done.now;
      part = done.part;
      good = record {
        machines = machines_as v.world.clients (kept ++ answers keep_answer there.stamp v.response) done.machines;
        clients_long = subst (λ (cs : List Client). length cs ≡ 4) (sym done.clients_same) good.clients_long;
        stages = subst (λ (cs : List Client). (c : ℕ) → 1 ≤ c → c ≤ 4 → StageOk done.now (client_of cs c) (client_of cs c).stage) (sym done.clients_same)
            (stages_on done.machines.run done.part (world l ms) good.stages);
        letters = subst (λ (cs : List Client). All (LetterOk l (ms ▸ m) done.now cs) (kept ++ answers keep_answer there.stamp v.response)) (sym done.clients_same) (answers_ok keep_answer refl fine);
      };
      asked = λ n noted. either (done.quiet n noted);
      outcome_ok = λ c low high who. absurd (omega (arith, who));
    }

  -- ---- both

  -- the step, by the letter's body
  abbrev by_body : Body → Done
  by_body b = cond (unbrought (world l ms) there b) (refused (world l ms) 17) (brought (world l ms) kept keep_answer there b)

  deliver_body : (b : Body) → there.body ≡ b → Or (LetterOk l ms h (world l ms).clients there) (b ≡ Blank) → Next l ms m h (world l ms) (by_body b)
  unfolding served taken step delivers delivered
  deliver_body Blank is ok = refused_ok l ms m good 17
  deliver_body (Asks a) is (other e) = absurd (let z : ◌≡◌ {A = ℕ} 0 1 = cc in omega arith)
  deliver_body (Answers r) is (other e) = absurd (let z : ◌≡◌ {A = ℕ} 0 1 = cc in omega arith)
  deliver_body (Asks a) is (either ok) = go (not (is_client there.stamp.client) || unserved (world l ms).stopped a) refl
    where
      w : World
      w = world l ms

      full : List Letter
      full = kept ++ answers keep_answer there.stamp (serve w a there.page there.layout).response

      then : Done
      then = fine (with_letters (serve w a there.page there.layout).world full)

      whole : unbrought w there (Asks a) ≡ false → too_many full ≡ false → (result w m).answer ≡ 0
      whole e t =
          ap (λ (b : Body). (cond (unbrought w there b) (refused w 17) (brought w kept keep_answer there b)).answer) is
          ∙ ap (λ (b : Bool). (cond b (refused w 17) (cond (too_many full) (refused w 16) then)).answer) e
          ∙ ap (λ (b : Bool). (cond b (refused w 16) then).answer) t

      room : unbrought w there (Asks a) ≡ false → (b : Bool) → too_many full ≡ b → Next l ms m h w (cond b (refused w 16) then)
      room e true t = refused_ok l ms m good 16
      room e false t = served_good a is ok (or_false (not (is_client there.stamp.client)) (unserved w.stopped a) e).1 (whole e t)

      go : (b : Bool) → unbrought w there (Asks a) ≡ b → Next l ms m h w (cond b (refused w 17) (cond (too_many full) (refused w 16) then))
      go true e = refused_ok l ms m good 17
      go false e = room e (too_many full) refl
  deliver_body (Answers r) is (either ok) = go (not (is_client there.stamp.client))
    where
      w : World
      w = world l ms

      c : ℕ
      c = there.stamp.client

      t : Turn
      t = takes c (client_at w c) there.stamp (response r there)

      turn : Next l ms m h w (turned w kept c t)
      turn =
          let range = client_range c ok.of_client in
          turned_ok l ms m good c range.0 range.1 ok.of_client kept keeps t
          (take_turn good there r ok.of_client (subst (λ b. BodyOk l ms h (client_at w c) there b) is ok.body_ok))

      room : (b : Bool) → Next l ms m h w (cond b (refused w 16) (turned w kept c t))
      room true = refused_ok l ms m good 16
      room false = turn

      go : (b : Bool) → Next l ms m h w (cond b (refused w 17) (cond (too_many (kept ++ sent_by c t)) (refused w 16) (turned w kept c t)))
      go true = refused_ok l ms m good 17
      go false = room (too_many (kept ++ sent_by c t))

  pub deliver_ok : Next l ms m h (world l ms) (delivers (world l ms) i keep keep_answer)
  unfolding delivers delivered
  deliver_ok =
      deliver_body there.body refl
      (all_at {P = λ letter. Or (LetterOk l ms h (world l ms).clients letter) (letter.body ≡ Blank)} (world l ms).letters i blank_letter
      (all_map (λ letter ok. either ok) good.letters) (other refl))
