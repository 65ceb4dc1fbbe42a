-- What a step of the yard's rule is to one client and to its requests in the bag: it passes the client by, it is the client's turn, or it restarts it.
-- Rests on Bag, Begun and the rules.
use mathlib.Core.Path.{◌≡◌, refl, sym, ap, subst, ◌∙◌}
use mathlib.Core.Bool.{Bool, true, false, ◌&&◌, not, cond}
use mathlib.Core.List.{List, [], ◌++◌}
use Prim.Native.Nat.{ℕ, ◌+◌, ◌-◌, ◌≤◌}
use native.Mathlib.Omega.{arith}
use native.Mathlib.Decide.{ℕ_discrete}
use borrow.Author.Tests.{eqb-true, eqb-false, ne_eqb, not-false}
use lib.Dec.{eqb, ltb}
use lib.ListN.{length, get_or, set}
use lib.Seq.{get_or-set_same, get_or-set_other, set-get_or}
use Rattle.num.specs.Checks.{◌if◌}
use Rattle.num.proofs.Tests.{false_true, cond_zero, and_false}
use Rattle.client.specs.declared.Ask.TheVariants as ask
use Rattle.client.specs.declared.Reply.{Reply}
use Rattle.client.specs.declared.Response.{Response}
use Rattle.client.specs.declared.Stamp.{Stamp}
use Rattle.client.specs.declared.Client.{Client}
use Rattle.client.specs.declared.state.Job.{Job}
use Rattle.client.specs.Message.{plain}
use Rattle.client.specs.Client.{busy, fresh}
use Rattle.client.specs.Turn.{Act, Rests, Sends, Ends, Turn, rests, ends, sent, next}
use Rattle.client.specs.Begin.{with_job, begin_turn, give_up, restart_answer, restarted}
use Rattle.client.specs.Take.{answered, awaited, takes}
use Rattle.client.proofs.Clients.{Awaited, awaited_by, is_awaited}
use Rattle.client.proofs.Turns.{takes_cases, give_up_cases}
use Rattle.rule.specs.declared.Letter.{Letter}
use Rattle.rule.specs.declared.Body.{Body}
use Rattle.rule.specs.declared.Body.TheVariants.{Blank, Asks, Answers}
use Rattle.rule.specs.declared.Step.{Step}
use Rattle.rule.specs.declared.Step.TheVariants.{Begin, Deliver, Drop, Stop, Restart, GiveUp, Forget}
use Rattle.rule.specs.World.{World, is_client, running, client_at, letter_at}
use Rattle.rule.specs.Serve.{serve}
use Rattle.rule.specs.Steps.{Done, refused, fine, without, with_client, with_letters, with_stopped, keeping, too_many, ended, sent_by, turned, begin_number, begins, answers, served, taken, response, unbrought, brought, delivered, delivers, drops, stops, restart_number, restarts, gives_up, forgets, step}
use Rattle.rule.proofs.Lists.{client_range}
use Rattle.rule.proofs.Serving.{serve_clients}
use Rattle.vouch.specs.Sent.{is_request, requests_of, is_taken, tells_taken, at_head, head_tells, brings}
use Rattle.vouch.proofs.Beginning.{begins_so}
use Rattle.vouch.proofs.Begun.{lets, begin_number_lem}
use Rattle.vouch.proofs.Bag.{requests_both, kept_fewer, kept_same, answers_none, own_sent, none_sent, other_sent}

-- whoever else takes a turn, nothing of c ends
not_ended : (i c : ℕ) (a : Act) → 1 ≤ c → ¬ (c ≡ i) → ¬ (ended i a ≡ c)
not_ended i c Rests low ne who = omega (arith, who)
not_ended i c (Sends n) low ne who = omega (arith, who)
not_ended i c Ends low ne who = ne (sym who)

module _ (w : World) (four : length w.clients ≡ 4) (c : ℕ) (low : 1 ≤ c) (high : c ≤ 4) where
  abbrev x : Client
  x = client_at w c

  -- d is what the turn t of c makes of the yard
  pub record Makes (t : Turn) (d : Done) : Type 0 where
    pub client_is : client_at d.world c ≡ t.client
    pub who_is : d.who ≡ ended c t.act
    pub outcome_is : d.outcome ≡ t.outcome
    pub requests_are : requests_of c d.world.letters ≡ requests_of c w.letters + requests_of c (sent_by c t)

  -- a head fails c with the step
  abbrev pub failing : Step → Done → Bool
  failing s d = eqb d.answer 0 && brings w c s

  pub data Comes (s : Step) (d : Done) : Type 0 where
    aside : ¬ (d.who ≡ c) → client_at d.world c ≡ x → requests_of c d.world.letters ≤ requests_of c w.letters → failing s d ≡ false → Comes s d
    begins_one : busy x.stage ≡ false → Comes s d
    takes_one : (r : Response) → Makes (answered x.stage x r) d → failing s d ≡ (is_taken r.reply && at_head x x.stage) → Comes s d
    gives_up_lem : Makes (ends x 20) d → failing s d ≡ false → Comes s d
    restarts_it : s ≡ Restart c → d.answer ≡ 0 → ¬ (d.who ≡ c) → Comes s d

  nobody : {i : ℕ} → i ≡ 0 → ¬ (i ≡ c)
  nobody none who = omega (arith, none, who, low)

  refused_comes : {s : Step} (n : ℕ) → ¬ (n ≡ 0) → Comes s (refused w n)
  refused_comes {s} n ne = aside (nobody refl) refl (omega arith) (ap (λ b. b && brings w c s) (ne_eqb n 0 ne))

  same_clients : (d : Done) → d.world.clients ≡ w.clients → client_at d.world c ≡ x
  same_clients d same = ap (λ (cs : List Client). get_or cs (c - 1) fresh) same

  other_client : (i : ℕ) (y : Client) → 1 ≤ i → ¬ (c ≡ i) → get_or (set w.clients (i - 1) y) (c - 1) fresh ≡ x
  other_client i y from ne = get_or-set_other w.clients (i - 1) (c - 1) y fresh (λ z. ne (omega (arith, z)))

  -- ---- turns: ls, the letters before

  own_turn : (ls : List Letter) (t : Turn) → requests_of c ls ≡ requests_of c w.letters → Makes t (turned w ls c t)
  unfolding turned
  own_turn ls t same = record {
    client_is = get_or-set_same w.clients (c - 1) t.client fresh (omega (arith, four));
    who_is = refl;
    outcome_is = refl;
    requests_are = omega (arith, requests_both c ls (sent_by c t), same);
  }

  other_turn : {s : Step} (i : ℕ) → 1 ≤ i → ¬ (c ≡ i) → (ls : List Letter) (t : Turn) → requests_of c ls ≤ requests_of c w.letters → brings w c s ≡ false → Comes s (turned w ls i t)
  unfolding turned
  other_turn i from ne ls t few quiet =
      aside (not_ended i c t.act low ne) (other_client i t.client from ne)
      (omega (arith, few, requests_both c ls (sent_by i t), other_sent c i t.client.life t.act t.query ne)) quiet

  resting : {s : Step} (ls : List Letter) → requests_of c ls ≤ requests_of c w.letters → brings w c s ≡ false → Comes s (turned w ls c (rests x))
  unfolding turned
  resting ls few quiet =
      aside (nobody refl) (same_clients (turned w ls c (rests x)) (set-get_or w.clients (c - 1) fresh)) (omega (arith, few, requests_both c ls [], none_sent c)) quiet

  -- ---- begin

  begin_comes : (i : ℕ) (j : Job) → Comes (Begin i) (begins w i j)
  unfolding begins
  begin_comes i j = go (eqb (begin_number w i j) 0) refl (ℕ_discrete c i)
    where
      t : Turn
      t = begin_turn (client_at w i) j w.held.shape

      go : (b : Bool) → eqb (begin_number w i j) 0 ≡ b → Dec (c ≡ i) → Comes (Begin i) (cond b (turned w w.letters i t) (refused w (begin_number w i j)))
      go true e (yes same) =
          let ok = lets w i j four (eqb-true (begin_number w i j) 0 e) in
          begins_one (subst (λ (k : ℕ). busy (client_at w k).stage ≡ false) (sym same) (ap busy ok.ready.is_idle))
      go true e (no ne) =
          let ok = lets w i j four (eqb-true (begin_number w i j) 0 e) in
          other_turn i (client_range i ok.ready.of_client).0 ne w.letters t (omega arith) refl
      go false e same = refused_comes (begin_number w i j) (eqb-false (begin_number w i j) 0 e)

  -- a begin that is not refused puts one request of its client into the bag
  pub begin_puts : (j : Job) → (step w (Begin c) j).answer ≡ 0 → requests_of c (step w (Begin c) j).world.letters ≡ requests_of c w.letters + 1
  unfolding turned
  begin_puts j fine =
      let ok = lets w c j four (begin_number_lem w c j fine) in
      let y = with_job x j in
      ap (λ (d : Done). requests_of c d.world.letters) (begins_so w c ok.ready j ok.fit)
      ∙ (requests_both c w.letters (sent_by c (sent y (plain ask.Fetch))) ∙ ap (λ k. requests_of c w.letters + k) (own_sent c y.life (next y) (plain ask.Fetch)))

  -- ---- deliver

  module _ (i : ℕ) (keep keep_answer : Bool) where
    abbrev s : Step
    s = Deliver i keep keep_answer

    abbrev there : Letter
    there = letter_at w i

    abbrev kept : List Letter
    kept = keeping keep i w.letters

    no_taken : tells_taken there.body ≡ false → brings w c s ≡ false
    no_taken e = ap (λ b. b && (awaited c x there.stamp && at_head x x.stage)) e

    not_mine : awaited c x there.stamp ≡ false → brings w c s ≡ false
    not_mine e = ap (λ b. tells_taken there.body && (b && at_head x x.stage)) e ∙ and_false (tells_taken there.body)

    body_comes : (b : Body) → there.body ≡ b → Comes s (cond (unbrought w there b) (refused w 17) (brought w kept keep_answer there b))
    unfolding served taken turned
    body_comes Blank is = refused_comes 17 (λ z. omega (arith, z))
    body_comes (Asks a) is = go (unbrought w there (Asks a)) (too_many full)
      where
        full : List Letter
        full = kept ++ answers keep_answer there.stamp (serve w a there.page there.layout).response

        few : requests_of c full ≤ requests_of c w.letters
        few = omega (arith, requests_both c kept (answers keep_answer there.stamp (serve w a there.page there.layout).response), kept_fewer c keep i w.letters, answers_none c keep_answer there.stamp (serve w a there.page there.layout).response)

        go : (b t : Bool) → Comes s (cond b (refused w 17) (cond t (refused w 16) (fine (with_letters (serve w a there.page there.layout).world full))))
        go true t = refused_comes 17 (λ z. omega (arith, z))
        go false true = refused_comes 16 (λ z. omega (arith, z))
        go false false = aside (nobody refl) (ap (λ (cs : List Client). get_or cs (c - 1) fresh) (serve_clients w a there.page there.layout)) few (no_taken (ap tells_taken is))
    body_comes (Answers r) is = go (is_client k) refl (too_many (kept ++ sent_by k t))
      where
        k : ℕ
        k = there.stamp.client

        t : Turn
        t = takes k (client_at w k) there.stamp (response r there)

        same : requests_of c kept ≡ requests_of c w.letters
        same = kept_same c keep i w.letters (ap is_request is)

        mine : Comes s (turned w kept c (takes c x there.stamp (response r there)))
        mine =
            takes_cases (λ (z : Turn). Comes s (turned w kept c z)) x c there.stamp (response r there)
            (λ waits.
            takes_one (response r there) (own_turn kept (answered x.stage x (response r there)) same)
            (ap (λ b. tells_taken there.body && (b && at_head x x.stage)) (is_awaited c x there.stamp waits) ∙ ap (λ b. tells_taken b && at_head x x.stage) is))
            (λ other. resting kept (omega (arith, same)) (not_mine (never other)))
          where
            never : ¬ Awaited c x there.stamp → awaited c x there.stamp ≡ false
            never other = test (awaited c x there.stamp) refl
              where
                test : (b : Bool) → awaited c x there.stamp ≡ b → b ≡ false
                test true e = absurd (other (awaited_by c x there.stamp e))
                test false e = refl

        theirs : ¬ (c ≡ k) → awaited c x there.stamp ≡ false
        theirs ne = test (awaited c x there.stamp) refl
          where
            test : (b : Bool) → awaited c x there.stamp ≡ b → b ≡ false
            test true e = absurd (ne (sym (awaited_by c x there.stamp e).client_is))
            test false e = refl

        turn : is_client k ≡ true → Dec (c ≡ k) → Comes s (turned w kept k t)
        turn e (yes own) = subst (λ (n : ℕ). Comes s (turned w kept n (takes n (client_at w n) there.stamp (response r there)))) own mine
        turn e (no ne) = other_turn k (client_range k e).0 ne kept t (omega (arith, same)) (not_mine (theirs ne))

        go : (b : Bool) → is_client k ≡ b → (f : Bool) → Comes s (cond (not b) (refused w 17) (cond f (refused w 16) (turned w kept k t)))
        go false e f = refused_comes 17 (λ z. omega (arith, z))
        go true e true = refused_comes 16 (λ z. omega (arith, z))
        go true e false = turn e (ℕ_discrete c k)

    deliver_comes : Comes s (delivers w i keep keep_answer)
    unfolding delivers delivered
    deliver_comes = body_comes there.body refl

  -- ---- the other steps

  drop_comes : (i : ℕ) → Comes (Drop i) (drops w i)
  unfolding drops
  drop_comes i = go (ltb i (length w.letters))
    where
      go : (b : Bool) → Comes (Drop i) (cond b (fine (with_letters w (without i w.letters))) (refused w 17))
      go true = aside (nobody refl) refl (kept_fewer c false i w.letters) refl
      go false = refused_comes 17 (λ z. omega (arith, z))

  stop_comes : (u : ℕ) → Comes (Stop u) (stops w u)
  unfolding stops
  stop_comes u = go (running w.stopped u)
    where
      go : (b : Bool) → Comes (Stop u) (cond b (fine (with_stopped w (set w.stopped (u - 1) true))) (refused w 17))
      go true = aside (nobody refl) refl (omega arith) refl
      go false = refused_comes 17 (λ z. omega (arith, z))

  give_up_comes : (i : ℕ) → Comes (GiveUp i) (gives_up w i)
  unfolding gives_up turned
  give_up_comes i = go (is_client i) refl (ℕ_discrete c i)
    where
      mine : Comes (GiveUp c) (turned w w.letters c (give_up x))
      mine =
          give_up_cases (λ (t : Turn). Comes (GiveUp c) (turned w w.letters c t)) x
          (λ working. gives_up_lem (own_turn w.letters (ends x 20) refl) refl)
          (λ idle. resting w.letters (omega arith) refl)

      go : (b : Bool) → is_client i ≡ b → Dec (c ≡ i) → Comes (GiveUp i) (cond b (turned w w.letters i (give_up (client_at w i))) (refused w 17))
      go true e (yes own) = subst (λ (n : ℕ). Comes (GiveUp n) (turned w w.letters n (give_up (client_at w n)))) own mine
      go true e (no ne) = other_turn i (client_range i e).0 ne w.letters (give_up (client_at w i)) (omega arith) refl
      go false e own = refused_comes 17 (λ z. omega (arith, z))

  restart_comes : (i : ℕ) → Comes (Restart i) (restarts w i)
  unfolding restarts restart_number
  restart_comes i = go (eqb (restart_number w i) 0) refl (ℕ_discrete c i)
    where
      from : eqb (restart_number w i) 0 ≡ true → 1 ≤ i
      from e = (client_range i (not-false (is_client i) (cond_zero (not (is_client i)) 17 (cond (not (eqb (restart_answer (client_at w i)) 0)) 19 0) (omega arith) (eqb-true (restart_number w i) 0 e)).0)).0

      go : (b : Bool) → eqb (restart_number w i) 0 ≡ b → Dec (c ≡ i) → Comes (Restart i) (cond b (fine (with_client w i (restarted (client_at w i)))) (refused w (restart_number w i)))
      go true e (yes own) = restarts_it (ap Restart (sym own)) refl (nobody refl)
      go true e (no ne) = aside (nobody refl) (other_client i (restarted (client_at w i)) (from e) ne) (omega arith) refl
      go false e own = refused_comes (restart_number w i) (eqb-false (restart_number w i) 0 e)

  pub step_comes : (s : Step) (j : Job) → Comes s (step w s j)
  unfolding step forgets
  step_comes (Begin i) j = begin_comes i j
  step_comes (Deliver i keep keep_answer) j = deliver_comes i keep keep_answer
  step_comes (Drop i) j = drop_comes i
  step_comes (Stop u) j = stop_comes u
  step_comes (Restart i) j = restart_comes i
  step_comes (GiveUp i) j = give_up_comes i
  step_comes Forget j = aside (nobody refl) refl (omega arith) refl
