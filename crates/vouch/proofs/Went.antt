-- What a step of the yard's rule makes of the operation of a client: it goes on, it is begun, it is over, or it is forgotten with the client's life.
-- Rests on Steady, Begun and the rules.
use mathlib.Core.Path.{◌≡◌, refl, sym, ap, subst, ◌∙◌}
use mathlib.Core.Bool.{Bool, true, false, not, cond}
use mathlib.Core.List.{List, ◌++◌}
use Prim.Native.Nat.{ℕ, ◌+◌, ◌-◌, ◌≤◌, ◌<◌}
use native.Mathlib.Omega.{arith}
use native.Mathlib.Decide.{ℕ_discrete}
use borrow.Author.Tests.{eqb-true, eqb-false, not-false}
use lib.Dec.{eqb, ltb}
use lib.ListN.{length, get_or, set}
use lib.Seq.{get_or-set_same, get_or-set_other, set-get_or}
use Rattle.num.specs.Checks.{◌if◌}
use Rattle.num.proofs.Tests.{cond_zero}
use Rattle.num.specs.declared.Request.{Request}
use Rattle.layout.specs.declared.Layout.{Layout}
use Rattle.client.specs.declared.Ask.{Ask}
use Rattle.client.specs.declared.Ask.TheVariants as ask
use Rattle.client.specs.declared.Page.{Page}
use Rattle.client.specs.declared.Work.TheVariants.{Append}
use Rattle.client.specs.declared.Stage.TheVariants.{Idle, Working}
use Rattle.client.specs.declared.Phase.TheVariants.{Looking}
use Rattle.client.specs.declared.Client.{Client}
use Rattle.client.specs.declared.state.Job.{Job}
use Rattle.client.specs.Message.{plain}
use Rattle.client.specs.Client.{busy, fresh, idle}
use Rattle.client.specs.Turn.{Turn, rests, over, ends, sent, numbered, next}
use Rattle.client.specs.Begin.{with_job, begin_turn, give_up, restart_answer, restarted}
use Rattle.client.specs.Take.{awaited, takes}
use Rattle.rule.specs.declared.Letter.{Letter}
use Rattle.rule.specs.declared.Body.{Body}
use Rattle.rule.specs.declared.Body.TheVariants.{Blank, Asks, Answers}
use Rattle.rule.specs.declared.Step.{Step}
use Rattle.rule.specs.declared.Step.TheVariants.{Begin, Deliver, Drop, Stop, Restart, GiveUp, Forget}
use Rattle.rule.specs.World.{World, is_client, running, client_at, letter_at}
use Rattle.rule.specs.Serve.{serve, asking, offering_to}
use Rattle.rule.specs.Steps.{Done, refused, fine, without, with_client, with_letters, with_stopped, keeping, too_many, sent_by, turned, begin_number, begins, answers, served, taken, response, unbrought, brought, delivered, delivers, drops, stops, restart_number, restarts, gives_up, forgets, step}
use Rattle.rule.proofs.Lists.{client_range}
use Rattle.rule.proofs.Restarting.{restarts_anew, reborn}
use Rattle.vouch.proofs.Together.Or.{other as is_idle}
use Rattle.vouch.proofs.Beginning.{started, begins_so}
use Rattle.vouch.proofs.Begun.{Lets, lets}
use Rattle.vouch.proofs.Steady.{Like, Steady, either, answered_steady}
use Rattle.vouch.proofs.Steady.Steady.{rests_so, sent_so, over_so}

-- y is of a later life than x, or has used no fewer numbers in it
pub data NotBefore (x y : Client) : Type 0 where
  later_life : x.life < y.life → NotBefore x y
  same_life : x.life ≡ y.life → x.used.0 ≤ y.used.0 → NotBefore x y

-- a machine serves, and no client changes
serve_clients : (w : World) (a : Ask) (g : Page) (l : Layout) → (serve w a g l).world.clients ≡ w.clients
unfolding serve asking offering_to
serve_clients w ask.Fetch g l = refl
serve_clients w (ask.Token e) g l = refl
serve_clients w (ask.Unit u a) g l = refl
serve_clients w ask.Offer g l = refl
serve_clients w (ask.Start e p) g l = refl

module _ (w : World) (four : length w.clients ≡ 4) (c : ℕ) (low : 1 ≤ c) (high : c ≤ 4) where
  abbrev x : Client
  x = client_at w c

  -- the operation of c, where the step s with the job j comes to d
  pub data Went (s : Step) (j : Job) (d : Done) : Type 0 where
    went_on : ¬ (d.who ≡ c) → (s ≡ Restart c → ¬ (d.answer ≡ 0)) → busy (client_at d.world c).stage ≡ busy x.stage → (client_at d.world c).work ≡ x.work →
        (x.work ≡ Append → (client_at d.world c).page ≡ x.page) → NotBefore x (client_at d.world c) → Went s j d
    went_begun : s ≡ Begin c → d.answer ≡ 0 → d.who ≡ 0 → busy x.stage ≡ false → client_at d.world c ≡ numbered (with_job x j) (next x) → Went s j d
    went_over : d.who ≡ c → busy x.stage ≡ true → busy (client_at d.world c).stage ≡ false → NotBefore x (client_at d.world c) → Went s j d
    went_forgotten : s ≡ Restart c → d.answer ≡ 0 → ¬ (d.who ≡ c) → busy (client_at d.world c).stage ≡ false → NotBefore x (client_at d.world c) → Went s j d

  -- it is as it was
  same_went : {s : Step} {j : Job} (d : Done) → ¬ (d.who ≡ c) → (s ≡ Restart c → ¬ (d.answer ≡ 0)) → client_at d.world c ≡ x → Went s j d
  same_went d who restart same =
      went_on who restart (ap (λ (y : Client). busy y.stage) same) (ap (λ (y : Client). y.work) same) (λ is. ap (λ (y : Client). y.page) same)
      (subst (λ (y : Client). NotBefore x y) (sym same) (same_life refl (omega arith)))

  clients_went : {s : Step} {j : Job} (d : Done) → d.who ≡ 0 → (s ≡ Restart c → ¬ (d.answer ≡ 0)) → d.world.clients ≡ w.clients → Went s j d
  clients_went d who restart same = same_went d (λ z. omega (arith, who, z)) restart (ap (λ (cs : List Client). get_or cs (c - 1) fresh) same)

  refused_went : {s : Step} {j : Job} (n : ℕ) → ¬ (n ≡ 0) → Went s j (refused w n)
  refused_went n ne = clients_went (refused w n) refl (λ e z. ne z) refl

  -- one client is set anew
  that_client : (y : Client) → get_or (set w.clients (c - 1) y) (c - 1) fresh ≡ y
  that_client y = get_or-set_same w.clients (c - 1) y fresh (omega (arith, four))

  other_client : (i : ℕ) (y : Client) → 1 ≤ i → ¬ (c ≡ i) → get_or (set w.clients (i - 1) y) (c - 1) fresh ≡ x
  other_client i y from ne = get_or-set_other w.clients (i - 1) (c - 1) y fresh (λ z. ne (omega (arith, z)))

  -- ---- a turn of the client i

  turned_went : {s : Step} {j : Job} (i : ℕ) → 1 ≤ i → (ls : List Letter) (t : Turn) → ¬ (s ≡ Restart c) → Steady (client_at w i) (busy (client_at w i).stage) t → Went s j (turned w ls i t)
  unfolding turned idle
  turned_went i from ls t not_restart rests_so = clients_went _ refl (λ e. absurd (not_restart e)) (set-get_or w.clients (i - 1) fresh)
  turned_went {s} {j} i from ls t not_restart (sent_so d q was waits like) = go (ℕ_discrete c i)
    where
      go : Dec (c ≡ i) → Went s j (turned w ls i (sent d q))
      go (no ne) = same_went _ (λ z. omega (arith, z)) (λ e. absurd (not_restart e)) (other_client i (numbered d (next d)) from ne)
      go (yes e) =
          let y = numbered d (next d) in
          let at : get_or (set w.clients (i - 1) y) (c - 1) fresh ≡ y = subst (λ (k : ℕ). get_or (set w.clients (k - 1) y) (c - 1) fresh ≡ y) e (that_client y) in
          let was_so : busy x.stage ≡ true = subst (λ (k : ℕ). busy (client_at w k).stage ≡ true) (sym e) was in
          let like_so : Like x d = subst (λ (k : ℕ). Like (client_at w k) d) (sym e) like in
          went_on (λ z. omega (arith, z)) (λ e. absurd (not_restart e)) (ap (λ (z : Client). busy z.stage) at ∙ (waits ∙ sym was_so))
          (ap (λ (z : Client). z.work) at ∙ like_so.work_same) (λ is. ap (λ (z : Client). z.page) at ∙ like_so.page_same is)
          (subst (λ (z : Client). NotBefore x z) (sym at) (same_life (sym like_so.life_same) (omega (arith, ap (λ (n : Request). n.0) like_so.used_same))))
  turned_went {s} {j} i from ls t not_restart (over_so d n g was life used begun) = go (ℕ_discrete c i)
    where
      go : Dec (c ≡ i) → Went s j (turned w ls i (over d n g))
      go (no ne) = same_went _ (λ z. ne (sym z)) (λ e. absurd (not_restart e)) (other_client i (idle d.life d.used) from ne)
      go (yes e) =
          let y = idle d.life d.used in
          let at : get_or (set w.clients (i - 1) y) (c - 1) fresh ≡ y = subst (λ (k : ℕ). get_or (set w.clients (k - 1) y) (c - 1) fresh ≡ y) e (that_client y) in
          let same_at : NotBefore (client_at w i) y = same_life (sym life) (omega (arith, ap (λ (n : Request). n.0) used)) in
          went_over (sym e) (subst (λ (k : ℕ). busy (client_at w k).stage ≡ true) (sym e) was) (ap (λ (z : Client). busy z.stage) at)
          (subst (λ (z : Client). NotBefore x z) (sym at) (subst (λ (k : ℕ). NotBefore (client_at w k) y) (sym e) same_at))

  -- ---- begin

  begin_went : (i : ℕ) (j : Job) → Went (Begin i) j (begins w i j)
  unfolding begins step turned
  begin_went i j = go (eqb (begin_number w i j) 0) refl
    where
      clash : ¬ (Begin i ≡ Restart c)
      clash e = let z : ◌≡◌ {A = ℕ} 0 1 = cc in omega arith

      turn : Turn
      turn = begin_turn (client_at w i) j w.held.shape

      idle_before : c ≡ i → (client_at w i).stage ≡ Idle → busy x.stage ≡ false
      idle_before e is = subst (λ (k : ℕ). busy (client_at w k).stage ≡ false) (sym e) (ap busy is)

      begun : (ok : Lets w i j) → Dec (c ≡ i) → Went (Begin i) j (turned w w.letters i (sent (started w i ok.ready j ok.fit) (plain ask.Fetch)))
      begun ok (no ne) = same_went _ (λ z. omega (arith, z)) (λ e. absurd (clash e)) (other_client i _ (client_range i ok.ready.of_client).0 ne)
      begun ok (yes e) =
          subst (λ (k : ℕ). Went (Begin k) j (turned w w.letters k (sent (with_job (client_at w k) j) (plain ask.Fetch)))) e
          (went_begun refl refl refl (idle_before e ok.ready.is_idle) (that_client _))

      go : (b : Bool) → eqb (begin_number w i j) 0 ≡ b → Went (Begin i) j (cond b (turned w w.letters i turn) (refused w (begin_number w i j)))
      go true e =
          let ok = lets w i j four (eqb-true (begin_number w i j) 0 e) in
          let is : turned w w.letters i turn ≡ turned w w.letters i (sent (started w i ok.ready j ok.fit) (plain ask.Fetch))
          = sym (ap (λ (b : Bool). cond b (turned w w.letters i turn) (refused w (begin_number w i j))) e) ∙ begins_so w i ok.ready j ok.fit in
          subst (λ (d : Done). Went (Begin i) j d) (sym is) (begun ok (ℕ_discrete c i))
      go false e = refused_went (begin_number w i j) (eqb-false (begin_number w i j) 0 e)

  -- ---- deliver

  module _ (looks : (k : ℕ) → 1 ≤ k → k ≤ 4 → (u : ℕ) → (client_at w k).stage ≡ Working (Looking u) → ¬ ((client_at w k).work ≡ Append)) (i : ℕ) (keep keep_answer : Bool) (j : Job) where
    abbrev s : Step
    s = Deliver i keep keep_answer

    clash : ¬ (s ≡ Restart c)
    clash e = let z : ◌≡◌ {A = ℕ} 0 1 = cc in omega arith

    abbrev there : Letter
    there = letter_at w i

    abbrev kept : List Letter
    kept = keeping keep i w.letters

    body_went : (b : Body) → Went s j (cond (unbrought w there b) (refused w 17) (brought w kept keep_answer there b))
    unfolding served taken takes
    body_went Blank = refused_went 17 (λ z. omega (arith, z))
    body_went (Asks a) = go (unbrought w there (Asks a)) (too_many full)
      where
        full : List Letter
        full = kept ++ answers keep_answer there.stamp (serve w a there.page there.layout).response

        go : (b t : Bool) → Went s j (cond b (refused w 17) (cond t (refused w 16) (fine (with_letters (serve w a there.page there.layout).world full))))
        go true t = refused_went 17 (λ z. omega (arith, z))
        go false true = refused_went 16 (λ z. omega (arith, z))
        go false false = clients_went _ refl (λ e. absurd (clash e)) (serve_clients w a there.page there.layout)
    body_went (Answers r) = go (is_client k) refl (too_many (kept ++ sent_by k t))
      where
        k : ℕ
        k = there.stamp.client

        t : Turn
        t = takes k (client_at w k) there.stamp (response r there)

        go : (b : Bool) → is_client k ≡ b → (f : Bool) → Went s j (cond (not b) (refused w 17) (cond f (refused w 16) (turned w kept k t)))
        go false e f = refused_went 17 (λ z. omega (arith, z))
        go true e true = refused_went 16 (λ z. omega (arith, z))
        go true e false =
            let range = client_range k e in
            let y = client_at w k in
            turned_went k range.0 kept t clash (either (awaited k y there.stamp) (answered_steady y y.stage (response r there) (looks k range.0 range.1)) rests_so)

    deliver_went : Went s j (delivers w i keep keep_answer)
    unfolding delivers delivered
    deliver_went = body_went there.body

  -- ---- the other steps

  drop_went : (i : ℕ) (j : Job) → Went (Drop i) j (drops w i)
  unfolding drops
  drop_went i j = go (ltb i (length w.letters))
    where
      go : (b : Bool) → Went (Drop i) j (cond b (fine (with_letters w (without i w.letters))) (refused w 17))
      go true = clients_went _ refl (λ e. absurd (let z : ◌≡◌ {A = ℕ} 0 1 = cc in omega arith)) refl
      go false = refused_went 17 (λ z. omega (arith, z))

  stop_went : (u : ℕ) (j : Job) → Went (Stop u) j (stops w u)
  unfolding stops
  stop_went u j = go (running w.stopped u)
    where
      go : (b : Bool) → Went (Stop u) j (cond b (fine (with_stopped w (set w.stopped (u - 1) true))) (refused w 17))
      go true = clients_went _ refl (λ e. absurd (let z : ◌≡◌ {A = ℕ} 0 1 = cc in omega arith)) refl
      go false = refused_went 17 (λ z. omega (arith, z))

  give_up_went : (i : ℕ) (j : Job) → Went (GiveUp i) j (gives_up w i)
  unfolding gives_up give_up
  give_up_went i j = go (is_client i) refl
    where
      turn : (b : Bool) → Steady (client_at w i) b (cond b (ends (client_at w i) 20) (rests (client_at w i)))
      turn true = over_so (client_at w i) 20 _ refl refl refl refl
      turn false = rests_so

      go : (b : Bool) → is_client i ≡ b → Went (GiveUp i) j (cond b (turned w w.letters i (give_up (client_at w i))) (refused w 17))
      go true e = turned_went i (client_range i e).0 w.letters (give_up (client_at w i)) (λ e. let z : ◌≡◌ {A = ℕ} 0 1 = cc in omega arith) (turn (busy (client_at w i).stage))
      go false e = refused_went 17 (λ z. omega (arith, z))

  restart_same : {i k : ℕ} → Restart i ≡ Restart k → i ≡ k
  restart_same e = cc (e)

  restart_went : (i : ℕ) (j : Job) → Went (Restart i) j (restarts w i)
  unfolding restarts restart_number step idle
  restart_went i j = go (eqb (restart_number w i) 0) refl (ℕ_discrete c i)
    where
      y : Client
      y = restarted (client_at w i)

      from : eqb (restart_number w i) 0 ≡ true → 1 ≤ i
      from e = (client_range i (not-false (is_client i) (cond_zero (not (is_client i)) 17 (cond (not (eqb (restart_answer (client_at w i)) 0)) 19 0) (omega arith) (eqb-true (restart_number w i) 0 e)).0)).0

      fine_so : eqb (restart_number w i) 0 ≡ true → (step w (Restart i) j).answer ≡ 0
      fine_so e = ap (λ (b : Bool). (cond b (fine (with_client w i y)) (refused w (restart_number w i))).answer) e

      anew : (e : eqb (restart_number w i) 0 ≡ true) → c ≡ i → get_or (set w.clients (i - 1) y) (c - 1) fresh ≡ reborn x
      anew e same =
          let there = restarts_anew w i j four (fine_so e) in
          let at = ap (λ (b : Bool). client_at (cond b (fine (with_client w i y)) (refused w (restart_number w i))).world i) (sym e) ∙ there in
          subst (λ (k : ℕ). get_or (set w.clients (i - 1) y) (k - 1) fresh ≡ reborn (client_at w k)) (sym same) at

      go : (b : Bool) → eqb (restart_number w i) 0 ≡ b → Dec (c ≡ i) → Went (Restart i) j (cond b (fine (with_client w i y)) (refused w (restart_number w i)))
      go true e (yes same) =
          went_forgotten (ap Restart (sym same)) refl (λ z. omega (arith, z)) (ap (λ (z : Client). busy z.stage) (anew e same))
          (subst (λ (z : Client). NotBefore x z) (sym (anew e same)) (later_life (omega arith)))
      go true e (no ne) = same_went _ (λ z. omega (arith, z)) (λ z. absurd (ne (sym (restart_same z)))) (other_client i y (from e) ne)
      go false e d = refused_went (restart_number w i) (eqb-false (restart_number w i) 0 e)

  pub step_went : ((k : ℕ) → 1 ≤ k → k ≤ 4 → (u : ℕ) → (client_at w k).stage ≡ Working (Looking u) → ¬ ((client_at w k).work ≡ Append)) → (s : Step) (j : Job) → Went s j (step w s j)
  unfolding step forgets
  step_went looks (Begin i) j = begin_went i j
  step_went looks (Deliver i keep keep_answer) j = deliver_went looks i keep keep_answer j
  step_went looks (Drop i) j = drop_went i j
  step_went looks (Stop u) j = stop_went u j
  step_went looks (Restart i) j = restart_went i j
  step_went looks (GiveUp i) j = give_up_went i j
  step_went looks Forget j = clients_went _ refl (λ e. absurd (let z : ◌≡◌ {A = ℕ} 0 1 = cc in omega arith)) refl

-- so a client's life and numbers only rise
pub not_before : {w : World} {four : length w.clients ≡ 4} {c : ℕ} {low : 1 ≤ c} {high : c ≤ 4} {s : Step} {j : Job} {d : Done} → Went w four c low high s j d → NotBefore (client_at w c) (client_at d.world c)
not_before (went_on who restart same work page order) = order
not_before {w} {c = c} (went_begun is fine who idle_before client) = subst (λ (y : Client). NotBefore (client_at w c) y) (sym client) (same_life refl (omega arith))
not_before (went_over who busy_before idle_after order) = order
not_before (went_forgotten is fine who idle_after order) = order
