-- An operation and its client's fields agree: while it is under way, and when it ends, the client has its work and, where it appends, its page. And whatever ends was begun.
-- Rests on Went and Coming.
use mathlib.Core.Path.{◌≡◌, refl, sym, ap, subst, ◌∙◌}
use mathlib.Core.Bool.{true}
use Prim.Native.Nat.{ℕ, ◌+◌, ◌-◌, ◌≤◌}
use native.Mathlib.Omega.{arith}
use Rattle.num.proofs.Tests.{false_true}
use Rattle.layout.specs.declared.Layout.{Layout}
use Rattle.layout.specs.Value.{good_value}
use Rattle.client.specs.declared.Work.TheVariants.{Append}
use Rattle.client.specs.declared.Work.{Work}
use Rattle.client.specs.declared.Stage.{Stage}
use Rattle.client.specs.declared.Stage.TheVariants.{Working}
use Rattle.client.specs.declared.Phase.TheVariants.{Looking}
use Rattle.client.specs.declared.Client.{Client}
use Rattle.client.specs.declared.state.Job.{Job}
use Rattle.client.specs.Client.{busy, idle}
use Rattle.client.specs.Turn.{numbered, next}
use Rattle.client.specs.Job.{data_page, page_for}
use Rattle.client.specs.Begin.{with_job}
use Rattle.rule.specs.declared.Step.{Step}
use Rattle.rule.specs.World.{World, is_client, client_at}
use Rattle.rule.specs.Steps.{step}
use Rattle.rule.specs.Fresh.{fresh_world}
use Rattle.rule.proofs.Lists.{client_range}
use Rattle.vouch.specs.Runs.{Move, Moves, ◌≼◌, result, world, world_by}
use Rattle.vouch.specs.Runs.Moves.{none, ◌▸◌}
use Rattle.vouch.specs.Runs.◌≼◌.{all_of, part_of}
use Rattle.vouch.specs.Pages.{job_page}
use Rattle.vouch.specs.Operations.{Begins, UnderWay, Ends}
use Rattle.vouch.specs.Operations.UnderWay.{begun, still}
use Rattle.vouch.specs.Operations.Ends.{later, at_once}
use Rattle.vouch.specs.Demand.{Known}
use Rattle.vouch.proofs.Meaning.{StageOk, LookingOk}
use Rattle.vouch.proofs.Coming.{come, fresh_client_lem}
use Rattle.vouch.proofs.Begun.{Began, began}
use Rattle.vouch.proofs.Went.{NotBefore, Went, step_went, not_before}
use Rattle.vouch.proofs.Went.NotBefore.{later_life, same_life}
use Rattle.vouch.proofs.Went.Went.{went_on, went_begun, went_over, went_forgotten}

-- the client x has the operation of the job j
pub record Agrees (x : Client) (j : Job) : Type 0 where
  pub has_one : busy x.stage ≡ true
  pub work_is : x.work ≡ j.work
  pub page_is : j.work ≡ Append → x.page ≡ job_page j

begun_agrees : (x y : Client) (j : Job) → y ≡ numbered (with_job x j) (next x) → Agrees y j
begun_agrees x y j is = record {
  has_one = ap (λ (z : Client). busy z.stage) is;
  work_is = ap (λ (z : Client). z.work) is;
  page_is = λ append. ap (λ (z : Client). z.page) is ∙ ap (λ (k : Work). page_for k j.len j.bytes) append;
}

-- ---- later and earlier

order_trans : {x y z : Client} → NotBefore x y → NotBefore y z → NotBefore x z
order_trans (later_life a) (later_life b) = later_life (omega arith)
order_trans (later_life a) (same_life e b) = later_life (omega (arith, e))
order_trans (same_life e a) (later_life b) = later_life (omega (arith, e))
order_trans (same_life e a) (same_life f b) = same_life (e ∙ f) (omega arith)

-- between equal ones
order_mid : {x y z : Client} → NotBefore x y → NotBefore y z → x.life ≡ z.life → x.used.0 ≡ z.used.0 → (x.life ≡ y.life) × (x.used.0 ≡ y.used.0)
order_mid (later_life a) (later_life b) life used = absurd (omega (arith, life))
order_mid (later_life a) (same_life e b) life used = absurd (omega (arith, life, e))
order_mid (same_life e a) (later_life b) life used = absurd (omega (arith, life, e))
order_mid (same_life e a) (same_life f b) life used = (e, omega (arith, used))

no_less : {x y : Client} → NotBefore x y → x.life ≡ y.life → ¬ (x.used.0 ≡ y.used.0 + 1)
no_less (later_life a) life e = omega (arith, life)
no_less (same_life same a) life e = omega (arith, e)

-- an operation that ends: what its client is before
pub record EndsBy (w : World) (c : ℕ) (j : Job) : Type 0 where
  pub of_client : is_client c ≡ true
  pub agrees : Agrees (client_at w c) j

pub record Under (l : Layout) (ms : Moves) (c : ℕ) : Type 0 where
  pub job : Job
  pub way : UnderWay step l c job ms

module _ (l : Layout) (good : good_value l ≡ true) (first : l.epoch.0 ≡ 1) where
  pub looks : (ms : Moves) (k : ℕ) → 1 ≤ k → k ≤ 4 → (u : ℕ) → (client_at (world l ms) k).stage ≡ Working (Looking u) → ¬ ((client_at (world l ms) k).work ≡ Append)
  looks ms k low high u at is =
      let x = client_at (world l ms) k in
      let ok : LookingOk (come l good first ms).now x.work x.layout x.position.0 u
      = subst (λ (st : Stage). StageOk (come l good first ms).now x st) at ((come l good first ms).good.stages k low high) in
      let e = sym ok.is_fill ∙ is in
      let z : ◌≡◌ {A = ℕ} 0 1 = cc in
      omega arith

  went : (ms : Moves) (m : Move) (c : ℕ) (low : 1 ≤ c) (high : c ≤ 4) → Went (world l ms) (come l good first ms).good.clients_long c low high m.does m.job (result (world l ms) m)
  went ms m c low high = step_went (world l ms) (come l good first ms).good.clients_long c low high (looks ms) m.does m.job

  -- a begin that was not refused
  pub begins_so : {ms : Moves} {m : Move} {c : ℕ} {j : Job} → Begins step l ms m c j → Began (world l ms) c m.job
  begins_so {ms} {m} {c} b =
      began (world l ms) c m.job (come l good first ms).good.clients_long (subst (λ (s : Step). (step (world l ms) s m.job).answer ≡ 0) b.does_begin b.not_refused)

  pub under_agrees : {c : ℕ} {j : Job} {ms : Moves} → UnderWay step l c j ms → EndsBy (world l ms) c j
  unfolding world_by
  under_agrees {c = c} {j} (begun {ms = ms} {m} b not_ended) =
      let now = begins_so b in
      let w = world l ms in
      record {
        of_client = now.of_client;
        agrees = subst (λ (k : Job). Agrees (client_at (result w m).world c) k) b.job_is
            (begun_agrees (client_at w c) (client_at (result w m).world c) m.job (ap (λ (s : Step). client_at (step w s m.job).world c) b.does_begin ∙ now.client_is));
      }
  under_agrees {c = c} {j} (still {ms = ms} {m} way leaves) =
      let was = under_agrees way in
      let range = client_range c was.of_client in
      record { of_client = was.of_client; agrees = go was.agrees (went ms m c range.0 range.1) }
    where
      go : {low : 1 ≤ c} {high : c ≤ 4} → Agrees (client_at (world l ms) c) j →
          Went (world l ms) (come l good first ms).good.clients_long c low high m.does m.job (result (world l ms) m) → Agrees (client_at (result (world l ms) m).world c) j
      go was (went_on who restart same work page order) = record {
        has_one = same ∙ was.has_one;
        work_is = work ∙ was.work_is;
        page_is = λ is. page (was.work_is ∙ is) ∙ was.page_is is;
      }
      go was (went_begun is fine who idle_before client) = absurd (false_true (sym idle_before ∙ was.has_one))
      go was (went_over who busy_before idle_after order) = absurd (leaves.not_ended who)
      go was (went_forgotten is fine who idle_after order) = absurd (leaves.not_restarted is fine)

  pub busy_under : (ms : Moves) (c : ℕ) → 1 ≤ c → c ≤ 4 → busy (client_at (world l ms) c).stage ≡ true → Under l ms c
  unfolding world_by fresh_world idle
  busy_under none c low high is = absurd (false_true (sym (ap (λ (x : Client). busy x.stage) (fresh_client_lem 4 (c - 1))) ∙ is))
  busy_under (ms ▸ m) c low high is = go (went ms m c low high) (λ e. busy_under ms c low high e)
    where
      go : {low : 1 ≤ c} {high : c ≤ 4} → Went (world l ms) (come l good first ms).good.clients_long c low high m.does m.job (result (world l ms) m) →
          (busy (client_at (world l ms) c).stage ≡ true → Under l ms c) → Under l (ms ▸ m) c
      go (went_on who restart same work page order) before = let u = before (sym same ∙ is) in record { job = u.job; way = still u.way (record { not_ended = who; not_restarted = restart }) }
      go (went_begun does fine who idle_before client) before =
          record { job = m.job; way = begun {ms = ms} {m = m} (record { does_begin = does; job_is = refl; not_refused = fine }) (λ z. omega (arith, z, who, low)) }
      go (went_over who busy_before idle_after order) before = absurd (false_true (sym idle_after ∙ is))
      go (went_forgotten does fine who idle_after order) before = absurd (false_true (sym idle_after ∙ is))

  -- ---- a client's numbers tell its operations apart

  order : {ms₁ ms : Moves} (c : ℕ) → 1 ≤ c → c ≤ 4 → ms₁ ≼ ms → NotBefore (client_at (world l ms₁) c) (client_at (world l ms) c)
  unfolding world_by
  order c low high all_of = same_life refl (omega arith)
  order c low high (part_of {ms₂ = ms₂} {m} part) = order_trans (order c low high part) (not_before (went ms₂ m c low high))

  -- a client whose life and numbers are as they were has the operation that it had
  pub same_way : {ms₁ ms : Moves} {c : ℕ} {j : Job} → ms₁ ≼ ms → UnderWay step l c j ms → (client_at (world l ms₁) c).life ≡ (client_at (world l ms) c).life →
      (client_at (world l ms₁) c).used.0 ≡ (client_at (world l ms) c).used.0 → UnderWay step l c j ms₁
  unfolding world_by
  same_way all_of way life used = way
  same_way {c = c} (part_of {ms₂ = ms} {m} part) (begun b not_ended) life used =
      let now = begins_so b in
      let range = client_range c now.of_client in
      let x = client_at (world l ms) c in
      let at : client_at (result (world l ms) m).world c ≡ numbered (with_job x m.job) (next x)
      = ap (λ (s : Step). client_at (step (world l ms) s m.job).world c) b.does_begin ∙ now.client_is in
      absurd (no_less (order c range.0 range.1 part) (life ∙ ap (λ (y : Client). y.life) at) (used ∙ ap (λ (y : Client). y.used.0) at))
  same_way {c = c} (part_of {ms₂ = ms} {m} part) (still way leaves) life used =
      let range = client_range c (under_agrees way).of_client in
      let mid = order_mid (order c range.0 range.1 part) (not_before (went ms m c range.0 range.1)) life used in
      same_way part way mid.0 mid.1

  -- no operation ends with the move that begins it
  pub not_at_once : {ms : Moves} {m : Move} {c : ℕ} {j : Job} → Begins step l ms m c j → ¬ ((result (world l ms) m).who ≡ c)
  not_at_once {ms} {m} {c} b who =
      let now = begins_so b in
      let range = client_range c now.of_client in
      let none : (result (world l ms) m).who ≡ 0 = ap (λ (s : Step). (step (world l ms) s m.job).who) b.does_begin ∙ now.who_none in
      omega (arith, none, who, range.0)

  pub ends_under : {ms : Moves} {m : Move} {c : ℕ} {j : Job} → Ends step l ms m c j → UnderWay step l c j ms
  ends_under (later way who) = way
  ends_under (at_once b who) = absurd (not_at_once b who)

  pub ends_by : {ms : Moves} {m : Move} {c : ℕ} {j : Job} → Ends step l ms m c j → EndsBy (world l ms) c j
  ends_by ends = under_agrees (ends_under ends)

  pub ends_who : {ms : Moves} {m : Move} {c : ℕ} {j : Job} → Ends step l ms m c j → (result (world l ms) m).who ≡ c
  ends_who (later way who) = who
  ends_who (at_once b who) = who

  -- whatever ends was begun
  pub end_known : {ms : Moves} {m : Move} {c : ℕ} → is_client c ≡ true → (result (world l ms) m).who ≡ c → Known step l ms m c
  end_known {ms} {m} {c} is who =
      let range = client_range c is in
      go (went ms m c range.0 range.1) (λ e. busy_under ms c range.0 range.1 e)
    where
      go : {low : 1 ≤ c} {high : c ≤ 4} → Went (world l ms) (come l good first ms).good.clients_long c low high m.does m.job (result (world l ms) m) →
          (busy (client_at (world l ms) c).stage ≡ true → Under l ms c) → Known step l ms m c
      go (went_on other restart same work page order) before = absurd (other who)
      go {low = low} (went_begun does fine nobody idle_before client) before = absurd (omega (arith, nobody, who, low))
      go (went_over that busy_before idle_after order) before = let u = before busy_before in record { job = u.job; ends = later u.way who }
      go (went_forgotten does fine other idle_after order) before = absurd (other who)
