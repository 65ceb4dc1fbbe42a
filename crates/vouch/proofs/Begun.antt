-- A begin that is not refused: what lets it through, and its client then.
-- Rests on Beginning and the rules.
use mathlib.Core.Path.{◌≡◌, refl, sym, ap, ◌∙◌}
use mathlib.Core.Bool.{Bool, true, false, not, cond}
use mathlib.Core.List.{◌∷◌, [], ◌++◌}
use Prim.Native.Nat.{ℕ, ◌+◌, ◌-◌}
use native.Mathlib.Omega.{arith}
use borrow.Author.Tests.{eqb-true, not-false, leb-false}
use lib.Dec.{eqb, leb}
use lib.ListN.{length}
use lib.Seq.{get_or-set_same}
use Rattle.num.specs.Checks.{lowest, ◌if◌}
use Rattle.num.proofs.Tests.{cond_zero, false_true}
use Rattle.client.specs.declared.Stage.{Stage}
use Rattle.client.specs.declared.Stage.TheVariants.{Idle}
use Rattle.client.specs.declared.state.Job.{Job}
use Rattle.client.specs.Client.{busy, fresh, last_number}
use Rattle.client.specs.Turn.{numbered, next}
use Rattle.client.specs.Job.{past, too_long, too_many_drops, job_checks}
use Rattle.client.specs.Begin.{ready_checks, with_job, begin_turn}
use Rattle.rule.specs.declared.Step.TheVariants.{Begin}
use Rattle.rule.specs.World.{World, is_client, letter_limit, client_at}
use Rattle.rule.specs.Steps.{Done, refused, fine, turned, begin_number, begins, step}
use Rattle.rule.proofs.Lists.{client_range}
use Rattle.rule.proofs.Tidy.{begin_fine}
use Rattle.vouch.proofs.Together.{Or}
use Rattle.vouch.proofs.Together.Or.{either as is_busy, other as is_idle}
use Rattle.vouch.proofs.Delivering.{busy_or_idle}
use Rattle.vouch.proofs.Beginning.{Ready, Fit, begins_so}

pub record Lets (w : World) (c : ℕ) (j : Job) : Type 0 where
  pub ready : Ready w c
  pub fit : Fit j w.held.shape

pub lets : (w : World) (c : ℕ) (j : Job) → length w.clients ≡ 4 → begin_number w c j ≡ 0 → Lets w c j
unfolding begin_number
lets w c j four e =
    let x = client_at w c in
    let rest = 16 if leb letter_limit (length w.letters) ∷ job_checks j w.held.shape in
    let a = cond_zero (not (is_client c)) 17 (lowest (ready_checks x ++ rest)) (omega arith) e in
    let b = cond_zero (busy x.stage) 18 (lowest ((19 if leb last_number x.used.0 ∷ []) ++ rest)) (omega arith) a.1 in
    let d = cond_zero (leb last_number x.used.0) 19 (lowest rest) (omega arith) b.1 in
    let few = begin_fine w c j e in
    let last : ℕ = cond (too_many_drops j.work j.change.count) 10 0 in
    let p = cond_zero (past j.work) 2 (cond (too_long j.work j.len w.held.shape) 3 last) (omega arith) few.1 in
    let q = cond_zero (too_long j.work j.len w.held.shape) 3 last (omega arith) p.1 in
    let r = cond_zero (too_many_drops j.work j.change.count) 10 0 (omega arith) q.1 in
    record {
      ready = record {
        of_client = not-false (is_client c) a.0;
        clients = four;
        few = omega (arith, few.0);
        is_idle = idle_so x.stage (busy_or_idle x.stage) b.0;
        number_left = leb-false last_number x.used.0 d.0;
      };
      fit = record { below = p.0; short = q.0; few_drops = r.0 };
    }
  where
    idle_so : (st : Stage) → Or (busy st ≡ true) (st ≡ Idle) → busy st ≡ false → st ≡ Idle
    idle_so st (is_busy e) none = absurd (false_true (sym none ∙ e))
    idle_so st (is_idle e) none = e

-- a begin that is not refused meets none of its checks
pub begin_number_lem : (w : World) (c : ℕ) (j : Job) → (step w (Begin c) j).answer ≡ 0 → begin_number w c j ≡ 0
unfolding step begins turned
begin_number_lem w c j = go (eqb (begin_number w c j) 0) refl
  where
    go : (b : Bool) → eqb (begin_number w c j) 0 ≡ b → (cond b (turned w w.letters c (begin_turn (client_at w c) j w.held.shape)) (refused w (begin_number w c j))).answer ≡ 0 → begin_number w c j ≡ 0
    go true e fine = eqb-true (begin_number w c j) 0 e
    go false e fine = fine

-- its client then has the operation, and nobody's ends
pub record Began (w : World) (c : ℕ) (j : Job) : Type 0 where
  pub of_client : is_client c ≡ true
  pub who_none : (step w (Begin c) j).who ≡ 0
  pub client_is : client_at (step w (Begin c) j).world c ≡ numbered (with_job (client_at w c) j) (next (client_at w c))

pub began : (w : World) (c : ℕ) (j : Job) → length w.clients ≡ 4 → (step w (Begin c) j).answer ≡ 0 → Began w c j
unfolding turned
began w c j four fine =
    let ok = lets w c j four (begin_number_lem w c j fine) in
    let range = client_range c ok.ready.of_client in
    let is = begins_so w c ok.ready j ok.fit in
    record {
      of_client = ok.ready.of_client;
      who_none = ap (λ (d : Done). d.who) is;
      client_is = ap (λ (d : Done). client_at d.world c) is ∙ get_or-set_same w.clients (c - 1) _ fresh (omega (arith, four, range.0, range.1));
    }
