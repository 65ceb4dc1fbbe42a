-- A client that restarts: its operation is forgotten, its life is one more, and its numbers are unused again.
use mathlib.Core.Path.{◌≡◌, refl, ◌∙◌}
use mathlib.Core.Bool.{Bool, true, false, not, cond}
use native.Mathlib.Omega.{arith}
use borrow.Author.Tests.{eqb-true, eqb-false, leb-false, not-false}
use lib.Dec.{eqb, leb}
use lib.ListN.{length}
use Prim.Native.Nat.{ℕ, ◌+◌}
use Rattle.num.proofs.Tests.{cond_zero}
use Rattle.client.specs.declared.Client.{Client}
use Rattle.client.specs.declared.state.Job.{Job}
use Rattle.client.specs.Client.{fresh, idle, last_life}
use Rattle.client.specs.Begin.{restart_answer, restarted}
use Rattle.client.proofs.Clients.{restarted_cases}
use Rattle.rule.specs.declared.Step.TheVariants.{Restart}
use Rattle.rule.specs.World.{World, is_client, client_at}
use Rattle.rule.specs.Steps.{fine, refused, with_client, restart_number, restarts, step}
use Rattle.rule.proofs.Lists.{client_range, set_here}

-- idle, in the next life
abbrev pub reborn : Client → Client
reborn c = idle (c.life + 1) (record { 0 = 0 })

restarted_is : (c : Client) → restart_answer c ≡ 0 → restarted c ≡ reborn c
restarted_is c e =
    restarted_cases (λ (x : Client). x ≡ reborn c) c (λ last. absurd (omega (arith, leb-false last_life c.life (cond_zero (leb last_life c.life) 19 0 (omega arith) e).0))) (λ next. refl)

pub restarts_anew : (w : World) (c : ℕ) (j : Job) → length w.clients ≡ 4 → (step w (Restart c) j).answer ≡ 0 → client_at (step w (Restart c) j).world c ≡ reborn (client_at w c)
unfolding step restarts restart_number
restarts_anew w c j four = go (eqb n 0) refl
  where
    n : ℕ
    n = restart_number w c

    x : Client
    x = client_at w c

    go : (b : Bool) → eqb n 0 ≡ b → (cond b (fine (with_client w c (restarted x))) (refused w n)).answer ≡ 0
        → client_at (cond b (fine (with_client w c (restarted x))) (refused w n)).world c ≡ reborn x
    go true e zero_answer =
        let checks = cond_zero (not (is_client c)) 17 (cond (not (eqb (restart_answer x) 0)) 19 0) (omega arith) (eqb-true n 0 e) in
        let range = client_range c (not-false (is_client c) checks.0) in
        let may = eqb-true (restart_answer x) 0 (not-false (eqb (restart_answer x) 0) (cond_zero (not (eqb (restart_answer x) 0)) 19 0 (omega arith) checks.1).0) in
        set_here (λ k y. Client) (λ k. fresh) w.clients 4 c (restarted x) four range.0 range.1 ∙ restarted_is x may
    go false e zero_answer = absurd (eqb-false n 0 e zero_answer)
