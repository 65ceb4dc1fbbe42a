-- Laws of a client between two turns: with no operation, in its next life, waiting for an answer.
use mathlib.Core.Path.{◌≡◌, refl}
use mathlib.Core.Bool.{true, ◌&&◌}
use Prim.Native.Nat.{ℕ, ◌+◌, ◌≤◌, ◌<◌}
use lib.Dec.{eqb}
use borrow.Author.Tests.{eq-eqb, eqb-true}
use Rattle.num.specs.declared.Request.{Request}
use Rattle.num.proofs.Tests.{and_both}
use Rattle.client.specs.declared.Stamp.{Stamp}
use Rattle.client.specs.declared.Stage.TheVariants.{Idle}
use Rattle.client.specs.declared.Client.{Client}
use Rattle.client.specs.Client.{last_life, idle}
use Rattle.client.specs.Begin.{restarted}
use Rattle.client.specs.Take.{awaited}
use Rattle.client.proofs.Cases.{if_within}

-- ---- with no operation

module _ (life : ℕ) (used : Request) where
  pub idle_life : (idle life used).life ≡ life
  unfolding idle
  idle_life = refl

  pub idle_used : (idle life used).used ≡ used
  unfolding idle
  idle_used = refl

  pub idle_stage : (idle life used).stage ≡ Idle
  unfolding idle
  idle_stage = refl

pub restarted_cases : (P : Client → Type 0) (c : Client) → (last_life ≤ c.life → P c) → (c.life < last_life → P (idle (c.life + 1) (record { 0 = 0 }))) → P (restarted c)
unfolding restarted
restarted_cases P c last next = if_within P last_life c.life last next

-- ---- the answer that it waits for

pub record Awaited (me : ℕ) (c : Client) (s : Stamp) : Type 0 where
  pub client_is : s.client ≡ me
  pub life_is : s.life ≡ c.life
  pub number_is : s.number.0 ≡ c.used.0

module _ (me : ℕ) (c : Client) (s : Stamp) where
  pub awaited_by : awaited me c s ≡ true → Awaited me c s
  unfolding awaited
  awaited_by e =
      let x = and_both (eqb s.client me && eqb s.life c.life) (eqb s.number.0 c.used.0) e in
      let y = and_both (eqb s.client me) (eqb s.life c.life) x.0 in
      record { client_is = eqb-true s.client me y.0; life_is = eqb-true s.life c.life y.1; number_is = eqb-true s.number.0 c.used.0 x.1 }

  pub is_awaited : Awaited me c s → awaited me c s ≡ true
  unfolding awaited
  is_awaited a = rw (eq-eqb s.client me a.client_is, eq-eqb s.life c.life a.life_is, eq-eqb s.number.0 c.used.0 a.number_is)
