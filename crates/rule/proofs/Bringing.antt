-- To whom a letter is brought: an answer to the client that it names and to no other, and nothing to a unit that has stopped.
use mathlib.Core.Path.{◌≡◌, refl, sym, subst}
use mathlib.Core.Bool.{Bool, true, false, not, cond, or-true}
use mathlib.Core.List.{List, ◌++◌}
use native.Mathlib.Omega.{arith}
use lib.ListN.{get_or}
use lib.Seq.{get_or-set_other}
use Prim.Native.Nat.{ℕ, ◌-◌, ◌≤◌}
use Rattle.num.proofs.Tests.{and_false}
use Rattle.client.specs.declared.UnitAsk.{UnitAsk}
use Rattle.client.specs.declared.Ask.TheVariants.{Unit}
use Rattle.client.specs.declared.Reply.{Reply}
use Rattle.client.specs.Turn.{Turn}
use Rattle.client.specs.Client.{fresh}
use Rattle.client.specs.Take.{takes}
use Rattle.rule.specs.declared.Body.{Body}
use Rattle.rule.specs.declared.Body.TheVariants.{Asks, Answers}
use Rattle.rule.specs.declared.Letter.{Letter}
use Rattle.rule.specs.World.{World, is_client, is_unit, running, client_at, letter_at}
use Rattle.rule.specs.Steps.{Done, refused, keeping, too_many, sent_by, turned, taken, unbrought, brought, delivered, delivers, response}
use Rattle.rule.proofs.Lists.{client_range}

-- the client d is as it was
abbrev pub Spared : World → ℕ → Done → Type 0
Spared w d x = client_at x.world d ≡ client_at w d

-- a turn of c
turn_spares : (w : World) (ls : List Letter) (c d : ℕ) (t : Turn) → 1 ≤ c → 1 ≤ d → ¬ (d ≡ c) → Spared w d (turned w ls c t)
unfolding turned
turn_spares w ls c d t low from other = get_or-set_other w.clients (c - 1) (d - 1) t.client fresh (λ e. other (omega arith))

-- whoever an answer does not name
pub others_spared : (w : World) (i : ℕ) (keep keep_answer : Bool) (r : Reply) → (letter_at w i).body ≡ Answers r → (d : ℕ) → 1 ≤ d → ¬ (d ≡ (letter_at w i).stamp.client)
    → Spared w d (delivers w i keep keep_answer)
unfolding delivers delivered taken
others_spared w i keep keep_answer r is d from other =
    subst (λ (b : Body). Spared w d (cond (unbrought w l b) (refused w 17) (brought w ls keep_answer l b))) (sym is) (named (is_client c) refl)
  where
    l : Letter
    l = letter_at w i

    ls : List Letter
    ls = keeping keep i w.letters

    c : ℕ
    c = l.stamp.client

    t : Turn
    t = takes c (client_at w c) l.stamp (response r l)

    fits : is_client c ≡ true → (b : Bool) → Spared w d (cond b (refused w 16) (turned w ls c t))
    fits e true = refl
    fits e false = turn_spares w ls c d t (client_range c e).0 from other

    named : (b : Bool) → is_client c ≡ b → Spared w d (cond (not b) (refused w 17) (cond (too_many (ls ++ sent_by c t)) (refused w 16) (turned w ls c t)))
    named true e = fits e (too_many (ls ++ sent_by c t))
    named false e = refl

-- ---- a unit that has stopped

not_running : (stopped : List Bool) (u : ℕ) → get_or stopped (u - 1) true ≡ true → running stopped u ≡ false
not_running stopped u e = rw (e, and_false (is_unit u))

pub stopped_silent : (w : World) (i : ℕ) (keep keep_answer : Bool) (u : ℕ) (a : UnitAsk) → (letter_at w i).body ≡ Asks (Unit u a) → get_or w.stopped (u - 1) true ≡ true
    → delivers w i keep keep_answer ≡ refused w 17
unfolding delivers delivered
stopped_silent w i keep keep_answer u a is stopped =
    subst (λ (b : Body). cond (unbrought w l b) (refused w 17) (brought w ls keep_answer l b) ≡ refused w 17) (sym is) refused_so
  where
    l : Letter
    l = letter_at w i

    ls : List Letter
    ls = keeping keep i w.letters

    refused_so : cond (unbrought w l (Asks (Unit u a))) (refused w 17) (brought w ls keep_answer l (Asks (Unit u a))) ≡ refused w 17
    refused_so = rw (not_running w.stopped u stopped, or-true)
