-- A client's turn is taken: the yard afterwards is as good, and an outcome vouches for what it says.
-- Rests on Together and Turns.
use mathlib.Core.Path.{◌≡◌, refl, sym, ap, subst, ◌∙◌}
use mathlib.Core.Bool.{true}
use mathlib.Core.List.{List, [], ◌++◌}
use Prim.Native.Nat.{ℕ, ◌-◌, ◌≤◌}
use native.Mathlib.Omega.{arith}
use lib.ListN.{set, length-set}
use lib.Seq.{set-get_or}
use Rattle.num.proofs.Tests.{false_true}
use Rattle.num.specs.declared.Request.{Request}
use Rattle.layout.specs.declared.Layout.{Layout}
use Rattle.client.specs.declared.Stamp.{Stamp}
use Rattle.client.specs.declared.Query.{Query}
use Rattle.client.specs.declared.Client.{Client}
use Rattle.client.specs.declared.Stage.{Stage}
use Rattle.client.specs.Client.{fresh, busy, idle}
use Rattle.client.specs.Turn.{Turn, outcome_of, numbered, next, sent}
use Rattle.client.proofs.Clients.{idle_life, idle_used, idle_stage}
use Rattle.rule.specs.declared.Letter.{Letter}
use Rattle.rule.specs.World.{World, is_client, client_at}
use Rattle.rule.specs.Steps.{Done, refused, with_letters, with_client, request, turned}
use Rattle.history.specs.History.{History}
use Rattle.history.specs.History.◌⊑◌.{here}
use Rattle.vouch.specs.Runs.{Move, Moves}
use Rattle.vouch.specs.Runs.Moves.{◌▸◌}
use Rattle.vouch.specs.Runs.◌≼◌.{all_of, part_of}
use Rattle.vouch.proofs.Meaning.{AskOk, StageOk, WaitsFor, OutcomeOk}
use Rattle.rule.proofs.Lists.{All, all_end, all_same, set_all, set_here}
use Rattle.vouch.proofs.Machines.{Machines}
use Rattle.vouch.proofs.Turns.{TurnOk, stage_numbered}
use Rattle.vouch.proofs.Turns.TurnOk.{rests_ok, sent_ok, over_ok}
use Rattle.vouch.proofs.Together.{NotLater, Current, RequestOk, client_of, LetterOk, Good, Next, Newer, letters_on, letters_newer}
use Rattle.vouch.proofs.Together.NotLater.{older_life, this_life}
use Rattle.vouch.proofs.Together.Or.{either}

-- the machines do not look at clients and letters
pub machines_as : {h : History} {w : World} (cs : List Client) (ls : List Letter) → Machines h w →
    Machines h (record { held = w.held; clients = cs; stopped = w.stopped; units = w.units; sequencer = w.sequencer; letters = ls })
machines_as cs ls m = record {
  run = m.run;
  held_is = m.held_is;
  held_good = m.held_good;
  sequencer_low = m.sequencer_low;
  units_long = m.units_long;
  units = m.units;
}

module _ (l : Layout) (ms : Moves) (m : Move) {h : History} {w : World} (good : Good l ms h w) where
  -- the same letters, a move later
  pub later_letters : {cs : List Client} {ls : List Letter} → All (LetterOk l ms h cs) ls → All (LetterOk l (ms ▸ m) h cs) ls
  later_letters all = letters_on l (part_of all_of) good.machines.run here all

  -- nobody's operation ends
  pub silent : (d : Done) → d.who ≡ 0 → Good l (ms ▸ m) h d.world → Next l ms m h w d
  silent d nobody after = record {
    now = h;
    part = here;
    good = after;
    asked = λ n. either;
    outcome_ok = λ c low high who. absurd (omega (arith, who, nobody));
  }

  pub unchanged : Good l (ms ▸ m) h w
  unchanged = record { machines = good.machines; clients_long = good.clients_long; stages = good.stages; letters = later_letters good.letters }

  -- a refused step changes nothing
  pub refused_ok : (n : ℕ) → Next l ms m h w (refused w n)
  refused_ok n = silent (refused w n) refl unchanged

  -- other letters
  pub with_letters_lem : {ls : List Letter} → All (LetterOk l ms h w.clients) ls → Good l (ms ▸ m) h (with_letters w ls)
  with_letters_lem {ls} all = record {
    machines = machines_as w.clients ls good.machines;
    clients_long = good.clients_long;
    stages = good.stages;
    letters = later_letters all;
  }

  -- a client with no operation vouches for nothing
  pub idle_ok : (life : ℕ) (used : Request) → StageOk h (idle life used) (idle life used).stage
  idle_ok life used = subst (λ (st : Stage). StageOk h (idle life used) st) (sym (idle_stage life used)) tt

  -- a client that is as it was
  pub same_client : (i : ℕ) (ls : List Letter) → All (LetterOk l ms h w.clients) ls → Good l (ms ▸ m) h (with_letters (with_client w i (client_at w i)) ls)
  same_client i ls all =
      let same = sym (set-get_or w.clients (i - 1) fresh) in
      record {
        machines = machines_as (set w.clients (i - 1) (client_at w i)) ls good.machines;
        clients_long = length-set w.clients (i - 1) (client_at w i) ∙ good.clients_long;
        stages = subst (λ (cs : List Client). (c : ℕ) → 1 ≤ c → c ≤ 4 → StageOk h (client_of cs c) (client_of cs c).stage) same good.stages;
        letters = subst (λ (cs : List Client). All (LetterOk l (ms ▸ m) h cs) ls) same (later_letters all);
      }

  module _ (i : ℕ) (low : 1 ≤ i) (high : i ≤ 4) where
    -- a newer client
    pub new_client : (d : Client) (ls more : List Letter) → Newer (client_at w i) d → StageOk h d d.stage → All (LetterOk l ms h w.clients) ls →
        (All (LetterOk l ms h (set w.clients (i - 1) d)) ls → All (LetterOk l ms h (set w.clients (i - 1) d)) more) → Good l (ms ▸ m) h (with_letters (with_client w i d) more)
    new_client d ls more newer stage all and_more = record {
      machines = machines_as (set w.clients (i - 1) d) more good.machines;
      clients_long = length-set w.clients (i - 1) d ∙ good.clients_long;
      stages = set_all (λ j c. StageOk h c c.stage) (λ j. fresh) w.clients 4 i d good.clients_long low high stage (λ j from to ne. good.stages j from to);
      letters = later_letters (and_more (letters_newer l ms h w.clients i d good.clients_long low high newer ls all));
    }

    -- one that is idle waits for nothing
    pub idle_newer : (life : ℕ) (used : Request) → ((s : Stamp) → NotLater (client_at w i) s → NotLater (idle life used) s) → Newer (client_at w i) (idle life used)
    idle_newer life used number_ok = record { number_ok = number_ok; none_current = λ s old current. false_true (ap busy (sym (idle_stage life used)) ∙ current.is_busy) }

    -- one that has sent a request waits for none that was sent before
    sent_newer : (d : Client) → d.life ≡ (client_at w i).life → d.used ≡ (client_at w i).used → Newer (client_at w i) (numbered d (next d))
    sent_newer d life used = record { number_ok = numbers; none_current = none }
      where
        same : d.used.0 ≡ (client_at w i).used.0
        same = ap (λ (n : Request). n.0) used

        numbers : (s : Stamp) → NotLater (client_at w i) s → NotLater (numbered d (next d)) s
        numbers s (older_life lt) = older_life (omega (arith, life))
        numbers s (this_life e le) = this_life (e ∙ sym life) (omega (arith, same))

        none : (s : Stamp) → NotLater (client_at w i) s → ¬ Current (numbered d (next d)) s
        none s (older_life lt) current = omega (arith, life, current.life_is)
        none s (this_life e le) current = omega (arith, same, current.number_is)

    -- the request that it has sent
    sent_letter : (d : Client) (q : Query) → is_client i ≡ true → WaitsFor d q.ask q.page q.layout → AskOk h q.ask q.page q.layout →
        LetterOk l ms h (set w.clients (i - 1) (numbered d (next d))) (request (record { client = i; life = d.life; number = next d }) q)
    sent_letter d q is waits asks =
        let at = sym (set_here (λ j c. Unit {0}) (λ j. fresh) w.clients 4 i (numbered d (next d)) good.clients_long low high) in
        let s : Stamp = record { client = i; life = d.life; number = next d } in
        record {
          of_client = is;
          not_later_lem = subst (λ (c : Client). NotLater c s) at (this_life refl (omega arith));
          body_ok = subst (λ (c : Client). RequestOk h c s q.ask q.page q.layout) at (record { vouches = asks; current = λ current. waits });
        }

    pub turned_ok : is_client i ≡ true → (ls : List Letter) → All (LetterOk l ms h w.clients) ls → (t : Turn) → TurnOk h (client_at w i) t → Next l ms m h w (turned w ls i t)
    unfolding turned
    turned_ok is ls all t rests_ok = silent (turned w ls i t) refl (same_client i (ls ++ []) (all_same ls all))
    turned_ok is ls all t (sent_ok d q life used waiting stage waits asks) =
        silent (turned w ls i (sent d q)) refl
        (new_client (numbered d (next d)) ls _ (sent_newer d life used) (stage_numbered h d (next d) d.stage stage) all (λ newer. all_end ls newer (sent_letter d q is waits asks)))
    turned_ok is ls all t (over_ok d n g life used ok) = record {
      now = h;
      part = here;
      good = new_client (idle d.life d.used) ls _ (idle_newer d.life d.used numbers) (idle_ok d.life d.used) all (λ newer. all_same ls newer);
      asked = λ n. either;
      outcome_ok = λ c from to who. subst (λ j. OutcomeOk h (client_at w j).work (client_at w j).page (outcome_of d n g)) who ok;
    }
      where
        numbers : (s : Stamp) → NotLater (client_at w i) s → NotLater (idle d.life d.used) s
        numbers s (older_life lt) = older_life (omega (arith, life, idle_life d.life d.used))
        numbers s (this_life e le) =
            this_life (e ∙ (sym life ∙ sym (idle_life d.life d.used))) (omega (arith, ap (λ (n : Request). n.0) used, ap (λ (n : Request). n.0) (idle_used d.life d.used)))
