-- How a read ends, whatever its number: its client took the answer to its request, had no number left to send, or was told to give up.
-- Rests on EndingSteps, Together, Meaning and Fields.
use mathlib.Core.Path.{◌≡◌, refl, sym, ap, subst, ◌∙◌}
use mathlib.Core.Bool.{Bool, true, false, cond, ◌&&◌}
use Prim.Native.Nat.{ℕ, ◌-◌, ◌<◌}
use native.Mathlib.Omega.{arith}
use borrow.Author.Tests.{eqb-true}
use lib.Dec.{eqb, leb}
use Rattle.num.proofs.Tests.{and_both}
use Rattle.num.specs.Limits.{limit}
use Rattle.num.specs.declared.Position.{Position}
use Rattle.layout.specs.declared.Layout.{Layout}
use Rattle.layout.specs.Value.{good_value}
use Rattle.client.specs.declared.Ask.{Ask}
use Rattle.client.specs.declared.Ask.TheVariants as ask
use Rattle.client.specs.declared.UnitAsk.TheVariants as unit_ask
use Rattle.client.specs.declared.Page.{Page}
use Rattle.client.specs.declared.Query.{Query}
use Rattle.client.specs.declared.Reply.{Reply}
use Rattle.client.specs.declared.Reply.TheVariants.{Held, Given, Fine, Shown, Edged, Refused}
use Rattle.client.specs.declared.Response.{Response}
use Rattle.client.specs.declared.Stamp.{Stamp}
use Rattle.client.specs.declared.Work.{Work}
use Rattle.client.specs.declared.Work.TheVariants as work
use Rattle.client.specs.declared.Stage.{Stage}
use Rattle.client.specs.declared.Stage.TheVariants.{Idle, Fetching, Working}
use Rattle.client.specs.declared.Phase.TheVariants.{Drawing, Writing, Reading, Filling, Looking, Trimming, Pruning, Sealing, Offering, Starting}
use Rattle.client.specs.declared.Client.{Client}
use Rattle.client.specs.declared.state.Job.{Job}
use Rattle.client.specs.Message.{no_refusal, is_showable, no_page, plain}
use Rattle.client.specs.Client.{busy, last_number, in_phase, holding}
use Rattle.client.specs.Turn.{Act, Rests, Ends, Turn, rests, over, ends, outcome_of, sent, sends, otherwise}
use Rattle.client.specs.Way.{tail_for}
use Rattle.client.specs.Read.{reads, page_taken, on_read}
use Rattle.client.specs.Take.{goes_on, holds, on_fetched, answered, awaited, takes}
use Rattle.client.proofs.Turns.{refusal_some, works_good}
use Rattle.rule.specs.declared.Letter.{Letter}
use Rattle.rule.specs.declared.Body.TheVariants.{Answers}
use Rattle.rule.specs.declared.Step.{Step}
use Rattle.rule.specs.World.{World, is_client, client_at, letter_at}
use Rattle.rule.specs.Steps.{response, step}
use Rattle.rule.proofs.Lists.{client_range}
use Rattle.history.specs.Words.{Answer}
use Rattle.history.specs.Words.Answer.{shows, trimmed, unwritten}
use Rattle.history.specs.History.{History}
use Rattle.vouch.specs.Runs.{Moves}
use Rattle.vouch.proofs.Carried.{carried}
use Rattle.vouch.proofs.Fields.{Returns}
use Rattle.vouch.proofs.Fields.Returns.{returns_page, returns_trimmed, returns_unwritten}
use Rattle.vouch.proofs.Meaning.{Means, StageOk, Waits}
use Rattle.vouch.proofs.Meaning.Means.{means_held}
use Rattle.vouch.proofs.Meaning.Waits.{waits_fetch, waits_token, waits_write, waits_read, waits_fill, waits_look, waits_trim, waits_prune, waits_seal, waits_offer, waits_start}
use Rattle.vouch.proofs.Together.{letter_there, Current, Answered, BodyOk, client_of, LetterOk, Good}
use Rattle.vouch.proofs.EndingSteps.{Took}

-- ---- what the answer did

-- the turn t of a client that reads, which took the answer x to the request a
pub data ReadTold (c : Client) (a : Ask) (x : Response) (t : Turn) : Type 0 where
  told_answer : (u : ℕ) → a ≡ ask.Unit u (unit_ask.Read c.layout.epoch c.position) → c.work ≡ work.Read c.position → c.position.0 < limit →
      t ≡ on_read c x.reply x.page → ReadTold c a x t
  told_spent : x.reply ≡ Held → t.outcome.number ≡ 19 → ReadTold c a x t

sends_spent : (c : Client) (q : Query) → (sends c q).act ≡ Ends → (sends c q).outcome.number ≡ 19
unfolding sends
sends_spent c q = go (leb last_number c.used.0)
  where
    go : (b : Bool) → (cond b (ends c 19) (sent c q)).act ≡ Ends → (cond b (ends c 19) (sent c q)).outcome.number ≡ 19
    go true e = refl
    go false e = absurd (let z : ◌≡◌ {A = ℕ} 0 1 = cc in omega arith)

module _ (c : Client) (p : Position) (is : c.work ≡ work.Read p) where
  fetch_spent : (l : Layout) → good_value l ≡ true → (holds c l).act ≡ Ends → (holds c l).outcome.number ≡ 19
  unfolding holds
  fetch_spent l good done =
      let now : holds c l ≡ goes_on (work.Read p) (holding c l)
      = ap (λ (b : Bool). cond b (goes_on c.work (holding c l)) (ends c 10)) good ∙ ap (λ (k : Work). goes_on k (holding c l)) is in
      let d = holding c l in
      ap (λ (t : Turn). t.outcome.number) now
      ∙ sends_spent (in_phase d (Reading (tail_for d))) (plain (ask.Unit (tail_for d) (unit_ask.Read d.layout.epoch d.position))) (sym (ap (λ (t : Turn). t.act) now) ∙ done)

  clash : {A : Type 0} {k : Work} → c.work ≡ k → ¬ (k ≡ work.Read p) → A
  clash other ne = absurd (ne (sym other ∙ is))

  pub told : {h : History} {a : Ask} {g : Page} {k : Layout} {x : Response} (st : Stage) → StageOk h c st → Waits c.layout c.position c.page c.plan st a g k →
      Means h a g k x → (answered st c x).act ≡ Ends → ReadTold c a x (answered st c x)
  told Idle ok waits means done = elim waits [ ]
  told Fetching ok waits_fetch (means_held {l = l} laid good) done = told_spent refl (fetch_spent l good done)
  told {x = x} (Working (Reading u)) ok waits_read means done = told_answer u refl ok.is_read ok.low (works_good c (Reading u) x.reply x.page ok.fetched.is_good_lem)
  told (Working (Drawing n)) ok waits_token means done = clash ok.for_append (λ e. let z : ◌≡◌ {A = ℕ} 0 1 = cc in omega arith)
  told (Working (Writing u n)) ok waits_write means done = clash ok.for_append (λ e. let z : ◌≡◌ {A = ℕ} 0 1 = cc in omega arith)
  told (Working (Filling u)) ok waits_fill means done = clash ok.is_fill (λ e. let z : ◌≡◌ {A = ℕ} 0 1 = cc in omega arith)
  told (Working (Looking u)) ok waits_look means done = clash ok.is_fill (λ e. let z : ◌≡◌ {A = ℕ} 0 1 = cc in omega arith)
  told (Working (Trimming u)) ok waits_trim means done = clash ok.is_trim (λ e. let z : ◌≡◌ {A = ℕ} 0 1 = cc in omega arith)
  told (Working (Pruning u)) ok waits_prune means done = clash ok.is_prune (λ e. let z : ◌≡◌ {A = ℕ} 0 1 = cc in omega arith)
  told (Working (Sealing u e)) ok waits_seal means done = clash ok.is_reorganise (λ e. let z : ◌≡◌ {A = ℕ} 0 1 = cc in omega arith)
  told (Working (Offering q)) ok waits_offer means done = clash ok.is_reorganise (λ e. let z : ◌≡◌ {A = ℕ} 0 1 = cc in omega arith)
  told (Working Starting) ok waits_start means done = clash ok.is_reorganise (λ e. let z : ◌≡◌ {A = ℕ} 0 1 = cc in omega arith)

-- what an answer to a read tells
pub data Tells (x : Response) : Answer → Type 0 where
  tells_page : x.reply ≡ Shown → Tells x (shows (carried x.page))
  tells_trimmed : x.reply ≡ Refused 5 → Tells x trimmed
  tells_unwritten : x.reply ≡ Refused 7 → Tells x unwritten

-- what a read returns, the answer told
pub returned_told : (c : Client) (x : Response) (r : Answer) → (on_read c x.reply x.page).act ≡ Ends → Returns (on_read c x.reply x.page).outcome r → Tells x r
unfolding otherwise no_refusal page_taken
returned_told c x r = go x.reply refl
  where
    idle_turn : {A : Type 0} → ◌≡◌ {A = Act} Rests Ends → A
    idle_turn e = absurd (let z : ◌≡◌ {A = ℕ} 0 1 = cc in omega arith)

    page_told : {r : Answer} → x.reply ≡ Shown → Returns (outcome_of c 0 x.page) r → Tells x r
    page_told is (returns_page e) = tells_page is
    page_told is (returns_trimmed e) = absurd (omega (arith, e))
    page_told is (returns_unwritten e) = absurd (omega (arith, e))

    number_told : {r : Answer} (n : ℕ) → x.reply ≡ Refused n → ¬ (n ≡ 0) → Returns (outcome_of c n no_page) r → Tells x r
    number_told n is n0 (returns_page e) = absurd (n0 e)
    number_told n is n0 (returns_trimmed e) = tells_trimmed (is ∙ ap Refused e)
    number_told n is n0 (returns_unwritten e) = tells_unwritten (is ∙ ap Refused e)

    page_so : x.reply ≡ Shown → (b : Bool) → (cond b (over c 0 x.page) (rests c)).act ≡ Ends → Returns (cond b (over c 0 x.page) (rests c)).outcome r → Tells x r
    page_so is true act returns = page_told is returns
    page_so is false act returns = idle_turn act

    refused_so : (n : ℕ) → x.reply ≡ Refused n → (b : Bool) → no_refusal n ≡ b → (cond b (rests c) (ends c n)).act ≡ Ends → Returns (cond b (rests c) (ends c n)).outcome r → Tells x r
    refused_so n is true e act returns = idle_turn act
    refused_so n is false e act returns = number_told n is (refusal_some n e) returns

    go : (a : Reply) → x.reply ≡ a → (on_read c a x.page).act ≡ Ends → Returns (on_read c a x.page).outcome r → Tells x r
    go Held is act returns = idle_turn act
    go (Given p) is act returns = idle_turn act
    go Fine is act returns = idle_turn act
    go Shown is act returns = page_so is (is_showable x.page) act returns
    go (Edged p) is act returns = idle_turn act
    go (Refused n) is act returns = refused_so n is (no_refusal n) refl act returns

-- ---- and the answer is to the request that the client waits for

pub record Heard (l : Layout) (ms : Moves) (h : History) (w : World) (c : ℕ) (s : Step) (j : Job) (letter : Letter) (reply : Reply) : Type 0 where
  pub answered_it : Answered l ms h (client_at w c) letter reply
  pub current : Current (client_at w c) letter.stamp
  pub turn : Turn
  pub act_is : turn.act ≡ Ends
  pub told_it : ReadTold (client_at w c) answered_it.ask (response reply letter) turn
  pub outcome_is : (step w s j).outcome ≡ turn.outcome

module _ {l : Layout} {ms : Moves} {h : History} {w : World} (good : Good l ms h w) (s : Step) (j : Job) (c : ℕ) (of_client : is_client c ≡ true) (t : Took w s j c) where
  abbrev letter : Letter
  letter = letter_at w t.place

  letter_ok : LetterOk l ms h w.clients letter
  letter_ok = letter_there good t.place (λ e. let both = sym t.body_is ∙ e in let z : ◌≡◌ {A = ℕ} 0 1 = cc in omega arith)

  body_ok : BodyOk l ms h (client_at w c) letter (Answers t.reply)
  body_ok = subst (λ k. BodyOk l ms h (client_of w.clients k) letter (Answers t.reply)) t.client_is
      (subst (λ b. BodyOk l ms h (client_of w.clients letter.stamp.client) letter b) t.body_is letter_ok.body_ok)

  pub heard : (p : Position) → (client_at w c).work ≡ work.Read p → busy (client_at w c).stage ≡ true → Heard l ms h w c s j letter t.reply
  unfolding takes awaited
  heard p is waiting = go (awaited c d st) refl t.act_is t.outcome_is
    where
      d : Client
      d = client_at w c

      st : Stamp
      st = letter.stamp

      x : Response
      x = response t.reply letter

      go : (b : Bool) → awaited c d st ≡ b → (cond b (answered d.stage d x) (rests d)).act ≡ Ends → (step w s j).outcome ≡ (cond b (answered d.stage d x) (rests d)).outcome →
          Heard l ms h w c s j letter t.reply
      go true e done out =
          let a = and_both (eqb st.client c && eqb st.life d.life) (eqb st.number.0 d.used.0) e in
          let b = and_both (eqb st.client c) (eqb st.life d.life) a.0 in
          let current : Current d st = record { life_is = eqb-true st.life d.life b.1; number_is = eqb-true st.number.0 d.used.0 a.1; is_busy = waiting } in
          let was = body_ok current in
          let range = client_range c of_client in
          record {
            answered_it = was;
            current = current;
            turn = answered d.stage d x;
            act_is = done;
            told_it = told d p is d.stage (good.stages c range.0 range.1) was.waits was.means done;
            outcome_is = out;
          }
      go false e done out = absurd (let z : ◌≡◌ {A = ℕ} 0 1 = cc in omega arith)
