-- An operation begins and fetches the layout, with no other step between.
-- Rests on Exchange and Offers.
use mathlib.Core.Path.{◌≡◌, refl, ap, ◌∙◌, sym}
use mathlib.Core.Bool.{true, false, not}
use mathlib.Core.List.{List, ◌∷◌}
use Prim.Native.Nat.{ℕ, ◌≤◌, ◌<◌}
use native.Mathlib.Omega.{arith}
use borrow.Author.Tests.{lt-leb, eq-eqb}
use lib.Dec.{eqb, leb}
use lib.ListN.{length}
use Rattle.num.proofs.Tests.{false_true}
use Rattle.layout.specs.Value.{good_value}
use Rattle.client.specs.declared.Reply.TheVariants.{Held}
use Rattle.client.specs.declared.Response.{Response}
use Rattle.client.specs.declared.Client.{Client}
use Rattle.client.specs.declared.state.Job.{Job}
use Rattle.client.specs.declared.Stage.TheVariants.{Idle}
use Rattle.client.specs.Message.{no_page, plain}
use Rattle.client.specs.declared.Ask.TheVariants.{Fetch}
use Rattle.client.specs.Client.{busy, holding, last_number}
use Rattle.client.specs.Turn.{Turn, numbered, next, sent}
use Rattle.client.specs.Job.{past, too_long, too_many_drops}
use Rattle.client.specs.Begin.{begin_answer, with_job, begin_turn}
use Rattle.client.specs.Take.{goes_on, answered}
use Rattle.client.proofs.Turns.{begin_cases, held_cases, sends_sent}
use Rattle.rule.specs.World.{World, is_client, client_at}
use Rattle.rule.specs.Serve.{serve}
use Rattle.rule.specs.Steps.{Done, turned, begin_number, begins, step}
use Rattle.vouch.specs.Runs.{Move, result}
use Rattle.vouch.specs.LastSentence.{Goes, begin, deliver}
use Rattle.vouch.proofs.Offers.{fetch_does}
use Rattle.vouch.proofs.Exchange.{pass, hold, not_so, goes_to, after, GoesOn, as_turn, waiting, request_served, answer_taken, Asked, exchange_on}

-- client c may begin
pub record Ready (w : World) (c : ℕ) : Type 0 where
  pub of_client : is_client c ≡ true
  pub clients : length w.clients ≡ 4
  pub few : length w.letters ≤ 31
  pub is_idle : (client_at w c).stage ≡ Idle
  pub number_left : (client_at w c).used.0 < last_number

-- what is asked is fit to be begun in a yard of a shape
pub record Fit (j : Job) (shape : ℕ) : Type 0 where
  pub below : past j.work ≡ false
  pub short : too_long j.work j.len shape ≡ false
  pub few_drops : too_many_drops j.work j.change.count ≡ false

module _ (w : World) (c : ℕ) (ready : Ready w c) (j : Job) (fit : Fit j w.held.shape) where
  abbrev x : Client
  x = client_at w c

  not_busy : busy x.stage ≡ false
  not_busy = ap busy ready.is_idle

  left : leb last_number x.used.0 ≡ false
  left = lt-leb last_number x.used.0 ready.number_left

  number_none : begin_number w c j ≡ 0
  unfolding begin_number
  number_none =
      pass _ _ (not (is_client c)) (not_so (is_client c) ready.of_client)
      ∙ (pass _ _ (busy x.stage) not_busy
      ∙ (pass _ _ (leb last_number x.used.0) left
      ∙ (pass _ _ (leb 32 (length w.letters)) (lt-leb 32 (length w.letters) (omega (arith, ready.few)))
      ∙ (pass _ _ (past j.work) fit.below
      ∙ (pass _ _ (too_long j.work j.len w.held.shape) fit.short
      ∙ pass _ _ (too_many_drops j.work j.change.count) fit.few_drops)))))

  answer_none : begin_answer x j w.held.shape ≡ 0
  answer_none =
      pass _ _ (busy x.stage) not_busy
      ∙ (pass _ _ (leb last_number x.used.0) left
      ∙ (pass _ _ (past j.work) fit.below
      ∙ (pass _ _ (too_long j.work j.len w.held.shape) fit.short
      ∙ pass _ _ (too_many_drops j.work j.change.count) fit.few_drops)))

  -- the client with its operation
  abbrev pub started : Client
  started = with_job x j

  turn_is : begin_turn x j w.held.shape ≡ sent started (plain Fetch)
  turn_is =
      begin_cases (λ (t : Turn). t ≡ sent started (plain Fetch)) x j w.held.shape (λ fine. sends_sent started (plain Fetch) ready.number_left) (λ refused. absurd (refused answer_none))

  pub begins_so : result w (begin c j) ≡ turned w w.letters c (sent started (plain Fetch))
  unfolding step begins
  begins_so =
      hold _ _ (eqb (begin_number w c j) 0) (eq-eqb (begin_number w c j) 0 number_none)
      ∙ ap (λ (t : Turn). turned w w.letters c t) turn_is

  -- with the layout in hand
  abbrev pub fetched : Client
  fetched = holding (numbered started (next started)) w.held

  module _ (good : good_value w.held ≡ true) where
    abbrev answer : Response
    answer = record { reply = Held; page = no_page; layout = w.held }

    asks : Asked w c w.letters ready.of_client ready.clients ready.few w.held w.held w.units w.units w.sequencer w.sequencer started (plain Fetch) answer
    unfolding serve
    asks = record {
      there = refl;
      serves = ap (λ (r : Response). record { response = r; world = waiting w c w.letters w.held w.units w.sequencer started (plain Fetch) }) (fetch_does w.held good);
    }

    takes_layout : answered started.stage (numbered started (next started)) answer ≡ goes_on j.work fetched
    takes_layout =
        held_cases (λ (t : Turn). t ≡ goes_on j.work fetched) (numbered started (next started)) w.held (λ fine. refl) (λ bad. absurd (false_true (sym bad ∙ good)))

    pub begin_fetch : {ms : List Move} {d : Done} → GoesOn w c w.letters w.held w.units w.sequencer (goes_on j.work fetched) ms d →
        Goes step w (begin c j ∷ deliver (length w.letters) ∷ deliver (length w.letters) ∷ ms) d
    unfolding turned
    begin_fetch {ms} {d} on =
        goes_to _ begins_so refl refl
        (exchange_on w c w.letters ready.of_client ready.clients ready.few asks
        (as_turn w c w.letters takes_layout on))

    -- the yard then
    pub fetch_leads : let k = length w.letters in
        (result (result (result w (begin c j)).world (deliver k)).world (deliver k)).world ≡ after w c w.letters w.held w.units w.sequencer (goes_on j.work fetched)
    unfolding turned
    fetch_leads =
        let k = length w.letters in
        ap (λ (d : Done). (result (result d.world (deliver k)).world (deliver k)).world) begins_so
        ∙ (ap (λ (d : Done). (result d.world (deliver k)).world)
        (request_served w c w.letters ready.of_client ready.clients ready.few w.held w.held w.units w.units w.sequencer w.sequencer started (plain Fetch) answer asks.there asks.serves)
        ∙ (ap (λ (d : Done). d.world) (answer_taken w c w.letters ready.of_client ready.clients ready.few w.held w.units w.sequencer started answer)
        ∙ ap (λ (t : Turn). after w c w.letters w.held w.units w.sequencer t) takes_layout))
