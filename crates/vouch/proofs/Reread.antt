-- A read, with no other step between: one request to fetch, one to the tail, and it ends with what the tail answers.
-- Rests on Beginning and Walks.
use mathlib.Core.Path.{◌≡◌, refl, sym, ap, ◌∙◌}
use mathlib.Core.Bool.{Bool, true, false, cond}
use mathlib.Core.List.{List, [], ◌∷◌}
use Prim.Native.Nat.{ℕ, ◌+◌, ◌-◌, ◌≤◌, ◌<◌}
use native.Mathlib.Omega.{arith}
use borrow.Author.Tests.{lt-leb, eqb-true, eqb-false}
use lib.Dec.{eqb, leb}
use lib.ListN.{length, set}
use lib.Seq.{get_or-append_seam, get_or-set_same}
use Rattle.num.specs.Limits.{limit}
use Rattle.num.specs.declared.Epoch.{Epoch}
use Rattle.num.specs.declared.Position.{Position}
use Rattle.layout.specs.Value.{lay_of, good_value, blank}
use Rattle.layout.specs.Places.{set_at, tail_of}
use Rattle.unit.specs.State.{Content, State}
use Rattle.unit.specs.Unit.{says as unit_says_lem, report}
use Rattle.unit.specs.Unit.Request.{read}
use Rattle.unit.proofs.Answers.{after_read}
use Rattle.unit.proofs.Marks.{ReadTells, read_tells}
use Rattle.unit.proofs.Marks.ReadTells.{read_position, read_sealed, read_trimmed, read_unwritten, read_page}
use Rattle.client.specs.declared.UnitAsk.TheVariants as unit_ask
use Rattle.client.specs.declared.Ask.TheVariants as ask
use Rattle.client.specs.declared.Page.{Page}
use Rattle.client.specs.declared.Query.{Query}
use Rattle.client.specs.declared.Reply.TheVariants.{Shown, Refused}
use Rattle.client.specs.declared.Response.{Response}
use Rattle.client.specs.declared.Stamp.{Stamp}
use Rattle.client.specs.declared.Client.{Client}
use Rattle.client.specs.declared.Work.TheVariants.{Read}
use Rattle.client.specs.declared.Phase.TheVariants.{Reading}
use Rattle.client.specs.declared.Outcome.{Outcome}
use Rattle.client.specs.Message.{last_refusal, is_showable, no_page, plain}
use Rattle.client.specs.Client.{fresh, busy, job_of, in_phase, last_number}
use Rattle.client.specs.Turn.{Ends, Turn, sent_so_far, outcome_of, numbered, next, sends, over}
use Rattle.client.specs.Read.{on_read}
use Rattle.client.specs.Way.{tail_for}
use Rattle.client.specs.Take.{goes_on, worked, answered}
use Rattle.client.proofs.Turns.{page_cases, otherwise_cases, sends_sent, otherwise_ends, page_shown_lem, works_good}
use Rattle.rule.specs.World.{World, shape_under, running, client_at, unit_at, letter_at, blank_letter}
use Rattle.rule.specs.Serve.{ServedWorld, bare, page_of, unit_says, unit_after, serve}
use Rattle.rule.specs.Serve.{page_shown as reading_of}
use Rattle.rule.specs.Steps.{Done, fine, request, ended, answer_to, step}
use Rattle.rule.proofs.Serving.{unit_same}
use Rattle.vouch.specs.Runs.{result}
use Rattle.vouch.specs.LastSentence.{Goes, begin, deliver, exchanges, reading}
use Rattle.vouch.proofs.Walks.{units_at_lem}
use Rattle.vouch.proofs.Exchange.{not_so, yard, place, as_turn, sends_on, after, waiting, request_served, answer_taken, Asked, exchange_ends}
use Rattle.vouch.proofs.Beginning.{Ready, Fit, fetched, begin_fetch, fetch_leads}

-- the page of an answer, none unless it is 0
abbrev pub shown_by : ℕ → Content → Page
shown_by n s = cond (eqb n 0) (page_of s) no_page

-- what is answered to a read: the page, or the number
abbrev told : ℕ → Content → Bool → Response
told n s b = cond b (record { reply = Shown; page = page_of s; layout = blank }) (bare (Refused n))

-- the client ends with the number and the page that it is answered
takes_answer : (x : Client) (n : ℕ) (s : Content) → (n ≡ 0 → is_showable (page_of s) ≡ true) → n ≤ last_refusal → (b : Bool) → eqb n 0 ≡ b →
    on_read x (told n s b).reply (told n s b).page ≡ over x n (cond b (page_of s) no_page)
takes_answer x n s fits few true e =
    let none = eqb-true n 0 e in
    page_shown_lem x (page_of s) (fits none) ∙ ap (λ m. over x m (page_of s)) (sym none)
takes_answer x n s fits few false e = otherwise_ends x n (eqb-false n 0 e) few

-- and where it ends, it is with those
pub ends_answer : (x : Client) (n : ℕ) (s : Content) (b : Bool) → eqb n 0 ≡ b → (on_read x (told n s b).reply (told n s b).page).act ≡ Ends →
    (on_read x (told n s b).reply (told n s b).page).outcome ≡ outcome_of x n (cond b (page_of s) no_page)
ends_answer x n s true e =
    page_cases (λ (t : Turn). t.act ≡ Ends → t.outcome ≡ outcome_of x n (page_of s)) x (page_of s) (λ page_shown done. ap (λ m. outcome_of x m (page_of s)) (sym (eqb-true n 0 e)))
    (λ misfit done. absurd (let z : ◌≡◌ {A = ℕ} 0 1 = cc in omega arith))
ends_answer x n s false e =
    otherwise_cases (λ (t : Turn). t.act ≡ Ends → t.outcome ≡ outcome_of x n no_page) x n (λ none done. absurd (let z : ◌≡◌ {A = ℕ} 0 1 = cc in omega arith)) (λ some done. refl)

few_told : {M : State} {e : Epoch} {p : Position} {n : ℕ} → ReadTells M e p n → n ≤ last_refusal
few_told (read_position a) = omega arith
few_told (read_sealed a) = omega arith
few_told (read_trimmed a b) = omega arith
few_told (read_unwritten a b) = omega arith
few_told (read_page a b c) = omega arith

module _ (w : World) (c : ℕ) (ready : Ready w c) (p : Position) (below : p.0 < limit) (good : good_value w.held ≡ true) where
  fit : Fit (job_of (Read p)) w.held.shape
  fit = record { below = lt-leb limit p.0 below; short = refl; few_drops = refl }

  abbrev x : Client
  x = fetched w c ready (job_of (Read p)) fit

  -- the tail of p's set
  abbrev pub tail : ℕ
  tail = tail_of (set_at (lay_of w.held) p.0)

  abbrev ask_tail : Query
  ask_tail = plain (ask.Unit tail (unit_ask.Read w.held.epoch p))

  tail_is : tail_for x ≡ tail
  tail_is = ap tail_of (units_at_lem w.held p.0 good below)

  -- the client once it asks the tail
  abbrev y : Client
  y = in_phase x (Reading tail)

  reads_tail : goes_on (Read p) x ≡ sends y ask_tail
  reads_tail = ap (λ u. sends (in_phase x (Reading u)) (plain (ask.Unit u (unit_ask.Read w.held.epoch p)))) tail_is

  abbrev M : State
  M = unit_at w tail

  abbrev pub says : ℕ
  says = unit_says_lem (shape_under w.held) M (read w.held.epoch p)

  abbrev pub shows : Page
  shows = shown_by says (report (shape_under w.held) M (read w.held.epoch p)).page

  abbrev response : Response
  response = reading_of (shape_under w.held) M w.held.epoch p

  module _ (works : running w.stopped tail ≡ true) (left : (client_at w c).used.0 + 2 ≤ last_number)
      (a_page : says ≡ 0 → is_showable (page_of (report (shape_under w.held) M (read w.held.epoch p)).page) ≡ true) where
    asks : Asked w c w.letters ready.of_client ready.clients ready.few w.held w.held w.units w.units w.sequencer w.sequencer y ask_tail response
    unfolding unit_says unit_after serve
    asks = record { there = not_so (running w.stopped tail) works; serves = ap there_with (ap (λ (s : State). set w.units (tail - 1) s) (after_read (shape_under w.held) M w.held.epoch p) ∙ unit_same w tail) }
      where
        there_with : List State → ServedWorld
        there_with us = record { response = response; world = waiting w c w.letters w.held us w.sequencer y ask_tail }

    taken : answered y.stage (numbered y (next y)) response ≡ over (numbered y (next y)) says shows
    unfolding reading_of
    taken =
        works_good (numbered y (next y)) (Reading tail) response.reply response.page good
        ∙ takes_answer (numbered y (next y)) says (report (shape_under w.held) M (read w.held.epoch p)).page a_page (few_told (read_tells (shape_under w.held) M w.held.epoch p)) (eqb says 0) refl

    abbrev outcome : Outcome
    outcome = record { number = says; position = p; epoch = w.held.epoch; page = shows; work = Read p; sent = 2 }

    abbrev pub at : ℕ
    at = length w.letters

    -- asked: the yard when the read's request is about to reach the tail
    pub record ReadGoes : Type 0 where
      pub done : Done
      pub run : Goes step w (reading w c p) done
      pub fine_done : done.answer ≡ 0
      pub who : done.who ≡ c
      pub outcome_is : done.outcome ≡ outcome
      pub asked : World
      pub leads : (result (result (result w (begin c (job_of (Read p)))).world (deliver at)).world (deliver at)).world ≡ asked
      pub held_is : asked.held ≡ w.held
      pub stamp_is : Stamp
      pub letter_is : letter_at asked at ≡ request stamp_is ask_tail
      pub brought : (result asked (deliver at)).answer ≡ 0
      pub answer_is : letter_at (result asked (deliver at)).world at ≡ answer_to stamp_is (serve asked ask_tail.ask ask_tail.page ask_tail.layout).response
      pub is_busy : busy (client_at (result asked (deliver at)).world c).stage ≡ true
      pub work_is : (client_at (result asked (deliver at)).world c).work ≡ Read p
      pub last_is : result (result asked (deliver at)).world (deliver at) ≡ done

    number_left : y.used.0 < last_number
    number_left = omega (arith, left)

    abbrev t : Turn
    t = over (numbered y (next y)) says shows

    abbrev finish : Done
    finish = record { answer = 0; who = c; outcome = t.outcome; world = after w c w.letters w.held w.units w.sequencer t }

    abbrev Z : World
    Z = waiting w c w.letters w.held w.units w.sequencer y ask_tail

    abbrev me : Stamp
    me = record { client = c; life = y.life; number = next y }

    abbrev Z' : World
    Z' = yard w c w.letters w.held w.units w.sequencer (numbered y (next y)) (answer_to me response ∷ [])

    leads_there : (result (result (result w (begin c (job_of (Read p)))).world (deliver at)).world (deliver at)).world ≡ Z
    leads_there =
        fetch_leads w c ready (job_of (Read p)) fit good
        ∙ (ap (λ (z : Turn). after w c w.letters w.held w.units w.sequencer z) reads_tail
        ∙ ap (λ (z : Turn). after w c w.letters w.held w.units w.sequencer z) (sends_sent y ask_tail number_left))

    is_served : result Z (deliver at) ≡ fine Z'
    is_served = request_served w c w.letters ready.of_client ready.clients ready.few w.held w.held w.units w.units w.sequencer w.sequencer y ask_tail response asks.there asks.serves

    is_taken_lem : result Z' (deliver at) ≡ finish
    is_taken_lem =
        answer_taken w c w.letters ready.of_client ready.clients ready.few w.held w.units w.sequencer y response
        ∙ ap (λ (z : Turn). record { answer = 0; who = ended c z.act; outcome = z.outcome; world = after w c w.letters w.held w.units w.sequencer z }) taken

    client_now : client_at Z' c ≡ numbered y (next y)
    client_now = get_or-set_same w.clients (c - 1) (numbered y (next y)) fresh (place w c w.letters ready.of_client ready.clients ready.few)

    two_sent : sent_so_far (numbered y (next y)) ≡ 2
    two_sent = omega arith

    pub read_goes : ReadGoes
    unfolding exchanges unit_says unit_after serve
    read_goes = record {
      done = finish;
      run = begin_fetch w c ready (job_of (Read p)) fit good
          (as_turn w c w.letters reads_tail
          (sends_on w c w.letters y ask_tail number_left (exchange_ends w c w.letters ready.of_client ready.clients ready.few asks t taken)));
      fine_done = refl;
      who = refl;
      outcome_is = ap (λ n. record { number = says; position = p; epoch = w.held.epoch; page = shows; work = Read p; sent = n }) two_sent;
      asked = Z;
      leads = leads_there;
      held_is = refl;
      stamp_is = me;
      letter_is = get_or-append_seam w.letters (request me ask_tail) [] blank_letter;
      brought = ap (λ (d : Done). d.answer) is_served;
      answer_is = ap (λ (d : Done). letter_at d.world at) is_served ∙ get_or-append_seam w.letters (answer_to me response) [] blank_letter;
      is_busy = ap (λ (d : Done). busy (client_at d.world c).stage) is_served ∙ ap (λ (z : Client). busy z.stage) client_now;
      work_is = ap (λ (d : Done). (client_at d.world c).work) is_served ∙ ap (λ (z : Client). z.work) client_now;
      last_is = ap (λ (d : Done). result d.world (deliver at)) is_served ∙ is_taken_lem;
    }
