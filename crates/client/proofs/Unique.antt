-- No second answer meets a promise: each is one equation, for every input.
use Prim.Native.Nat.{ℕ}
use mathlib.Core.Bool.{Bool}
use mathlib.Core.List.{List}
use mathlib.Core.Path.{◌≡◌, refl, sym, ap, ◌∙◌}
use Rattle.std.proofs.Common.{Result, Ok, Err}
use Rattle.num.specs.declared.refusal.Refusal.{Refusal}
use Rattle.num.specs.Refusals.{answered}
use Rattle.num.proofs.Refusals.{number_above, number_once, result_once}
use Rattle.layout.specs.Value.{padded}
use Rattle.client.specs.declared.Page.{Page}
use Rattle.client.specs.declared.Query.{Query}
use Rattle.client.specs.declared.Reply.{Reply}
use Rattle.client.specs.declared.Response.{Response}
use Rattle.client.specs.declared.Stamp.{Stamp}
use Rattle.client.specs.declared.Work.{Work}
use Rattle.client.specs.declared.Change.{Change}
use Rattle.client.specs.declared.state.Job.{Job}
use Rattle.client.specs.declared.Stage.{Stage}
use Rattle.client.specs.declared.Client.{Client}
use Rattle.client.specs.declared.Outcome.{Outcome}
use Rattle.client.specs.Message.{page_limit, no_page, junk, no_query, no_response, number_of}
use Rattle.client.specs.Client.{no_change, job_of, append_of, reorganise_of, fresh, busy}
use Rattle.client.specs.declared.Act.{Act as Does}
use Rattle.client.specs.declared.Act.TheVariants.{Rests as RestsNow, Sends as SendsNow, Ends as EndsNow}
use Rattle.client.specs.declared.turn.Turn.{Turn as TurnNow}
use Rattle.client.specs.Turn.{Turn, no_outcome, act_in, query_in, outcome_in, turn_in}
use Rattle.client.specs.Job.{job_answer}
use Rattle.client.specs.Begin.{Begun, Restarted, ready_answer, begin_answer, begin_step, begun_in, give_up, restart_step, restarted_in}
use Rattle.client.specs.Take.{awaited, takes}

pub one : {A : Type 0} {x r s : A} → r ≡ x → s ≡ x → r ≡ s
one p q = p ∙ sym q

-- a turn is known by what it is to the rules
act_once : (a b : Does) → act_in a ≡ act_in b → query_in a ≡ query_in b → outcome_in a ≡ outcome_in b → a ≡ b
act_once RestsNow RestsNow e f g = refl
act_once RestsNow (SendsNow m r) e f g = cc
act_once RestsNow (EndsNow p) e f g = cc
act_once (SendsNow n q) RestsNow e f g = cc
act_once (SendsNow n q) (SendsNow m r) e f g = let h : n ≡ m = cc in cc
act_once (SendsNow n q) (EndsNow p) e f g = cc
act_once (EndsNow o) RestsNow e f g = cc
act_once (EndsNow o) (SendsNow m r) e f g = cc
act_once (EndsNow o) (EndsNow p) e f g = ap EndsNow g

turn_once : (t u : TurnNow) → turn_in t ≡ turn_in u → t ≡ u
turn_once t u e =
    let a : t.act ≡ u.act = act_once t.act u.act (ap (λ (x : Turn). x.act) e) (ap (λ (x : Turn). x.query) e) (ap (λ (x : Turn). x.outcome) e) in
    λ i. record { client = (ap (λ (x : Turn). x.client) e) i; act = a i }

-- ---- what stands where nothing is given, and what a client is at first

pub page_blank : (r s : Page) → r ≡ no_page → s ≡ no_page → r ≡ s
page_blank r s = one

pub page_junk : (r s : Page) → r ≡ junk → s ≡ junk → r ≡ s
page_junk r s = one

pub page_padded : (xs r s : List ℕ) → r ≡ padded page_limit 0 xs → s ≡ padded page_limit 0 xs → r ≡ s
page_padded xs r s = one

pub query_blank : (r s : Query) → r ≡ no_query → s ≡ no_query → r ≡ s
query_blank r s = one

pub response_blank : (r s : Response) → r ≡ no_response → s ≡ no_response → r ≡ s
response_blank r s = one

pub outcome_blank : (r s : Outcome) → r ≡ no_outcome → s ≡ no_outcome → r ≡ s
outcome_blank r s = one

pub change_blank : (r s : Change) → r ≡ no_change → s ≡ no_change → r ≡ s
change_blank r s = one

pub client_fresh : (r s : Client) → r ≡ fresh → s ≡ fresh → r ≡ s
client_fresh r s = one

-- ---- what is asked and answered

pub job_of_lem : (w : Work) (r s : Job) → r ≡ job_of w → s ≡ job_of w → r ≡ s
job_of_lem w r s = one

pub job_append : (n : ℕ) (xs : List ℕ) (r s : Job) → r ≡ append_of n xs → s ≡ append_of n xs → r ≡ s
job_append n xs r s = one

pub job_reorganise : (h : Change) (r s : Job) → r ≡ reorganise_of h → s ≡ reorganise_of h → r ≡ s
job_reorganise h r s = one

pub stage_is_busy : (t : Stage) (r s : Bool) → r ≡ busy t → s ≡ busy t → r ≡ s
stage_is_busy t r s = one

pub number_of_lem : (a : Reply) (r s : ℕ) → r ≡ number_of a → s ≡ number_of a → r ≡ s
number_of_lem a r s = one

-- ---- the steps of a client

pub ready_answer_lem : (c : Client) (r s : Result (Unit {0}) Refusal) → answered r ≡ ready_answer c → answered s ≡ ready_answer c → r ≡ s
ready_answer_lem c r s e f = result_once tt r s (one e f) refl

pub job_answer_lem : (j : Job) (shape : ℕ) (r s : Result (Unit {0}) Refusal) → answered r ≡ job_answer j shape → answered s ≡ job_answer j shape → r ≡ s
job_answer_lem j shape r s e f = result_once tt r s (one e f) refl

pub begin_answer_lem : (c : Client) (j : Job) (shape : ℕ) (r s : Result (Unit {0}) Refusal) → answered r ≡ begin_answer c j shape → answered s ≡ begin_answer c j shape → r ≡ s
begin_answer_lem c j shape r s e f = result_once tt r s (one e f) refl

begun_once : (c : Client) (r s : Result TurnNow Refusal) → begun_in c r ≡ begun_in c s → r ≡ s
begun_once c (Ok t) (Ok u) e = ap Ok (turn_once t u (ap (λ (b : Begun). b.turn) e))
begun_once c (Ok t) (Err k) e = absurd (number_above k (sym (ap (λ (b : Begun). b.answer) e)))
begun_once c (Err k) (Ok u) e = absurd (number_above k (ap (λ (b : Begun). b.answer) e))
begun_once c (Err k) (Err m) e = ap Err (number_once k m (ap (λ (b : Begun). b.answer) e))

pub begin : (c : Client) (j : Job) (shape : ℕ) (r s : Result TurnNow Refusal) → begun_in c r ≡ begin_step c j shape → begun_in c s ≡ begin_step c j shape → r ≡ s
begin c j shape r s e f = begun_once c r s (one e f)

pub give_up_lem : (c : Client) (r s : TurnNow) → turn_in r ≡ give_up c → turn_in s ≡ give_up c → r ≡ s
give_up_lem c r s e f = turn_once r s (one e f)

pub restart : (c : Client) (r s : Result Client Refusal) → restarted_in c r ≡ restart_step c → restarted_in c s ≡ restart_step c → r ≡ s
restart c r s e f = result_once c r s (ap (λ (b : Restarted). b.answer) (one e f)) (ap (λ (b : Restarted). b.client) (one e f))

pub is_awaited : (me : ℕ) (c : Client) (t : Stamp) (r s : Bool) → r ≡ awaited me c t → s ≡ awaited me c t → r ≡ s
is_awaited me c t r s = one

pub take : (me : ℕ) (c : Client) (t : Stamp) (a : Response) (r s : TurnNow) → turn_in r ≡ takes me c t a → turn_in s ≡ takes me c t a → r ≡ s
take me c t a r s e f = turn_once r s (one e f)
