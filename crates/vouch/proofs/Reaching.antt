-- When a read reaches its unit, by the statement and by the fields; and how every read ends: with what its unit answered, with 19 or with 20.
-- Rests on Operations, ReadEnding and Demand.
use mathlib.Core.Path.{◌≡◌, refl, sym, ap, subst, ◌∙◌}
use mathlib.Core.Bool.{Bool, true, false, cond}
use mathlib.Core.List.{List, [], ◌∷◌, ◌++◌}
use Prim.Native.Nat.{ℕ, ◌+◌, ◌-◌, ◌<◌}
use native.Mathlib.Omega.{arith}
use lib.Dec.{eqb}
use lib.ListN.{length, length-append}
use lib.Seq.{get_or-append_seam}
use Rattle.num.specs.Limits.{limit}
use Rattle.num.specs.declared.Epoch.{Epoch as EpochValue}
use Rattle.num.specs.declared.Position.{Position}
use Rattle.layout.specs.declared.Layout.{Layout}
use Rattle.layout.specs.Value.{good_value}
use Rattle.unit.specs.State.{State}
use Rattle.unit.specs.declared.shape.Shape.{Shape}
use Rattle.unit.specs.Unit.{says, report}
use Rattle.unit.specs.Unit.{Request as request}
use Rattle.client.specs.declared.Ask.{Ask}
use Rattle.client.specs.declared.Ask.TheVariants as ask
use Rattle.client.specs.declared.UnitAsk.TheVariants as unit_ask
use Rattle.client.specs.declared.Reply.TheVariants.{Held}
use Rattle.client.specs.declared.Response.{Response}
use Rattle.client.specs.declared.Client.{Client}
use Rattle.client.specs.declared.state.Job.{Job}
use Rattle.client.specs.declared.Outcome.{Outcome}
use Rattle.client.specs.Turn.{Ends, Turn, outcome_of, over}
use Rattle.client.specs.Read.{on_read}
use Rattle.rule.specs.declared.Letter.{Letter}
use Rattle.rule.specs.declared.Body.{Body}
use Rattle.rule.specs.declared.Body.TheVariants.{Asks, Answers}
use Rattle.rule.specs.declared.Step.{Step}
use Rattle.rule.specs.declared.Step.TheVariants.{Deliver, GiveUp}
use Rattle.rule.specs.World.{World, shape_under, client_at, unit_at, letter_at, blank_letter}
use Rattle.rule.specs.Serve.{unit_says, serve, page_shown}
use Rattle.rule.specs.Steps.{Done, refused, fine, keeping, too_many, with_letters, answer_to, served, response, unbrought, brought, delivered, delivers, step}
use Rattle.rule.proofs.Lists.{client_range}
use Rattle.vouch.specs.Runs.{Move, Moves, ◌≼◌, result, world, world_by}
use Rattle.vouch.specs.Runs.Moves.{◌▸◌}
use Rattle.vouch.specs.Runs.◌≼◌.{all_of, part_of}
use Rattle.vouch.specs.Operations.{UnderWay}
use Rattle.vouch.specs.Demand as demand
use Rattle.vouch.specs.Demand.{last_letter}
use Rattle.vouch.proofs.Fields.{Reaches}
use Rattle.vouch.proofs.Coming.{come}
use Rattle.vouch.proofs.Demand.{same_response, read_same}
use Rattle.vouch.proofs.Reread.{shown_by, ends_answer}
use Rattle.vouch.proofs.Together.{within_trans}
use Rattle.vouch.proofs.Operations.{same_way, ends_under, ends_by, ends_who}
use Rattle.vouch.proofs.EndingSteps.{Took, How, how}
use Rattle.vouch.proofs.ReadEnding.{ReadTold, Heard, heard}
use Rattle.vouch.proofs.EndingSteps.How.{took, gave_up}
use Rattle.vouch.proofs.ReadEnding.ReadTold.{told_answer, told_spent}

-- ---- the answer of a machine, where it is kept, is the last letter

last_is : (ls : List Letter) (x : Letter) (w : World) → w.letters ≡ ls ++ (x ∷ []) → last_letter w ≡ x
last_is ls x w is =
    ap (λ (ks : List Letter). lib.ListN.get_or ks (length ks - 1) blank_letter) is
    ∙ (ap (λ (n : ℕ). lib.ListN.get_or (ls ++ (x ∷ [])) n blank_letter) (omega (arith, length-append ls (x ∷ []))) ∙ get_or-append_seam ls x [] blank_letter)

answer_last : (w : World) (i : ℕ) (keep : Bool) (j : Job) (a : Ask) → (letter_at w i).body ≡ Asks a → (step w (Deliver i keep true) j).answer ≡ 0 →
    last_letter (step w (Deliver i keep true) j).world ≡ answer_to (letter_at w i).stamp (serve w a (letter_at w i).page (letter_at w i).layout).response
unfolding step delivers delivered served
answer_last w i keep j a is zero_answer =
    subst (λ (b : Body). last_letter (by_body b).world ≡ x) (sym is) (go (unbrought w there (Asks a)) (too_many (kept ++ (x ∷ []))) (subst (λ (b : Body). (by_body b).answer ≡ 0) is zero_answer))
  where
    there : Letter
    there = letter_at w i

    kept : List Letter
    kept = keeping keep i w.letters

    by_body : Body → Done
    by_body b = cond (unbrought w there b) (refused w 17) (brought w kept true there b)

    x : Letter
    x = answer_to there.stamp (serve w a there.page there.layout).response

    then : World
    then = with_letters (serve w a there.page there.layout).world (kept ++ (x ∷ []))

    go : (b t : Bool) → (cond b (refused w 17) (cond t (refused w 16) (fine then))).answer ≡ 0 → last_letter (cond b (refused w 17) (cond t (refused w 16) (fine then))).world ≡ x
    go true t e = absurd (omega (arith, e))
    go false true e = absurd (omega (arith, e))
    go false false e = last_is kept x then refl

module _ (l : Layout) {ms₁ : Moves} {m₁ : Move} where
  answer_is : {request : Letter} {a : Ask} (d : demand.Delivers step l ms₁ m₁ request) → d.keep_answer ≡ true → request.body ≡ Asks a →
      last_letter (world l (ms₁ ▸ m₁)) ≡ answer_to request.stamp (serve (world l ms₁) a request.page request.layout).response
  unfolding world_by
  answer_is {request} {a} d kept asks =
      let w = world l ms₁ in
      let does : m₁.does ≡ Deliver d.place d.keep true = d.is_delivery ∙ ap (λ (b : Bool). Deliver d.place d.keep b) kept in
      ap (λ (s : Step). last_letter (step w s m₁.job).world) does
      ∙ (answer_last w d.place d.keep m₁.job a (ap (λ (k : Letter). k.body) d.letter_is ∙ asks) (sym (ap (λ (s : Step). (step w s m₁.job).answer) does) ∙ d.not_refused)
      ∙ ap (λ (k : Letter). answer_to k.stamp (serve w a k.page k.layout).response) d.letter_is)

  -- by the statement and by the fields, a read reaches its unit with the same delivery
  pub reaches_in : {ms : Moves} {m : Move} {p e : ℕ} → demand.Reaches step l ms₁ m₁ ms m p e → Reaches l ms₁ m₁ ms m p e
  reaches_in {ms} {m} r = record {
    earlier = r.earlier;
    request = r.request;
    delivers = r.brings;
    unit = r.unit;
    epoch = r.epoch;
    position = r.position;
    asks = r.asks;
    epoch_is = r.epoch_is;
    position_is = r.position_is;
    takes = subst (λ (k : Letter). demand.Delivers step l ms m k) (answer_is r.brings r.answer_kept r.asks) r.takes;
  }

  pub reaches_out : {ms : Moves} {m : Move} {p e : ℕ} (r : Reaches l ms₁ m₁ ms m p e) → r.delivers.keep_answer ≡ true → demand.Reaches step l ms₁ m₁ ms m p e
  reaches_out {ms} {m} r kept = record {
    earlier = r.earlier;
    request = r.request;
    brings = r.delivers;
    unit = r.unit;
    epoch = r.epoch;
    position = r.position;
    asks = r.asks;
    epoch_is = r.epoch_is;
    position_is = r.position_is;
    answer_kept = kept;
    takes = subst (λ (k : Letter). demand.Delivers step l ms m k) (sym (answer_is r.delivers kept r.asks)) r.takes;
  }

-- ---- how a read ends

within_less : {ms₁ ms : Moves} {m : Move} → ms₁ ▸ m ≼ ms → ms₁ ≼ ms
within_less part = within_trans (part_of all_of) part

-- with what the unit u answers in epoch e at q
pub record Says (sh : Shape) (M : State) (e : EpochValue) (q : Position) (o : Outcome) : Type 0 where
  pub below : q.0 < limit
  pub number_is : o.number ≡ says sh M (request.read e q)
  pub page_is : o.page ≡ shown_by (says sh M (request.read e q)) (report sh M (request.read e q)).page

pub data ReadHow (l : Layout) (ms : Moves) (m : Move) (c : ℕ) (j : Job) (p : ℕ) (o : Outcome) : Type 0 where
  how_answer : {before : Moves} {move : Move} (r : Reaches l before move ms m p o.epoch.0) → r.delivers.keep_answer ≡ true → UnderWay step l c j before → o.position.0 ≡ p →
      Says (shape_under (world l before).held) (unit_at (world l before) r.unit) r.epoch r.position o → ReadHow l ms m c j p o
  how_spent : {place : ℕ} {keep keep_answer : Bool} → m.does ≡ Deliver place keep keep_answer → (letter_at (world l ms) place).body ≡ Answers Held → o.number ≡ 19 → ReadHow l ms m c j p o
  how_given_up : m.does ≡ GiveUp c → o.number ≡ 20 → ReadHow l ms m c j p o

-- what the client ends with, where a unit answers its read
answer_outcome : (c : Client) (sh : Shape) (M : State) (e : EpochValue) (q : Position) (x : Response) (o : Outcome) → x ≡ page_shown sh M e q → o ≡ (on_read c x.reply x.page).outcome →
    (on_read c x.reply x.page).act ≡ Ends →
    o ≡ outcome_of c (says sh M (request.read e q)) (shown_by (says sh M (request.read e q)) (report sh M (request.read e q)).page)
unfolding page_shown
answer_outcome c sh M e q x o is out done =
    let n = says sh M (request.read e q) in
    out ∙ (ap (λ (r : Response). (on_read c r.reply r.page).outcome) is
    ∙ ends_answer c n (report sh M (request.read e q)).page (eqb n 0) refl (sym (ap (λ (r : Response). (on_read c r.reply r.page).act) is) ∙ done))

module _ (l : Layout) (good : good_value l ≡ true) (first : l.epoch.0 ≡ 1) where
  pub read_how : {ms : Moves} {m : Move} {p : ℕ} (read : demand.ReadEnds step l ms m p) → ReadHow l ms m read.client read.job p (result (world l ms) m).outcome
  unfolding unit_says serve
  read_how {ms} {m} {p} read =
      let is = ends_by l good first read.ends in
      let range = client_range read.client is.of_client in
      go (how (world l ms) (come l good first ms).good.clients_long m.job read.client range.0 m.does (ends_who l good first read.ends))
    where
      w : World
      w = world l ms

      c : Client
      c = client_at w read.client

      o : Outcome
      o = (result w m).outcome

      told : (t : Took w m.does m.job read.client) (h : Heard l ms (come l good first ms).now w read.client m.does m.job (letter_at w t.place) t.reply) →
          ReadTold c h.answered_it.ask (response t.reply (letter_at w t.place)) h.turn → ReadHow l ms m read.client read.job p o
      told t h (told_spent held number) = how_spent t.is_delivery (t.body_is ∙ ap Answers held) (ap (λ (x : Outcome). x.number) h.outcome_is ∙ number)
      told t h (told_answer u ask_is work_is below turn_is) =
          let from = h.answered_it.origin in
          let req = from.request in
          let a = ask.Unit u (unit_ask.Read c.layout.epoch c.position) in
          let resp = (serve (world l from.before) a req.page req.layout).response in
          let letter_is : letter_at w t.place ≡ answer_to req.stamp resp
          = sym from.answer_is ∙ ap (λ (k : Ask). answer_to req.stamp (serve (world l from.before) k req.page req.layout).response) ask_is in
          let same = same_response (letter_at w t.place) t.reply req.stamp resp t.body_is letter_is in
          let out : o ≡ (on_read c (response t.reply (letter_at w t.place)).reply (response t.reply (letter_at w t.place)).page).outcome
          = h.outcome_is ∙ ap (λ (z : Turn). z.outcome) turn_is in
          let to : req.stamp.client ≡ read.client = ap (λ (k : Letter). k.stamp.client) (sym letter_is) ∙ t.client_is in
          let M = unit_at (world l from.before) u in
          let is = answer_outcome c (shape_under (world l from.before).held) M c.layout.epoch c.position (response t.reply (letter_at w t.place)) o same out (sym (ap (λ (z : Turn). z.act) turn_is) ∙ h.act_is) in
          let at_position : c.position ≡ read.position = read_same (sym work_is ∙ ((ends_by l good first read.ends).agrees.work_is ∙ read.is_read)) in
          how_answer {before = from.before} {move = from.move}
          (record {
            earlier = from.within;
            request = req;
            delivers = from.delivers;
            unit = u;
            epoch = c.layout.epoch;
            position = c.position;
            asks = from.asks ∙ ap Asks ask_is;
            epoch_is = sym (ap (λ (x : Outcome). x.epoch.0) is);
            position_is = ap (λ (q : Position). q.0) at_position ∙ read.position_is;
            takes = record {
              place = t.place;
              keep = t.keep;
              keep_answer = t.keep_answer;
              is_delivery = t.is_delivery;
              letter_is = letter_is;
              not_refused = t.not_refused;
            };
          })
          from.kept
          (same_way l good first (within_less from.within) (ends_under l good first read.ends)
          (ap (λ (i : ℕ). (client_at (world l from.before) i).life) (sym to) ∙ (sym from.current.life_is ∙ (ap (λ (k : Letter). k.stamp.life) (sym letter_is) ∙ h.current.life_is)))
          (ap (λ (i : ℕ). (client_at (world l from.before) i).used.0) (sym to) ∙ (sym from.current.number_is ∙ (ap (λ (k : Letter). k.stamp.number.0) (sym letter_is) ∙ h.current.number_is))))
          (ap (λ (x : Outcome). x.position.0) is ∙ (ap (λ (q : Position). q.0) at_position ∙ read.position_is))
          (record { below = below; number_is = ap (λ (x : Outcome). x.number) is; page_is = ap (λ (x : Outcome). x.page) is })

      go : How w m.does m.job read.client → ReadHow l ms m read.client read.job p o
      go (gave_up number is) = how_given_up is number
      go (took t) =
          let is = ends_by l good first read.ends in
          let h = heard (come l good first ms).good m.does m.job read.client is.of_client t read.position (is.agrees.work_is ∙ read.is_read) is.agrees.has_one in
          told t h h.told_it
