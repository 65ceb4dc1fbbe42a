-- Demand 3 of every run of the yard, by the fields that its clients keep: `demand_3`. Stated leads from here to the statement.
-- Rests on Coming, ReadEnding and on layer 1's Safety and Settled.
use mathlib.Core.Path.{◌≡◌, refl, sym, ap, subst, ◌∙◌}
use mathlib.Core.Bool.{Bool, true, false, not, cond, ◌||◌}
use Prim.Native.Nat.{ℕ, ◌-◌, ◌≤◌}
use native.Mathlib.Omega.{arith}
use lib.ListN.{get_or}
use Rattle.num.proofs.Tests.{or_false}
use Rattle.num.specs.declared.Epoch.{Epoch as EpochValue}
use Rattle.num.specs.declared.Position.{Position}
use Rattle.layout.specs.declared.Layout.{Layout}
use Rattle.layout.specs.Value.{good_value}
use Rattle.unit.specs.Memory.{valid}
use Rattle.unit.proofs.Shapes.{sized}
use Rattle.client.specs.declared.Ask.{Ask}
use Rattle.client.specs.declared.UnitAsk.TheVariants as unit_ask
use Rattle.client.specs.declared.Ask.TheVariants as ask
use Rattle.client.specs.declared.Page.{Page as PageValue}
use Rattle.client.specs.declared.Reply.{Reply}
use Rattle.client.specs.declared.Reply.TheVariants.{Refused}
use Rattle.client.specs.declared.Response.{Response}
use Rattle.client.specs.declared.Stamp.{Stamp}
use Rattle.client.specs.declared.state.Job.{Job}
use Rattle.client.specs.declared.Work.TheVariants as work
use Rattle.client.specs.declared.Outcome.{Outcome}
use Rattle.client.specs.Turn.{Turn}
use Rattle.rule.specs.declared.Letter.{Letter}
use Rattle.rule.specs.declared.Body.{Body}
use Rattle.rule.specs.declared.Body.TheVariants.{Asks, Answers}
use Rattle.rule.specs.declared.Step.{Step}
use Rattle.rule.specs.declared.Step.TheVariants.{Deliver}
use Rattle.rule.specs.World.{World, shape_under, is_client, is_unit, client_at, unit_at, letter_at}
use Rattle.rule.specs.Serve.{unit_says, serve, unserved}
use Rattle.rule.specs.Steps.{refused, keeping, response, answer_to, unbrought, brought, delivered, delivers, step}
use Rattle.rule.proofs.Lists.{unit_range, unit_runs, client_range}
use Rattle.history.specs.Words.{UnitNo, Pos, Epoch, Page, Answer}
use Rattle.history.specs.Words.Answer.{shows}
use Rattle.history.specs.Maps.{Map, Serves}
use Rattle.history.specs.History.{History, MarkNoted, MarkedBy, held}
use Rattle.history.specs.History.Note.{append}
use Rattle.history.specs.History.MarkNoted.{by_append as noted_append, by_fill as noted_fill, by_trim as noted_trim, by_prune as noted_prune}
use Rattle.history.specs.History.Mark.{page, gone}
use Rattle.history.specs.Events.{Run}
use Rattle.history.specs.Safety.{Answers as AnswersAt}
use Rattle.history.specs.Safety.Answers.{has_page, has_gone, has_none}
use Rattle.vouch.specs.Runs.{Move, Moves, ◌≼◌, result, world}
use Rattle.vouch.proofs.Fields.{Wants, Asked, AppendDone, Returns, ReadEnds, Reaches, InForce}
use Rattle.vouch.specs.Runs.Moves.{◌▸◌}
use Rattle.vouch.proofs.Fields.Wants.{wants_append}
use Rattle.vouch.proofs.Fields.{PageAsked, CutAsked, Rightly, Demand3}
use Rattle.vouch.proofs.Fields.PageAsked.{by_append, by_fill}
use Rattle.vouch.proofs.Fields.CutAsked.{by_trim, by_prune}
use Rattle.vouch.proofs.Fields.Rightly.{that_page, trim_asked}
use Rattle.history.proofs.Moments.{part_trans, mark_noted_on}
use Rattle.history.proofs.Epochs.{laid_by, laid_good}
use Rattle.history.proofs.Marks.{page_one, mark_asked}
use Rattle.history.proofs.Settled.{settled_on, settled_later}
use Rattle.history.proofs.Safety.{safe}
use Rattle.vouch.proofs.UnitIs.{ReadDone}
use Rattle.vouch.proofs.UnitIs.ReadDone.{read_page, read_trimmed, read_unwritten, no_read}
use Rattle.vouch.proofs.Reading.{read_does}
use Rattle.vouch.proofs.GoodMap.{epoch_of_lem}
use Rattle.vouch.proofs.Meaning.{AskOk, LookOk, AppendedOk, WasRead}
use Rattle.vouch.proofs.Meaning.AskOk.{look_ok}
use Rattle.vouch.proofs.Together.{letter_there, RequestOk, BodyOk, client_of}
use Rattle.vouch.proofs.Coming.{come, outcome_of_lem, come_part}
use Rattle.vouch.proofs.EndingSteps.{Took, How, how}
use Rattle.vouch.proofs.ReadEnding.{ReadTold, Tells, returned_told, Heard, heard}
use Rattle.vouch.proofs.EndingSteps.How.{took, gave_up}
use Rattle.vouch.proofs.ReadEnding.ReadTold.{told_answer, told_spent}
use Rattle.vouch.proofs.ReadEnding.Tells.{tells_page, tells_trimmed, tells_unwritten}
use Rattle.vouch.proofs.Fields.Returns.{returns_page, returns_trimmed, returns_unwritten}

-- ---- a request that was brought to its unit

unbrought_not : (w : World) (i : ℕ) (keep keep_answer : Bool) (j : Job) (a : Ask) → (letter_at w i).body ≡ Asks a → (step w (Deliver i keep keep_answer) j).answer ≡ 0 →
    unserved w.stopped a ≡ false
unfolding step delivers delivered
unbrought_not w i keep keep_answer j a is fine =
    go (not (is_client there.stamp.client) || unserved w.stopped a) refl (subst (λ (b : Body). (cond (unbrought w there b) (refused w 17) (brought w (keeping keep i w.letters) keep_answer there b)).answer ≡ 0) is fine)
  where
    there : Letter
    there = letter_at w i

    go : (b : Bool) → (not (is_client there.stamp.client) || unserved w.stopped a) ≡ b →
        (cond b (refused w 17) (brought w (keeping keep i w.letters) keep_answer there (Asks a))).answer ≡ 0 → unserved w.stopped a ≡ false
    go true e fine = absurd (omega (arith, fine))
    go false e fine = (or_false (not (is_client there.stamp.client)) (unserved w.stopped a) e).1

look_of : {h : History} {u : UnitNo} {e : EpochValue} {p : Position} {g : PageValue} {k : Layout} → AskOk h (ask.Unit u (unit_ask.Read e p)) g k → LookOk h u e.0 p.0
look_of (look_ok ok) = ok

refused_same : {a b : ℕ} → Refused a ≡ Refused b → a ≡ b
refused_same e = cc (e)

-- the unit answered what the answer tells
answers_told : {h : History} {u : UnitNo} {L : Map} {p : Pos} {x : Response} {r : Answer} → ReadDone h u L p x → Tells x r → AnswersAt h u p r
answers_told (read_page takes answers) (tells_page e) = answers
answers_told (read_page takes answers) (tells_trimmed e) = absurd (let z : ◌≡◌ {A = ℕ} 0 1 = cc in omega arith)
answers_told (read_page takes answers) (tells_unwritten e) = absurd (let z : ◌≡◌ {A = ℕ} 0 1 = cc in omega arith)
answers_told (read_trimmed takes answers) (tells_page e) = absurd (let z : ◌≡◌ {A = ℕ} 0 1 = cc in omega arith)
answers_told (read_trimmed takes answers) (tells_trimmed e) = answers
answers_told (read_trimmed takes answers) (tells_unwritten e) = absurd (let z : 5 ≡ 7 = refused_same e in omega arith)
answers_told (read_unwritten takes answers) (tells_page e) = absurd (let z : ◌≡◌ {A = ℕ} 0 1 = cc in omega arith)
answers_told (read_unwritten takes answers) (tells_trimmed e) = absurd (let z : 7 ≡ 5 = refused_same e in omega arith)
answers_told (read_unwritten takes answers) (tells_unwritten e) = answers
answers_told (no_read n0 n5 n7) (tells_page e) = absurd (let z : ◌≡◌ {A = ℕ} 0 1 = cc in omega arith)
answers_told (no_read n0 n5 n7) (tells_trimmed e) = absurd (n5 (refused_same e))
answers_told (no_read n0 n5 n7) (tells_unwritten e) = absurd (n7 (refused_same e))

-- the response that a letter bears
pub same_response : (letter : Letter) (x : Reply) (s : Stamp) (resp : Response) → letter.body ≡ Answers x → letter ≡ answer_to s resp → response x letter ≡ resp
same_response letter x s resp is e =
    let bodies : Answers x ≡ Answers resp.reply = sym is ∙ ap (λ (k : Letter). k.body) e in
    let same : x ≡ resp.reply = cc (bodies) in
    ap (λ (y : Reply). response y letter) same ∙ ap (λ (k : Letter). response resp.reply k) e

pub read_same : {p q : Position} → work.Read p ≡ work.Read q → p ≡ q
read_same e = cc (e)

pub deliver_same : {i i' : ℕ} {a a' b b' : Bool} → Deliver i a b ≡ Deliver i' a' b' → i ≡ i'
deliver_same e = cc (e)

module _ (l : Layout) (good : good_value l ≡ true) (first : l.epoch.0 ≡ 1) where
  abbrev at : Moves → History
  at ms = (come l good first ms).now

  abbrev runs : (ms : Moves) → Run (at ms)
  runs ms = (come l good first ms).good.machines.run

  -- ---- what ended vouches for its outcome

  read_was : {ms : Moves} {m : Move} {p : Pos} {e : Epoch} {r : Answer} → ReadEnds l ms m p e r → WasRead (at (ms ▸ m)) p e r
  read_was {ms} {m} {p} {e} {r} read =
      let range = client_range read.client read.ends.of_client in
      let ok = (outcome_of_lem l good first ms m read.client range.0 range.1 read.ends.who_is).was_read read.ends.work_is read.returns in
      subst (λ q. WasRead (at (ms ▸ m)) q e r) read.position_is (subst (λ a. WasRead (at (ms ▸ m)) read.position.0 a r) read.epoch_is ok)

  append_was : {ms : Moves} {m : Move} {p : Pos} {X : Page} → AppendDone l ms m p X → AppendedOk (at (ms ▸ m)) p X
  append_was {ms} {m} {p} {X} done =
      let range = client_range done.client done.ends.of_client in
      let ok = (outcome_of_lem l good first ms m done.client range.0 range.1 done.ends.who_is).append_done done.ends.work_is done.number_is in
      subst (λ q. AppendedOk (at (ms ▸ m)) q X) done.position_is (subst (λ Y. AppendedOk (at (ms ▸ m)) (result (world l ms) m).outcome.position.0 Y) done.page_is ok)

  -- ---- one page, asked for

  same_page : {ms ms₁ ms₂ : Moves} {m₁ m₂ : Move} {p : Pos} {e₁ e₂ : Epoch} {X Y : Page} →
      ms₁ ▸ m₁ ≼ ms → ms₂ ▸ m₂ ≼ ms → ReadEnds l ms₁ m₁ p e₁ (shows X) → ReadEnds l ms₂ m₂ p e₂ (shows Y) → X ≡ Y
  same_page {ms} part₁ part₂ read₁ read₂ =
      let r₁ = read_was read₁ in
      let r₂ = read_was read₂ in
      (safe (runs ms)).reads_agree (part_trans r₁.past (come_part l good first part₁)) (part_trans r₂.past (come_part l good first part₂)) r₁.read r₂.read

  -- an append asks for bytes
  of_append : {ms : Moves} {p : Pos} (j : Job) {X : Page} → Wants j (append X) → Asked l ms (append X) → PageAsked l ms p X
  of_append j (wants_append is) asked = by_append asked

  asked_for : {ms : Moves} {p : Pos} {X : Page} → MarkNoted (at ms) p (page X) → PageAsked l ms p X
  asked_for {ms} (noted_append noted) = let asked = (come l good first ms).asked _ noted in of_append asked.move.job asked.wants asked
  asked_for {ms} (noted_fill noted) = by_fill ((come l good first ms).asked _ noted)

  page_was_asked : {ms : Moves} {m : Move} {p : Pos} {e : Epoch} {X : Page} → ReadEnds l ms m p e (shows X) → PageAsked l (ms ▸ m) p X
  page_was_asked {ms} {m} read =
      let r = read_was read in
      asked_for (mark_noted_on r.past ((safe (runs (ms ▸ m))).read_asked r.past r.read))

  cut_asked : {ms : Moves} {p : Pos} → MarkNoted (at ms) p gone → CutAsked l ms p
  cut_asked {ms} (noted_trim asked) = by_trim ((come l good first ms).asked _ asked)
  cut_asked {ms} (noted_prune below asked) = by_prune below ((come l good first ms).asked _ asked)

  -- ---- after done

  rightly : {ms : Moves} {u : UnitNo} {p : Pos} {e : Epoch} {X : Page} {r : Answer} → MarkedBy (at ms) u p (page X) e → AnswersAt (at ms) u p r → Rightly l ms p X r
  rightly {ms} {p = p} {X = X} mk (has_page own still) = subst (λ Y. Rightly l ms p X (shows Y)) (page_one (runs ms) mk.marked own) that_page
  rightly {ms} mk (has_gone away) = trim_asked (cut_asked (mark_asked (runs ms) away))
  rightly mk (has_none none) = absurd (none _ _ mk.marked)

  module _ {ms₁ ms : Moves} {m₁ m : Move} {p : Pos} {e : Epoch} (reaches : Reaches l ms₁ m₁ ms m p e) where
    abbrev asked_unit : Ask
    asked_unit = ask.Unit reaches.unit (unit_ask.Read reaches.epoch reaches.position)

    abbrev resp : Response
    resp = (serve (world l ms₁) asked_unit reaches.request.page reaches.request.layout).response

    there_is : (letter_at (world l ms₁) reaches.delivers.place).body ≡ Asks asked_unit
    there_is = ap (λ (k : Letter). k.body) reaches.delivers.letter_is ∙ reaches.asks

    looks : LookOk (at ms₁) reaches.unit reaches.epoch.0 reaches.position.0
    looks =
        let w = world l ms₁ in
        let i = reaches.delivers.place in
        let ok = letter_there (come l good first ms₁).good i (λ e. let both = sym e ∙ there_is in let z : ◌≡◌ {A = ℕ} 0 1 = cc in omega arith) in
        let body : RequestOk (at ms₁) (client_of w.clients (letter_at w i).stamp.client) (letter_at w i).stamp asked_unit (letter_at w i).page (letter_at w i).layout
        = subst (λ (b : Body). BodyOk l ms₁ (at ms₁) (client_of w.clients (letter_at w i).stamp.client) (letter_at w i) b) there_is ok.body_ok in
        look_of body.vouches

    unit_there : (1 ≤ reaches.unit) × (reaches.unit ≤ 8)
    unit_there =
        let w = world l ms₁ in
        let d = reaches.delivers in
        let u = reaches.unit in
        let fine = subst (λ (s : Step). (step w s m₁.job).answer ≡ 0) d.is_delivery d.not_refused in
        unit_range u (unit_runs (is_unit u) (not (get_or w.stopped (u - 1) true)) (unbrought_not w d.place d.keep d.keep_answer m₁.job asked_unit there_is fine))

    pub unit_valid : valid (shape_under (world l ms₁).held) (unit_at (world l ms₁) reaches.unit) ≡ true
    unit_valid = ((come l good first ms₁).good.machines.units reaches.unit unit_there.0 unit_there.1).stays_valid

    -- the unit answered the request when it was brought to it
    unit_read : ReadDone (at ms₁) reaches.unit looks.by reaches.position.0 resp
    unfolding unit_says serve
    unit_read =
        let w = world l ms₁ in
        let u = reaches.unit in
        let range = unit_there in
        let g = (come l good first ms₁).good in
        read_does (sized w.held.shape).page (g.machines.units u range.0 range.1) looks.laid ((laid_good (runs ms₁) looks.laid).set_within reaches.position.0 u looks.serves) looks.epoch_is reaches.position

    -- and the client took that answer
    told_it : {e' : Epoch} {r : Answer} → ReadEnds l ms m p e' r → Tells resp r
    told_it {r = r} read =
        let range = client_range read.client read.ends.of_client in
        by_how (how w (come l good first ms).good.clients_long m.job read.client range.0 m.does read.ends.who_is)
      where
        w : World
        w = world l ms

        no_return : {o : Outcome} {a : Answer} {n : ℕ} {A : Type 0} → Returns o a → o.number ≡ n → ¬ (n ≡ 0) → ¬ (n ≡ 5) → ¬ (n ≡ 7) → A
        no_return (returns_page e) is n0 n5 n7 = absurd (n0 (sym is ∙ e))
        no_return (returns_trimmed e) is n0 n5 n7 = absurd (n5 (sym is ∙ e))
        no_return (returns_unwritten e) is n0 n5 n7 = absurd (n7 (sym is ∙ e))

        by_told : (t : Took w m.does m.job read.client) (h : Heard l ms (at ms) w read.client m.does m.job (letter_at w t.place) t.reply) →
            ReadTold (client_at w read.client) h.answered_it.ask (response t.reply (letter_at w t.place)) h.turn → Tells resp r
        by_told t h (told_spent is_held_lem number) =
            no_return read.returns (ap (λ (x : Outcome). x.number) h.outcome_is ∙ number) (λ z. omega (arith, z)) (λ z. omega (arith, z)) (λ z. omega (arith, z))
        by_told t h (told_answer u ask_is work_is below turn_is) =
            let same = deliver_same (sym t.is_delivery ∙ reaches.takes.is_delivery) in
            let letter_is = ap (λ i. letter_at w i) same ∙ reaches.takes.letter_is in
            let out = h.outcome_is ∙ ap (λ (z : Turn). z.outcome) turn_is in
            subst (λ x. Tells x r) (same_response (letter_at w t.place) t.reply reaches.request.stamp resp t.body_is letter_is)
            (returned_told (client_at w read.client) (response t.reply (letter_at w t.place)) r (sym (ap (λ (z : Turn). z.act) turn_is) ∙ h.act_is) (subst (λ (x : Outcome). Returns x r) out read.returns))

        by_how : How w m.does m.job read.client → Tells resp r
        by_how (gave_up number is) = no_return read.returns number (λ z. omega (arith, z)) (λ z. omega (arith, z)) (λ z. omega (arith, z))
        by_how (took t) =
            let h = heard (come l good first ms).good m.does m.job read.client read.ends.of_client t read.position read.ends.work_is read.ends.was_busy in
            by_told t h h.told_it

  done_stays : {ms₀ ms₁ ms : Moves} {m₀ m₁ m : Move} {p : Pos} {e e' : Epoch} {X : Page} {r : Answer} →
      AppendDone l ms₀ m₀ p X → ms₀ ▸ m₀ ≼ ms₁ → Reaches l ms₁ m₁ ms m p e → InForce l ms₁ e → ReadEnds l ms m p e' r → Rightly l ms₁ p X r
  done_stays {ms₁ = ms₁} {p = p} {e} {X = X} {r = r} done before reaches in_force read =
      let was = append_was done in
      let now = settled_on (come_part l good first before) was.settled in
      let look = looks reaches in
      let held_epoch : (held (at ms₁)).epoch ≡ (world l ms₁).held.epoch.0
      = ap (λ (L : Map). L.epoch) (come l good first ms₁).good.machines.held_is ∙ epoch_of_lem (world l ms₁).held in
      let later = settled_later (runs ms₁) look.laid (omega (arith, laid_by (runs ms₁) now.laid, held_epoch, in_force, look.epoch_is, reaches.epoch_is)) now in
      let answers : AnswersAt (at ms₁) reaches.unit p r
      = subst (λ q. AnswersAt (at ms₁) reaches.unit q r) reaches.position_is (answers_told (unit_read reaches) (told_it reaches read)) in
      rightly (later.all reaches.unit (subst (λ q. Serves look.by q reaches.unit) reaches.position_is look.serves)) answers

  -- Every run of the yard meets demand 3's first sentences.
  pub demand_3 : Demand3 l
  demand_3 = record { one_page = same_page; page_asked = page_was_asked; after_done = done_stays }
