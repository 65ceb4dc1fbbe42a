-- Demand 3 of the yard's rule, as specs/ states it: `demand_3`. It comes of the same demand by the fields (Demand), since operations and fields agree.
-- Rests on Operations, Reaching, PageValues, Fitting and Demand.
use mathlib.Core.Path.{◌≡◌, refl, sym, ap, subst, ◌∙◌}
use mathlib.Core.Bool.{Bool, true, false, cond}
use mathlib.Core.List.{List}
use Prim.Native.Nat.{ℕ, ◌≤◌, ◌<◌}
use native.Mathlib.Omega.{arith}
use lib.Dec.{eqb}
use Rattle.num.specs.Limits.{limit}
use Rattle.layout.specs.declared.Layout.{Layout}
use Rattle.layout.specs.Value.{good_value, blank}
use Rattle.num.specs.declared.Epoch.{Epoch as EpochValue}
use Rattle.num.specs.declared.Position.{Position}
use Rattle.unit.specs.State.{State}
use Rattle.unit.specs.Shape.{shape_for}
use Rattle.unit.specs.declared.shape.Shape.{Shape}
use Rattle.unit.specs.Kinds.{no_kind, is_gone}
use Rattle.unit.specs.Unit.{says as unit_answers, report}
use Rattle.unit.specs.Unit.{Request as request}
use Rattle.unit.proofs.Shapes.{sized}
use Rattle.unit.proofs.Shown.{shown}
use Rattle.unit.proofs.Marks.{ReadTells, read_tells, read_shown}
use Rattle.unit.proofs.Marks.ReadTells.{read_position, read_sealed, read_trimmed, read_unwritten, read_page}
use Rattle.client.specs.declared.Page.{Page}
use Rattle.client.specs.declared.Reply.{Reply}
use Rattle.client.specs.declared.Reply.TheVariants.{Held, Shown, Refused}
use Rattle.client.specs.declared.state.Job.{Job}
use Rattle.client.specs.declared.Outcome.{Outcome}
use Rattle.client.specs.declared.Work.TheVariants.{Append}
use Rattle.client.specs.Message.{page_limit, no_page}
use Rattle.client.specs.Job.{data_page}
use Rattle.rule.specs.declared.Letter.{Letter}
use Rattle.rule.specs.declared.Body.TheVariants.{Answers}
use Rattle.rule.specs.World.{shape_under, client_at, unit_at, letter_at}
use Rattle.rule.specs.Serve.{bare, serve}
use Rattle.rule.specs.Serve.{page_of as slot_page, page_shown, unit_says}
use Rattle.rule.specs.Steps.{step}
use Rattle.history.specs.Words.{Answer}
use Rattle.history.specs.Words.Page.{junk, bytes}
use Rattle.history.specs.Words.Answer.{shows, trimmed, unwritten}
use Rattle.history.specs.History.Note.{append, fill_at, trim_at, prune_to}
use Rattle.vouch.specs.Runs.{Move, Moves, ◌≼◌, result, world}
use Rattle.vouch.specs.Runs.Moves.{◌▸◌}
use Rattle.vouch.specs.Pages.{job_page, IsPage}
use Rattle.vouch.specs.Pages.IsPage.{is_data, is_junk}
use Rattle.vouch.specs.Operations.{Asked}
use Rattle.vouch.specs.Demand.{UnitSays, AppendDone, ReadEnds, PageAsked, CutAsked, Reaches, InForce, ReadOver, Rightly, OrSealed, Demand3}
use Rattle.vouch.specs.Demand.UnitSays.{says_page, says_sealed, says_trimmed, says_unwritten}
use Rattle.vouch.specs.Demand.PageAsked.{by_append, by_fill}
use Rattle.vouch.specs.Demand.CutAsked.{by_trim, by_prune}
use Rattle.vouch.specs.Demand.ReadOver.{by_answer, by_number, by_give_up}
use Rattle.vouch.specs.Demand.Rightly.{that_page, trim_asked}
use Rattle.vouch.specs.Demand.OrSealed.{not_sealed, was_sealed}
use Rattle.vouch.proofs.Carried.{carried}
use Rattle.vouch.proofs.Fields as fields
use Rattle.vouch.proofs.Fields.Wants.{wants_append, wants_fill, wants_trim, wants_prune}
use Rattle.vouch.proofs.Fields.Returns.{returns_page, returns_trimmed, returns_unwritten}
use Rattle.vouch.proofs.Fields.PageAsked.{by_append as fields_append, by_fill as fields_fill}
use Rattle.vouch.proofs.Fields.CutAsked.{by_trim as fields_trim, by_prune as fields_prune}
use Rattle.vouch.proofs.Fields.Rightly.{that_page as fields_page, trim_asked as fields_cut}
use Rattle.vouch.proofs.Asking.{data_carried}
use Rattle.vouch.proofs.Demand as inner
use Rattle.vouch.proofs.Demand.{deliver_same}
use Rattle.vouch.proofs.PageValues.{junk_carried, page_same, shown_page}
use Rattle.vouch.proofs.Fitting.{shape_kept, begins_fit, ends_fit}
use Rattle.vouch.proofs.Operations.{ends_by, ends_who, end_known}
use Rattle.vouch.proofs.Reaching.{reaches_in, reaches_out, Says, ReadHow, read_how}
use Rattle.vouch.proofs.Reaching.ReadHow.{how_answer, how_spent, how_given_up}

-- ---- what a unit says

unit_says_lem : {M : State} {e : EpochValue} {p : Position} {n : ℕ} → p.0 < limit → ReadTells M e p n → UnitSays n
unit_says_lem below (read_position a) = absurd (omega arith)
unit_says_lem below (read_sealed a) = says_sealed
unit_says_lem below (read_trimmed a b) = says_trimmed
unit_says_lem below (read_unwritten a b) = says_unwritten
unit_says_lem below (read_page a b c) = says_page

-- a unit that says 0 shows a page of its shape
says_a_page : (sh : Shape) (M : State) (e : EpochValue) (p : Position) (cap : ℕ) (o : Outcome) →
    ((¬ ((shown M p.0).kind ≡ no_kind)) → is_gone (shown M p.0).kind ≡ false → IsPage cap (slot_page (shown M p.0))) → Says sh M e p o → o.number ≡ 0 → IsPage cap o.page
says_a_page sh M e p cap o is_page_lem says zero_number =
    let n = unit_answers sh M (request.read e p) in
    let zero_says : n ≡ 0 = sym says.number_is ∙ zero_number in
    let page_is : o.page ≡ slot_page (shown M p.0)
    = says.page_is ∙ (ap (λ (n : ℕ). cond (eqb n 0) (slot_page (report sh M (request.read e p)).page) no_page) zero_says ∙ ap slot_page (read_shown sh M e p zero_says)) in
    subst (λ (g : Page). IsPage cap g) (sym page_is) (go n (read_tells sh M e p) zero_says)
  where
    go : (n : ℕ) → ReadTells M e p n → n ≡ 0 → IsPage cap (slot_page (shown M p.0))
    go n (read_position a) z = absurd (omega (arith, z))
    go n (read_sealed a) z = absurd (omega (arith, z))
    go n (read_trimmed a b) z = absurd (omega (arith, z))
    go n (read_unwritten a b) z = absurd (omega (arith, z))
    go n (read_page a b c) z = is_page_lem b c

answers_same : {x y : Reply} → Answers x ≡ Answers y → x ≡ y
answers_same e = cc (e)

-- no unit answers a read with a layout
not_held : (sh : Shape) (M : State) (e : EpochValue) (p : Position) → ¬ ((page_shown sh M e p).reply ≡ Held)
unfolding page_shown
not_held sh M e p = go (eqb n 0)
  where
    n : ℕ
    n = unit_answers sh M (request.read e p)

    go : (b : Bool) → ¬ ((cond b (record { reply = Shown; page = slot_page (report sh M (request.read e p)).page; layout = blank }) (bare (Refused n))).reply ≡ Held)
    go true same = let z : ◌≡◌ {A = ℕ} 0 1 = cc in omega arith
    go false same = let z : ◌≡◌ {A = ℕ} 0 1 = cc in omega arith

module _ (l : Layout) (good : good_value l ≡ true) (first : l.epoch.0 ≡ 1) where
  abbrev pub cap : ℕ
  cap = (shape_under l).cap

  fits : cap ≤ page_limit
  fits = (sized l.shape).page

  -- ---- appends and reads, by their fields

  pub append_fields : {ms : Moves} {m : Move} {p : ℕ} {X : Page} → AppendDone step l ms m p X → fields.AppendDone l ms m p (carried X)
  append_fields {X = X} done =
      let is = ends_by l good first done.ends in
      record {
        client = done.client;
        ends = record { of_client = is.of_client; was_busy = is.agrees.has_one; work_is = is.agrees.work_is ∙ done.for_append; who_is = ends_who l good first done.ends };
        number_is = done.number_is;
        position_is = done.position_is;
        page_is = ap carried (is.agrees.page_is done.for_append ∙ done.page_is);
      }

  read_fields : {ms : Moves} {m : Move} {p : ℕ} {r : Answer} → ReadEnds step l ms m p → fields.Returns (result (world l ms) m).outcome r →
      fields.ReadEnds l ms m p (result (world l ms) m).outcome.epoch.0 r
  read_fields read returns =
      let is = ends_by l good first read.ends in
      record {
        client = read.client;
        position = read.position;
        ends = record { of_client = is.of_client; was_busy = is.agrees.has_one; work_is = is.agrees.work_is ∙ read.is_read; who_is = ends_who l good first read.ends };
        position_is = read.position_is;
        epoch_is = refl;
        returns = returns;
      }

  -- and back
  pub read_stated : {ms : Moves} {m : Move} {p e : ℕ} {r : Answer} → fields.ReadEnds l ms m p e r → ReadEnds step l ms m p
  read_stated {ms} {m} read =
      let known = end_known l good first {ms = ms} {m = m} read.ends.of_client read.ends.who_is in
      record {
        client = read.client;
        job = known.job;
        ends = known.ends;
        position = read.position;
        is_read = sym (ends_by l good first known.ends).agrees.work_is ∙ read.ends.work_is;
        position_is = read.position_is;
      }

  pub append_stated : {ms : Moves} {m : Move} {p : ℕ} {Y : _} (done : fields.AppendDone l ms m p Y) → AppendDone step l ms m p (client_at (world l ms) done.client).page
  append_stated {ms} {m} done =
      let known = end_known l good first {ms = ms} {m = m} done.ends.of_client done.ends.who_is in
      let is = (ends_by l good first known.ends).agrees in
      let append_it = sym is.work_is ∙ done.ends.work_is in
      record {
        client = done.client;
        job = known.job;
        ends = known.ends;
        for_append = append_it;
        number_is = done.number_is;
        position_is = done.position_is;
        page_is = sym (is.page_is append_it);
      }

  -- ---- pages

  read_is_page : {ms : Moves} {m : Move} {p : ℕ} → ReadEnds step l ms m p → (result (world l ms) m).outcome.number ≡ 0 → IsPage cap (result (world l ms) m).outcome.page
  read_is_page {ms} {m} {p} read zero_number = go (read_how l good first read)
    where
      o : Outcome
      o = (result (world l ms) m).outcome

      go : ReadHow l ms m read.client read.job p o → IsPage cap o.page
      go (how_answer {before = before} r kept way position says) =
          let M = unit_at (world l before) r.unit in
          says_a_page (shape_under (world l before).held) M r.epoch r.position cap o
          (λ a b. subst (λ (code : ℕ). IsPage (shape_for code).cap (slot_page (shown M r.position.0))) (shape_kept l before)
          (shown_page (shape_under (world l before).held) M r.position.0 (inner.unit_valid l good first r) a b)) says zero_number
      go (how_spent does body number) = absurd (omega (arith, number, zero_number))
      go (how_given_up does number) = absurd (omega (arith, number, zero_number))

  append_is_page : {ms : Moves} {m : Move} {p : ℕ} {X : Page} → AppendDone step l ms m p X → IsPage cap X
  append_is_page done = subst (λ (g : Page). IsPage cap g) done.page_is (is_data done.job.len done.job.bytes (ends_fit l done.ends done.for_append))

  -- ---- how a read ends

  read_is_over : {ms : Moves} {m : Move} {p : ℕ} (read : ReadEnds step l ms m p) → ReadOver step l ms m read.client read.job p (result (world l ms) m).outcome
  read_is_over {ms} {m} {p} read = go (read_how l good first read)
    where
      o : Outcome
      o = (result (world l ms) m).outcome

      go : ReadHow l ms m read.client read.job p o → ReadOver step l ms m read.client read.job p o
      go (how_answer {before = before} {move = move} r kept way position says) =
          let M = unit_at (world l before) r.unit in
          by_answer (subst (λ (n : ℕ). UnitSays n) (sym says.number_is) (unit_says_lem says.below (read_tells (shape_under (world l before).held) M r.epoch r.position))) position
          (record { before = before; move = move; reaches = reaches_out l r kept; under_way = way })
      go (how_spent does body number) = by_number number
      go (how_given_up does number) = by_give_up does number

  -- ---- asked for

  asked_of : {ms : Moves} {n : _} (a : fields.Asked l ms n) → Asked step l ms a.move.job
  asked_of a = record {
    before = a.before;
    move = a.move;
    within = a.within;
    client = a.client;
    begins = record { does_begin = a.begins; job_is = refl; not_refused = a.not_refused };
  }

  job_page_lem : {ms : Moves} {j : Job} → Asked step l ms j → j.work ≡ Append → IsPage cap (job_page j)
  job_page_lem {j = j} a is = is_data j.len j.bytes (begins_fit l a.begins is)

  append_of_lem : {ms : Moves} {p : ℕ} (j : Job) {bs : List ℕ} {X : Page} → fields.Wants j (append (bytes bs)) → Asked step l ms j → IsPage cap X → carried X ≡ bytes bs → PageAsked step l ms p X
  append_of_lem j (wants_append is) a good_page same = by_append a is (page_same fits (job_page_lem a is) good_page (data_carried j.len j.bytes ∙ sym same))

  fill_of : {ms : Moves} {p : ℕ} {X : Page} (j : Job) → fields.Wants j (fill_at p) → Asked step l ms j → IsPage cap X → carried X ≡ junk → PageAsked step l ms p X
  fill_of j (wants_fill is) a good_page same = by_fill a is refl (page_same fits is_junk good_page (junk_carried ∙ sym same))

  asked_for : {ms : Moves} {p : ℕ} {X : Page} {Y : _} → fields.PageAsked l ms p Y → IsPage cap X → carried X ≡ Y → PageAsked step l ms p X
  asked_for (fields_append a) good_page same = append_of_lem a.move.job a.wants (asked_of a) good_page same
  asked_for (fields_fill a) good_page same = fill_of a.move.job a.wants (asked_of a) good_page same

  trim_of : {ms : Moves} {p : ℕ} (j : Job) → fields.Wants j (trim_at p) → Asked step l ms j → CutAsked step l ms p
  trim_of j (wants_trim is) a = by_trim a is refl

  prune_of : {ms : Moves} {p q : ℕ} (j : Job) → fields.Wants j (prune_to q) → p < q → Asked step l ms j → CutAsked step l ms p
  prune_of j (wants_prune is) below a = by_prune a is below

  cut_of : {ms : Moves} {p : ℕ} → fields.CutAsked l ms p → CutAsked step l ms p
  cut_of (fields_trim a) = trim_of a.move.job a.wants (asked_of a)
  cut_of (fields_prune below a) = prune_of a.move.job a.wants below (asked_of a)

  -- ---- one page, asked for

  one : {ms₁ ms₂ ms : Moves} {m₁ m₂ : Move} {p : ℕ} → ms₁ ▸ m₁ ≼ ms → ms₂ ▸ m₂ ≼ ms → ReadEnds step l ms₁ m₁ p → ReadEnds step l ms₂ m₂ p →
      (result (world l ms₁) m₁).outcome.number ≡ 0 → (result (world l ms₂) m₂).outcome.number ≡ 0 → (result (world l ms₁) m₁).outcome.page ≡ (result (world l ms₂) m₂).outcome.page
  one part₁ part₂ read₁ read₂ zero₁ zero₂ =
      page_same fits (read_is_page read₁ zero₁) (read_is_page read₂ zero₂)
      ((inner.demand_3 l good first).one_page part₁ part₂ (read_fields read₁ (returns_page zero₁)) (read_fields read₂ (returns_page zero₂)))

  asked_page : {ms : Moves} {m : Move} {p : ℕ} → ReadEnds step l ms m p → (result (world l ms) m).outcome.number ≡ 0 → PageAsked step l (ms ▸ m) p (result (world l ms) m).outcome.page
  asked_page read zero_number = asked_for ((inner.demand_3 l good first).page_asked (read_fields read (returns_page zero_number))) (read_is_page read zero_number) refl

  -- ---- after done

  shown_so : {ms : Moves} {p : ℕ} {Y Z : _} → fields.Rightly l ms p Y (shows Z) → Y ≡ Z
  shown_so fields_page = refl

  cut_so : {ms : Moves} {p : ℕ} {Y : _} → fields.Rightly l ms p Y trimmed → fields.CutAsked l ms p
  cut_so (fields_cut c) = c

  not_unwritten : {ms : Moves} {p : ℕ} {Y : _} {r : Answer} → fields.Rightly l ms p Y r → ¬ (r ≡ unwritten)
  not_unwritten fields_page e = let z : ◌≡◌ {A = ℕ} 0 1 = cc in omega arith
  not_unwritten (fields_cut c) e = let z : ◌≡◌ {A = ℕ} 0 1 = cc in omega arith

  after : {ms₀ ms₁ ms : Moves} {m₀ m₁ m : Move} {p e : ℕ} {X : Page} →
      AppendDone step l ms₀ m₀ p X → ms₀ ▸ m₀ ≼ ms₁ → Reaches step l ms₁ m₁ ms m p e → InForce step l ms₁ e → ReadEnds step l ms m p → OrSealed step l ms₁ p X (result (world l ms) m).outcome
  unfolding unit_says serve
  after {ms₁ = ms₁} {ms} {m₁ = m₁} {m} {p} {e} {X} done before reaches in_force read = go (read_how l good first read)
    where
      o : Outcome
      o = (result (world l ms) m).outcome

      r : fields.Reaches l ms₁ m₁ ms m p e
      r = reaches_in l reaches

      rightly : {a : Answer} → fields.Returns o a → fields.Rightly l ms₁ p (carried X) a
      rightly returns = (inner.demand_3 l good first).after_done (append_fields done) before r in_force (read_fields read returns)

      by_number_of : {n : ℕ} → o.number ≡ n → UnitSays n → OrSealed step l ms₁ p X o
      by_number_of is says_page = not_sealed (that_page is (page_same fits (read_is_page read is) (append_is_page done) (sym (shown_so (rightly (returns_page is))))))
      by_number_of is says_sealed = was_sealed is
      by_number_of is says_trimmed = not_sealed (trim_asked is (cut_of (cut_so (rightly (returns_trimmed is)))))
      by_number_of is says_unwritten = absurd (not_unwritten (rightly (returns_unwritten is)) refl)

      go : ReadHow l ms m read.client read.job p o → OrSealed step l ms₁ p X o
      go (how_answer {before = then} at kept way position says) =
          by_number_of says.number_is (unit_says_lem says.below (read_tells (shape_under (world l then).held) (unit_at (world l then) at.unit) at.epoch at.position))
      go (how_spent {place = place} does body number) =
          let same : r.takes.place ≡ place = deliver_same (sym r.takes.is_delivery ∙ does) in
          let bodies = sym body ∙ (ap (λ (i : ℕ). (letter_at (world l ms) i).body) (sym same) ∙ ap (λ (k : Letter). k.body) r.takes.letter_is) in
          absurd (not_held (shape_under (world l ms₁).held) (unit_at (world l ms₁) r.unit) r.epoch r.position (sym (answers_same bodies)))
      go (how_given_up does number) = absurd (let both = sym r.takes.is_delivery ∙ does in let z : ◌≡◌ {A = ℕ} 0 1 = cc in omega arith)

  -- EVERY RUN OF THE YARD'S RULE MEETS DEMAND 3
  pub demand_3 : Demand3 step cap l
  demand_3 = record {
    end_known = end_known l good first;
    read_over = read_is_over;
    read_page = read_is_page;
    append_page = append_is_page;
    one_page = one;
    page_asked = asked_page;
    after_done = after;
  }
