-- Demand 3's last sentence: the reorganise that drops the stopped units ends in done, and a read after it in what the tail has.
-- Rests on Reorganising and Reread.
use mathlib.Core.Path.{◌≡◌, refl, sym, ap, subst, ◌∙◌}
use mathlib.Core.Bool.{true}
use mathlib.Core.List.{List, [], ◌∷◌}
use Prim.Native.Nat.{ℕ, suc, ◌+◌, ◌-◌, ◌≤◌, ◌<◌}
use native.Mathlib.Omega.{arith}
use borrow.Author.Tests.{leb-true, lt-leb, le-ltb}
use lib.Dec.{leb}
use lib.ListN.{length, length-set, length-append}
use lib.Seq.{get_or-set_same}
use Rattle.num.specs.Limits.{limit}
use Rattle.num.specs.declared.Edges.{Edges}
use Rattle.num.specs.Edges.{no_edges}
use Rattle.num.specs.declared.Epoch.{Epoch}
use Rattle.num.specs.declared.Position.{Position}
use Rattle.num.proofs.Tests.{and_both}
use Rattle.layout.specs.Plan.{Planned}
use Rattle.layout.specs.declared.Layout.{Layout}
use Rattle.layout.specs.Lay.{Lay, good, rising, ◌in?◌, units_of}
use Rattle.layout.specs.Value.{lay_of, value_of}
use Rattle.layout.specs.Places.{set_at, tail_of}
use Rattle.layout.proofs.ValueOf.{value_of_good}
use Rattle.layout.proofs.GoodLay.{good_says}
use Rattle.layout.proofs.GoodSets.{is_good_set}
use Rattle.layout.proofs.SetNumber.{set_at_good}
use Rattle.layout.proofs.UnitsOf.{at_in_units, units_rise}
use Rattle.layout.proofs.HeadAndTail.{tail_in_lem}
use Rattle.layout.proofs.Rising.{rises, rising_within}
use Rattle.unit.specs.declared.shape.Shape.{Shape}
use Rattle.unit.specs.State.{State}
use Rattle.unit.specs.Unit.{Report, says, report}
use Rattle.unit.specs.Unit.Request.{read as unit_read}
use Rattle.unit.specs.Memory.{valid}
use Rattle.unit.proofs.Shapes.{sized}
use Rattle.unit.proofs.Marks.{ReadTells, read_tells}
use Rattle.unit.proofs.Marks.ReadTells.{read_position, read_sealed, read_trimmed, read_unwritten, read_page}
use Rattle.num.specs.declared.Request.{Request}
use Rattle.client.specs.declared.Client.{Client}
use Rattle.client.specs.declared.state.Job.{Job}
use Rattle.client.specs.declared.Work.TheVariants.{Read, Reorganise}
use Rattle.client.specs.declared.Outcome.{Outcome}
use Rattle.client.specs.Client.{fresh, holding, planning, idle, drop_limit, last_number}
use Rattle.client.specs.Message.{is_showable}
use Rattle.client.specs.Turn.{Turn, numbered}
use Rattle.client.specs.Turn.{ends as ends_with}
use Rattle.client.specs.Begin.{with_job}
use Rattle.client.specs.Way.{plan_for}
use Rattle.client.specs.Reorganise.{seals_on}
use Rattle.client.specs.Take.{goes_on}
use Rattle.client.proofs.Clients.{idle_used, idle_stage}
use Rattle.client.proofs.Turns.{plan_cases}
use Rattle.rule.specs.World.{World, shape_under, running, client_at, unit_at}
use Rattle.rule.specs.Serve.{page_of}
use Rattle.rule.specs.Steps.{Done, step}
use Rattle.vouch.specs.LastSentence.{Goes, begin, exchanges, new_layout, unit_count, reorganising, Conditions, DropsStopped, tail_in, tail_asked, tail_says, tail_shows, Answering, ReadsTail, largest_written, Reorganised, Answerable}
use Rattle.vouch.specs.LastSentence.Answering.{page, trimmed, unwritten}
use Rattle.vouch.proofs.Drops.{any_plan}
use Rattle.vouch.proofs.Exchange.{yard, as_turn}
use Rattle.vouch.proofs.Beginning.{Ready, Fit, fetched, begin_fetch}
use Rattle.vouch.proofs.Forward.{Sound, offered, offered_good, offered_next, offered_lay, units, units_work, walk_all, Kept, units_at_first}
use Rattle.vouch.proofs.PageValues.{read_showable}
use Rattle.vouch.proofs.Reread.{shown_by, ReadGoes, read_goes}
use Rattle.vouch.proofs.Installing.{EndsWell, Comes}
use Rattle.vouch.proofs.Reorganising.{requests, OnWay, seals_come}

-- ---- what a unit answers to a read, whatever epoch below it was sealed

read_same : (sh sh' : Shape) (e : Epoch) (p : Position) (old new : State) → new.floor ≡ old.floor → new.slots ≡ old.slots → new.sealed < e.0 → old.sealed < e.0 → says sh new (unit_read e p) ≡ says sh' old (unit_read e p)
unfolding says
read_same sh sh' e p old new a b lt lt' = rw (lt-leb e.0 new.sealed lt, lt-leb e.0 old.sealed lt', a, b)

shows_same : (sh sh' : Shape) (e : Epoch) (p : Position) (old new : State) → new.slots ≡ old.slots → says sh new (unit_read e p) ≡ says sh' old (unit_read e p) → report sh new (unit_read e p) ≡ report sh' old (unit_read e p)
unfolding report
shows_same sh sh' e p old new b same = rw (same, b)

answering : (M : State) (e : Epoch) (p : Position) (n : ℕ) → M.sealed < e.0 → p.0 < limit → ReadTells M e p n → Answering n
answering M e p n lt below (read_position a) = absurd (omega arith)
answering M e p n lt below (read_sealed a) = absurd (omega arith)
answering M e p n lt below (read_trimmed a b) = trimmed
answering M e p n lt below (read_unwritten a b) = unwritten
answering M e p n lt below (read_page a b c) = page

-- ---- the requests

requests_count : (us : List ℕ) → requests us ≡ length us + 2
unfolding requests
requests_count [] = refl
requests_count (u ∷ us) = omega (arith, requests_count us)

module _ (w : World) (c : ℕ) (sound : Sound w) (may : Conditions w c) (j : Job) (drops : DropsStopped w j) where
  pub ready : Ready w c
  ready = record {
    of_client = may.of_client;
    clients = sound.four_clients;
    few = may.few_letters;
    is_idle = may.is_idle;
    number_left = omega (arith, may.numbers_left);
  }

  -- j is this (`is_reorganise`)
  abbrev pub job : Job
  job = record { work = Reorganise; len = j.len; bytes = j.bytes; change = j.change }

  pub fit : Fit job w.held.shape
  fit = record { below = refl; short = refl; few_drops = le-ltb drop_limit j.change.count drops.drops_few }

  -- ---- the reorganise

  abbrev f : Client
  f = fetched w c ready job fit

  abbrev plan : Layout
  plan = offered w c sound may

  abbrev y : Client
  y = planning f plan

  plans : plan_for f ≡ record { answer = 0; layout = plan }
  plans = any_plan w c sound may j drops

  goes_by : goes_on Reorganise f ≡ seals_on y 0 no_edges
  goes_by =
      plan_cases (λ (t : Turn). t ≡ seals_on y 0 no_edges) f (λ fine. ap (λ (q : Planned). seals_on (planning f q.layout) 0 no_edges) plans)
      (λ failed. absurd (failed (ap (λ (q : Planned). q.answer) plans)))

  way : OnWay w c sound may y
  way = record { layout_is = refl; plan_is = refl }

  used_one : y.used.0 ≡ (client_at w c).used.0 + 1
  used_one = refl

  abbrev us : List ℕ
  us = units w c sound may

  pub comes : Comes w c sound may w.units (seals_on y 0 no_edges) (requests us) (largest_written w us)
  comes =
      seals_come w c sound may (walk_all 0 us (units_rise (new_layout w).sets)) w.units y no_edges (largest_written w us) (omega arith) (units_at_first w sound) way (record { edge = omega arith; written = omega arith })
      (omega (arith, requests_count us, used_one, may.numbers_left))

  pub reorganise_goes : Goes step w (reorganising w c job) comes.end
  unfolding exchanges
  reorganise_goes =
      let n : suc (requests us) ≡ unit_count w + 3 = omega (arith, requests_count us) in
      subst (λ n. Goes step w (begin c job ∷ exchanges n (length w.letters)) comes.end) n
      (begin_fetch w c ready job fit sound.held_good (as_turn w c w.letters goes_by comes.run))

  -- ---- the yard after it

  pub well : EndsWell w c sound may (largest_written w us) comes.end
  well = comes.well

  abbrev pub W : World
  W = yard w c w.letters plan well.last_units well.last_sequencer (idle well.life well.used) []

  abbrev ended : Done
  ended = record { answer = comes.end.answer; who = comes.end.who; outcome = comes.end.outcome; world = W }

  pub ended_so : comes.end ≡ ended
  ended_so = ap (λ (z : World). record { answer = comes.end.answer; who = comes.end.who; outcome = comes.end.outcome; world = z }) well.world_is

  -- its units have the written edges that they had
  pub written_kept : (low : ℕ) (vs : List ℕ) → rising low vs ≡ true → largest_written W vs ≡ largest_written w vs
  unfolding largest_written
  written_kept low [] r = refl
  written_kept low (v ∷ vs) r =
      let s = rises low v vs r in
      let k = well.units_on.kept v (omega (arith, s.from)) s.within in
      rw (ap (λ (x : Edges). x.written.0) k.edges_same, written_kept v vs s.rest)

  unfoldable pub reorganised : Reorganised step w c job
  reorganised = record {
    done = ended;
    goes = subst (λ (d : Done). Goes step w (reorganising w c job) d) ended_so reorganise_goes;
    ends = well.who;
    fine = well.done;
    in_force = offered_lay w c sound may;
    counts_on = well.counts_on ∙ (sym (written_kept 0 us (units_rise (new_layout w).sets)) ∙ sym (ap (λ (k : Lay). largest_written W (units_of k.sets)) (offered_lay w c sound may)));
  }

  client_is : client_at W c ≡ idle well.life well.used
  client_is =
      let r = and_both (leb 1 c) (leb c 4) may.of_client in
      get_or-set_same w.clients (c - 1) (idle well.life well.used) fresh (omega (arith, sound.four_clients, leb-true 1 c r.0, leb-true c 4 r.1))

  used_is : (client_at W c).used.0 ≡ well.used.0
  used_is = ap (λ (x : Client). x.used.0) client_is ∙ ap (λ (n : Request). n.0) (idle_used well.life well.used)

  pub ready_again : Ready W c
  ready_again = record {
    of_client = may.of_client;
    clients = length-set w.clients (c - 1) (idle well.life well.used) ∙ sound.four_clients;
    few = omega (arith, may.few_letters, length-append w.letters []);
    is_idle = ap (λ (x : Client). x.stage) client_is ∙ idle_stage well.life well.used;
    number_left = omega (arith, used_is, well.left);
  }

  pub numbers_left : (client_at W c).used.0 + 2 ≤ last_number
  numbers_left = omega (arith, used_is, well.left)

  -- ---- the read

  module _ (p : Position) (below : p.0 < limit) where
    abbrev t : ℕ
    t = tail_in w p.0

    pub tail_same : tail_of (set_at (lay_of plan) p.0) ≡ t
    tail_same = ap (λ (l : Lay). tail_of (set_at l p.0)) (offered_lay w c sound may)

    tail_inside : (t in? us) ≡ true
    tail_inside =
        let g = good_says (new_layout w) (subst (λ (l : Lay). good l ≡ true) (offered_lay w c sound may) (value_of_good plan (offered_good w c sound may)).0) in
        at_in_units (new_layout w) g p.0 t (tail_in_lem (set_at (new_layout w) p.0) (is_good_set (set_at (new_layout w) p.0) (set_at_good (new_layout w) g p.0)).some)

    pub tail_works : running w.stopped t ≡ true
    tail_works = units_work w c sound may t tail_inside

    tail_kept : Kept (shape_under w.held) w.held.epoch.0 (unit_at w t) (unit_at W t)
    tail_kept =
        let range = rising_within 0 us t (units_rise (new_layout w).sets) tail_inside in
        well.units_on.kept t (omega (arith, range.0)) range.1

    pub tail_runs : running w.stopped (tail_of (set_at (lay_of plan) p.0)) ≡ true
    tail_runs = subst (λ u. running w.stopped u ≡ true) (sym tail_same) tail_works

    -- where it says 0, it shows a page
    pub tail_page : says (shape_under plan) (unit_at W (tail_of (set_at (lay_of plan) p.0))) (unit_read plan.epoch p) ≡ 0 →
        is_showable (page_of (report (shape_under plan) (unit_at W (tail_of (set_at (lay_of plan) p.0))) (unit_read plan.epoch p)).page) ≡ true
    tail_page =
        let fits = subst (λ u. valid (shape_under w.held) (unit_at W u) ≡ true) (sym tail_same) tail_kept.stays_valid in
        read_showable (shape_under plan) (shape_under w.held) (unit_at W (tail_of (set_at (lay_of plan) p.0))) plan.epoch p fits (sized w.held.shape).page

    pub read : ReadGoes W c ready_again p below (offered_good w c sound may) tail_runs numbers_left tail_page
    read = read_goes W c ready_again p below (offered_good w c sound may) tail_runs numbers_left tail_page

    abbrev e : ℕ
    e = (new_layout w).epoch

    pub epoch_is : plan.epoch.0 ≡ e
    unfolding value_of
    epoch_is = refl

    above_sealed : w.held.epoch.0 < e
    above_sealed = omega (arith, epoch_is, offered_next w c sound may)

    old_low : (unit_at w t).sealed < e
    old_low =
        let range = rising_within 0 us t (units_rise (new_layout w).sets) tail_inside in
        omega (arith, above_sealed, sound.unit_low t (omega (arith, range.0)) range.1)

    new_low : (unit_at W t).sealed < e
    new_low = omega (arith, above_sealed, tail_kept.low)

    says_same : says (shape_under plan) (unit_at W t) (tail_asked w p.0) ≡ tail_says w p.0
    says_same = read_same (shape_under plan) (shape_under w.held) (record { 0 = e }) p (unit_at w t) (unit_at W t) tail_kept.floor_same tail_kept.slots_same new_low old_low

    says_is : says (shape_under plan) (unit_at W (tail_of (set_at (lay_of plan) p.0))) (unit_read plan.epoch p) ≡ tail_says w p.0
    unfolding value_of
    says_is = ap (λ u. says (shape_under plan) (unit_at W u) (tail_asked w p.0)) tail_same ∙ says_same

    shows_is : report (shape_under plan) (unit_at W (tail_of (set_at (lay_of plan) p.0))) (unit_read plan.epoch p) ≡ report (shape_under w.held) (unit_at w t) (tail_asked w p.0)
    unfolding value_of
    shows_is = ap (λ u. report (shape_under plan) (unit_at W u) (tail_asked w p.0)) tail_same ∙ shows_same (shape_under plan) (shape_under w.held) (record { 0 = e }) p (unit_at w t) (unit_at W t) tail_kept.slots_same says_same

    outcome_is : read.done.outcome ≡ record { number = tail_says w p.0; position = p; epoch = plan.epoch; page = tail_shows w p.0; work = Read p; sent = 2 }
    outcome_is =
        read.outcome_is
        ∙ (ap (λ n. record { number = n; position = p; epoch = plan.epoch; page = shown_by n (report (shape_under plan) (unit_at W (tail_of (set_at (lay_of plan) p.0))) (unit_read plan.epoch p)).page; work = Read p; sent = 2 }) says_is
        ∙ ap (λ (x : Report). record { number = tail_says w p.0; position = p; epoch = plan.epoch; page = shown_by (tail_says w p.0) x.page; work = Read p; sent = 2 }) shows_is)

    pub tells : ReadsTail w p read.done.outcome
    tells = subst (λ (o : Outcome). ReadsTail w p o) (sym outcome_is) (record {
      answers = answering (unit_at w t) (record { 0 = e }) p (tail_says w p.0) old_low below (read_tells (shape_under w.held) (unit_at w t) (record { 0 = e }) p);
      number_is = refl;
      page_is = refl;
      position_is = refl;
      epoch_is = epoch_is;
    })

    -- "n + 3 requests, each delivered once and dropped, as is its answer, with no other step between, end in done; two more make the read"
    unfoldable pub last_sentence : Answerable step w c job p
    unfolding reorganised
    last_sentence = record { reorganised = reorganised; was_read = read.done; read_goes = read.run; read_ends = read.who; read_tells = tells }
