-- The end of a reorganise with no other step between: offer and start, and it is done.
-- Rests on Exchange and Forward.
use mathlib.Core.Path.{◌≡◌, refl, ap, ◌∙◌}
use mathlib.Core.Bool.{true}
use mathlib.Core.List.{List, []}
use Prim.Native.Nat.{ℕ, ◌+◌, ◌≤◌, ◌<◌}
use native.Mathlib.Omega.{arith}
use lib.ListN.{length}
use Rattle.num.specs.Limits.{limit}
use Rattle.num.specs.declared.Edges.{Edges}
use Rattle.num.specs.declared.Position.{Position}
use Rattle.num.specs.declared.Request.{Request}
use Rattle.num.proofs.Within.{Within}
use Rattle.layout.specs.declared.Layout.{Layout}
use Rattle.layout.specs.Holder.{Offered}
use Rattle.layout.specs.Value.{good_value}
use Rattle.layout.specs.Plan.{StartAnswer, started_at}
use Rattle.unit.specs.State.{State}
use Rattle.sequencer.specs.declared.Sequencer.{Sequencer}
use Rattle.sequencer.specs.declared.Asked.TheVariants as asked
use Rattle.sequencer.specs.Rules.{Told, after as sequencer_after}
use Rattle.client.specs.declared.Ask.TheVariants as ask
use Rattle.client.specs.declared.Reply.TheVariants.{Fine}
use Rattle.client.specs.declared.Client.{Client}
use Rattle.client.specs.declared.Phase.TheVariants.{Offering, Starting}
use Rattle.client.specs.Message.{no_page, plain, offering}
use Rattle.client.specs.Client.{in_phase, planning, idle, last_number}
use Rattle.client.specs.Turn.{Turn, numbered, next, sends, over}
use Rattle.client.specs.Reorganise.{offers, all_sealed, starts}
use Rattle.client.specs.Take.{answered}
use Rattle.client.proofs.Turns.{start_cases, works_good}
use Rattle.rule.specs.World.{World}
use Rattle.rule.specs.Serve.{telling, bare, with_sequencer, asking, offering_to, serve}
use Rattle.rule.specs.Steps.{Done}
use Rattle.vouch.specs.LastSentence.{exchanges, Conditions}
use Rattle.vouch.proofs.Exchange.{yard, after, waiting, GoesOn, as_turn, sends_on, Asked, exchange_on, exchange_ends}
use Rattle.vouch.proofs.Forward.{Sound, offered, start_is, offer_is, offered_next, UnitsOn, start_told, start_after}

module _ (w : World) (c : ℕ) (sound : Sound w) (may : Conditions w c) where
  abbrev plan : Layout
  plan = offered w c sound may

  abbrev k : Layout
  k = w.held

  abbrev s : Sequencer
  s = w.sequencer

  -- ---- the end

  -- first: where the sequencer counts on
  pub record EndsWell (first : ℕ) (d : Done) : Type 0 where
    pub who : d.who ≡ c
    pub done : d.outcome.number ≡ 0
    pub last_units : List State
    pub last_sequencer : Sequencer
    pub life : ℕ
    pub used : Request
    pub world_is : d.world ≡ yard w c w.letters plan last_units last_sequencer (idle life used) []
    pub units_on : UnitsOn w last_units
    pub counts_on : last_sequencer.next.0 ≡ first
    pub left : used.0 + 2 ≤ last_number

  -- the turn t leads there with n requests
  pub record Comes (us : List State) (t : Turn) (n first : ℕ) : Type 0 where
    pub end : Done
    pub run : GoesOn w c w.letters k us s t (exchanges n (length w.letters)) end
    pub well : EndsWell first end

  pub comes_as : {us : List State} {t t' : Turn} {n first : ℕ} → t ≡ t' → Comes us t' n first → Comes us t n first
  comes_as same r = record { end = r.end; run = as_turn w c w.letters same r.run; well = r.well }

  -- ---- the start

  module _ (us : List State) (y : Client) (p : Position) (on : UnitsOn w us) (plans : y.plan ≡ plan) (under : good_value y.layout ≡ true) (few : p.0 ≤ limit) (left : y.used.0 + 3 ≤ last_number) where
    abbrev y₁ : Client
    y₁ = in_phase y Starting

    abbrev started : Sequencer
    started = record { epoch = plan.epoch; next = p }

    starts_so : starts y p ≡ sends y₁ (plain (ask.Start plan.epoch p))
    starts_so = ap (λ (l : Layout). sends y₁ (plain (ask.Start l.epoch p))) plans

    later : s.epoch.0 < plan.epoch.0
    later = omega (arith, sound.sequencer_low, offered_next w c sound may)

    start_asked : Asked w c w.letters may.of_client sound.four_clients may.few_letters plan plan us us s started y₁ (plain (ask.Start plan.epoch p)) (bare Fine)
    unfolding serve asking
    start_asked =
        let W = waiting w c w.letters plan us s y₁ (plain (ask.Start plan.epoch p)) in
        record {
          there = refl;
          serves =
              ap (λ (t : Told). record { response = bare (telling t); world = with_sequencer W (sequencer_after s (asked.Start plan.epoch p)) }) (start_told s plan.epoch p few later)
              ∙ ap (λ (q : Sequencer). record { response = bare Fine; world = with_sequencer W q }) (start_after s plan.epoch p few later);
        }

    start_taken : answered y₁.stage (numbered y₁ (next y₁)) (bare Fine) ≡ over (numbered y₁ (next y₁)) 0 no_page
    start_taken = works_good (numbered y₁ (next y₁)) Starting Fine no_page under

    start_left : y₁.used.0 < last_number
    start_left = omega (arith, left)

    abbrev last_turn : Turn
    last_turn = over (numbered y₁ (next y₁)) 0 no_page

    abbrev last_done : Done
    last_done = record { answer = 0; who = c; outcome = last_turn.outcome; world = after w c w.letters plan us started last_turn }

    start_goes : GoesOn w c w.letters plan us s (starts y p) (exchanges 1 (length w.letters)) last_done
    unfolding exchanges
    start_goes =
        as_turn w c w.letters starts_so
        (sends_on w c w.letters y₁ (plain (ask.Start plan.epoch p)) start_left
        (exchange_ends w c w.letters may.of_client sound.four_clients may.few_letters start_asked last_turn start_taken))

    start_well : EndsWell p.0 last_done
    start_well = record {
      who = refl;
      done = refl;
      last_units = us;
      last_sequencer = started;
      life = y.life;
      used = next y;
      world_is = refl;
      units_on = on;
      counts_on = refl;
      left = omega (arith, left);
    }

  -- ---- the offer

  module _ (us : List State) (y : Client) (e : Edges) (on : UnitsOn w us) (plans : y.plan ≡ plan) (under : good_value y.layout ≡ true) (few : Within limit e) (left : y.used.0 + 4 ≤ last_number) where
    -- where the sequencer is to start
    abbrev p : Position
    p = e.written

    abbrev y₂ : Client
    y₂ = in_phase (planning y plan) (Offering p)

    offers_so : all_sealed y e ≡ sends y₂ (offering plan)
    offers_so =
        let starts_so = ap (λ (l : Layout). started_at l e) plans ∙ start_is w c sound may e in
        start_cases (λ (t : Turn). t ≡ sends y₂ (offering plan)) y e (λ fine. ap (λ (o : StartAnswer). offers (planning y o.layout) o.first) starts_so)
        (λ failed. absurd (failed (ap (λ (o : StartAnswer). o.answer) starts_so)))

    offer_asked : Asked w c w.letters may.of_client sound.four_clients may.few_letters k plan us us s s y₂ (offering plan) (bare Fine)
    unfolding serve offering_to
    offer_asked = record {
      there = refl;
      serves = ap (λ (o : Offered). offering_to (waiting w c w.letters k us s y₂ (offering plan)) o) (offer_is w c sound may);
    }

    abbrev x₂ : Client
    x₂ = numbered y₂ (next y₂)

    offer_taken : answered y₂.stage x₂ (bare Fine) ≡ starts x₂ p
    offer_taken = works_good x₂ (Offering p) Fine no_page under

    offer_left : y₂.used.0 < last_number
    offer_left = omega (arith, left)

    start_left_after : x₂.used.0 + 3 ≤ last_number
    start_left_after = omega (arith, left)

    plan_after : x₂.plan ≡ plan
    plan_after = refl

    pub offer_comes : Comes us (all_sealed y e) 2 p.0
    unfolding exchanges
    offer_comes = record {
      end = last_done us x₂ p on plan_after under few.written start_left_after;
      run =
          as_turn w c w.letters offers_so
          (sends_on w c w.letters y₂ (offering plan) offer_left
          (exchange_on w c w.letters may.of_client sound.four_clients may.few_letters offer_asked
          (as_turn w c w.letters offer_taken (start_goes us x₂ p on plan_after under few.written start_left_after))));
      well = start_well us x₂ p on plan_after under few.written start_left_after;
    }
