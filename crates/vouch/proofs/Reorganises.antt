-- Reorganise: seals in rising number, then the offer, then the sequencer's start.
-- Rests on Turns and Plans.
use mathlib.Core.Path.{◌≡◌, refl, sym, subst, ◌∙◌}
use Prim.Native.Nat.{ℕ, ◌≤◌, ◌<◌}
use native.Mathlib.Omega.{arith}
use native.Mathlib.Decide.{dec_lt}
use Rattle.num.specs.declared.Edges.{Edges}
use Rattle.num.specs.Edges.{no_edges, largest}
use Rattle.num.specs.declared.Position.{Position}
use Rattle.layout.specs.declared.Layout.{Layout}
use Rattle.layout.specs.Value.{lay_of}
use Rattle.client.specs.declared.Reply.{Reply}
use Rattle.client.specs.declared.Reply.TheVariants.{Held, Given, Fine, Shown, Edged, Refused}
use Rattle.client.specs.declared.Work.TheVariants as work
use Rattle.client.specs.declared.Phase.TheVariants.{Sealing, Offering, Starting}
use Rattle.client.specs.declared.Client.{Client}
use Rattle.client.specs.Message.{plain}
use Rattle.client.specs.declared.UnitAsk.TheVariants as unit_ask
use Rattle.client.specs.declared.Ask.TheVariants as ask
use Rattle.client.specs.Client.{in_phase}
use Rattle.client.specs.Turn.{ends}
use Rattle.client.specs.Way.{unit_above}
use Rattle.num.proofs.Within.{edge_left, edge_right}
use Rattle.client.proofs.Turns.{plan_cases, seal_cases, edges_cases, start_cases, unstarted_cases}
use Rattle.history.specs.Words.{UnitNo}
use Rattle.history.specs.Maps.{Has}
use Rattle.history.specs.History.{History}
use Rattle.history.specs.Events.{Run}
use Rattle.vouch.proofs.Layouts.{map_of}
use Rattle.vouch.proofs.GoodMap.{unit_within}
use Rattle.vouch.proofs.Walks.{next_next, next_last}
use Rattle.layout.specs.Plan.{planned_for, started_at}
use Rattle.client.specs.Message.{offering}
use Rattle.client.specs.Client.{planning}
use Rattle.client.specs.Way.{drops_of, plan_for, start_for}
use Rattle.client.specs.Reorganise.{seals, offers, all_sealed, seals_on, reorganises, on_sealed, on_offered, not_started, on_started}
use Rattle.history.specs.History.{held}
use Rattle.history.specs.Edges.{SealedAt, EdgeAt}
use Rattle.history.proofs.Epochs.{laid_by}
use Rattle.vouch.proofs.GoodMap.{epoch_small}
use Rattle.vouch.proofs.Offers.{OfferOk}
use Rattle.vouch.proofs.Plans.{planned_offer, edge_wider}
use Rattle.vouch.proofs.Meaning.{Fetched, SealingOk, OfferingOk, StartingOk}
use Rattle.vouch.proofs.Meaning.AskOk.{seal_ok, offer_ok, start_ok}
use Rattle.vouch.proofs.Meaning.Waits.{waits_seal, waits_offer, waits_start}
use Rattle.vouch.proofs.Turns.{TurnOk, other_quiet, ends_ok, sends_ok, otherwise_ok}
use Rattle.vouch.proofs.Turns.TurnOk.{rests_ok}
use Rattle.vouch.proofs.Turns.Other.{is_reorganise}
use Rattle.vouch.proofs.Walking.{is_good_lem}

-- what the client knows of its plan
pub record Planning (h : History) (c : Client) : Type 0 where
  pub is : c.work ≡ work.Reorganise
  pub fetched : Fetched h c.layout
  pub plan_fine : (planned_for c.layout (drops_of c.change) c.change.wish).answer ≡ 0
  pub plan_is : c.plan ≡ (planned_for c.layout (drops_of c.change) c.change.wish).layout

module _ {h : History} (run : Run h) (b c : Client) (life : c.life ≡ b.life) (used : c.used ≡ b.used) (works : c.work ≡ b.work) (plans : Planning h c) where
  quiet : (n : ℕ) → TurnOk h b (ends c n)
  quiet n = ends_ok c n life used (other_quiet (is_reorganise (sym works ∙ plans.is)))

  seals_ok : (u : ℕ) (x : Edges) → SealingOk h c.work c.layout c.change c.plan u x.edge.0 → TurnOk h b (seals c u x)
  unfolding lay_of
  seals_ok u x ok =
      sends_ok (in_phase c (Sealing u x)) (plain (ask.Unit u (unit_ask.Seal c.layout.epoch))) life used refl ok waits_seal
      (seal_ok {e = c.layout.epoch} (laid_by run ok.fetched.laid) (epoch_small (lay_of c.layout) (is_good_lem ok.fetched)))

  -- every unit of the plan has answered, and x are the largest edges
  all_sealed_lem : (x : Edges) → ((v : UnitNo) → Has (map_of (lay_of c.plan)) v → SealedAt h v c.layout.epoch.0) →
      ((v : UnitNo) → Has (map_of (lay_of c.plan)) v → EdgeAt h v c.layout.epoch.0 x.edge.0) → TurnOk h b (all_sealed c x)
  all_sealed_lem x sealed_all edges = start_cases (TurnOk h b) c x offers_it (λ failed. quiet (start_for c x).answer)
    where
      offer : (started_at c.plan x).answer ≡ 0 → OfferOk h (started_at c.plan x).layout
      offer fine = subst (λ (l : Layout). OfferOk h (started_at l x).layout) (sym plans.plan_is)
          (planned_offer c.layout (drops_of c.change) c.change.wish plans.plan_fine x
          (subst (λ (l : Layout). (started_at l x).answer ≡ 0) plans.plan_is fine) plans.fetched.laid
          (subst (λ (l : Layout). (v : UnitNo) → Has (map_of (lay_of l)) v → SealedAt h v c.layout.epoch.0) plans.plan_is sealed_all)
          (subst (λ (l : Layout). (v : UnitNo) → Has (map_of (lay_of l)) v → EdgeAt h v c.layout.epoch.0 x.edge.0) plans.plan_is edges))

      offers_it : (start_for c x).answer ≡ 0 → TurnOk h b (offers (planning c (start_for c x).layout) (start_for c x).first)
      offers_it fine =
          let ok = offer fine in
          sends_ok (in_phase (planning c (start_for c x).layout) (Offering (start_for c x).first)) (offering (start_for c x).layout) life used refl
          (record { is_reorganise = plans.is; fetched = plans.fetched; offer = ok }) waits_offer (offer_ok ok)

  -- all units of the plan up to u have answered
  seals_on_lem : (u : ℕ) (x : Edges) → ((v : UnitNo) → Has (map_of (lay_of c.plan)) v → v ≤ u → SealedAt h v c.layout.epoch.0) →
      ((v : UnitNo) → Has (map_of (lay_of c.plan)) v → v ≤ u → EdgeAt h v c.layout.epoch.0 x.edge.0) → TurnOk h b (seals_on c u x)
  seals_on_lem u x sealed_upto edges_upto =
      seal_cases (TurnOk h b) c u x
      (λ none. all_sealed_lem x (λ v has. sealed_upto v has (next_last (lay_of c.plan) u none has)) (λ v has. edges_upto v has (next_last (lay_of c.plan) u none has)))
      (λ some. seals_ok (unit_above c.plan u) x (record {
        is_reorganise = plans.is;
        fetched = plans.fetched;
        plan_fine = plans.plan_fine;
        plan_is = plans.plan_is;
        sealed_behind = λ v has lt. sealed_upto v has (next_next (lay_of c.plan) u has lt);
        edges_behind = λ v has lt. edges_upto v has (next_next (lay_of c.plan) u has lt);
      }))

-- the layout is fetched: b is the client before its turn
pub reorganises_ok : {h : History} (run : Run h) (b c : Client) → c.life ≡ b.life → c.used ≡ b.used → c.work ≡ b.work →
    c.work ≡ work.Reorganise → Fetched h c.layout → TurnOk h b (reorganises c)
reorganises_ok {h} run b c life used works is fetched =
    plan_cases (TurnOk h b) c
    (λ fine. seals_on_lem run b (planning c (plan_for c).layout) life used works (record { is = is; fetched = fetched; plan_fine = fine; plan_is = refl }) 0 no_edges
    (λ v has le. absurd (omega (arith, (unit_within (lay_of (plan_for c).layout) has).0)))
    (λ v has le. absurd (omega (arith, (unit_within (lay_of (plan_for c).layout) has).0))))
    (λ failed. ends_ok c (plan_for c).answer life used (other_quiet (is_reorganise (sym works ∙ is))))

module _ {h : History} (run : Run h) (c : Client) where
  module _ (u : ℕ) (x : Edges) (ok : SealingOk h c.work c.layout c.change c.plan u x.edge.0) where
    pub seal_fine : (y : Edges) → SealedAt h u c.layout.epoch.0 → EdgeAt h u c.layout.epoch.0 y.edge.0 → TurnOk h c (on_sealed c u x (Edged y))
    seal_fine y s e =
        edges_cases (TurnOk h c) c u x y
        (λ few. seals_on_lem run c c refl refl refl plans u (largest x y) (upto (λ v. SealedAt h v c.layout.epoch.0) ok.sealed_behind s)
        (upto (λ v. EdgeAt h v c.layout.epoch.0 (largest x y).edge.0) (λ v has lt. edge_wider (edge_left x y) (ok.edges_behind v has lt)) (edge_wider (edge_right x y) e)))
        (λ past. rests_ok)
      where
        plans : Planning h c
        plans = record { is = ok.is_reorganise; fetched = ok.fetched; plan_fine = ok.plan_fine; plan_is = ok.plan_is }

        -- below u, and u itself
        upto : (P : UnitNo → Type 0) → ((v : UnitNo) → Has (map_of (lay_of c.plan)) v → v < u → P v) → P u → (v : UnitNo) → Has (map_of (lay_of c.plan)) v → v ≤ u → P v
        upto P behind now v has le = at (dec_lt v u)
          where
            at : Dec (v < u) → P v
            at (yes lt) = behind v has lt
            at (no ge) = let same : u ≡ v = omega arith in subst P same now

    pub seal_refused : (k : ℕ) → TurnOk h c (on_sealed c u x (Refused k))
    seal_refused k = otherwise_ok k (λ not_fine. other_quiet (is_reorganise ok.is_reorganise))

  module _ (p : Position) (ok : OfferingOk h c.work c.layout c.plan) where
    pub offer_fine : c.plan.epoch.0 ≤ (held h).epoch → TurnOk h c (on_offered c p Fine)
    offer_fine low =
        sends_ok (in_phase c Starting) (plain (ask.Start c.plan.epoch p)) refl refl refl (record { is_reorganise = ok.is_reorganise; fetched = ok.fetched; low = low })
        waits_start (start_ok {e = c.plan.epoch} low)

    pub offer_refused : (k : ℕ) → TurnOk h c (on_offered c p (Refused k))
    offer_refused k = otherwise_ok k (λ not_fine. other_quiet (is_reorganise ok.is_reorganise))

  -- whatever the sequencer says
  pub started : (a : Reply) → StartingOk h c.work c.layout c.plan → TurnOk h c (on_started c a)
  started a ok = go a
    where
      quietly : (k : ℕ) → TurnOk h c (ends c k)
      quietly k = ends_ok c k refl refl (other_quiet (is_reorganise ok.is_reorganise))

      other : (k : ℕ) → TurnOk h c (not_started c k)
      other k = unstarted_cases (TurnOk h c) c k (λ overtaken. quietly 11) (λ none. rests_ok) (λ not_fine. quietly k)

      go : (a : Reply) → TurnOk h c (on_started c a)
      go Held = other 0
      go (Given q) = other 0
      go Fine = quietly 0
      go Shown = other 0
      go (Edged q) = other 0
      go (Refused k) = other k
