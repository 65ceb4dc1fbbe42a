-- A reorganise with no other step between ends in done: fetch, a seal for each unit of the new layout, offer, start.
-- Rests on Beginning and Forward.
use mathlib.Core.Path.{◌≡◌, refl, sym, ap, subst, ◌∙◌}
use mathlib.Core.Bool.{true}
use mathlib.Core.List.{List, [], ◌∷◌}
use Prim.Native.Nat.{ℕ, suc, ◌+◌, ◌-◌, ◌≤◌, ◌<◌, max}
use native.Mathlib.Omega.{arith}
use borrow.Author.Tests.{leb-true}
use lib.Dec.{leb}
use lib.ListN.{get_or, set}
use Rattle.num.specs.Limits.{limit, last_epoch}
use Rattle.num.specs.declared.Edges.{Edges}
use Rattle.num.specs.Edges.{largest}
use Rattle.num.proofs.Tests.{and_both, false_true}
use Rattle.num.proofs.Within.{Within, says_within, largest_within}
use Rattle.layout.specs.declared.Layout.{Layout}
use Rattle.layout.specs.Lay.{Lay, ◌in?◌, units_of}
use Rattle.layout.specs.Value.{lay_of, good_value}
use Rattle.layout.specs.Places.{above}
use Rattle.layout.proofs.NextUnit.{above_next}
use Rattle.unit.specs.State.{State, written_edge, edges}
use Rattle.unit.specs.Unit.{fresh_unit, after as unit_after_lem}
use Rattle.unit.specs.Unit.Request.{seal}
use Rattle.unit.proofs.Lasting.{edges_within}
use Rattle.sequencer.specs.declared.Sequencer.{Sequencer}
use Rattle.client.specs.declared.UnitAsk.TheVariants as unit_ask
use Rattle.client.specs.declared.Ask.TheVariants as ask
use Rattle.client.specs.declared.Reply.{Reply}
use Rattle.client.specs.declared.Reply.TheVariants.{Edged}
use Rattle.client.specs.declared.Client.{Client}
use Rattle.client.specs.declared.Phase.TheVariants.{Sealing}
use Rattle.client.specs.Message.{no_page, plain}
use Rattle.client.specs.Client.{in_phase, last_number}
use Rattle.client.specs.Turn.{Turn, numbered, next, sends}
use Rattle.client.specs.Way.{unit_above}
use Rattle.client.specs.Reorganise.{all_sealed, seals, seals_on}
use Rattle.client.specs.Take.{answered}
use Rattle.client.proofs.Turns.{seal_cases, edges_cases, works_good}
use Rattle.rule.specs.World.{World, shape_under, is_unit, running, unit_at}
use Rattle.rule.specs.Serve.{bare, at_unit, unit_says, unit_after, serve}
use Rattle.vouch.specs.LastSentence.{exchanges, largest_written, Conditions}
use Rattle.vouch.proofs.Exchange.{not_so, waiting, as_turn, sends_on, Asked, exchange_on}
use Rattle.vouch.proofs.Forward.{Sound, offered, offered_lay, units, units_work, Walk, UnitsOn, seal_tells, seal_on}
use Rattle.vouch.proofs.Installing.{Comes, comes_as, offer_comes}
use Rattle.vouch.proofs.Forward.Walk.{walk_end, walk_next}

-- the requests that are left when these units are to be sealed: one each, offer and start
unfoldable pub requests : List ℕ → ℕ
requests [] = 2
requests (u ∷ us) = suc (requests us)

largest_written_lem : (a b : Edges) → (largest a b).written.0 ≡ max a.written.0 b.written.0
unfolding largest
largest_written_lem a b = refl

module _ (w : World) (c : ℕ) (sound : Sound w) (may : Conditions w c) where
  abbrev plan : Layout
  plan = offered w c sound may

  abbrev k : Layout
  k = w.held

  abbrev s : Sequencer
  s = w.sequencer

  -- the client on its way
  pub record OnWay (y : Client) : Type 0 where
    pub layout_is : y.layout ≡ k
    pub plan_is : y.plan ≡ plan

  under : (y : Client) → OnWay y → good_value y.layout ≡ true
  under y way = ap good_value way.layout_is ∙ sound.held_good

  -- ---- a seal

  next_unit_lem : (y : Client) (u : ℕ) → y.plan ≡ plan → unit_above y.plan u ≡ above u (units w c sound may)
  next_unit_lem y u plans = ap (λ (l : Layout). above u (units_of (lay_of l).sets)) plans ∙ ap (λ (l : Lay). above u (units_of l.sets)) (offered_lay w c sound may)

  -- a unit that comes next is one of 1 to 8, and works
  record NextWorks (v : ℕ) : Type 0 where
    works : running w.stopped v ≡ true
    low : 1 ≤ v
    high : v ≤ 8

  next_works : (u v : ℕ) → above u (units w c sound may) ≡ v → u < v → NextWorks v
  next_works u v is lt =
      let inside = subst (λ z. (z in? units w c sound may) ≡ true) is (above_next (units w c sound may) u (λ z. omega (arith, is))).inside in
      let works = units_work w c sound may v inside in
      let range = and_both (leb 1 v) (leb v 8) (and_both (is_unit v) _ works).0 in
      record { works = works; low = leb-true 1 v range.0; high = leb-true v 8 range.1 }

  epoch_few : k.epoch.0 ≤ last_epoch
  epoch_few = omega (arith, may.epoch_left)

  module _ (us : List State) (y : Client) (v : ℕ) (e : Edges) (on : UnitsOn w us) (way : OnWay y) (is : NextWorks v) (few : Within limit e) where
    abbrev y₃ : Client
    y₃ = in_phase y (Sealing v e)

    abbrev M : State
    M = get_or us (v - 1) (fresh_unit v)

    abbrev sealed_units : List State
    sealed_units = set us (v - 1) (unit_after_lem (shape_under k) M (seal k.epoch))

    abbrev told : Edges
    told = edges M

    seals_so : seals y v e ≡ sends y₃ (plain (ask.Unit v (unit_ask.Seal k.epoch)))
    seals_so = ap (λ (l : Layout). sends y₃ (plain (ask.Unit v (unit_ask.Seal l.epoch)))) way.layout_is

    seal_asked : Asked w c w.letters may.of_client sound.four_clients may.few_letters k k us sealed_units s s y₃ (plain (ask.Unit v (unit_ask.Seal k.epoch))) (bare (Edged told))
    unfolding unit_says unit_after serve
    seal_asked = record {
      there = not_so (running w.stopped v) is.works;
      serves = ap (λ (r : Reply). at_unit (waiting w c w.letters k us s y₃ (plain (ask.Unit v (unit_ask.Seal k.epoch)))) v (bare r) (unit_after_lem (shape_under k) M (seal k.epoch)))
          (seal_tells (shape_under k) M k.epoch (on.kept v is.low is.high).low);
    }

    abbrev x₃ : Client
    x₃ = numbered y₃ (next y₃)

    told_few : Within limit told
    told_few = edges_within (shape_under k) M (on.kept v is.low is.high).stays_valid

    told_same : told.written.0 ≡ written_edge (unit_at w v)
    told_same = ap (λ (x : Edges). x.written.0) (on.kept v is.low is.high).edges_same

    seal_taken : answered y₃.stage x₃ (bare (Edged told)) ≡ seals_on x₃ v (largest e told)
    seal_taken =
        works_good x₃ (Sealing v e) (Edged told) no_page (under y way)
        ∙ edges_cases (λ (t : Turn). t ≡ seals_on x₃ v (largest e told)) x₃ v e told (λ few. refl) (λ past. absurd (false_true (sym past ∙ says_within told told_few)))

    largest_few : Within limit (largest e told)
    largest_few = largest_within e told limit few told_few

    way_on : OnWay x₃
    way_on = record { layout_is = way.layout_is; plan_is = way.plan_is }

    used_on : x₃.used.0 ≡ y.used.0 + 1
    used_on = refl

    seal_comes : {n first : ℕ} → y.used.0 < last_number → Comes w c sound may sealed_units (seals_on x₃ v (largest e told)) n first → Comes w c sound may us (seals y v e) (suc n) first
    unfolding exchanges
    seal_comes {n} left rest = record {
      end = rest.end;
      run =
          as_turn w c w.letters seals_so
          (sends_on w c w.letters y₃ (plain (ask.Unit v (unit_ask.Seal k.epoch))) left
          (exchange_on w c w.letters may.of_client sound.four_clients may.few_letters seal_asked
          (as_turn w c w.letters seal_taken rest.run)));
      well = rest.well;
    }

  -- ---- all seals, and what follows

  -- first: the largest of the written edges told so far and of those of the units that are left
  pub seals_come : {u : ℕ} {rest : List ℕ} → Walk (units w c sound may) u rest → (us : List State) (y : Client) (e : Edges) (first : ℕ) → max e.written.0 (largest_written w rest) ≡ first →
      UnitsOn w us → OnWay y → Within limit e → y.used.0 + (requests rest + 2) ≤ last_number → Comes w c sound may us (seals_on y u e) (requests rest) first
  unfolding requests largest_written
  seals_come {u} (walk_end none) us y e first counts on way few left =
      comes_as w c sound may (seal_cases (λ (t : Turn). t ≡ all_sealed y e) y u e (λ last. refl) (λ some. absurd (some (next_unit_lem y u way.plan_is ∙ none))))
      (subst (λ n. Comes w c sound may us (all_sealed y e) 2 n) (omega (arith, counts)) (offer_comes w c sound may us y e on way.plan_is (under y way) few left))
  seals_come {u} (walk_next {v = v} {vs = vs} is lt rest) us y e first counts on way few left =
      let works = next_works u v is lt in
      let at : unit_above y.plan u ≡ v = next_unit_lem y u way.plan_is ∙ is in
      comes_as w c sound may
      (seal_cases (λ (t : Turn). t ≡ seals y v e) y u e (λ none. absurd (omega (arith, at, none))) (λ some. ap (λ z. seals y z e) at))
      (seal_comes us y v e on way works few (omega (arith, left))
      (seals_come rest (sealed_units us y v e on way works few) (x₃ us y v e on way works few) (largest e (told us y v e on way works few)) first
      (omega (arith, counts, largest_written_lem e (told us y v e on way works few), told_same us y v e on way works few))
      (seal_on w us v epoch_few on works.low works.high) (way_on us y v e on way works few) (largest_few us y v e on way works few) (omega (arith, left, used_on us y v e on way works few))))
