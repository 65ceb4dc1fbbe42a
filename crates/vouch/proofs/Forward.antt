-- What the machines answer to an undisturbed reorganise: the plan stands, each seal, the offer and the start are fine.
-- Rests on Dropping, Exchange and the rules and laws of layout, unit and sequencer.
use mathlib.Core.Path.{◌≡◌, refl, sym, subst, ◌∙◌}
use mathlib.Core.Bool.{true}
use mathlib.Core.List.{List, [], ◌∷◌}
use Prim.Native.Nat.{ℕ, ◌+◌, ◌-◌, ◌≤◌, ◌<◌}
use native.Mathlib.Omega.{arith}
use native.Mathlib.Decide.{ℕ_discrete}
use borrow.Author.Tests.{lt-ltb, le-ltb, lt-leb, le-leb}
use lib.Dec.{leb, ltb}
use lib.ListN.{length, get_or, set, length-set}
use lib.Seq.{get_or-set_same, get_or-set_other}
use Rattle.num.specs.declared.Edges.{Edges}
use Rattle.num.specs.Limits.{limit, last_epoch}
use Rattle.num.specs.declared.Epoch.{Epoch}
use Rattle.num.specs.declared.Position.{Position}
use Rattle.layout.specs.declared.Layout.{Layout}
use Rattle.layout.specs.Lay.{Lay, ◌in?◌, rising, units_of, good_sets}
use Rattle.layout.specs.Value.{lay_of, value_of, good_value}
use Rattle.layout.specs.Places.{above}
use Rattle.layout.specs.Plan.{planned, plan_answer, start_answer, first_free, reorganise_answer, planned_for, started_at, good_chains}
use Rattle.layout.specs.Holder.{offered_to}
use Rattle.layout.proofs.ValueOf.{value_of_good}
use Rattle.layout.proofs.GoodLay.{Good, good_says}
use Rattle.layout.proofs.ReorganiseAnswer.{fine_checks, fine_reorganise, planned_fine}
use Rattle.layout.proofs.Planned.{plan_back}
use Rattle.layout.proofs.StartedPlan.{plan_started, reorganise_installs}
use Rattle.layout.proofs.OfferedTo.{Installs, fine_offer, installed as offer_installed}
use Rattle.layout.proofs.Rising.{rises}
use Rattle.unit.specs.declared.shape.Shape.{Shape}
use Rattle.unit.specs.State.{State, edges}
use Rattle.unit.specs.Memory.{valid}
use Rattle.unit.specs.Unit.{fresh_unit, says, after as unit_after_lem, report}
use Rattle.unit.specs.Unit.Request.{seal}
use Rattle.unit.proofs.Lasting.{lasts, seal_rest, seal_edges}
use Rattle.sequencer.specs.declared.Sequencer.{Sequencer}
use Rattle.sequencer.specs.declared.Asked.TheVariants.{Start}
use Rattle.sequencer.specs.Rules.{Number, number, told, after}
use Rattle.sequencer.specs.Rules.{position as position_at}
use Rattle.client.specs.declared.Reply.TheVariants.{Edged}
use Rattle.client.specs.Client.{no_change}
use Rattle.rule.specs.World.{World, shape_under, running, unit_at}
use Rattle.rule.specs.Serve.{edged}
use Rattle.vouch.specs.LastSentence.{stopped_units, new_layout, Conditions}
use Rattle.vouch.proofs.Dropping.{drops_good, none_emptied, left_work}
use Rattle.vouch.proofs.Exchange.{pass}

-- What the last sentence needs of a yard besides its conditions: all of it holds after any steps.
pub record Sound (w : World) : Type 0 where
  pub held_good : good_value w.held ≡ true
  pub four_clients : length w.clients ≡ 4
  pub eight_stopped : length w.stopped ≡ 8
  pub eight_units : length w.units ≡ 8
  pub unit_valid : (u : ℕ) → 1 ≤ u → u ≤ 8 → valid (shape_under w.held) (unit_at w u) ≡ true
  pub unit_low : (u : ℕ) → 1 ≤ u → u ≤ 8 → (unit_at w u).sealed ≤ w.held.epoch.0
  pub sequencer_low : w.sequencer.epoch.0 ≤ w.held.epoch.0

-- ---- the plan

module _ (w : World) (c : ℕ) (sound : Sound w) (may : Conditions w c) where
  abbrev held_lay : Lay
  held_lay = lay_of w.held

  held_good : Good held_lay
  held_good = good_says held_lay (value_of_good w.held sound.held_good).0

  abbrev pub offered : Layout
  offered = value_of (new_layout w)

  plan_fine : plan_answer held_lay (stopped_units w) [] ≡ 0
  unfolding plan_answer lay_of good_sets
  plan_fine = fine_checks held_lay (stopped_units w) true [] (record {
    epoch_left = may.epoch_left;
    drops_good = drops_good w.stopped sound.eight_stopped;
    new_good = refl;
    none_lost = none_emptied w.stopped sound.eight_stopped held_lay.sets may.set_works;
    sets_fit = omega (arith, held_good.sets_few);
    spans_fit = omega (arith, held_good.spans_few);
  })

  reorganise_none : reorganise_answer w.held (stopped_units w) no_change.wish ≡ 0
  unfolding good_chains
  reorganise_none = fine_reorganise w.held (stopped_units w) no_change.wish (record { held_good = sound.held_good; wish_good = refl; plan = plan_fine })

  -- the client's plan, its start set, and the holder's answer to it
  pub plan_is : planned_for w.held (stopped_units w) no_change.wish ≡ record { answer = 0; layout = offered }
  plan_is = sym (planned_fine w.held (stopped_units w) no_change.wish offered reorganise_none refl)

  pub start_is : (e : Edges) → started_at offered e ≡ record { answer = 0; layout = offered; first = e.written }
  unfolding start_answer first_free planned
  start_is e = plan_started held_lay (stopped_units w) [] e held_good plan_fine

  installs : Installs w.held offered
  unfolding start_answer planned
  installs = reorganise_installs w.held (stopped_units w) no_change.wish 0 reorganise_none refl

  pub offer_is : offered_to w.held offered ≡ record { answer = 0; held = offered }
  offer_is = sym (offer_installed w.held offered (fine_offer w.held offered installs))

  pub offered_good : good_value offered ≡ true
  offered_good = installs.good

  pub offered_next : offered.epoch.0 ≡ w.held.epoch.0 + 1
  offered_next = installs.next

  pub offered_lay : lay_of offered ≡ new_layout w
  offered_lay = plan_back held_lay (stopped_units w) [] 0 held_good plan_fine

  -- its units
  abbrev pub units : List ℕ
  units = units_of (new_layout w).sets

  pub units_work : (u : ℕ) → (u in? units) ≡ true → running w.stopped u ≡ true
  unfolding planned
  units_work u h = left_work w.stopped sound.eight_stopped held_lay.sets u h

-- ---- from unit to unit, in rising number

pub data Walk (us : List ℕ) : ℕ → List ℕ → Type 0 where
  walk_end : {u : ℕ} → above u us ≡ 0 → Walk us u []
  walk_next : {u v : ℕ} {vs : List ℕ} → above u us ≡ v → u < v → Walk us v vs → Walk us u (v ∷ vs)

above_past : (x : ℕ) (xs : List ℕ) (u : ℕ) → x ≤ u → above u (x ∷ xs) ≡ above u xs
unfolding above
above_past x xs u le = rw (le-ltb u x le)

walk_more : (x : ℕ) (xs : List ℕ) {u : ℕ} {vs : List ℕ} → x ≤ u → Walk xs u vs → Walk (x ∷ xs) u vs
walk_more x xs {u} le (walk_end none) = walk_end (above_past x xs u le ∙ none)
walk_more x xs {u} le (walk_next is lt rest) = walk_next (above_past x xs u le ∙ is) lt (walk_more x xs (omega arith) rest)

pub walk_all : (low : ℕ) (us : List ℕ) → rising low us ≡ true → Walk us low us
unfolding above
walk_all low [] r = walk_end refl
walk_all low (x ∷ xs) r =
    let s = rises low x xs r in
    walk_next {u = low} {v = x} (rw (lt-ltb low x s.from)) s.from (walk_more x xs (omega arith) (walk_all x xs s.rest))

-- ---- units under seals

-- new: old, but perhaps sealed at e or below it
pub record Kept (sh : Shape) (e : ℕ) (old new : State) : Type 0 where
  pub stays_valid : valid sh new ≡ true
  pub low : new.sealed ≤ e
  pub floor_same : new.floor ≡ old.floor
  pub slots_same : new.slots ≡ old.slots
  pub edges_same : edges new ≡ edges old

pub record UnitsOn (w : World) (us : List State) : Type 0 where
  pub eight : length us ≡ 8
  pub kept : (u : ℕ) → 1 ≤ u → u ≤ 8 → Kept (shape_under w.held) w.held.epoch.0 (unit_at w u) (get_or us (u - 1) (fresh_unit u))

pub units_at_first : (w : World) → Sound w → UnitsOn w w.units
units_at_first w sound = record {
  eight = sound.eight_units;
  kept = λ u low high. record { stays_valid = sound.unit_valid u low high; low = sound.unit_low u low high; floor_same = refl; slots_same = refl; edges_same = refl };
}

seal_says : (sh : Shape) (M : State) (e : Epoch) → M.sealed ≤ e.0 → says sh M (seal e) ≡ 0
unfolding says
seal_says sh M e le = pass _ _ (ltb e.0 M.sealed) (le-ltb e.0 M.sealed le)

pub seal_tells : (sh : Shape) (M : State) (e : Epoch) → M.sealed ≤ e.0 → edged sh M e ≡ Edged (edges M)
unfolding edged report
seal_tells sh M e le = rw (seal_says sh M e le)

seal_keeps : {sh : Shape} {e : ℕ} {old M : State} → e ≤ last_epoch → Kept sh e old M → Kept sh e old (unit_after_lem sh M (seal (record { 0 = e })))
seal_keeps {sh} {e} {old} {M} few k =
    let s = lasts sh M k.stays_valid (seal (record { 0 = e })) (le-leb e last_epoch few) in
    let (floor, slots) = seal_rest sh M (record { 0 = e }) in
    record {
      stays_valid = s.is_valid;
      low = omega (arith, s.sealed (seal_says sh M _ k.low));
      floor_same = floor ∙ k.floor_same;
      slots_same = slots ∙ k.slots_same;
      edges_same = (seal_edges sh M _ (seal_says sh M _ k.low)).1 ∙ k.edges_same;
    }

module _ (w : World) (us : List State) (u : ℕ) (few : w.held.epoch.0 ≤ last_epoch) (on : UnitsOn w us) (low : 1 ≤ u) (high : u ≤ 8) where
  abbrev e : ℕ
  e = w.held.epoch.0

  abbrev M : State
  M = unit_after_lem (shape_under w.held) (get_or us (u - 1) (fresh_unit u)) (seal w.held.epoch)

  one_sealed : (v : ℕ) → 1 ≤ v → v ≤ 8 → Dec (v ≡ u) → Kept (shape_under w.held) e (unit_at w v) (get_or (set us (u - 1) M) (v - 1) (fresh_unit v))
  one_sealed v a b (yes same) =
      subst (λ (z : ℕ). Kept (shape_under w.held) e (unit_at w z) (get_or (set us (u - 1) M) (z - 1) (fresh_unit z))) (sym same)
      (subst (λ (N : State). Kept (shape_under w.held) e (unit_at w u) N) (sym (get_or-set_same us (u - 1) M (fresh_unit u) (omega (arith, on.eight)))) (seal_keeps few (on.kept u low high)))
  one_sealed v a b (no other) =
      subst (λ (N : State). Kept (shape_under w.held) e (unit_at w v) N) (sym (get_or-set_other us (u - 1) (v - 1) M (fresh_unit v) (λ z. other (omega arith)))) (on.kept v a b)

  pub seal_on : UnitsOn w (set us (u - 1) M)
  seal_on = record { eight = length-set us (u - 1) M ∙ on.eight; kept = λ v a b. one_sealed v a b (ℕ_discrete v u) }

-- ---- the sequencer

start_number : (s : Sequencer) (e : Epoch) (p : Position) → p.0 ≤ limit → s.epoch.0 < e.0 → number s (Start e p) ≡ 0
unfolding number
start_number s e p few lt = pass _ _ (ltb limit p.0) (le-ltb limit p.0 few) ∙ pass _ _ (leb e.0 s.epoch.0) (lt-leb e.0 s.epoch.0 lt)

pub start_told : (s : Sequencer) (e : Epoch) (p : Position) → p.0 ≤ limit → s.epoch.0 < e.0 → told s (Start e p) ≡ Number 0
unfolding told position_at
start_told s e p few lt = rw (start_number s e p few lt)

pub start_after : (s : Sequencer) (e : Epoch) (p : Position) → p.0 ≤ limit → s.epoch.0 < e.0 → after s (Start e p) ≡ record { epoch = e; next = p }
unfolding after
start_after s e p few lt = rw (start_number s e p few lt)
