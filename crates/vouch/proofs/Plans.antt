-- What a reorganise offers: the plan that it made of the layout it goes by, the new range's start set once every unit of the plan has answered its seal.
-- Rests on Offers and on the layout's laws.
use mathlib.Core.Path.{◌≡◌, sym, ap, subst, ◌∙◌}
use mathlib.Core.Bool.{Bool, true, false, cond}
use mathlib.Core.List.{List}
use Prim.Native.Nat.{ℕ, suc, ◌≤◌, ◌<◌}
use native.Mathlib.Omega.{arith}
use lib.Dec.{ltb}
use lib.ListN.{length}
use Rattle.num.specs.declared.Edges.{Edges}
use Rattle.layout.specs.declared.Layout.{Layout}
use Rattle.layout.specs.declared.Wish.{Wish}
use Rattle.layout.specs.Lay.{Lay, units_of}
use Rattle.layout.specs.Value.{lay_of, value_of}
use Rattle.layout.specs.Plan.{StartAnswer, planned, last_start, new_start, start_answer, new_of, planned_for, started_at}
use Rattle.layout.proofs.GoodLay.{Good, good_says}
use Rattle.layout.proofs.ValueOf.{value_of_good}
use Rattle.layout.proofs.ReorganiseAnswer.{Reorganises, reorganise_fine}
use Rattle.layout.proofs.Planned.{plan_back, plan_last}
use Rattle.layout.proofs.StartedPlan.{started_plan, plan_started}
use Rattle.history.specs.Words.{UnitNo, Pos, Epoch, ◌∈◌}
use Rattle.history.specs.Maps.{Has}
use Rattle.history.specs.History.{History, Laid}
use Rattle.history.specs.Edges.{SealedAt, EdgeAt}
use Rattle.vouch.proofs.Layouts.{map_of}
use Rattle.vouch.proofs.Offers.{OfferOk}

-- a new range starts at the largest edge or above it
pub planned_start : (k : Lay) (drops : List ℕ) (new : List (List ℕ)) (g : ℕ) →
    (map_of k).start < (map_of (planned k drops new (new_start k g))).start → g ≤ (map_of (planned k drops new (new_start k g))).start
unfolding new_start
planned_start k drops new g lt = go (ltb 0 (length new)) (plan_last k drops new (new_start k g))
  where
    go : (b : Bool) → last_start (planned k drops new (new_start k g)).spans ≡ cond b (new_start k g) (last_start k.spans) → g ≤ last_start (planned k drops new (new_start k g)).spans
    go true e = omega arith
    go false e = absurd (omega arith)

-- ---- the plan, and the plan with its start set

module _ (k : Layout) (drops : List ℕ) (w : Wish) (planned_fine : (planned_for k drops w).answer ≡ 0) where
  fine : Reorganises k drops w
  unfolding planned_for
  fine = reorganise_fine k drops w planned_fine

  k_good : Good (lay_of k)
  k_good = good_says (lay_of k) (value_of_good k fine.held_good).0

  plan_is : (planned_for k drops w).layout ≡ value_of (planned (lay_of k) drops (new_of w) 0)
  unfolding planned_for
  plan_is = rw planned_fine

  pub plan_lay : lay_of (planned_for k drops w).layout ≡ planned (lay_of k) drops (new_of w) 0
  plan_lay = ap lay_of plan_is ∙ plan_back (lay_of k) drops (new_of w) 0 k_good fine.plan

  module _ (e : Edges) where
    abbrev g : ℕ
    g = e.edge.0

    started_is : started_at (planned_for k drops w).layout e ≡ started_plan (lay_of k) drops (new_of w) e
    started_is = ap (λ (l : Layout). started_at l e) plan_is ∙ plan_started (lay_of k) drops (new_of w) e k_good fine.plan

    module _ (started_fine : (started_at (planned_for k drops w).layout e).answer ≡ 0) where
      starts : start_answer (lay_of k) (new_of w) g ≡ 0
      starts = sym (ap (λ (s : StartAnswer). s.answer) started_is) ∙ started_fine

      pub started_lay : lay_of (started_at (planned_for k drops w).layout e).layout ≡ planned (lay_of k) drops (new_of w) (new_start (lay_of k) g)
      started_lay =
          ap (λ (s : StartAnswer). lay_of s.layout) started_is ∙ rw starts (plan_back (lay_of k) drops (new_of w) (new_start (lay_of k) g) k_good fine.plan)

      -- its sets, and so its units, are those of the plan
      pub started_sets : (lay_of (started_at (planned_for k drops w).layout e).layout).sets ≡ (lay_of (planned_for k drops w).layout).sets
      unfolding planned
      started_sets = ap (λ (l : Lay). l.sets) started_lay ∙ sym (ap (λ (l : Lay). l.sets) plan_lay)

      pub started_epoch : (started_at (planned_for k drops w).layout e).layout.epoch.0 ≡ suc k.epoch.0
      unfolding planned lay_of
      started_epoch = let same = ap (λ (l : Lay). l.epoch) started_lay in omega arith

      -- where every unit of the plan is sealed and has told its edge, what is offered is as it should be
      pub planned_offer : {h : History} → Laid h (map_of (lay_of k)) → ((u : UnitNo) → Has (map_of (lay_of (planned_for k drops w).layout)) u → SealedAt h u k.epoch.0) →
          ((u : UnitNo) → Has (map_of (lay_of (planned_for k drops w).layout)) u → EdgeAt h u k.epoch.0 g) → OfferOk h (started_at (planned_for k drops w).layout e).layout
      unfolding lay_of
      planned_offer {h} laid sealed_all edges = record {
        of = map_of (lay_of k);
        laid = laid;
        next = started_epoch;
        bound = g;
        sealed_all = λ u has. sealed_all u (subst (λ ss. u ∈ units_of ss) started_sets has);
        edges = λ u has. edges u (subst (λ ss. u ∈ units_of ss) started_sets has);
        start = subst (λ (l : Lay). (map_of (lay_of k)).start < (map_of l).start → g ≤ (map_of l).start) (sym started_lay) (planned_start (lay_of k) drops (new_of w) g);
      }

-- ---- the largest edge so far

-- an edge is one for every position above it
pub edge_wider : {h : History} {u : UnitNo} {n : Epoch} {g₁ g₂ : Pos} → g₁ ≤ g₂ → EdgeAt h u n g₁ → EdgeAt h u n g₂
edge_wider le e = record { edge_at = λ now p from. e.edge_at now p (omega arith) }
