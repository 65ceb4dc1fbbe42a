-- The new layout, and its bytes in the lent buffer: each case of the rule.
use Prim.Native.Nat.{ℕ}
use mathlib.Core.Bool.{Bool, true, false, ◌||◌, not, cond}
use mathlib.Core.List.{List}
use mathlib.Core.Path.{◌≡◌, refl, sym, ap, ◌∙◌}
use native.Mathlib.Omega.{arith}
use borrow.Author.Tests.{eqb-true, eqb-false, ne_eqb}
use Rattle.std.specs.Prelude.{Result}
use Rattle.num.specs.declared.refusal.Refusal.{Refusal}
use Rattle.num.specs.Refusals.{number, answered, given}
use Rattle.num.proofs.Refusals.{number_above}
use Rattle.layout.specs.declared.plan.Started.{Started}
use lib.Dec.{eqb}
use lib.ListN.{length}
use lib.Seq.{sets}
use Rattle.num.specs.declared.Edges.{Edges}
use Rattle.num.proofs.Tests.{cond_zero}
use Rattle.layout.specs.declared.Layout.{Layout}
use Rattle.layout.specs.declared.Wish.{Wish}
use Rattle.layout.specs.Lay.{good}
use Rattle.layout.specs.Value.{lay_of, blank, good_value}
use Rattle.layout.specs.Codec.{sets_said, wish_said, bytes_of, write_refused, write_answer, LayoutWritten}
use Rattle.layout.specs.Plan.{StartAnswer, Planned, bad_drops, planned_for, ends_open, not_started, started_in, started_at, reorganise_answer}
use Rattle.layout.proofs.GoodLay.{good_says}
use Rattle.layout.proofs.ValueOf.{value_of_good}
use Rattle.layout.proofs.ReorganiseAnswer.{reorganise_fine}
use Rattle.layout.proofs.StartedAt.{started_same}
use Rattle.layout.proofs.StartedPlan.{started_plan, plan_started}
use Rattle.desk.specs.Told.{fine_sets, plan_refusal, made_answer, new_layout, plan_told}
use Rattle.desk.specs.InsideMade.{empty_wish, IsMade, IsDone}
use Rattle.desk.proofs.Wishes.{wish_answers, wish_news}

-- the edges that the units are said to have told: the written one is not asked for, since no layout depends on it
abbrev said : ℕ → Edges
said edge = record { edge = record { 0 = edge }; written = record { 0 = 0 } }

blank_started : (edges : Edges) → (started_at blank edges).layout ≡ blank
unfolding ends_open lay_of
blank_started edges = ap (λ (s : StartAnswer). s.layout) (sym (started_same blank edges refl))

module _ (held : Layout) (drops new : List ℕ) (edge : ℕ) (w : Wish) (ew : w ≡ cond (bad_drops drops (sets_said new) || not (fine_sets new)) empty_wish (wish_said new)) where
  answers : reorganise_answer held drops w ≡ plan_refusal held drops new
  answers = wish_answers held drops new w _ refl ew

  -- a plan that is fine, its start set
  fine_started : plan_refusal held drops new ≡ 0 → started_at (planned_for held drops w).layout (said edge) ≡ started_plan (lay_of held) drops (sets_said new) (said edge)
  unfolding planned_for
  fine_started z =
      let a : reorganise_answer held drops w ≡ 0 = answers ∙ z in
      let n = wish_news held drops new w ew z in
      let r = reorganise_fine held drops w a in
      let g = good_says (lay_of held) (value_of_good held r.held_good).0 in
      rw (a, n) (plan_started (lay_of held) drops (sets_said new) (said edge) g (rw n at r.plan))

  refused_started : eqb (plan_refusal held drops new) 0 ≡ false → (started_at (planned_for held drops w).layout (said edge)).layout ≡ blank
  unfolding planned_for
  refused_started z = rw (answers, z) (blank_started (said edge))

  module _ (p : Planned) (s : StartAnswer) (answer : ℕ) (ep : p ≡ planned_for held drops w) (es : s ≡ started_at p.layout (said edge)) (ea : answer ≡ cond (eqb p.answer 0) s.answer p.answer) where
    plan_answer_lem : p.answer ≡ plan_refusal held drops new
    unfolding planned_for
    plan_answer_lem = ap (λ (q : Planned). q.answer) ep ∙ answers

    started_as : s ≡ started_at (planned_for held drops w).layout (said edge)
    started_as = rw ep at es

    pub make_told : IsMade held drops new edge answer s.layout
    unfolding made_answer new_layout
    make_told = go (eqb (plan_refusal held drops new) 0) refl
      where
        go : (t : Bool) → eqb (plan_refusal held drops new) 0 ≡ t → IsMade held drops new edge answer s.layout
        go true e =
            let st : s ≡ started_plan (lay_of held) drops (sets_said new) (said edge) = started_as ∙ fine_started (eqb-true _ _ e) in
            record {
              answer_is = ea ∙ rw (plan_answer_lem, e) (ap (λ (q : StartAnswer). q.answer) st);
              layout_is = rw e (ap (λ (q : StartAnswer). q.layout) st);
            }
        go false e =
            record {
              answer_is = ea ∙ rw (plan_answer_lem, e);
              layout_is = rw (e, e) (ap (λ (q : StartAnswer). q.layout) started_as ∙ refused_started e);
            }

  -- the plan is refused
  pub made_refused : (r : Refusal) → record { answer = number r; layout = blank } ≡ planned_for held drops w → IsMade held drops new edge (number r) blank
  made_refused r ep =
      let above : eqb (number r) 0 ≡ false = ne_eqb (number r) 0 (number_above r) in
      let made = make_told (record { answer = number r; layout = blank }) (started_at blank (said edge)) (number r) ep refl (sym (rw above)) in
      rw blank_started at made

  -- its start is found, or refused
  pub made_started : (l : Layout) (r : Result Started Refusal) → record { answer = 0; layout = l } ≡ planned_for held drops w → started_in r ≡ started_at l (said edge)
      → IsMade held drops new edge (answered r) (given not_started r).layout
  made_started l r ep es = make_told (record { answer = 0; layout = l }) (started_in r) (answered r) ep es refl

-- ---- its bytes

out_swap : (t : Bool) (x y : List ℕ) → cond t y x ≡ cond (eqb (cond t 10 0) 0) x y
out_swap true x y = refl
out_swap false x y = refl

count_of : (t : Bool) (n : ℕ) → ◌≡◌ {A = ℕ} (cond t 10 0) 0 → cond t 0 n ≡ n
count_of t n z = let r = cond_zero t 10 0 (omega arith) z in rw r.0

blank_refused : (out : List ℕ) → write_refused blank out ≡ true
unfolding write_refused good_value good lay_of
blank_refused out = refl

blank_written : (out : List ℕ) → LayoutWritten blank out 10 0 out
blank_written out = let no = blank_refused out in record { answer_is = sym (rw no); count_is = sym (rw no); buffer_is = sym (rw no) }

module _ (l held : Layout) (drops new : List ℕ) (edge : ℕ) (out : List ℕ) (a wa wn answer : ℕ) (layout : Layout) (after : List ℕ) where
  pub done : l ≡ held → IsMade l drops new edge a layout → LayoutWritten layout out wa wn after → answer ≡ cond (eqb a 0) wa a → IsDone held drops new edge out answer wn after
  unfolding plan_told
  done el made w ea = go (rw el at made) (eqb (made_answer held drops new edge) 0) refl
    where
      go : IsMade held drops new edge a layout → (t : Bool) → eqb (made_answer held drops new edge) 0 ≡ t → IsDone held drops new edge out answer wn after
      go m true e =
          let is_new : layout ≡ new_layout held drops new edge = rw e at m.layout_is in
          let an : answer ≡ write_answer (new_layout held drops new edge) out = ea ∙ rw (m.answer_is, e) (rw is_new at w.answer_is) in
          let r = write_refused (new_layout held drops new edge) out in
          record {
            answer_is = an ∙ sym (rw e);
            out_is = rw e ((rw is_new at w.buffer_is) ∙ out_swap r (sets out 0 (bytes_of (new_layout held drops new edge))) out);
            count_is = λ z. (rw is_new at w.count_is) ∙ count_of r (length (bytes_of (new_layout held drops new edge))) (sym an ∙ z);
          }
      go m false e =
          let none : layout ≡ blank = rw e at m.layout_is in
          let an : answer ≡ made_answer held drops new edge = ea ∙ rw (m.answer_is, e) in
          record {
            answer_is = an ∙ sym (rw e);
            out_is = rw (e, e) (rw (none, blank_refused out) at w.buffer_is);
            count_is = λ z. absurd (eqb-false _ _ e (sym an ∙ z));
          }

module _ {l held : Layout} {drops new : List ℕ} {edge : ℕ} {out : List ℕ} (el : l ≡ held) where
  pub not_made : (r : Refusal) → IsMade l drops new edge (number r) blank → IsDone held drops new edge out (number r) 0 out
  not_made r made =
      let above : eqb (number r) 0 ≡ false = ne_eqb (number r) 0 (number_above r) in
      done l held drops new edge out (number r) 10 0 (number r) blank out el made (blank_written out) (sym (rw above))

  pub put : {n : Layout} {a k : ℕ} {after : List ℕ} → IsMade l drops new edge 0 n → LayoutWritten n out a k after → IsDone held drops new edge out a k after
  put {n} {a} {k} {after} made w = done l held drops new edge out 0 a k a n after el made w refl
