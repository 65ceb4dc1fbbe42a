-- A play goes on: what is kept is what the run's moves leave, and what is still to come of its lines.
-- Rests on Reading, Fitting and vouch's `lends`.
use Prim.Native.Nat.{ℕ, zero, suc, ◌+◌, ◌-◌, ◌≤◌, ◌<◌}
use native.Mathlib.Nat.{sub-zero, sub_self}
use native.Mathlib.Numerals.{add-one}
use native.Mathlib.Omega.{arith}
use mathlib.Core.List.{List, [], ◌∷◌}
use mathlib.Core.Path.{◌≡◌, refl, sym, ap, subst, ◌∙◌}
use lib.ListN.{length, drop, drop_of_length-le}
use lib.Seq.{sets, drop-nil}
use Rattle.sequencer.specs.declared.Sequencer.{Sequencer}
use Rattle.num.proofs.Tests.{left_step}
use Rattle.rule.specs.declared.Letter.{Letter}
use Rattle.rule.specs.Stepped.{Stepped, stepped_in}
use Rattle.rule.specs.declared.Yard.{Yard}
use Rattle.rule.specs.declared.Stepped.{Stepped as Returned}
use Rattle.rule.specs.Lent.{Lent, lent_of, IsStep}
use Rattle.kept.specs.declared.Kept.{Kept}
use Rattle.kept.specs.Promises.{KeptStep, kept_step_in, IsKeptStep}
use Rattle.vouch.specs.Lending.{lent}
use Rattle.vouch.proofs.Lending.{lent_next, lends}
use Rattle.std.specs.Prelude.{Some, None}
use Rattle.script.specs.declared.judge.Judged.{Judged}
use Rattle.script.specs.declared.step.Got.{Got}
use Rattle.script.specs.Steps.{got_at, got_of, cue_no}
use Rattle.script.specs.Play.{layout_of, count_of, steps_of, offset}
use Rattle.script.proofs.Offsets.{offset_first}
use Rattle.play.specs.declared.Shown.{Shown}
use Rattle.play.specs.Fit.{joined}
use Rattle.play.specs.Text.{move_no, before, line_no, lines_from}
use Rattle.play.specs.Shown.{shown_of}
use Rattle.play.specs.Going.{kept_lent, after_of, line_in, IsLineShown, Ready, Ran}
use Rattle.play.proofs.Fitting.{Coming, starts, ends, shows, stays}
use Rattle.play.proofs.Reading.{Plays}

-- ---- the yard

pub same_lent : {a : Lent} {y : Yard} {q : Sequencer} {ts : List Letter} {m : List ℕ} → y ≡ a.yard → q ≡ a.sequencer → ts ≡ a.table → m ≡ a.memories → lent_of y q ts m ≡ a
same_lent e f g h = rw (e, f, g, h)

-- the yard of what is kept is that of the step
pub keeps_yard : (r : Returned) (k : Kept) → k.yard ≡ r.yard → k ≡ after_of (kept_step_in r k)
keeps_yard r k e = λ i. record { yard = e i; sequencer = k.sequencer; table = k.table }

-- step n is taken
module _ (b : List ℕ) (p : Plays b) (n : ℕ) (k : Kept) (m : List ℕ) (is : kept_lent k m ≡ lent (layout_of b) (before n b)) (t : KeptStep) (m' : List ℕ)
    (took : IsKeptStep k m (move_no n b).does (move_no n b).job t m') where
  of_run : IsStep (lent (layout_of b) (before n b)) (move_no n b).does (move_no n b).job t.stepped t.sequencer t.table m'
  of_run = subst (λ (a : Lent). IsStep a (move_no n b).does (move_no n b).job t.stepped t.sequencer t.table m') is took

  pub next_lent : kept_lent (after_of t) m' ≡ lent (layout_of b) (before (suc n) b)
  unfolding before
  next_lent =
      let yard_is = ap (λ (r : Stepped). r.yard) of_run.result_is ∙ (lends (layout_of b) p.good_layout p.first_epoch (before n b)).yard_is (move_no n b) in
      same_lent yard_is of_run.sequencer_is of_run.table_is of_run.memories_is ∙ sym (lent_next (layout_of b) (before n b) (move_no n b))

  pub next_line : line_in (n + 1) t.stepped ≡ line_no n b
  unfolding line_no
  next_line =
      let l = lends (layout_of b) p.good_layout p.first_epoch (before n b) in
      let a = ap (λ (r : Stepped). r.answer) of_run.result_is ∙ l.answer_is (move_no n b) in
      let w = ap (λ (r : Stepped). r.who) of_run.result_is ∙ l.who_is (move_no n b) in
      let o = ap (λ (r : Stepped). r.outcome) of_run.result_is ∙ l.outcome_is (move_no n b) in
      rw (add-one, a, w, o)

-- ---- the lines

-- the lines to come before step n
unfoldable pub rest_of : List ℕ → ℕ → ℕ → List (List ℕ)
rest_of b from n = drop (from - 1 - n) (lines_from n (count_of b - n) b)

lines_first : (b : List ℕ) (n : ℕ) → n < count_of b → lines_from n (count_of b - n) b ≡ line_no n b ∷ lines_from (n + 1) (count_of b - (n + 1)) b
unfolding lines_from
lines_first b n left = rw (left_step (count_of b) n left, add-one)

-- the line of step n stands in front, if it is asked for
rest_late : (b : List ℕ) (from n : ℕ) → n < count_of b → from ≤ n + 1 → rest_of b from n ≡ line_no n b ∷ rest_of b from (n + 1)
unfolding rest_of
rest_late b from n left late =
    let now : from - 1 - n ≡ 0 = omega arith in
    let then : from - 1 - (n + 1) ≡ 0 = omega arith in
    rw (now, then, lines_first b n left)

rest_early : (b : List ℕ) (from n : ℕ) → n < count_of b → n + 1 < from → rest_of b from n ≡ rest_of b from (n + 1)
unfolding rest_of
rest_early b from n left early =
    let more : from - 1 - n ≡ suc (from - 1 - (n + 1)) = omega arith in
    rw (more, lines_first b n left)

rest_none : (b : List ℕ) (from : ℕ) → rest_of b from (count_of b) ≡ []
unfolding rest_of lines_from
rest_none b from = rw (sub_self, drop-nil)

pub lines_count : (k n : ℕ) (b : List ℕ) → length (lines_from k n b) ≡ n
unfolding lines_from
lines_count k zero b = refl
lines_count k (suc n) b = ap suc (lines_count (suc k) n b)

-- none is asked for
rest_past : (b : List ℕ) (from : ℕ) → count_of b < from → rest_of b from 0 ≡ []
unfolding rest_of
rest_past b from past = drop_of_length-le (lines_from 0 (count_of b - 0) b) {i = from - 1 - 0} (omega (arith, lines_count 0 (count_of b - 0) b))

-- what is to be shown in all
abbrev pub whole_out : List ℕ → ℕ → List ℕ → List ℕ
whole_out b from out = sets out 0 (joined (shown_of b from (length out)))

abbrev pub whole_lines : List ℕ → ℕ → List ℕ → ℕ
whole_lines b from out = length (shown_of b from (length out))

abbrev pub whole_written : List ℕ → ℕ → List ℕ → ℕ
whole_written b from out = length (joined (shown_of b from (length out)))

pub record Going (b : List ℕ) (from : ℕ) (out₀ : List ℕ) (k : Kept) (m out : List ℕ) (s : Shown) (at n : ℕ) : Type 0 where
  pub lent_is : kept_lent k m ≡ lent (layout_of b) (before n b)
  pub at_is : at ≡ offset n b
  pub taken : n ≤ count_of b
  pub fewer : s.lines ≤ n
  pub coming : Coming out s.lines s.written (rest_of b from n) (whole_out b from out₀) (whole_lines b from out₀) (whole_written b from out₀)

-- ---- where nothing is taken yet

module _ (b : List ℕ) (from : ℕ) (out : List ℕ) where
  all_come : Coming out 0 0 (rest_of b from 0) (whole_out b from out) (whole_lines b from out) (whole_written b from out)
  unfolding rest_of
  all_come = rw (sub-zero (from - 1), sub-zero (count_of b)) (starts out (drop (from - 1) (lines_from 0 (count_of b) b)))

  pub begins : {j : Judged} {k : Kept} {m : List ℕ} → Ready b j k m → Going b from out k m out (record { lines = 0; written = 0 }) j.first 0
  unfolding before
  begins r = record {
    lent_is = r.lent_is;
    at_is = r.first_is ∙ sym (offset_first b);
    taken = omega arith;
    fewer = omega arith;
    coming = all_come;
  }

  pub none_asked : count_of b < from → Ran b from out (record { lines = 0; written = 0 }) out
  none_asked past =
      let c = ends (rw (rest_past b from past) at all_come) in
      record { out_is = sym c.out_is; lines_is = sym c.lines_is; written_is = sym c.written_is }

-- ---- a step is taken and shown

module _ {b : List ℕ} {from : ℕ} {out₀ : List ℕ} {k : Kept} {m out : List ℕ} {s : Shown} {at n : ℕ} (p : Plays b) (g : Going b from out₀ k m out s at n) (left : n < count_of b) where
  pub stands : got_at (drop at b) ≡ Some (got_of (cue_no n (steps_of b)))
  stands = ap (λ (i : ℕ). got_at (drop i b)) g.at_is ∙ (p.standing n left).got_is

  module _ {got : Got} (got_is : got_at (drop at b) ≡ Some got) where
    read : got ≡ got_of (cue_no n (steps_of b))
    read = let both : Some got ≡ Some (got_of (cue_no n (steps_of b))) = sym got_is ∙ stands in cc

    next_at : at + got.size ≡ offset (suc n) b
    next_at = rw (g.at_is, read) (sym (p.standing n left).next_is)

    -- where the next step stands is no large number
    pub at_small : at + got.size ≤ 65536
    at_small = rw next_at (omega (arith, (p.standing n left).within, p.short))

    module _ {t : KeptStep} {k' : Kept} {m' : List ℕ} (took : IsKeptStep k m got.step got.job t m') (keeps : k' ≡ after_of t) where
      taken_so : IsKeptStep k m (move_no n b).does (move_no n b).job t m'
      taken_so = subst (λ (x : Got). IsKeptStep k m x.step x.job t m') read took

      goes : {r : Shown} {out' : List ℕ} → r.lines ≤ n + 1
          → Coming out' r.lines r.written (rest_of b from (n + 1)) (whole_out b from out₀) (whole_lines b from out₀) (whole_written b from out₀)
          → Going b from out₀ k' m' out' r (at + got.size) (n + 1)
      goes few c = record {
        lent_is = rw (keeps, add-one) (next_lent b p n k m g.lent_is t m' taken_so);
        at_is = next_at ∙ rw add-one;
        taken = omega arith;
        fewer = few;
        coming = c;
      }

      -- its line was not asked for
      pub goes_by : n + 1 < from → Going b from out₀ k' m' out s (at + got.size) (n + 1)
      goes_by early = goes (omega (arith, g.fewer)) (rw (← rest_early b from n left early) g.coming)

      module _ (late : from ≤ n + 1) where
        coming_now : Coming out s.lines s.written (line_in (n + 1) t.stepped ∷ rest_of b from (n + 1)) (whole_out b from out₀) (whole_lines b from out₀) (whole_written b from out₀)
        coming_now = rw (rest_late b from n left late, ← next_line b p n k m g.lent_is t m' taken_so) at g.coming

        pub goes_on : {r : Shown} {out' : List ℕ} → IsLineShown s (line_in (n + 1) t.stepped) out (Some r) out' → Going b from out₀ k' m' out' r (at + got.size) (n + 1)
        goes_on l = let c = shows coming_now l in goes (omega (arith, c.0, g.fewer)) c.1

        -- it has no room, so that none is to come
        pub full : {out' : List ℕ} → IsLineShown s (line_in (n + 1) t.stepped) out None out' → Ran b from out₀ s out'
        full l = let c = stays coming_now l in record { out_is = sym c.out_is; lines_is = sym c.lines_is; written_is = sym c.written_is }

-- all steps are taken
pub ended : {b : List ℕ} {from : ℕ} {out₀ : List ℕ} {k : Kept} {m out : List ℕ} {s : Shown} {at n : ℕ} → Going b from out₀ k m out s at n → count_of b ≤ n → Ran b from out₀ s out
ended {b} {from} {n = n} g all =
    let last : n ≡ count_of b = omega (arith, g.taken) in
    let none : rest_of b from n ≡ [] = ap (rest_of b from) last ∙ rest_none b from in
    let c = ends (rw none at g.coming) in
    record { out_is = sym c.out_is; lines_is = sym c.lines_is; written_is = sym c.written_is }
