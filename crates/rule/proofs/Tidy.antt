-- A step leaves each unit its number, and at most 32 letters in the bag: where one would be too many the step is refused, and none is lost.
use mathlib.Core.Path.{◌≡◌, refl, sym, subst, ◌∙◌}
use mathlib.Core.Bool.{Bool, true, false, not, cond}
use mathlib.Core.List.{List, [], ◌∷◌, ◌++◌}
use Prim.Native.Nat.{ℕ, zero, suc, ◌-◌, ◌≤◌, ◌<◌}
use native.Mathlib.Omega.{arith}
use lib.Dec.{eqb, leb, ltb}
use lib.ListN.{length, get_or, set, length-set, length-append}
use borrow.Author.Tests.{eqb-true, leb-false, ltb-false}
use Rattle.num.specs.Checks.{Check, lowest}
use Rattle.num.proofs.Tests.{cond_zero, or_false}
use Rattle.layout.specs.declared.Layout.{Layout}
use Rattle.unit.specs.declared.shape.Shape.{Shape}
use Rattle.unit.specs.State.{State}
use Rattle.unit.specs.Unit.{fresh_unit}
use Rattle.unit.proofs.Lasting.{number_stays}
use Rattle.client.specs.declared.UnitAsk.{UnitAsk}
use Rattle.client.specs.declared.Ask.{Ask}
use Rattle.client.specs.declared.Ask.TheVariants.{Fetch, Token, Unit, Offer, Start}
use Rattle.client.specs.declared.Page.{Page as PageValue}
use Rattle.client.specs.declared.state.Job.{Job}
use Rattle.client.specs.Client.{busy, last_number}
use Rattle.client.specs.Turn.{Turn, rests, ends}
use Rattle.client.specs.Take.{takes}
use Rattle.client.specs.Job.{job_checks}
use Rattle.client.specs.Begin.{begin_turn, give_up, restarted}
use Rattle.rule.specs.declared.Body.{Body}
use Rattle.rule.specs.declared.Body.TheVariants.{Blank, Asks, Answers}
use Rattle.rule.specs.declared.Letter.{Letter}
use Rattle.rule.specs.declared.Step.{Step}
use Rattle.rule.specs.declared.Step.TheVariants.{Begin, Deliver, Drop, Stop, Restart, GiveUp, Forget}
use Rattle.rule.specs.World.{World, shape_under, is_client, is_unit, running, client_at, unit_at, letter_at, letter_limit}
use Rattle.rule.specs.Serve.{request_of, unit_after, with_unit, serve, asking, offering_to, unserved}
use Rattle.rule.specs.Steps.{Done, refused, fine, without, keeping, too_many, with_letters, with_client, with_stopped, sent_by, turned, begin_number, begins, answers, served, taken, unbrought, brought, delivered, delivers, drops, stops, restart_number, restarts, gives_up, forgets, response, step}
use Rattle.client.proofs.Turns.{give_up_cases}
use Rattle.rule.proofs.Lists.{posted_few, set_all, unit_range, unit_runs}

-- ---- the number of a unit does not change

after_number : (sh : Shape) (s : State) (a : UnitAsk) (g : PageValue) → (unit_after sh s a g).number ≡ s.number
unfolding unit_after
after_number sh s a g = number_stays sh s (request_of a g)

-- ---- what a yard is like after any moves

pub record Tidy (w : World) : Type 0 where
  pub eight : length w.units ≡ 8
  pub numbers : (u : ℕ) → 1 ≤ u → u ≤ 8 → (unit_at w u).number ≡ u
  pub few : length w.letters ≤ 32

-- other letters, other clients, a stopped unit, another sequencer or layout
tidy_as : {w w' : World} → w'.units ≡ w.units → length w'.letters ≤ 32 → Tidy w → Tidy w'
tidy_as {w} {w'} same few tidy = record {
  eight = subst (λ (us : List State). length us ≡ 8) (sym same) tidy.eight;
  numbers = subst (λ (us : List State). (u : ℕ) → 1 ≤ u → u ≤ 8 → (get_or us (u - 1) (fresh_unit u)).number ≡ u) (sym same) tidy.numbers;
  few = few;
}

either_tidy : (b : Bool) (d e : Done) → (b ≡ true → Tidy d.world) → (b ≡ false → Tidy e.world) → Tidy (cond b d e).world
either_tidy true d e x y = x refl
either_tidy false d e x y = y refl

-- ---- a machine that serves

with_number : {w : World} {u : ℕ} (M : State) (ls : List Letter) → Tidy w → length ls ≤ 32 → 1 ≤ u → u ≤ 8 → M.number ≡ (unit_at w u).number → Tidy (with_letters (with_unit w u M) ls)
with_number {w} {u} M ls tidy few low high same = record {
  eight = length-set w.units (u - 1) M ∙ tidy.eight;
  numbers = set_all (λ v N. N.number ≡ v) fresh_unit w.units 8 u M tidy.eight low high (same ∙ tidy.numbers u low high) (λ v from to ne. tidy.numbers v from to);
  few = few;
}

serve_tidy : (w : World) (a : Ask) (g : PageValue) (k : Layout) (ls : List Letter) → unserved w.stopped a ≡ false → length ls ≤ 32 → Tidy w → Tidy (with_letters (serve w a g k).world ls)
unfolding serve asking offering_to
serve_tidy w Fetch g k ls to few tidy = tidy_as refl few tidy
serve_tidy w (Token e) g k ls to few tidy = tidy_as refl few tidy
serve_tidy w (Unit u a) g k ls to few tidy =
    let range = unit_range u (unit_runs (is_unit u) (not (get_or w.stopped (u - 1) true)) to) in
    with_number (unit_after (shape_under w.held) (unit_at w u) a g) ls tidy few range.0 range.1 (after_number (shape_under w.held) (unit_at w u) a g)
serve_tidy w Offer g k ls to few tidy = tidy_as refl few tidy
serve_tidy w (Start e p) g k ls to few tidy = tidy_as refl few tidy

-- ---- every step

without_few : (i : ℕ) (ls : List Letter) → length (without i ls) ≤ length ls
unfolding without
without_few i [] = omega arith
without_few zero (l ∷ ls) = omega arith
without_few (suc i) (l ∷ ls) = omega (arith, without_few i ls)

-- an operation that begins has room for its letter, and none of 2, 3 and 10 applies
pub begin_fine : (w : World) (c : ℕ) (j : Job) → begin_number w c j ≡ 0 → (length w.letters < 32) × (lowest (job_checks j w.held.shape) ≡ 0)
unfolding begin_number
begin_fine w c j e =
    let bag : Check = record { applies = leb letter_limit (length w.letters); number = 16 } in
    let a = cond_zero (not (is_client c)) 17 (cond (busy (client_at w c).stage) 18 (cond (leb last_number (client_at w c).used.0) 19 (lowest (bag ∷ job_checks j w.held.shape)))) (omega arith) e in
    let b = cond_zero (busy (client_at w c).stage) 18 (cond (leb last_number (client_at w c).used.0) 19 (lowest (bag ∷ job_checks j w.held.shape))) (omega arith) a.1 in
    let d = cond_zero (leb last_number (client_at w c).used.0) 19 (lowest (bag ∷ job_checks j w.held.shape)) (omega arith) b.1 in
    let f = cond_zero (leb letter_limit (length w.letters)) 16 (lowest (job_checks j w.held.shape)) (omega arith) d.1 in
    (leb-false letter_limit (length w.letters) f.0, f.1)

module _ (w : World) (tidy : Tidy w) where
  -- a client's turn, where there is room for what it sends
  turned_tidy : (ls : List Letter) (c : ℕ) (t : Turn) → length (ls ++ sent_by c t) ≤ 32 → Tidy (turned w ls c t).world
  unfolding turned
  turned_tidy ls c t few = tidy_as refl few tidy

  begin_tidy : (c : ℕ) (j : Job) → Tidy (begins w c j).world
  unfolding begins
  begin_tidy c j =
      let t = begin_turn (client_at w c) j w.held.shape in
      either_tidy (eqb (begin_number w c j) 0) (turned w w.letters c t) (refused w (begin_number w c j))
      (λ e. turned_tidy w.letters c t
      (omega (arith, (begin_fine w c j (eqb-true (begin_number w c j) 0 e)).0, length-append w.letters (sent_by c t), posted_few c t.client.life t.act t.query)))
      (λ e. tidy)

  give_up_tidy : (c : ℕ) → Tidy (gives_up w c).world
  unfolding gives_up
  give_up_tidy c =
      either_tidy (is_client c) (turned w w.letters c (give_up (client_at w c))) (refused w 17)
      (λ e. give_up_cases (λ t. Tidy (turned w w.letters c t).world) (client_at w c) (λ b. turned_tidy w.letters c (ends (client_at w c) 20) none_more) (λ b. turned_tidy w.letters c (rests (client_at w c)) none_more))
      (λ e. tidy)
    where
      none_at_all : List Letter
      none_at_all = []

      none_more : length (w.letters ++ []) ≤ 32
      none_more = omega (arith, length-append w.letters none_at_all, tidy.few)

  deliver_tidy : (i : ℕ) (keep keep_answer : Bool) → Tidy (delivers w i keep keep_answer).world
  unfolding delivers delivered served taken
  deliver_tidy i keep keep_answer = go (letter_at w i).body
    where
      l : Letter
      l = letter_at w i

      ls : List Letter
      ls = keeping keep i w.letters

      go : (b : Body) → Tidy (cond (unbrought w l b) (refused w 17) (brought w ls keep_answer l b)).world
      go Blank = tidy
      go (Asks a) =
          let v = serve w a l.page l.layout in
          let full = ls ++ answers keep_answer l.stamp v.response in
          either_tidy (unbrought w l (Asks a)) (refused w 17) (cond (too_many full) (refused w 16) (fine (with_letters v.world full))) (λ e. tidy)
          (λ e. either_tidy (too_many full) (refused w 16) (fine (with_letters v.world full)) (λ t. tidy)
          (λ t. serve_tidy w a l.page l.layout full (or_false (not (is_client l.stamp.client)) (unserved w.stopped a) e).1 (ltb-false 32 (length full) t) tidy))
      go (Answers r) =
          let c = l.stamp.client in
          let t = takes c (client_at w c) l.stamp (response r l) in
          either_tidy (unbrought w l (Answers r)) (refused w 17) (cond (too_many (ls ++ sent_by c t)) (refused w 16) (turned w ls c t)) (λ e. tidy)
          (λ e. either_tidy (too_many (ls ++ sent_by c t)) (refused w 16) (turned w ls c t) (λ f. tidy) (λ f. turned_tidy ls c t (ltb-false 32 (length (ls ++ sent_by c t)) f)))

  pub step_tidy : (s : Step) (j : Job) → Tidy (step w s j).world
  unfolding step drops stops restarts forgets
  step_tidy (Begin c) j = begin_tidy c j
  step_tidy (Deliver i keep keep_answer) j = deliver_tidy i keep keep_answer
  step_tidy (Drop i) j =
      either_tidy (ltb i (length w.letters)) (fine (with_letters w (without i w.letters))) (refused w 17)
      (λ e. tidy_as refl (omega (arith, without_few i w.letters, tidy.few)) tidy) (λ e. tidy)
  step_tidy (Stop u) j =
      either_tidy (running w.stopped u) (fine (with_stopped w (set w.stopped (u - 1) true))) (refused w 17) (λ e. tidy_as refl tidy.few tidy) (λ e. tidy)
  step_tidy (Restart c) j =
      either_tidy (eqb (restart_number w c) 0) (fine (with_client w c (restarted (client_at w c)))) (refused w (restart_number w c)) (λ e. tidy_as refl tidy.few tidy) (λ e. tidy)
  step_tidy (GiveUp c) j = give_up_tidy c
  step_tidy Forget j = tidy_as refl tidy.few tidy
