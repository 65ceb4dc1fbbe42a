-- The shape of the yard: no step changes it, and a begin's 3 is that of the yard's own units.
use mathlib.Core.Path.{◌≡◌, refl}
use mathlib.Core.Bool.{Bool, true, false, ◌&&◌, cond}
use mathlib.Core.List.{List, ◌++◌}
use native.Mathlib.Omega.{arith}
use borrow.Author.Tests.{eqb-true, ltb-false, le-ltb}
use lib.Dec.{eqb, ltb}
use lib.ListN.{length, set}
use Prim.Native.Nat.{ℕ, ◌-◌, ◌≤◌}
use Rattle.num.proofs.Tests.{and_both, cond_zero}
use Rattle.layout.specs.declared.Layout.{Layout}
use Rattle.layout.proofs.OfferedTo.{shape_stays}
use Rattle.unit.specs.Shape.{large, small, shape_for, shape_of}
use Rattle.unit.specs.Memory.{good, number_of, code_of}
use Rattle.unit.specs.Kinds.{data_kind}
use Rattle.unit.specs.State.{content}
use Rattle.unit.specs.Unit.{bad_page}
use Rattle.unit.proofs.Questions.{data_page_lem, data_bytes}
use Rattle.unit.proofs.Shapes.{good_code}
use Rattle.client.specs.declared.Ask.{Ask}
use Rattle.client.specs.declared.Ask.TheVariants.{Fetch, Token, Unit, Offer, Start}
use Rattle.client.specs.declared.Page.{Page}
use Rattle.client.specs.declared.Work.TheVariants.{Append}
use Rattle.client.specs.declared.state.Job.{Job}
use Rattle.client.specs.Message.{data_limit}
use Rattle.client.specs.Job.{past, too_long, too_many_drops}
use Rattle.client.specs.Begin.{begin_turn, give_up, restarted}
use Rattle.client.specs.Take.{takes}
use Rattle.rule.specs.declared.Body.{Body}
use Rattle.rule.specs.declared.Body.TheVariants.{Blank, Asks, Answers}
use Rattle.rule.specs.declared.Letter.{Letter}
use Rattle.rule.specs.declared.Step.{Step}
use Rattle.rule.specs.declared.Step.TheVariants.{Begin, Deliver, Drop, Stop, Restart, GiveUp, Forget}
use Rattle.rule.specs.World.{World, shape_under, is_client, running, client_at, letter_at}
use Rattle.rule.specs.Serve.{serve, asking, offering_to}
use Rattle.rule.specs.Steps.{Done, refused, fine, without, keeping, too_many, with_letters, with_client, with_stopped, sent_by, turned, begin_number, begins, answers, served, taken, unbrought, brought, delivered, delivers, drops, stops, restart_number, restarts, gives_up, forgets, response, step}
use Rattle.rule.specs.Lent.{good_unit}
use Rattle.rule.proofs.Tidy.{begin_fine}

-- what a begin takes for data is what a slot of the yard's units holds
pub data_cap : (shape : ℕ) → data_limit shape ≡ (shape_for shape).cap
unfolding data_limit shape_for
data_cap shape = go (eqb shape 1)
  where
    go : (b : Bool) → cond b 80 32 ≡ (cond b large small).cap
    go true = refl
    go false = refl

pub begin_short : (w : World) (c : ℕ) (j : Job) → j.work ≡ Append → begin_number w c j ≡ 0 → j.len ≤ (shape_under w.held).cap
begin_short w c j is e =
    let shape = w.held.shape in
    let asked = (begin_fine w c j e).1 in
    let last : ℕ = cond (too_many_drops j.work j.change.count) 10 0 in
    let page = (cond_zero (past j.work) 2 (cond (too_long j.work j.len shape) 3 last) (omega arith) asked).1 in
    let short : too_long j.work j.len shape ≡ false = (cond_zero (too_long j.work j.len shape) 3 last (omega arith) page).0 in
    let fits : ltb (data_limit shape) j.len ≡ false = rw is at short in
    ltb-false (shape_for shape).cap j.len (rw (data_cap shape) at fits)

-- so no unit of the yard refuses an append's page with 3 once it began
pub begin_fits : (w : World) (c : ℕ) (j : Job) (xs : List ℕ) → length xs ≡ j.len → j.work ≡ Append → begin_number w c j ≡ 0 → bad_page (shape_under w.held) (content data_kind xs) ≡ false
begin_fits w c j xs size is e = rw (data_page_lem, data_bytes, size, le-ltb (shape_under w.held).cap j.len (begin_short w c j is e))

-- a memory that passes the test of what is lent is good in the yard's shape, and of its number
pub tested : (shape u : ℕ) (m : List ℕ) → good_unit shape u m ≡ true → (good (shape_for shape) m ≡ true) × (number_of m ≡ u)
unfolding good_unit
tested shape u m h =
    let p = and_both (good (shape_of m) m && eqb (number_of m) u) (eqb (code_of m) shape) h in
    let q = and_both (good (shape_of m) m) (eqb (number_of m) u) p.0 in
    (good_code shape m p.1 q.0, eqb-true (number_of m) u q.1)

-- ---- every step

-- the yard's shape afterwards
abbrev Keeps : World → Done → Type 0
Keeps w d = d.world.held.shape ≡ w.held.shape

either_keeps : (w : World) (b : Bool) (d e : Done) → Keeps w d → Keeps w e → Keeps w (cond b d e)
either_keeps w true d e x y = x
either_keeps w false d e x y = y

-- of all machines the holder alone has another layout afterwards, and that is one of the same shape
serve_shape : (w : World) (a : Ask) (g : Page) (l : Layout) → (serve w a g l).world.held.shape ≡ w.held.shape
unfolding serve asking offering_to
serve_shape w Fetch g l = refl
serve_shape w (Token e) g l = refl
serve_shape w (Unit u a) g l = refl
serve_shape w Offer g l = shape_stays w.held l
serve_shape w (Start e p) g l = refl

module _ (w : World) where
  deliver_shape : (i : ℕ) (keep keep_answer : Bool) → Keeps w (delivers w i keep keep_answer)
  unfolding delivers delivered served taken turned
  deliver_shape i keep keep_answer = go (letter_at w i).body
    where
      l : Letter
      l = letter_at w i

      ls : List Letter
      ls = keeping keep i w.letters

      go : (b : Body) → Keeps w (cond (unbrought w l b) (refused w 17) (brought w ls keep_answer l b))
      go Blank = refl
      go (Asks a) =
          let v = serve w a l.page l.layout in
          let full = ls ++ answers keep_answer l.stamp v.response in
          either_keeps w (unbrought w l (Asks a)) (refused w 17) (cond (too_many full) (refused w 16) (fine (with_letters v.world full))) refl
          (either_keeps w (too_many full) (refused w 16) (fine (with_letters v.world full)) refl (serve_shape w a l.page l.layout))
      go (Answers r) =
          let c = l.stamp.client in
          let t = takes c (client_at w c) l.stamp (response r l) in
          either_keeps w (unbrought w l (Answers r)) (refused w 17) (cond (too_many (ls ++ sent_by c t)) (refused w 16) (turned w ls c t)) refl
          (either_keeps w (too_many (ls ++ sent_by c t)) (refused w 16) (turned w ls c t) refl refl)

  -- A STEP KEEPS THE YARD'S SHAPE
  pub step_shape : (s : Step) (j : Job) → (step w s j).world.held.shape ≡ w.held.shape
  unfolding step begins turned drops stops restarts gives_up forgets
  step_shape (Begin c) j =
      either_keeps w (eqb (begin_number w c j) 0) (turned w w.letters c (begin_turn (client_at w c) j w.held.shape)) (refused w (begin_number w c j)) refl refl
  step_shape (Deliver i keep keep_answer) j = deliver_shape i keep keep_answer
  step_shape (Drop i) j = either_keeps w (ltb i _) (fine (with_letters w (without i w.letters))) (refused w 17) refl refl
  step_shape (Stop u) j = either_keeps w (running w.stopped u) (fine (with_stopped w (set w.stopped (u - 1) true))) (refused w 17) refl refl
  step_shape (Restart c) j = either_keeps w (eqb (restart_number w c) 0) (fine (with_client w c (restarted (client_at w c)))) (refused w (restart_number w c)) refl refl
  step_shape (GiveUp c) j = either_keeps w (is_client c) (turned w w.letters c (give_up (client_at w c))) (refused w 17) refl refl
  step_shape Forget j = refl
