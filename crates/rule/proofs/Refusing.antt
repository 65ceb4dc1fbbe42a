-- "A refused step changes nothing at all": the yard stays as it was, and no operation ends.
use mathlib.Core.Path.{◌≡◌, refl}
use mathlib.Core.Bool.{Bool, true, false, cond}
use mathlib.Core.List.{List, ◌++◌}
use lib.Dec.{eqb, ltb}
use lib.ListN.{length, set}
use Prim.Native.Nat.{ℕ, ◌-◌}
use Rattle.client.specs.declared.state.Job.{Job}
use Rattle.client.specs.Take.{takes}
use Rattle.client.specs.Begin.{begin_turn, give_up, restarted}
use Rattle.rule.specs.declared.Body.{Body}
use Rattle.rule.specs.declared.Body.TheVariants.{Blank, Asks, Answers}
use Rattle.rule.specs.declared.Letter.{Letter}
use Rattle.rule.specs.declared.Step.{Step}
use Rattle.rule.specs.declared.Step.TheVariants.{Begin, Deliver, Drop, Stop, Restart, GiveUp, Forget}
use Rattle.rule.specs.World.{World, is_client, running, client_at, letter_at}
use Rattle.rule.specs.Serve.{serve}
use Rattle.rule.specs.Steps.{Done, refused, fine, without, keeping, too_many, with_letters, with_client, with_stopped, sent_by, turned, begin_number, begins, answers, served, taken, unbrought, brought, delivered, delivers, drops, stops, restart_number, restarts, gives_up, forgets, response, step}

-- what is left where the answer is no 0
abbrev pub Unchanged : World → Done → Type 0
Unchanged w d = ¬ (d.answer ≡ 0) → (d.world ≡ w) × (d.who ≡ 0)

either : {w : World} (b : Bool) (d e : Done) → Unchanged w d → Unchanged w e → Unchanged w (cond b d e)
either true d e x y = x
either false d e x y = y

deliver_unchanged : (w : World) (i : ℕ) (keep keep_answer : Bool) → Unchanged w (delivers w i keep keep_answer)
unfolding delivers delivered served taken turned
deliver_unchanged w i keep keep_answer = go (letter_at w i).body
  where
    l : Letter
    l = letter_at w i

    ls : List Letter
    ls = keeping keep i w.letters

    go : (b : Body) → Unchanged w (cond (unbrought w l b) (refused w 17) (brought w ls keep_answer l b))
    go Blank = λ no. (refl, refl)
    go (Asks a) =
        let v = serve w a l.page l.layout in
        let full = ls ++ answers keep_answer l.stamp v.response in
        either (unbrought w l (Asks a)) (refused w 17) (cond (too_many full) (refused w 16) (fine (with_letters v.world full))) (λ no. (refl, refl))
        (either (too_many full) (refused w 16) (fine (with_letters v.world full)) (λ no. (refl, refl)) (λ no. absurd (no refl)))
    go (Answers r) =
        let c = l.stamp.client in
        let t = takes c (client_at w c) l.stamp (response r l) in
        either (unbrought w l (Answers r)) (refused w 17) (cond (too_many (ls ++ sent_by c t)) (refused w 16) (turned w ls c t)) (λ no. (refl, refl))
        (either (too_many (ls ++ sent_by c t)) (refused w 16) (turned w ls c t) (λ no. (refl, refl)) (λ no. absurd (no refl)))

pub refused_unchanged : (w : World) (s : Step) (j : Job) → Unchanged w (step w s j)
unfolding step begins drops stops restarts gives_up forgets turned
refused_unchanged w (Begin c) j =
    either (eqb (begin_number w c j) 0) (turned w w.letters c (begin_turn (client_at w c) j w.held.shape)) (refused w (begin_number w c j)) (λ no. absurd (no refl)) (λ no. (refl, refl))
refused_unchanged w (Deliver i keep keep_answer) j = deliver_unchanged w i keep keep_answer
refused_unchanged w (Drop i) j =
    either (ltb i (length w.letters)) (fine (with_letters w (without i w.letters))) (refused w 17) (λ no. absurd (no refl)) (λ no. (refl, refl))
refused_unchanged w (Stop u) j =
    either (running w.stopped u) (fine (with_stopped w (set w.stopped (u - 1) true))) (refused w 17) (λ no. absurd (no refl)) (λ no. (refl, refl))
refused_unchanged w (Restart c) j =
    either (eqb (restart_number w c) 0) (fine (with_client w c (restarted (client_at w c)))) (refused w (restart_number w c)) (λ no. absurd (no refl)) (λ no. (refl, refl))
refused_unchanged w (GiveUp c) j =
    either (is_client c) (turned w w.letters c (give_up (client_at w c))) (refused w 17) (λ no. absurd (no refl)) (λ no. (refl, refl))
refused_unchanged w Forget j = λ no. absurd (no refl)
