-- `play::run` meets its contract. The loop's invariant is Going: what is kept is what the moves before step n leave, and what is still to come of the lines.
use Prim.Native.Nat.{ℕ, ◌≤◌, ◌<◌}
use native.Mathlib.Omega.{arith}
use mathlib.Core.Path.{sym, ◌∙◌}
use borrow.Author.Rules.{rules}
use mir.Syntax.{w64}
use mir.Val.{Fits}
use Rattle.script.specs.Play.{count_of}
use Rattle.play.proofs.Reading.{plays}
use Rattle.play.proofs.Running.{begins, none_asked, stands, at_small, goes_by, goes_on, full, ended, keeps_yard}
use Rattle.play.proofs.run.Goals as goal
use Rattle.play.proofs.run.Goals.{then-from-n+in-Some, else-from-n}

small_fits : {x : ℕ} → x ≤ 65536 → Fits w64 x
small_fits h = record { fits = omega arith }

pub loop-n-init : goal.loop-n-init
loop-n-init c = (begins _ _ _ c.requires, (search rules, search rules))

pub returns-then-judged-from : goal.returns-then-judged-from
returns-then-judged-from c = none_asked _ _ _ (omega (arith, c.requires.count_is))

pub unwrap-got-requires : goal.unwrap-got-requires
unwrap-got-requires c =
    let left : c.loop-n.n < count_of c.args.file.now = omega (arith, c.requires.count_is) in
    rw (c.step_at.ensures ∙ stands (plays _ c.requires.holds_play) c.loop-n.invariant.0 left) (search rules)

pub overflow_add-at : goal.overflow_add-at
overflow_add-at c =
    let left : c.loop-n.n < count_of c.args.file.now = omega (arith, c.requires.count_is) in
    small_fits (at_small (plays _ c.requires.holds_play) c.loop-n.invariant.0 left (sym c.step_at.ensures ∙ c.unwrap-got.ensures))

pub returns-in_default : goal.returns-in_default
returns-in_default c =
    let left : c.loop-n.n < count_of c.args.file.now = omega (arith, c.requires.count_is) in
    full (plays _ c.requires.holds_play) c.loop-n.invariant.0 left (sym c.step_at.ensures ∙ c.unwrap-got.ensures) c.step_kept-stepped.ensures.taken (keeps_yard c.step_kept-stepped.result c.step_kept-stepped.new.kept c.step_kept-stepped.ensures.kept) c.if-from-n.true (rw c.in_default.is at c.show.ensures)

pub loop-n-preserved : goal.loop-n-preserved
loop-n-preserved c =
    let left : c.loop-n.n < count_of c.args.file.now = omega (arith, c.requires.count_is) in
    let p = plays _ c.requires.holds_play in
    let inv = c.loop-n.invariant in
    let got = sym c.step_at.ensures ∙ c.unwrap-got.ensures in (
      elim c.if-from-n.branch [
        | then-from-n+in-Some w ↦ rw (w.out-is, w.shown-is) (goes_on p inv.0 left got c.step_kept-stepped.ensures.taken (keeps_yard c.step_kept-stepped.result c.step_kept-stepped.new.kept c.step_kept-stepped.ensures.kept) w.if-from-n.true (rw w.in-Some.is at w.show.ensures))
        | else-from-n w ↦ rw (w.out-is, w.shown-is) (goes_by p inv.0 left got c.step_kept-stepped.ensures.taken (keeps_yard c.step_kept-stepped.result c.step_kept-stepped.new.kept c.step_kept-stepped.ensures.kept) w.if-from-n.false)
      ],
      (c.step_kept-stepped.auto.units ∙ inv.1.0, c.if-from-n.auto.out ∙ inv.1.1),
    )

pub returns : goal.returns
returns c = ended c.loop-n.invariant.0 (omega (arith, c.requires.count_is))
