use Prim.Native.Nat.{◌+◌, ◌-◌}
use native.Mathlib.Omega.{arith}
use mathlib.Core.Path.{refl, sym, ◌∙◌}
use lib.ListN.{take, drop}
use Rattle.std.proofs.Common.{inl, inr}
use Rattle.num.proofs.Numbers.{number_below}
use Rattle.script.proofs.Judging.{judged_short, judged_other, judged_none, judged_play}
use Rattle.script.proofs.judge.judge.Goals as goal
use Rattle.script.proofs.judge.judge.Goals.{then-file-gt-SIZE-via-then-file-gt-SIZE, then-file-gt-SIZE-via-else-file-gt-SIZE+then-file-first, then-layout-ne1-via-then-layout-ne1, then-layout-ne1-via-else-layout-ne1+then-not-are_steps}

pub overflow_add-end : goal.overflow_add-end
overflow_add-end c =
    omega (arith, c.number_at.ensures, number_below 2 0 c.args.file.now c.type_inv.file)

pub overflow_add-first : goal.overflow_add-first
overflow_add-first c =
    omega (arith, c.number_at.ensures, number_below 2 0 c.args.file.now c.type_inv.file)

pub returns-then-file-gt-SIZE : goal.returns-then-file-gt-SIZE
returns-then-file-gt-SIZE c =
    elim c.then-file-gt-SIZE.branch [
      | then-file-gt-SIZE-via-then-file-gt-SIZE w ↦ judged_short c.args.file.now c.number_at.result c.number_at.ensures (inl w.if-file-gt-SIZE.true)
      | then-file-gt-SIZE-via-else-file-gt-SIZE+then-file-first w ↦ judged_short c.args.file.now c.number_at.result c.number_at.ensures (inr w.if-file-first.true)
    ]

pub returns-in_default : goal.returns-in_default
returns-in_default c =
    let b = c.args.file.now in
    judged_other b c.number_at.result (take ((2 + c.number_at.result) - 2) (drop 2 b)) c.number_at.ensures refl c.in_default.field-0 c.in_default.ensures

pub overflow_cast-result : goal.overflow_cast-result
overflow_cast-result c =
    omega (arith, c.number_at-count.ensures, number_below 4 (2 + c.number_at.result) c.args.file.now c.type_inv.file)

pub returns-then-layout-ne1 : goal.returns-then-layout-ne1
returns-then-layout-ne1 c =
    let b = c.args.file.now in
    let n = c.number_at.result in
    elim c.then-layout-ne1.branch [
      | then-layout-ne1-via-then-layout-ne1 w ↦
          judged_none b n (take ((2 + n) - 2) (drop 2 b)) c.number_at.ensures refl c.in-Ok.layout c.in-Ok.ensures ((2 + n) + 4) c.number_at-count.result refl c.number_at-count.ensures (inl w.if-layout-ne1.true)
      | then-layout-ne1-via-else-layout-ne1+then-not-are_steps w ↦
          judged_none b n (take ((2 + n) - 2) (drop 2 b)) c.number_at.ensures refl c.in-Ok.layout c.in-Ok.ensures ((2 + n) + 4) c.number_at-count.result refl c.number_at-count.ensures (inr (sym w.are_steps.ensures ∙ w.if-not-are_steps.true))
    ]

pub returns : goal.returns
returns c =
    let b = c.args.file.now in
    let n = c.number_at.result in
    judged_play b n (take ((2 + n) - 2) (drop 2 b)) c.number_at.ensures refl c.in-Ok.layout c.in-Ok.ensures ((2 + n) + 4) c.number_at-count.result refl c.number_at-count.ensures
    c.if-file-gt-SIZE.false c.if-file-first.false c.if-layout-ne1.false (sym c.are_steps.ensures ∙ c.if-not-are_steps.false)
