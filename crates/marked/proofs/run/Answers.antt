use Rattle.std.proofs.Common.{◌≡◌, true, refl, arith, ◌∙◌}
use Rattle.marked.proofs.Running.{is_row, running_none, running_more, running_all, row_right}
use Rattle.marked.proofs.run.Goals as goal
use Rattle.marked.proofs.run.Goals.{then-not-show, else-not-show}

pub loop-k-init : goal.loop-k-init
loop-k-init g c = running_none _ _ refl

pub overflow_add-wrong : goal.overflow_add-wrong
overflow_add-wrong g c = omega (arith, c.loop-k.invariant.none_wrong)

pub loop-k-preserved : goal.loop-k-preserved
loop-k-preserved g c =
    let e = is_row c.table-rows.result.now c.loop-k.k _ c.table-rows.ensures c.loop-k-test.true in
    let s = c.loop-k.invariant in
    let x = c.tell-got.ensures in
    elim c.if-not-show.branch [
      | then-not-show w ↦
          let right : c.show.result ≡ true = c.show.ensures ∙ row_right c.requires c.loop-k-test.true s e x in cc
      | else-not-show w ↦ rw w.wrong-is (running_more c.tell-got.result c.loop-k-test.true s e x)
    ]

pub returns : goal.returns
returns g c = running_all c.loop-k-test.false c.loop-k.invariant
