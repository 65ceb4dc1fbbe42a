use Prim.Native.Nat.{ℕ}
use lib.ListN.{length-replicate}
use Rattle.std.proofs.lemmas.Result.{err_from_is_err_and}
use Rattle.play.proofs.Telling.{is_made, ready, told_run, told_none}
use Rattle.play.proofs.show_lines.Goals as goal

pub returns-in_err-judged : goal.returns-in_err-judged
returns-in_err-judged c =
    let p = err_from_is_err_and c.from_residual.result c.from_residual.ensures.1 in
    rw (p.1, p.2) (told_none _ c.in_err-judged.ensures)

pub unwrap-kept-requires : goal.unwrap-kept-requires
unwrap-kept-requires c = is_made _ c.in_ok-judged.ensures (length-replicate {A = ℕ} 49344 0) _ c.fresh_kept.ensures

pub run-requires : goal.run-requires
run-requires c = ready _ c.in_ok-judged.ensures (length-replicate {A = ℕ} 49344 0) (rw c.unwrap-kept.ensures at c.fresh_kept.ensures)

pub returns : goal.returns
returns c = told_run _ c.in_ok-judged.ensures c.run.ensures
