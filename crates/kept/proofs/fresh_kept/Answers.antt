use Rattle.std.proofs.Common.{◌∙◌, sym}
use Rattle.std.proofs.lemmas.Result.{err_from_is_err_and}
use Rattle.num.proofs.Refusals.{number_above}
use Rattle.rule.proofs.Refused.{refused_making}
use Rattle.kept.proofs.fresh_kept.Goals as goal

-- a refusal leaves the fresh sequencer and the blank table
pub returns-in_err-yard : goal.returns-in_err-yard
returns-in_err-yard c =
    let p = err_from_is_err_and c.from_residual.result c.from_residual.ensures.1 in
    let w = rw (c.fresh-sequencer.ensures, c.blank-table.ensures) at c.in_err-yard.ensures in
    let same = refused_making w (number_above _) in
    rw (p.1, p.2) (record { answer_is = w.answer_is; yard_is = w.yard_is; sequencer_is = sym same.0 ∙ w.sequencer_is; table_is = sym same.1.0 ∙ w.table_is; memories_is = w.memories_is })
