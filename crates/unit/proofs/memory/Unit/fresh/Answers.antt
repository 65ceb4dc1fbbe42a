use Rattle.std.proofs.Common.{sym, ◌∙◌}
use Rattle.num.proofs.Refusals.{number_above, handed_on}
use Rattle.unit.proofs.Freshness.{fresh_rows, fresh_long, fresh_kept, fresh_made}
use Rattle.unit.proofs.memory.Unit.fresh.Goals as goal

pub returns-in_err-lowest : goal.returns-in_err-lowest
returns-in_err-lowest c =
    let a = rw (c.when.ensures, c.when-2.ensures, c.when-3.ensures) at c.in_err-lowest.ensures in
    let e = a ∙ sym (fresh_rows _ _ _) in
    record { answer_is = handed_on _ _ c.from_residual.ensures.1 ∙ e; memory_is = sym (fresh_kept _ _ _ (λ z. number_above _ (e ∙ z))) }

pub clear-requires : goal.clear-requires
clear-requires c =
    let a = rw (c.when.ensures, c.when-2.ensures, c.when-3.ensures) at c.in_ok-lowest.ensures in
    rw c.shape_for.ensures (fresh_long _ c.args.number _ (fresh_rows _ _ _ ∙ sym a))

pub returns : goal.returns
returns c =
    let a = rw (c.when.ensures, c.when-2.ensures, c.when-3.ensures) at c.in_ok-lowest.ensures in
    let e = fresh_rows _ _ _ ∙ sym a in
    record { answer_is = sym e; memory_is = c.clear.ensures ∙ rw c.shape_for.ensures (sym (fresh_made _ _ _ e)) }
