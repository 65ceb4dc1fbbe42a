use Rattle.std.proofs.Common.{sym}
use Rattle.std.proofs.lemmas.Result.{err_from_is_err_and}
use Rattle.num.proofs.Refusals.{number_above}
use Rattle.yard.proofs.Freshening.{memories_long, layout_known, made_not, made}
use Rattle.yard.proofs.fresh.fresh.Goals as goal

pub returns-in_err-test : goal.returns-in_err-test
returns-in_err-test c =
    let a = c.args in
    let p = err_from_is_err_and c.from_residual.result c.from_residual.ensures.1 in
    rw (p.1, p.2) (made_not a.held a.seq.now a.table.now a.units.now _ (sym c.in_err-test.ensures) (number_above _))

pub fresh_units-requires : goal.fresh_units-requires
fresh_units-requires c =
    let z = sym c.in_ok-test.ensures in
    record { units_len = memories_long c.args.held _ _ z; shape_le_last_shape = layout_known c.args.held _ _ z }

pub returns : goal.returns
returns c =
    let a = c.args in
    rw (c.fresh.ensures, c.fresh_yard.ensures, c.clear.ensures) (made a.held a.seq.now a.table.now a.units.now (sym c.in_ok-test.ensures) c.fresh_units.ensures)
