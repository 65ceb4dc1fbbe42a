use Rattle.std.proofs.Common.{sym}
use Rattle.std.proofs.lemmas.Result.{err_from_is_err_and}
use Rattle.num.proofs.Refusals.{number_above}
use Rattle.rule.proofs.Testing.{test_says}
use Rattle.yard.proofs.Stepping.{passed_on}
use Rattle.yard.proofs.Settling.{decides_unlent, decides_decided}
use Rattle.yard.proofs.decide.decide.Goals as goal

pub returns-in_err-test : goal.returns-in_err-test
returns-in_err-test c =
    let a = c.args in
    rw (passed_on a.core (err_from_is_err_and _ c.from_residual.ensures.1)) (decides_unlent a.core.yard a.core.sequencer a.places a.l a.units.now a.s a.job _ (sym c.in_err-test.ensures) (number_above _))

pub chosen-requires : goal.chosen-requires
chosen-requires c = (test_says c.args.core.yard c.args.places c.args.units.now (sym c.in_ok-test.ensures)).memories

pub returns : goal.returns
returns c =
    let a = c.args in
    decides_decided a.core.yard a.core.sequencer a.places a.l a.units.now a.s a.job (sym c.in_ok-test.ensures) c.chosen.ensures
