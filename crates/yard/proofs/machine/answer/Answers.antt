use Rattle.std.proofs.Common.{refl}
use Rattle.std.proofs.lemmas.Result.{err_from_is_err_and}
use Rattle.sequencer.specs.declared.Asked.TheVariants as asked
use Rattle.client.specs.declared.Ask.TheVariants.{Token, Start}
use Rattle.rule.specs.Serve.{serve}
use Rattle.yard.proofs.Memories.{first_names, first_named}
use Rattle.yard.proofs.Serving.{passed_reply, passed_saying, fetches, fetches_not, offers, asks, at_unit_lem}
use Rattle.yard.proofs.machine.answer.Goals as goal

pub returns-in_err-held-in-Fetch : goal.returns-in_err-held-in-Fetch
returns-in_err-held-in-Fetch c =
    let a = c.args in
    rw (c.in-Fetch.is, passed_reply (err_from_is_err_and _ c.from_residual.ensures.1)) (fetches_not a.core.now.yard a.core.now.sequencer a.units.now c.type_inv.units c.requires.units_value a.page a.layout _ c.in_err-held-in-Fetch.ensures)

pub returns-in_ok-held-in-Fetch : goal.returns-in_ok-held-in-Fetch
returns-in_ok-held-in-Fetch c =
    let a = c.args in
    rw (c.in-Fetch.is, c.bare.ensures) (fetches a.core.now.yard a.core.now.sequencer a.units.now c.type_inv.units c.requires.units_value a.page a.layout c.in_ok-held-in-Fetch.ensures)

pub returns-in_err-position-in-Token : goal.returns-in_err-position-in-Token
unfolding serve
returns-in_err-position-in-Token c =
    let a = c.args in
    rw (c.in-Token.is, passed_saying (err_from_is_err_and _ c.from_residual-in_err-position-in-Token.ensures.1)) (asks a.core.now.yard a.core.now.sequencer a.units.now c.type_inv.units c.requires.units_value a.page a.layout (asked.Token c.in-Token.epoch) (Token c.in-Token.epoch) refl c.in_err-position-in-Token.ensures)

pub returns-in_ok-position-in-Token : goal.returns-in_ok-position-in-Token
unfolding serve
returns-in_ok-position-in-Token c =
    let a = c.args in
    rw (c.in-Token.is, c.bare-in-Token.ensures) (asks a.core.now.yard a.core.now.sequencer a.units.now c.type_inv.units c.requires.units_value a.page a.layout (asked.Token c.in-Token.epoch) (Token c.in-Token.epoch) refl c.in_ok-position-in-Token.ensures)

pub at_unit-requires-clause-units_value : goal.at_unit-requires-clause-units_value
at_unit-requires-clause-units_value c = first_named c.args.core.now.yard.held.shape c.args.units.now c.requires.units_value

pub returns-in-Unit : goal.returns-in-Unit
returns-in-Unit c = rw c.in-Unit.is (at_unit_lem c.args.core.now.yard c.args.core.now.sequencer c.args.units.now c.args.page c.args.layout _ _ (first_names c.args.core.now.yard.held.shape c.args.units.now c.requires.units_value) c.at_unit.ensures)

pub returns-in_err-offer-in-Offer : goal.returns-in_err-offer-in-Offer
returns-in_err-offer-in-Offer c =
    let a = c.args in
    rw (c.in-Offer.is, passed_saying (err_from_is_err_and _ c.from_residual-in_err-offer-in-Offer.ensures.1)) (offers a.core.now.yard a.core.now.sequencer a.units.now c.type_inv.units c.requires.units_value a.page a.layout c.in_err-offer-in-Offer.ensures)

pub returns-in_ok-offer-in-Offer : goal.returns-in_ok-offer-in-Offer
returns-in_ok-offer-in-Offer c =
    let a = c.args in
    rw (c.in-Offer.is, c.bare-in-Offer.ensures) (offers a.core.now.yard a.core.now.sequencer a.units.now c.type_inv.units c.requires.units_value a.page a.layout c.in_ok-offer-in-Offer.ensures)

pub returns-in_err-start-in-Start : goal.returns-in_err-start-in-Start
unfolding serve
returns-in_err-start-in-Start c =
    let a = c.args in
    rw (c.in-Start.is, passed_saying (err_from_is_err_and _ c.from_residual-in_err-start-in-Start.ensures.1)) (asks a.core.now.yard a.core.now.sequencer a.units.now c.type_inv.units c.requires.units_value a.page a.layout (asked.Start c.in-Start.epoch c.in-Start.p) (Start c.in-Start.epoch c.in-Start.p) refl c.in_err-start-in-Start.ensures)

pub returns-in_ok-start-in-Start : goal.returns-in_ok-start-in-Start
unfolding serve
returns-in_ok-start-in-Start c =
    let a = c.args in
    rw (c.in-Start.is, c.bare-in-Start.ensures) (asks a.core.now.yard a.core.now.sequencer a.units.now c.type_inv.units c.requires.units_value a.page a.layout (asked.Start c.in-Start.epoch c.in-Start.p) (Start c.in-Start.epoch c.in-Start.p) refl c.in_ok-start-in-Start.ensures)
