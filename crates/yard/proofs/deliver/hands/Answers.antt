use Rattle.std.proofs.Common.{arith, not, sym}
use Rattle.std.proofs.lemmas.Result.{err_from_is_err_and}
use Rattle.num.proofs.Refusals.{number_above}
use Rattle.num.proofs.Tests.{or_false, cond_zero}
use Rattle.rule.specs.World.{is_client}
use Rattle.rule.specs.Serve.{unserved}
use Rattle.yard.proofs.Stepping.{passed_on, lowest_one}
use Rattle.yard.proofs.Delivering.{decided_same, applies, asks_nobody, asks_full, asks_served}
use Rattle.yard.proofs.deliver.hands.Goals as goal

pub returns-then-is_client-is_unserved : goal.returns-then-is_client-is_unserved
returns-then-is_client-is_unserved c =
    let a = c.args in
    let t = rw (c.is_client.ensures, c.is_unserved.ensures) at c.if-is_client-is_unserved.true in
    λ i h. decided_same a.core.yard.held.shape a.units.now c.type_inv.units c.requires.units_value (asks_nobody a.core.yard a.core.sequencer a.d.keeps a.d.keeps_answer a.d.letter c.requires.body_value t i)

pub returns-in_err-has_room : goal.returns-in_err-has_room
returns-in_err-has_room c =
    let a = c.args in
    let t = rw (c.is_client.ensures, c.is_unserved.ensures) at c.if-is_client-is_unserved.false in
    let f = applies _ 16 (number_above _) c.in_err-has_room.ensures in
    λ i h. rw (passed_on a.core (err_from_is_err_and _ c.from_residual.ensures.1), lowest_one _ _ 16 (number_above _) c.in_err-has_room.ensures)
    (decided_same a.core.yard.held.shape a.units.now c.type_inv.units c.requires.units_value (asks_full a.core.yard a.core.sequencer a.d.keeps a.d.keeps_answer a.d.letter c.requires.body_value t i h f))

pub serve-response-requires : goal.serve-response-requires
serve-response-requires c =
    let t = rw (c.is_client.ensures, c.is_unserved.ensures) at c.if-is_client-is_unserved.false in
    record { units_value = c.requires.units_value; ask_value = (or_false (not (is_client c.args.d.letter.stamp.client)) (unserved c.args.core.yard.stopped c.args.ask) t).1 }

pub returns : goal.returns
returns c =
    let a = c.args in
    let t = rw (c.is_client.ensures, c.is_unserved.ensures) at c.if-is_client-is_unserved.false in
    let f = (cond_zero _ 16 0 (omega arith) (sym c.in_ok-has_room.ensures)).0 in
    λ i h. rw c.answered.ensures (asks_served a.core.yard a.core.sequencer a.d.keeps a.d.keeps_answer a.d.letter c.requires.body_value t i h f a.units.now c.serve-response.ensures)
