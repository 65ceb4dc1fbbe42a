use Rattle.std.proofs.Common.{arith}
use Rattle.yard.proofs.Delivering.{decided_same, lent_nobody, lent_brought}
use Rattle.yard.proofs.deliver.delivers.Goals as goal

pub returns-then-core-i : goal.returns-then-core-i
returns-then-core-i c =
    let a = c.args in
    lent_nobody a.core.yard a.core.sequencer a.units.now a.i a.d.keeps a.d.keeps_answer a.d.letter c.type_inv.units c.requires (λ h. absurd (omega (arith, h, c.if-core-i.true)))

pub returns-in-Blank : goal.returns-in-Blank
returns-in-Blank c =
    let a = c.args in
    lent_nobody a.core.yard a.core.sequencer a.units.now a.i a.d.keeps a.d.keeps_answer a.d.letter c.type_inv.units c.requires (λ h. c.in-Blank.is)

pub returns-in-Asks : goal.returns-in-Asks
returns-in-Asks c =
    let a = c.args in
    lent_brought a.core.yard a.core.sequencer a.units.now a.d.keeps a.d.keeps_answer c.if-core-i.false (c.hands.ensures a.i c.if-core-i.false)

pub returns-in-Answers : goal.returns-in-Answers
returns-in-Answers c =
    let a = c.args in
    lent_brought a.core.yard a.core.sequencer a.units.now a.d.keeps a.d.keeps_answer c.if-core-i.false
    (decided_same a.core.yard.held.shape a.units.now c.type_inv.units c.requires (c.returns_to.ensures a.i a.d.keeps_answer c.if-core-i.false))
