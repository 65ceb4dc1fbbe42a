use Rattle.std.proofs.Common.{◌≡◌, ◌+◌, ◌-◌, ◌∙◌, arith}
use Rattle.unit.proofs.store.open_gap.Goals as goal

pub returns-then-size-eq-SMALL_SLOT : goal.returns-then-size-eq-SMALL_SLOT
returns-then-size-eq-SMALL_SLOT c =
    let e : c.args.at + (c.args.end - c.args.at) ≡ c.args.end = omega arith in
    c.move_up.ensures ∙ rw (e, c.if-size-eq-SMALL_SLOT.true)

pub returns-then-size-eq-LARGE_SLOT : goal.returns-then-size-eq-LARGE_SLOT
returns-then-size-eq-LARGE_SLOT c =
    let e : c.args.at + (c.args.end - c.args.at) ≡ c.args.end = omega arith in
    c.move_up-then-size-eq-LARGE_SLOT.ensures ∙ rw (e, c.if-size-eq-LARGE_SLOT.true)

pub returns-else-size-eq-LARGE_SLOT : goal.returns-else-size-eq-LARGE_SLOT
returns-else-size-eq-LARGE_SLOT c =
    let e : c.args.at + (c.args.end - c.args.at) ≡ c.args.end = omega arith in
    c.move_up-else-size-eq-LARGE_SLOT.ensures ∙ rw e
