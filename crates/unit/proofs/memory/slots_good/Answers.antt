-- `memory::slots_good` meets its contract. The invariant and its steps are `Checking`'s `Checked`.
use Rattle.std.proofs.Common.{◌≡◌, ◌+◌, ◌-◌, length, refl, ap, ◌∙◌, arith}
use Rattle.unit.proofs.Words.{ruler_length}
use Rattle.unit.proofs.Checking.{checked_room, checked_more, checked_all}
use Rattle.unit.proofs.memory.slots_good.Goals as goal

pub masked-a-requires : goal.masked-a-requires
masked-a-requires c = (omega (arith, checked_room c.loop.invariant (omega arith)), omega (arith, ap length c.requires.2 ∙ ruler_length))

pub masked-b-requires : goal.masked-b-requires
masked-b-requires c = (omega (arith, checked_room c.loop.invariant (omega arith)), omega (arith, ap length c.requires.2 ∙ ruler_length))

pub masked-c-requires : goal.masked-c-requires
masked-c-requires c = (omega (arith, checked_room c.loop.invariant (omega arith)), omega (arith, ap length c.requires.2 ∙ ruler_length))

pub masked-d-requires : goal.masked-d-requires
masked-d-requires c = (omega (arith, checked_room c.loop.invariant (omega arith)), omega (arith, ap length c.requires.2 ∙ ruler_length))

pub loop-preserved : goal.loop-preserved
loop-preserved c =
    let left : c.args.count - (c.loop.counter + 1) ≡ c.args.count - c.loop.counter - 1 = omega arith in
    rw left
    (checked_more c.loop.invariant (omega arith) c.requires.3 c.requires.4 c.type_inv.mem _ c.requires.2 _ _ _ _ _ _ _ _ _ _
    c.joined-rest.result (omega arith)
    c.word_at-next.ensures refl c.word_at-tag.ensures
    c.length_of-k.ensures.0 c.length_of-k.ensures.1 c.tag_fault.ensures.0 c.tag_fault.ensures.1 c.fault.ensures.0 c.fault.ensures.1
    c.masked-a.ensures c.masked-b.ensures c.masked-c.ensures c.masked-d.ensures
    c.joined-rest.ensures)

pub returns : goal.returns
returns c = checked_all c.loop.invariant _ (omega arith) c.zeros_at.ensures
