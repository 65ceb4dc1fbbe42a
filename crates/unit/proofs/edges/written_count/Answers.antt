-- `edges::written_count` meets its contract. The invariant and its steps are `Sealing`'s `Passed`.
use Rattle.std.proofs.Common.{◌≡◌, ◌+◌, ◌-◌, ◌*◌, ◌≤◌, length, sym, refl, ap, ◌∙◌, arith}
use Rattle.unit.specs.Shape.{slot_size}
use Rattle.unit.specs.InsideEdges.{WrittenUpTo}
use Rattle.unit.proofs.Goodness.{is_good_lem, slot_within}
use Rattle.unit.proofs.Sealing.{passed_more, passed_last, passed_all}
use Rattle.unit.proofs.edges.written_count.Goals as goal

pub pair_at-count-requires : goal.pair_at-count-requires
pair_at-count-requires c = omega (arith, is_good_lem _ _ c.requires)

pub overflow_add-at : goal.overflow_add-at
overflow_add-at c =
    let room : 24 + (c.loop-i.i - 1) * slot_size c.args.sh.cap + slot_size c.args.sh.cap ≤ length c.args.mem.now =
    let g = is_good_lem c.args.sh c.args.mem.now c.requires in
    slot_within c.args.sh c.args.mem.now g.size (c.loop-i.i - 1) (omega (arith, c.loop-i.invariant.few, g.header.count)) in
    omega (arith, room)

pub overflow_mul-at : goal.overflow_mul-at
overflow_mul-at c =
    let room : 24 + (c.loop-i.i - 1) * slot_size c.args.sh.cap + slot_size c.args.sh.cap ≤ length c.args.mem.now =
    let g = is_good_lem c.args.sh c.args.mem.now c.requires in
    slot_within c.args.sh c.args.mem.now g.size (c.loop-i.i - 1) (omega (arith, c.loop-i.invariant.few, g.header.count)) in
    omega (arith, room)

pub overflow_add-at-in-loop-i : goal.overflow_add-at-in-loop-i
overflow_add-at-in-loop-i c =
    let room : 24 + (c.loop-i.i - 1) * slot_size c.args.sh.cap + slot_size c.args.sh.cap ≤ length c.args.mem.now =
    let g = is_good_lem c.args.sh c.args.mem.now c.requires in
    slot_within c.args.sh c.args.mem.now g.size (c.loop-i.i - 1) (omega (arith, c.loop-i.invariant.few, g.header.count)) in
    omega (arith, room)

pub overflow_add-at-in-loop-i-2 : goal.overflow_add-at-in-loop-i-2
overflow_add-at-in-loop-i-2 c =
    let room : 24 + (c.loop-i.i - 1) * slot_size c.args.sh.cap + slot_size c.args.sh.cap ≤ length c.args.mem.now =
    let g = is_good_lem c.args.sh c.args.mem.now c.requires in
    slot_within c.args.sh c.args.mem.now g.size (c.loop-i.i - 1) (omega (arith, c.loop-i.invariant.few, g.header.count)) in
    omega (arith, room)

pub bounds-mem-at : goal.bounds-mem-at
bounds-mem-at c =
    let room : 24 + (c.loop-i.i - 1) * slot_size c.args.sh.cap + slot_size c.args.sh.cap ≤ length c.args.mem.now =
    let g = is_good_lem c.args.sh c.args.mem.now c.requires in
    slot_within c.args.sh c.args.mem.now g.size (c.loop-i.i - 1) (omega (arith, c.loop-i.invariant.few, g.header.count)) in
    omega (arith, room)

pub returns-then-was_written : goal.returns-then-was_written
returns-then-was_written c =
    let e : c.loop-i.i ≡ c.loop-i.i - 1 + 1 = omega arith in
    rw e at (passed_last c.requires c.loop-i.invariant _ (omega arith) refl (sym c.was_written.ensures ∙ c.if-was_written.true))

pub loop-i-preserved : goal.loop-i-preserved
loop-i-preserved c = passed_more c.requires c.loop-i.invariant _ (omega arith) refl (sym c.was_written.ensures ∙ c.if-was_written.false)

pub returns : goal.returns
returns c = passed_all c.loop-i.invariant (omega arith)
