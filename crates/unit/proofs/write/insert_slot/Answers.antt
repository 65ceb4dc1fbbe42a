use Rattle.std.proofs.Common.{◌+◌, ◌*◌, ◌≤◌, length, arith}
use Rattle.num.proofs.Numbers.{Bytes}
use Rattle.unit.specs.Shape.{slot_size}
use Rattle.unit.specs.State.{content}
use Rattle.unit.proofs.Inserting.{place_room, write_bytes, place_used}
use Rattle.unit.proofs.write.insert_slot.Goals as goal

pub overflow_add-slot : goal.overflow_add-slot
overflow_add-slot c =
    let room : let z = slot_size c.args.sh.cap in (24 ≤ c.args.at) × ((c.args.at + z ≤ length c.args.mem.now) × ((c.args.at ≤ 24 + c.args.count * z) × (24 + c.args.count * z + z ≤ length c.args.mem.now))) =
    let r = place_room c.args.sh _ c.args.p _ _ c.requires.mem_value c.requires.at_value.0 c.requires.at_value.1 c.requires.at_value.2 in
    let u = place_used c.args.sh _ c.args.p _ _ c.requires.mem_value c.requires.at_value.0 c.requires.at_value.1 c.requires.at_value.2 in
    (r.0, (r.1, (u.0, u.1))) in
    omega (arith, room)

pub overflow_mul-count : goal.overflow_mul-count
overflow_mul-count c =
    let room : let z = slot_size c.args.sh.cap in (24 ≤ c.args.at) × ((c.args.at + z ≤ length c.args.mem.now) × ((c.args.at ≤ 24 + c.args.count * z) × (24 + c.args.count * z + z ≤ length c.args.mem.now))) =
    let r = place_room c.args.sh _ c.args.p _ _ c.requires.mem_value c.requires.at_value.0 c.requires.at_value.1 c.requires.at_value.2 in
    let u = place_used c.args.sh _ c.args.p _ _ c.requires.mem_value c.requires.at_value.0 c.requires.at_value.1 c.requires.at_value.2 in
    (r.0, (r.1, (u.0, u.1))) in
    omega (arith, room)

pub overflow_add-count : goal.overflow_add-count
overflow_add-count c =
    let room : let z = slot_size c.args.sh.cap in (24 ≤ c.args.at) × ((c.args.at + z ≤ length c.args.mem.now) × ((c.args.at ≤ 24 + c.args.count * z) × (24 + c.args.count * z + z ≤ length c.args.mem.now))) =
    let r = place_room c.args.sh _ c.args.p _ _ c.requires.mem_value c.requires.at_value.0 c.requires.at_value.1 c.requires.at_value.2 in
    let u = place_used c.args.sh _ c.args.p _ _ c.requires.mem_value c.requires.at_value.0 c.requires.at_value.1 c.requires.at_value.2 in
    (r.0, (r.1, (u.0, u.1))) in
    omega (arith, room)

pub open_gap-requires : goal.open_gap-requires
open_gap-requires c =
    let room : let z = slot_size c.args.sh.cap in (24 ≤ c.args.at) × ((c.args.at + z ≤ length c.args.mem.now) × ((c.args.at ≤ 24 + c.args.count * z) × (24 + c.args.count * z + z ≤ length c.args.mem.now))) =
    let r = place_room c.args.sh _ c.args.p _ _ c.requires.mem_value c.requires.at_value.0 c.requires.at_value.1 c.requires.at_value.2 in
    let u = place_used c.args.sh _ c.args.p _ _ c.requires.mem_value c.requires.at_value.0 c.requires.at_value.1 c.requires.at_value.2 in
    (r.0, (r.1, (u.0, u.1))) in
    omega (arith, room)

pub put_slot-requires : goal.put_slot-requires
put_slot-requires c =
    let room : let z = slot_size c.args.sh.cap in (24 ≤ c.args.at) × ((c.args.at + z ≤ length c.args.mem.now) × ((c.args.at ≤ 24 + c.args.count * z) × (24 + c.args.count * z + z ≤ length c.args.mem.now))) =
    let r = place_room c.args.sh _ c.args.p _ _ c.requires.mem_value c.requires.at_value.0 c.requires.at_value.1 c.requires.at_value.2 in
    let u = place_used c.args.sh _ c.args.p _ _ c.requires.mem_value c.requires.at_value.0 c.requires.at_value.1 c.requires.at_value.2 in
    (r.0, (r.1, (u.0, u.1))) in
    omega (arith, room, c.requires.at_value, c.open_gap.auto)

pub put_number-requires : goal.put_number-requires
put_number-requires c =
    let room : let z = slot_size c.args.sh.cap in (24 ≤ c.args.at) × ((c.args.at + z ≤ length c.args.mem.now) × ((c.args.at ≤ 24 + c.args.count * z) × (24 + c.args.count * z + z ≤ length c.args.mem.now))) =
    let r = place_room c.args.sh _ c.args.p _ _ c.requires.mem_value c.requires.at_value.0 c.requires.at_value.1 c.requires.at_value.2 in
    let u = place_used c.args.sh _ c.args.p _ _ c.requires.mem_value c.requires.at_value.0 c.requires.at_value.1 c.requires.at_value.2 in
    (r.0, (r.1, (u.0, u.1))) in
    omega (arith, room, c.open_gap.auto, c.put_slot.auto)

pub returns : goal.returns
returns c =
    let a = c.args in
    let bytes : Bytes c.args.mem.now = assumption in
    rw (c.put_number.ensures, c.put_slot.ensures, c.open_gap.ensures)
    (write_bytes a.sh a.mem.now bytes a.p (content a.kind a.bytes.now) a.at a.count
    c.requires.mem_value c.requires.at_value.0 c.requires.at_value.1 c.requires.at_value.2 c.requires.p_value c.requires.at_value.3)
