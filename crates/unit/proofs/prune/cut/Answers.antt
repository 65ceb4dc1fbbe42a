use Rattle.std.proofs.Common.{◌+◌, ◌*◌, ◌≤◌, length, arith}
use Rattle.num.proofs.Numbers.{Bytes}
use Rattle.unit.specs.Shape.{slot_size}
use Rattle.unit.proofs.Goodness.{is_good_lem, slots_within}
use Rattle.unit.proofs.Pruning.{prune_bytes, passed_few}
use Rattle.unit.proofs.prune.cut.Goals as goal

pub overflow_add-sh : goal.overflow_add-sh
overflow_add-sh c = omega (arith, c.requires.count_value.2)

pub overflow_mul-passed : goal.overflow_mul-passed
overflow_mul-passed c =
    let few : (c.args.passed ≤ c.args.count) × (24 + c.args.passed * slot_size c.args.sh.cap ≤ length c.args.mem.now) =
    let w = is_good_lem c.args.sh c.args.mem.now c.requires.mem_value in
    let k = passed_few c.args.sh c.args.mem.now c.args.p c.args.count c.args.passed c.requires.count_value.1 in
    (k, slots_within c.args.sh c.args.mem.now w.size c.args.passed (omega (arith, k, c.requires.count_value.0, w.header.count))) in
    omega (arith, few)

pub close_gap-requires : goal.close_gap-requires
close_gap-requires c =
    let few : (c.args.passed ≤ c.args.count) × (24 + c.args.passed * slot_size c.args.sh.cap ≤ length c.args.mem.now) =
    let w = is_good_lem c.args.sh c.args.mem.now c.requires.mem_value in
    let k = passed_few c.args.sh c.args.mem.now c.args.p c.args.count c.args.passed c.requires.count_value.1 in
    (k, slots_within c.args.sh c.args.mem.now w.size c.args.passed (omega (arith, k, c.requires.count_value.0, w.header.count))) in
    omega (arith, few)

pub put_number-requires : goal.put_number-requires
put_number-requires c =
    let few : (c.args.passed ≤ c.args.count) × (24 + c.args.passed * slot_size c.args.sh.cap ≤ length c.args.mem.now) =
    let w = is_good_lem c.args.sh c.args.mem.now c.requires.mem_value in
    let k = passed_few c.args.sh c.args.mem.now c.args.p c.args.count c.args.passed c.requires.count_value.1 in
    (k, slots_within c.args.sh c.args.mem.now w.size c.args.passed (omega (arith, k, c.requires.count_value.0, w.header.count))) in
    omega (arith, few, c.close_gap.auto)

pub overflow_sub-count : goal.overflow_sub-count
overflow_sub-count c =
    let few : (c.args.passed ≤ c.args.count) × (24 + c.args.passed * slot_size c.args.sh.cap ≤ length c.args.mem.now) =
    let w = is_good_lem c.args.sh c.args.mem.now c.requires.mem_value in
    let k = passed_few c.args.sh c.args.mem.now c.args.p c.args.count c.args.passed c.requires.count_value.1 in
    (k, slots_within c.args.sh c.args.mem.now w.size c.args.passed (omega (arith, k, c.requires.count_value.0, w.header.count))) in
    omega (arith, few)

pub put_number-requires-2 : goal.put_number-requires-2
put_number-requires-2 c =
    let few : (c.args.passed ≤ c.args.count) × (24 + c.args.passed * slot_size c.args.sh.cap ≤ length c.args.mem.now) =
    let w = is_good_lem c.args.sh c.args.mem.now c.requires.mem_value in
    let k = passed_few c.args.sh c.args.mem.now c.args.p c.args.count c.args.passed c.requires.count_value.1 in
    (k, slots_within c.args.sh c.args.mem.now w.size c.args.passed (omega (arith, k, c.requires.count_value.0, w.header.count))) in
    omega (arith, few, c.put_number.auto, c.close_gap.auto)

pub returns : goal.returns
returns c =
    let bytes : Bytes c.args.mem.now = assumption in
    rw (c.put_number-2.ensures, c.put_number.ensures, c.close_gap.ensures)
    (prune_bytes c.args.sh c.args.mem.now c.args.p c.args.count c.args.passed bytes c.requires.mem_value c.requires.count_value.0 c.requires.count_value.1)
