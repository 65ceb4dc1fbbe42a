use Rattle.std.proofs.Common.{◌≡◌, ◌+◌, ◌-◌, ◌≤◌, length, arith}
use Rattle.unit.specs.Shape.{shape_of}
use Rattle.unit.proofs.Payload.{shown}
use Rattle.unit.proofs.read.payload.Goals as goal

pub returns-in-Err : goal.returns-in-Err
returns-in-Err c =
    let a = c.args in
    let r = c.in-Err.ensures in
    let s = shown (shape_of a.mem.now) a.mem.now a.epoch a.p in
    record { part_is = rw (← r.length_is); payload_is = rw (← r.length_is) at s.part }

pub overflow_add-result : goal.overflow_add-result
overflow_add-result c =
    let a = c.args in
    let r = c.in-Ok.ensures in
    let within : c.in-Ok.seen.start + c.in-Ok.seen.length ≤ length a.mem.now = rw (r.start_is, r.length_is) (shown (shape_of a.mem.now) a.mem.now a.epoch a.p).within in
    omega (arith, within)

pub slice_bounds-result-end : goal.slice_bounds-result-end
slice_bounds-result-end c =
    let a = c.args in
    let r = c.in-Ok.ensures in
    let within : c.in-Ok.seen.start + c.in-Ok.seen.length ≤ length a.mem.now = rw (r.start_is, r.length_is) (shown (shape_of a.mem.now) a.mem.now a.epoch a.p).within in
    omega (arith, within)

pub returns-in-Ok : goal.returns-in-Ok
returns-in-Ok c =
    let a = c.args in
    let r = c.in-Ok.ensures in
    let e : c.in-Ok.seen.start + c.in-Ok.seen.length - c.in-Ok.seen.start ≡ c.in-Ok.seen.length = omega arith in
    record {
      part_is = rw (e, r.start_is, r.length_is);
      payload_is = rw (e, r.start_is, r.length_is) (shown (shape_of a.mem.now) a.mem.now a.epoch a.p).part;
    }
