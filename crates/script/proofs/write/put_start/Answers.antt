use native.Mathlib.Omega.{arith}
use mathlib.Core.Path.{◌≡◌, sym}
use lib.ListN.{length, take, length-take, length-drop}
use lib.Seq.{length-take-le}
use Rattle.script.proofs.Putting.{put_unwanted, put_short, put_whole, mid_sets}
use Rattle.script.proofs.Starting.{start_other, start_refused, start_taken, start_count, start_few, part_long, start_part, start_size, number_put, start_put}
use Rattle.script.proofs.write.put_start.Goals as goal

pub returns-then-layout-ne1 : goal.returns-then-layout-ne1
returns-then-layout-ne1 c = put_unwanted _ _ _ _ (start_other c.args.layout c.if-layout-ne1.true)

pub returns-in_default : goal.returns-in_default
returns-in_default c = put_unwanted _ _ _ _ (start_refused c.args.layout c.in_default.field-0 c.in_default.ensures)

pub overflow_add-n : goal.overflow_add-n
overflow_add-n c = omega (arith, start_few c.args.layout c.in-Ok.ensures)

pub returns-in_err-room : goal.returns-in_err-room
returns-in_err-room c =
    rw c.from_residual.ensures (put_short _ _ _ _ _ (start_size c.args.layout c.in-Ok.n c.args.count (start_count c.args.layout c.in-Ok.ensures)) c.in_err-room.ensures)

pub slice_bounds-part-end : goal.slice_bounds-part-end
slice_bounds-part-end c = omega (arith, start_few c.args.layout c.in-Ok.ensures, part_long c.args.layout c.in-Ok.ensures)

pub slice_bounds-copy_from_slice-end-2 : goal.slice_bounds-copy_from_slice-end-2
slice_bounds-copy_from_slice-end-2 c =
    sym (length-take-le c.in-Ok.n c.write_layout.new.out (omega (arith, start_few c.args.layout c.in-Ok.ensures, part_long c.args.layout c.in-Ok.ensures)))

pub copy_from_slice-requires : goal.copy_from_slice-requires
copy_from_slice-requires c =
    let w = c.in-Ok.ensures in
    let few = start_few c.args.layout w in
    let long = (number_put 2 0 c.in-Ok.n c.args.out.now c.put_number.new.bytes (omega (arith, c.in_ok-room.ensures.0)) c.put_number.ensures).1 in
    rw (length-take, length-drop, length-take) (omega (arith, few, long, part_long c.args.layout w, c.in_ok-room.ensures.0))

pub returns : goal.returns
returns c =
    let l = c.args.layout in
    let n = c.in-Ok.n in
    let w = c.in-Ok.ensures in
    let out = c.args.out.now in
    let first = c.put_number.new.bytes in
    let part = c.write_layout.new.out in
    let fits = c.in_ok-room.ensures.0 in
    let long = (number_put 2 0 n out first (omega (arith, fits)) c.put_number.ensures).1 in
    let len : length (take n part) ≡ n = length-take-le n part (omega (arith, start_few l w, part_long l w)) in
    let put = mid_sets first 2 _ (take n part) c.copy_from_slice.new.self c.copy_from_slice.ensures.after (omega (arith, len)) (omega (arith, len, long, fits)) in
    put_whole _ _ _ _ _ _ (start_taken l w c.if-layout-ne1.false) (start_size l n c.args.count (start_count l w)) fits
    (start_put l n c.args.count out first _ _ part (start_count l w) (start_part l w) fits c.put_number.ensures put (rw c.from.ensures at c.put_number-2.ensures))
