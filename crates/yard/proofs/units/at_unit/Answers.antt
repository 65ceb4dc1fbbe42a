use Rattle.std.proofs.Common.{◌≡◌, ◌+◌, ◌-◌, arith}
use Rattle.num.proofs.Numbers.{Bytes}
use Rattle.unit.specs.Memory.{code_of}
use Rattle.yard.proofs.Memories.{good_long, part_good, unit_numbered, at_part}
use Rattle.yard.proofs.units.at_unit.Goals as goal

pub slice_bounds-ask_unit-end : goal.slice_bounds-ask_unit-end
slice_bounds-ask_unit-end c = omega (arith, good_long (code_of c.args.units.now) 1 8 c.args.units.now c.requires.units_value, c.start_of-start.ensures.1)

pub ask_unit-requires : goal.ask_unit-requires
ask_unit-requires c =
    let e : c.start_of-start.result + 6168 - c.start_of-start.result ≡ 6168 = omega arith in
    rw (e, c.start_of-start.ensures.0) (part_good (code_of c.args.units.now) 1 8 c.args.units.now (c.args.u - 1) c.requires.units_value (unit_numbered c.args.u c.requires.u_value).1)

pub returns : goal.returns
returns c =
    let f = c.start_of-start.ensures.0 in
    let e : c.start_of-start.result + 6168 - c.start_of-start.result ≡ 6168 = omega arith in
    let bytes : Bytes c.args.units.now = assumption in
    at_part (code_of c.args.units.now) c.args.units.now c.args.u c.args.ask c.args.page bytes c.requires.units_value (unit_numbered c.args.u c.requires.u_value).1 e f c.ask_unit.ensures
