use Rattle.std.proofs.Common.{◌∙◌, arith}
use Rattle.num.proofs.Numbers.{Bytes}
use Rattle.unit.proofs.Places.{Stands, held_stands}
use Rattle.unit.proofs.Trimming.{trim_bytes}
use Rattle.unit.proofs.trim.retire_slot.Goals as goal

pub put_slot-requires : goal.put_slot-requires
put_slot-requires c =
    let stands : Stands c.args.sh c.args.mem.now c.args.p c.args.at =
    held_stands c.args.sh c.args.mem.now c.args.p c.args.at c.requires.mem_value c.requires.at_value.0 c.requires.at_value.1 in
    omega (arith, stands)

pub returns : goal.returns
returns c =
    let stands : Stands c.args.sh c.args.mem.now c.args.p c.args.at =
    held_stands c.args.sh c.args.mem.now c.args.p c.args.at c.requires.mem_value c.requires.at_value.0 c.requires.at_value.1 in
    let bytes : Bytes c.args.mem.now = assumption in
    c.put_slot.ensures
    ∙ trim_bytes c.args.sh c.args.mem.now c.args.p c.args.at bytes c.requires.mem_value c.requires.at_value.0 c.requires.at_value.1 stands.within
