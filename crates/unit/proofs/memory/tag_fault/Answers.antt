use Rattle.std.proofs.Common.{◌≡◌, ◌+◌, ◌%◌, ◌^◌, ◌≤◌, arith}
use Rattle.unit.proofs.Tags.{tag_faults}
use Rattle.unit.proofs.memory.tag_fault.Goals as goal

pub returns : goal.returns
returns c =
    let a = c.args in
    let below = (a.turn + 18446744073709551615) % 18446744073709551616 in
    let facts = tag_faults a.cap a.tag a.t a.turn below _ _ c.requires.0 (omega arith) (omega arith) (omega arith) c.requires.1 c.requires.2 (omega arith)
    c.fault.ensures.0 c.fault.ensures.1 c.fault-2.ensures.0 c.fault-2.ensures.1 in
    (omega arith, facts.1)
