use Rattle.std.proofs.Common.{arith}
use Rattle.unit.proofs.Stores.{blank_over}
use Rattle.unit.proofs.write.put_payload.Goals as goal

pub put_bytes-requires : goal.put_bytes-requires
put_bytes-requires c = omega arith

pub returns : goal.returns
returns c =
    let a = c.args in
    blank_over a.mem.now _ _ a.at a.cap a.bytes.now c.put_blank.ensures c.put_bytes.ensures c.requires.1 c.requires.0
