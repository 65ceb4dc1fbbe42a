use Rattle.std.proofs.Common.{◌+◌, ◌-◌, ◌∷◌, ◌++◌, length, replicate}
use Rattle.num.specs.Bytes.{le_bytes}
use Rattle.num.proofs.Storing.{stored_both}
use Rattle.unit.proofs.Stores.{slot_parts, fields_length}
use Rattle.unit.proofs.write.put_slot.Goals as goal

pub returns : goal.returns
returns c =
    let a = c.args in
    let n = length a.bytes.now in
    rw (slot_parts a.cap a.p a.kind a.bytes.now)
    (stored_both a.mem.now _ _ a.at (a.at + 16) (le_bytes 8 a.p ++ (a.kind ∷ n ∷ replicate 6 0)) (a.bytes.now ++ replicate (a.cap - n) 0)
    c.put_fields.ensures c.put_payload.ensures (fields_length a.at a.p a.kind n))
