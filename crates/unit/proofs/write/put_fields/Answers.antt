use Rattle.std.proofs.Common.{◌+◌, ◌∷◌, replicate}
use Rattle.num.specs.Bytes.{le_bytes}
use Rattle.num.proofs.Storing.{stored_both}
use Rattle.unit.proofs.Stores.{number_length}
use Rattle.unit.proofs.write.put_fields.Goals as goal

pub returns : goal.returns
returns c =
    let a = c.args in
    stored_both a.mem.now _ _ a.at (a.at + 8) (le_bytes 8 a.p) (a.kind ∷ a.len ∷ replicate 6 0) c.put_number.ensures c.put_tag.ensures (number_length a.at a.p)
