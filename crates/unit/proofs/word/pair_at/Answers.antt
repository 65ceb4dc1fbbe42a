use Rattle.std.proofs.Common.{◌+◌, ◌-◌, ◌∙◌, arith}
use Rattle.unit.proofs.Words.{pair_read}
use Rattle.unit.proofs.word.pair_at.Goals as goal

pub returns : goal.returns
returns c =
    let at = c.args.at in
    let chunk = rw c.unwrap.ensures at c.try_into.ensures.1 in
    c.from.ensures ∙ c.from_le_bytes.ensures ∙ pair_read at (at + 2 - at) c.args.bytes.now _ chunk.same (omega arith) (omega arith)
