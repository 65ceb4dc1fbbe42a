use Rattle.std.proofs.Common.{◌+◌, ◌-◌, ◌∙◌, arith}
use Rattle.unit.proofs.Words.{word_read}
use Rattle.unit.proofs.word.word_at.Goals as goal

pub returns : goal.returns
returns c =
    let at = c.args.at in
    let chunk = rw c.unwrap.ensures at c.try_into.ensures.1 in
    c.from_le_bytes.ensures ∙ word_read at (at + 8 - at) c.args.bytes.now _ chunk.same (omega arith) (omega arith)
