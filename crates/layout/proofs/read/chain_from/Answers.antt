use Rattle.std.proofs.Common.{arith}
use Rattle.layout.proofs.SetsAt.{chain_read}
use Rattle.layout.proofs.read.chain_from.Goals as goal

pub returns : goal.returns
returns c = chain_read c.args.b.now c.from_fn-units.result c.byte_at-count.result c.byte_at-count.ensures c.from_fn-units.ensures.items.long
    (λ k h. grind (arith, (c.from_fn-units.ensures.items.at k 0 h).2))
