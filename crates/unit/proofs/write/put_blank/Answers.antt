use Rattle.std.proofs.Common.{◌-◌, ◌+◌, length, replicate, ap, ◌∙◌, arith}
use Rattle.std.proofs.Math.Seq.{length-sets}
use Rattle.unit.proofs.Stores.{part_zeros, zeros_both}
use Rattle.unit.proofs.write.put_blank.Goals as goal

pub returns : goal.returns
returns c =
    let a = c.args in
    let first = c.min-first.result in
    let one = part_zeros a.at _ first a.mem.now _ (c.fill.ensures.after (λ y e. e)) (omega arith) (omega arith) in
    let long = ap length one ∙ length-sets a.mem.now a.at (replicate first 0) in
    let two = part_zeros (a.at + first) _ (a.count - first) _ _ (c.fill-2.ensures.after (λ y e. e)) (omega arith) (omega (arith, long)) in
    zeros_both a.mem.now _ _ a.at first (a.count - first) a.count one two (omega arith)
