use Rattle.std.proofs.Common.{arith}
use Rattle.layout.proofs.Assembled.{assembled_is}
use Rattle.layout.proofs.plan.new_layout.Goals as goal

pub returns : goal.returns
returns c =
    rw (c.from-2.ensures, c.add_range.ensures, c.from-3.ensures, c.add_sets.ensures, c.from.ensures, c.thin_sets-kept.ensures)
    (assembled_is c.args.held c.args.drops.now c.args.wish c.requires (omega arith))
