use Rattle.std.proofs.Common.{arith}
use Rattle.unit.proofs.Words.{zeros_both}
use Rattle.unit.proofs.field.zeros_at.Goals as goal

pub returns : goal.returns
returns c = zeros_both _ _ _ _ _ _ _ c.four_zero.ensures c.run_zero.ensures (omega arith)
