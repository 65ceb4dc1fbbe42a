-- The const is the table of the rules, row for row.
use Rattle.std.proofs.Common.{refl}
use Rattle.marked.specs.Table.{rows}
use Rattle.marked.proofs.table.table.Goals as goal

pub returns : goal.returns
unfolding rows
returns c = refl
