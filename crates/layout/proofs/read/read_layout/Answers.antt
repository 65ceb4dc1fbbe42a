use Rattle.std.proofs.Common.{sym, ◌∙◌}
use Rattle.layout.proofs.LayoutWritten.{read, not_good, not_own}
use Rattle.layout.proofs.read.read_layout.Goals.{else-is_good-via-then-is_good+else-are_own, else-is_good-via-else-is_good}
use Rattle.layout.proofs.read.read_layout.Goals as goal

pub returns-then-are_own : goal.returns-then-are_own
returns-then-are_own c = read _ _ c.parsed-l.ensures (sym c.is_good.ensures ∙ c.if-is_good.true) (sym c.are_own.ensures ∙ c.if-are_own.true)

pub returns-else-is_good : goal.returns-else-is_good
returns-else-is_good c = elim c.else-is_good.branch [
  | else-is_good-via-then-is_good+else-are_own w ↦ not_own _ _ c.parsed-l.ensures (sym c.is_good.ensures ∙ w.if-is_good.true) (sym w.are_own.ensures ∙ w.if-are_own.false)
  | else-is_good-via-else-is_good w ↦ not_good _ _ c.parsed-l.ensures (sym c.is_good.ensures ∙ w.if-is_good.false)
]
