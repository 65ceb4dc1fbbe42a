use Rattle.std.proofs.Common.{sym, ◌∙◌}
use Rattle.layout.proofs.Dropped.{outside_bad}
use Rattle.desk.specs.InsideMade.{named_sets}
use Rattle.desk.proofs.made.drops_are_bad.Goals as goal

pub returns-then-are_outside : goal.returns-then-are_outside
returns-then-are_outside c = c.if-are_outside.true ∙ sym (outside_bad c.args.drops.now (named_sets c.args.sets.now) (sym c.are_outside.ensures ∙ c.if-are_outside.true))
