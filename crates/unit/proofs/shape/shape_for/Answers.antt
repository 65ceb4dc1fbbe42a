use Rattle.std.proofs.Common.{sym, eq-eqb, ne_eqb}
use Rattle.unit.specs.Shape.{shape_for}
use Rattle.unit.proofs.shape.shape_for.Goals as goal

pub returns-then-code-eq-LARGE : goal.returns-then-code-eq-LARGE
unfolding shape_for
returns-then-code-eq-LARGE c = sym (rw (eq-eqb _ 1 c.if-code-eq-LARGE.true))

pub returns : goal.returns
unfolding shape_for
returns c = sym (rw (ne_eqb _ 1 c.if-code-eq-LARGE.false))
