use mathlib.Core.Path.{◌∙◌}
use Rattle.script.proofs.Tags.{append_whole}
use Rattle.script.proofs.step.append_at.Goals as goal

pub returns : goal.returns
returns c =
    (rw (c.append.ensures, c.byte_at.ensures) at c.sized.ensures)
    ∙ append_whole c.args.b.now _ c.byte_at-len.result c.from.result c.copy_counted.new.out c.byte_at-len.ensures c.from.ensures c.copy_counted.ensures
