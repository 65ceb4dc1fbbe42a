use mathlib.Core.Path.{◌∙◌}
use Rattle.script.proofs.Putting.{seek_bytes}
use Rattle.script.proofs.write.put_seek.Goals as goal

pub returns : goal.returns
returns c = rw (c.put_number.ensures ∙ seek_bytes c.args.tag c.args.client c.args.position) at c.put_bytes.ensures
