use Rattle.std.proofs.Common.{arith}
use Rattle.unit.proofs.Tags.{tag_length}
use Rattle.unit.proofs.memory.length_of.Goals as goal

pub returns : goal.returns
returns c = (omega arith, tag_length c.args.tag c.args.t c.args.turn (omega arith) (omega arith) c.requires.0 c.requires.1)
