use Rattle.unit.proofs.memory.masked.Goals as goal

pub returns : goal.returns
returns c = cc
