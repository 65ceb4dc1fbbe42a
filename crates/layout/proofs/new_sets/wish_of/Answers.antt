use Rattle.layout.proofs.AreSets.{wish_said_lem}
use Rattle.layout.proofs.new_sets.wish_of.Goals as goal

pub returns : goal.returns
returns c = wish_said_lem _ _ _ c.byte_at-count.ensures (rw c.behind.ensures at c.sets_from.ensures.sets)
