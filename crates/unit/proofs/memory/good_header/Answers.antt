use Rattle.std.proofs.Common.{refl}
use Rattle.unit.proofs.Goodness.{header_words}
use Rattle.unit.proofs.memory.good_header.Goals as goal

pub returns : goal.returns
returns c =
    header_words _ _ _ _ _ _ _ refl refl c.pair_at.ensures c.word_at.ensures c.word_at-2.ensures
    c.requires.1
