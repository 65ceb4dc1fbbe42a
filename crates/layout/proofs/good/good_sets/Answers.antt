use Rattle.std.proofs.Common.{arith}
use Rattle.std.proofs.lemmas.Grind.{common_steps}
use Rattle.layout.specs.Value.{lay_of}
use Rattle.layout.proofs.Take.{past_front}
use Rattle.layout.proofs.TidyChains.{chains_split}
use Rattle.layout.proofs.good.good_sets.Goals as goal

pub returns-then-good_chains : goal.returns-then-good_chains
unfolding lay_of
returns-then-good_chains c = grind (arith, common_steps, chains_split c.args.l.set_count c.args.l.sets, past_front c.args.l.set_count c.args.l.sets)
