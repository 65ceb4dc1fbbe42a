use Rattle.std.proofs.Common.{◌&&◌, refl, rules}
use Rattle.std.proofs.Math.Dec.{eqb}
use Rattle.std.proofs.lemmas.List.Recursion.{and_is}
use Rattle.layout.specs.Value.{no_range, blank_ranges}
use Rattle.layout.proofs.good.no_ranges.Goals as goal

pub returns : goal.returns
unfolding blank_ranges
returns c = and_is blank_ranges (λ r. eqb r.start.0 0 && eqb r.sets 0) refl (λ _ _. refl) c.args.ranges.now no_range _ (search rules) (search rules)
