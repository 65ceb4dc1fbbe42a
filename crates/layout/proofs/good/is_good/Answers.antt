use native.Mathlib.Omega.{arith}
use Rattle.layout.specs.Value.{lay_of, no_range}
use Rattle.layout.proofs.GoodValue.{decided}
use Rattle.layout.proofs.good.is_good.Goals as goal

pub returns : goal.returns
unfolding lay_of
returns c =
    let l = c.args.l in
    rw (c.sets_used.ensures, c.ranges-2.ensures, c.good_ranges.ensures, c.good_sets.ensures)
    (rw (c.size-ranges.ensures.0, c.size-sets.ensures.0)
    (decided l no_range ((omega arith)) ((omega arith)) (omega arith)))
