use Rattle.std.proofs.Common.{◌≡◌, drop}
use Rattle.num.proofs.Numbers.{number_below}
use Rattle.layout.specs.Codec.{past_units}
use Rattle.layout.proofs.Decode.{parsed_is}
use Rattle.layout.proofs.read.parsed.Goals as goal

pub overflow_cast-epoch : goal.overflow_cast-epoch
overflow_cast-epoch c = record { fits = rw c.number_at-epoch.ensures (number_below 4 0 _ c.type_inv.b) }

pub returns : goal.returns
returns c =
    let units : c.behind-past_units.result.now ≡ past_units c.args.b.now = rw (← c.byte_at.ensures, ← c.size.ensures.0) c.behind-past_units.ensures in
    let sets : c.behind.result.now ≡ drop 1 (past_units c.args.b.now) = rw units at c.behind.ensures in
    parsed_is c.args.b.now _ _ _ _ _ _ _ c.number_at-epoch.ensures c.byte_at-2.ensures (rw units at c.byte_at-set_count.ensures)
    (rw sets at c.sets_from.ensures.sets) (rw sets at c.sets_from.ensures.rest) c.byte_at-range_count.ensures (rw c.behind-2.ensures at c.ranges_from.ensures)
