use Rattle.std.proofs.Common.{arith}
use Rattle.num.proofs.Numbers.{Bytes}
use Rattle.unit.proofs.Goodness.{is_good_lem, slots_within}
use Rattle.unit.proofs.Encoding.{unchanged}
use Rattle.unit.proofs.Pruning.{floor_below, floor_above}
use Rattle.unit.proofs.prune.raise_floor.Goals as goal

pub word_at-requires : goal.word_at-requires
word_at-requires c = omega (arith, is_good_lem _ _ c.requires.0)

pub pair_at-count-requires : goal.pair_at-count-requires
pair_at-count-requires c = omega (arith, is_good_lem _ _ c.requires.0)

pub place-passed-requires : goal.place-passed-requires
place-passed-requires c =
    let g = is_good_lem c.args.sh c.args.mem.now c.requires.0 in
    (slots_within c.args.sh c.args.mem.now g.size _ (rw c.pair_at-count.ensures g.header.count), rw c.pair_at-count.ensures g.slots)

pub cut-requires : goal.cut-requires
cut-requires c = record { mem_value = c.requires.0; count_value = (c.pair_at-count.ensures, c.place-passed.ensures, c.requires.1) }

pub returns-then-word_at-p : goal.returns-then-word_at-p
returns-then-word_at-p c =
    rw (floor_below c.args.sh c.args.mem.now _ c.args.p c.word_at.ensures c.if-word_at-p.true) c.cut.ensures

pub returns-else-word_at-p : goal.returns-else-word_at-p
returns-else-word_at-p c =
    let bytes : Bytes c.args.mem.now = assumption in
    unchanged c.args.sh c.args.mem.now bytes c.requires.0 (floor_above c.args.sh c.args.mem.now _ c.args.p c.word_at.ensures c.if-word_at-p.false)
