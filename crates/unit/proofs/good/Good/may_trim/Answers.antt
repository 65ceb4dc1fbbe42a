use Rattle.std.proofs.Common.{drop}
use Rattle.unit.specs.Memory.{decode, count_of}
use Rattle.unit.specs.Unit.{says}
use Rattle.unit.proofs.Places.{slots_length}
use Rattle.unit.proofs.Questions.{none_held}
use Rattle.unit.proofs.good.Good.may_trim.Goals as goal

pub returns : goal.returns
unfolding decode says
returns c =
    let m = c.args.self.now in
    rw (c.lowest.ensures, c.when.ensures, c.when-2.ensures, c.when-3.ensures, c.from.ensures, c.sealed.ensures, c.floor.ensures, none_held _ _ c.is_none.ensures, c.count.ensures, c.requires, slots_length m.shape.cap (count_of m.mem.now) (drop 24 m.mem.now))
