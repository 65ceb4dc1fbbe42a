use Rattle.yard.proofs.Memories.{test_one}
use Rattle.yard.proofs.units.good_unit.Goals as goal

pub returns : goal.returns
returns c =
    let a = c.args in
    rw (c.is_good.ensures, c.number_at.ensures, c.number_at-2.ensures, c.from.ensures) (test_one a.shape a.number a.mem.now)
