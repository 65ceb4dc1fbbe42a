use Rattle.std.proofs.Common.{◌∙◌}
use Rattle.unit.proofs.Sealing.{edge_behind, written_behind}
use Rattle.unit.proofs.good.Good.edges.Goals as goal

pub returns : goal.returns
returns c =
    let m = c.args.self.now in
    rw (c.edge_behind.ensures ∙ edge_behind m.shape m.mem.now _ c.count.ensures, c.edge_behind-2.ensures ∙ written_behind m.shape m.mem.now _ c.written_count.ensures)
