use Prim.Native.Nat.{◌<◌}
use Rattle.std.proofs.Common.{sym, ◌∙◌, arith}
use Rattle.std.proofs.lemmas.List.{set_past}
use Rattle.layout.proofs.SpansAt.{spans_none, spans_more, spans_all}
use Rattle.layout.proofs.read.ranges_from.Goals.{then-i-lt-RANGES, else-i-lt-RANGES}
use Rattle.layout.proofs.read.ranges_from.Goals as goal

pub loop-i-init : goal.loop-i-init
loop-i-init c = rw c.blank-ranges.ensures (spans_none _ _)

pub loop-i-preserved : goal.loop-i-preserved
loop-i-preserved c =
    let left : c.loop-i.i < c.args.n = omega arith in
    elim c.if-i-lt-RANGES.branch [
      | then-i-lt-RANGES w ↦ spans_more c.loop-i.invariant _ _ left (rw w.range_from.ensures at w.ranges-is) c.behind-rest.ensures
      | else-i-lt-RANGES w ↦ spans_more c.loop-i.invariant _ _ left (w.ranges-is ∙ sym (set_past c.loop-i.ranges c.loop-i.i _ (omega arith))) c.behind-rest.ensures
    ]

pub returns : goal.returns
returns c = spans_all c.loop-i.invariant (omega arith)
