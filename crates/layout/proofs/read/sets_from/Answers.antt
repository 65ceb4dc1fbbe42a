use Prim.Native.Nat.{◌<◌}
use Rattle.std.proofs.Common.{sym, ◌∙◌, arith}
use Rattle.std.proofs.lemmas.List.{set_past}
use Rattle.layout.proofs.SetsAt.{sets_none, sets_more, sets_all}
use Rattle.layout.proofs.read.sets_from.Goals.{then-i-lt-SETS, else-i-lt-SETS}
use Rattle.layout.proofs.read.sets_from.Goals as goal

pub loop-i-init : goal.loop-i-init
loop-i-init c = rw c.blank-sets.ensures (sets_none _ _)

pub loop-i-preserved : goal.loop-i-preserved
loop-i-preserved c =
    let more = sets_more c.loop-i.invariant c.chain_from-c.result in
    let left : c.loop-i.i < c.args.n = omega arith in
    let rest = rw c.size.ensures.0 at c.behind-rest.ensures in
    elim c.if-i-lt-SETS.branch [
      | then-i-lt-SETS w ↦ more _ _ left c.chain_from-c.ensures w.sets-is rest
      | else-i-lt-SETS w ↦ more _ _ left c.chain_from-c.ensures (w.sets-is ∙ sym (set_past c.loop-i.sets c.loop-i.i c.chain_from-c.result (omega arith))) rest
    ]

pub returns-clause-sets : goal.returns-clause-sets
returns-clause-sets c = (sets_all c.loop-i.invariant (omega arith)).0

pub returns-clause-rest : goal.returns-clause-rest
returns-clause-rest c = (sets_all c.loop-i.invariant (omega arith)).1
