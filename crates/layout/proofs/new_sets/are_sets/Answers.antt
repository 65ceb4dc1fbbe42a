use native.Mathlib.Nat.{sub-zero}
use Rattle.std.proofs.Common.{arith}
use Rattle.layout.proofs.AreSets.{scan_none, scan_more, scan_all, good_more, good_all, are_sets_lem}
use Rattle.layout.proofs.new_sets.are_sets.Goals as goal

pub loop-i-init : goal.loop-i-init
loop-i-init c = (scan_none _ _, rw sub-zero)

pub overflow_add-past-in-loop-i : goal.overflow_add-past-in-loop-i
overflow_add-past-in-loop-i c = omega arith

pub loop-i-preserved : goal.loop-i-preserved
loop-i-preserved c =
    let r = c.chain_from-c.result in
    let read = rw c.behind.ensures at c.chain_from-c.ensures in
    let t = c.size.ensures.0 in (
      scan_more c.loop-i.invariant.0 r c.size.result (omega arith) read t (omega arith),
      good_more _ _ c.loop-i._i c.loop-i.past c.loop-i.ok c.good_chain-ok.result r c.size.result (omega arith) read t c.good_chain-ok.ensures c.loop-i.invariant.1,
    )

pub returns : goal.returns
returns c =
    let b = c.args.b.now in
    let n = c.byte_at-i-end.ensures in
    are_sets_lem b c.loop-i.ok c.loop-i.past (rw n at (good_all b _ c.loop-i._i c.loop-i.past c.loop-i.ok (omega arith) c.loop-i.invariant.1)) (rw n at (scan_all c.loop-i.invariant.0 (omega arith)))
