use native.Mathlib.Omega.{arith}
use mathlib.Core.Path.{◌≡◌, ap}
use mathlib.Core.List.{[]}
use Rattle.layout.specs.declared.Chain.{Chain}
use lib.ListN.{length, get_or, length-set, length-take}
use Rattle.script.proofs.Putting.{lay_none, lay_fits, lay_more, lay_all, small_at, sets_put}
use Rattle.script.proofs.write.put_sets.Goals as goal

abbrev no_chain : Chain
no_chain = record { count = 0; units = [] }

pub loop-c-init : goal.loop-c-init
loop-c-init c = lay_none _ _ _ (rw (c.sets-c-items.ensures, length-set) (omega (arith, c.requires.1.1)))

pub put_counted-requires : goal.put_counted-requires
put_counted-requires c =
    let us = ap length c.units-units.ensures in
    let small = small_at _ c.loop-c.c-index no_chain (rw (← c.sets-c-items.ensures) at c.requires.1.0) c.loop-c-test.true in
    let d : Chain = get_or c.sets-c-items.result.now c.loop-c.c-index no_chain in
    (omega (arith, us, lay_fits c.loop-c.invariant no_chain c.loop-c-test.true), omega (arith, us, small, length-take d.count d.units))

pub loop-c-preserved : goal.loop-c-preserved
loop-c-preserved c =
    lay_more c.loop-c.invariant no_chain _ _ c.loop-c-test.true (rw c.units-units.ensures) (rw c.units-units.ensures at c.put_counted.ensures)

pub returns : goal.returns
returns c =
    let room : length c.args.wish.sets ≡ 16 = omega arith in
    sets_put c.args.wish c.args.out.now c.loop-c.out c.args.at c.requires.0 room (rw c.sets-c-items.ensures at (lay_all c.loop-c.invariant c.loop-c-test.false))
