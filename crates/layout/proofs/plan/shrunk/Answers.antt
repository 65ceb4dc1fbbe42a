use Rattle.std.proofs.Common.{◌≡◌, ◌≤◌, length, refl, sym, ap, ◌∙◌, arith, length-take}
use Rattle.layout.specs.Value.{chain_of}
use Rattle.layout.specs.Plan.{without}
use Rattle.layout.proofs.Found.{contains_is}
use Rattle.layout.proofs.Without.{thinned_drop, thinned_keep, thinned_all}
use Rattle.layout.proofs.plan.shrunk.Goals.{then-not-contains, else-not-contains}
use Rattle.layout.proofs.plan.shrunk.Goals as goal

pub loop-u-preserved : goal.loop-u-preserved
loop-u-preserved c =
    let found = contains_is _ _ ∙ sym c.contains.ensures.value in
    elim c.if-not-contains.branch [
      | then-not-contains w ↦ rw (w.kept-is, w.from.ensures) (thinned_keep c.loop-u.invariant c.loop-u-test.true _ refl (found ∙ w.if-not-contains.true))
      | else-not-contains w ↦ rw w.kept-is (thinned_drop c.loop-u.invariant c.loop-u-test.true _ refl (found ∙ w.if-not-contains.false))
    ]

pub returns : goal.returns
returns c =
    let four : length c.args.c.now.units ≡ 4 = omega arith in
    let few : length c.units-u-items.result.now ≤ 4 = rw (c.units-u-items.ensures, length-take) (omega arith) in
    thinned_all c.loop-u.invariant few (omega arith) ∙ ap (λ us. chain_of (without c.args.drops.now us)) c.units-u-items.ensures
