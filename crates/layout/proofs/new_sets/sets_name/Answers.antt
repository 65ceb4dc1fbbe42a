use mathlib.Core.Bool.{and-true, and-false}
use native.Mathlib.Nat.{sub-zero}
use Rattle.std.proofs.Common.{refl, sym, ◌∙◌, arith}
use Rattle.layout.specs.Codec.{are_sets}
use Rattle.layout.proofs.AreSets.{name_more, name_all, sets_named}
use Rattle.layout.proofs.new_sets.sets_name.Goals as goal

pub loop-i-init : goal.loop-i-init
loop-i-init c = rw (sub-zero, c.behind-rest.ensures)

pub loop-i-preserved : goal.loop-i-preserved
loop-i-preserved c =
    name_more c.args.unit c.args.b.now _ c.loop-i._i c.loop-i.found c.loop-i.rest.now c.holds-found.result c.chain_from-c.result _ (omega arith) c.chain_from-c.ensures
    (rw c.size.ensures.0 at c.behind-rest-in-loop-i.ensures) c.holds-found.ensures c.loop-i.invariant

pub returns-then-found : goal.returns-then-found
returns-then-found c =
    let b = c.args.b.now in
    let named = rw c.byte_at-i-end.ensures at (name_all c.args.unit b _ c.loop-i._i c.loop-i.found c.loop-i.rest.now (omega arith) c.loop-i.invariant) in
    sym (and-true c.are_sets.result) ∙ (rw c.if-found.true at (sets_named b c.args.unit c.are_sets.result c.loop-i.found c.are_sets.ensures named))

pub returns-else-found : goal.returns-else-found
returns-else-found c =
    let b = c.args.b.now in
    let named = rw c.byte_at-i-end.ensures at (name_all c.args.unit b _ c.loop-i._i c.loop-i.found c.loop-i.rest.now (omega arith) c.loop-i.invariant) in
    c.if-found.false ∙ sym (and-false (are_sets b)) ∙ (rw c.if-found.false at (sets_named b c.args.unit (are_sets b) c.loop-i.found refl named))
