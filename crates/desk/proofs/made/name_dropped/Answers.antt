use Rattle.std.proofs.Common.{◌≡◌, true, sym, ◌∙◌, arith}
use Rattle.layout.specs.Lay.{in_sets}
use Rattle.layout.proofs.Found.{contains_is}
use Rattle.layout.proofs.Dropped.{named_bad, unnamed_first, unnamed_skip, unnamed_more, unnamed_all}
use Rattle.desk.specs.InsideMade.{named_sets}
use Rattle.desk.proofs.Wishes.{named_in, few_named}
use Rattle.desk.proofs.made.name_dropped.Goals.{else-contains-via-then-contains+else-sets_name, else-contains-via-else-contains}
use Rattle.desk.proofs.made.name_dropped.Goals as goal

pub returns-then-sets-lt2 : goal.returns-then-sets-lt2
returns-then-sets-lt2 c = few_named c.args.drops.now c.args.sets.now c.if-sets-lt2.true

pub returns-then-sets_name : goal.returns-then-sets_name
returns-then-sets_name c =
    let u = c.loop-u.u-counter in
    let b = c.args.sets.now in
    let drops = c.args.drops.now in
    let dropped = contains_is u drops ∙ sym c.contains.ensures.value ∙ c.if-contains.true in
    let named : in_sets u (named_sets b) ≡ true = sym (named_in b u) ∙ sym c.sets_name.ensures ∙ c.if-sets_name.true in
    λ _. sym (named_bad drops (named_sets b) u dropped named)

pub loop-u-init : goal.loop-u-init
loop-u-init c = unnamed_first c.args.drops.now (named_sets c.args.sets.now)

pub loop-u-preserved : goal.loop-u-preserved
loop-u-preserved c =
    let u = c.loop-u.u-counter in
    let b = c.args.sets.now in
    let drops = c.args.drops.now in
    let found = contains_is u drops ∙ sym c.contains.ensures.value in
    elim c.else-contains.branch [
      | else-contains-via-then-contains+else-sets_name w ↦ unnamed_more drops (named_sets b) u c.loop-u.invariant (sym (named_in b u) ∙ sym w.sets_name.ensures ∙ w.if-sets_name.false)
      | else-contains-via-else-contains w ↦ unnamed_skip drops (named_sets b) u c.loop-u.invariant (found ∙ w.if-contains.false)
    ]

pub returns : goal.returns
returns c = unnamed_all c.args.drops.now (named_sets c.args.sets.now) c.loop-u.u-counter c.loop-u.invariant (omega arith)
