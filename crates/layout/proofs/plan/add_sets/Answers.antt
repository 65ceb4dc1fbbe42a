use Prim.Native.Nat.{◌+◌, ◌-◌, ◌≤◌}
use Rattle.std.proofs.Common.{◌≡◌, length, take, drop, sym, ◌∙◌, arith, length-take, append_assoc}
use Rattle.std.proofs.lemmas.List.Edits.{sets-eq}
use Rattle.std.proofs.lemmas.List.{drop-drop}
use Rattle.layout.proofs.plan.add_sets.Goals as goal

pub returns : goal.returns
returns c =
    let a = c.args in
    let new = take a.wish.count a.wish.sets in
    let room : length a.old ≡ 16 = omega arith in
    let width : a.at + length new - a.at ≡ length new = omega arith in
    let fits : a.at + length new ≤ length a.old = omega (arith, room, length-take a.wish.count a.wish.sets) in
    rw (c.copy_from_slice.ensures.after, c.sets-new.ensures, width, drop-drop) (sym (sets-eq new a.old a.at fits ∙ append_assoc (take a.at a.old) new (drop (a.at + length new) a.old)))
