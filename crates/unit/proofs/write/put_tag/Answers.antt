use Rattle.std.proofs.Common.{◌≡◌, ◌+◌, ◌∷◌, set, replicate, ◌∙◌, refl, add-one, arith, length-set}
use native.Mathlib.Numerals.{add-two}
use Rattle.std.proofs.lemmas.List.Edits.{sets}
use Rattle.unit.proofs.Stores.{part_zeros}
use Rattle.unit.proofs.write.put_tag.Goals as goal

pub returns : goal.returns
returns c =
    let a = c.args in
    let m = set (set a.mem.now a.at a.kind) (a.at + 1) a.len in
    let e : sets m (a.at + 2) (replicate 6 0) ≡ sets a.mem.now a.at (a.kind ∷ a.len ∷ replicate 6 0) = rw (add-one, add-two) refl in
    part_zeros (a.at + 2) _ 6 m _ (c.fill.ensures.after (λ y e. e)) (omega arith) (simp length-set (omega arith)) ∙ e
