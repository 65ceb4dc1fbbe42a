use Rattle.std.proofs.Common.{◌≡◌, ℕ, ◌-◌, length, replicate, ap, ◌∙◌, arith}
use Rattle.std.proofs.lemmas.List.Edits.{sets}
use Rattle.unit.proofs.Stores.{part_zeros, close_zeros}
use Rattle.unit.proofs.store.close_gap.Goals as goal

pub returns : goal.returns
returns c =
    let was = c.args.mem.now in
    let n = c.args.size in
    let mem = c.copy_within.new.self in
    let same : length mem ≡ length was = c.copy_within.ensures.len in
    let blank = part_zeros (length mem - n) _ n mem _ (c.fill.ensures.after (λ y e. e)) (omega arith) (omega arith) in
    close_zeros was mem _ c.args.at n c.requires c.copy_within.ensures.after (blank ∙ ap (λ (i : ℕ). sets mem (i - n) (replicate n 0)) same)
