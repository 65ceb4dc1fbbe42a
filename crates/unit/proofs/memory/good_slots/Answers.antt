use Rattle.std.proofs.Common.{ℕ, List, ◌++◌, replicate, drop, ap, ◌∙◌}
use Rattle.unit.proofs.Words.{ruler_made}
use Rattle.unit.proofs.memory.good_slots.Goals as goal

pub slots_good-requires : goal.slots_good-requires
slots_good-requires c =
    let p = c.requires in
    let made = ap (λ (xs : List ℕ). xs ++ drop 128 (replicate {A = ℕ} 208 255)) (c.fill.ensures.after (λ y e. e)) ∙ ruler_made in
    (p.0, p.1, made, p.2, p.3, p.4)
