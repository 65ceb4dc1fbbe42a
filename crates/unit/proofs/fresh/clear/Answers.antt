use Rattle.std.proofs.Common.{ℕ, List, set, replicate, ap, ◌∙◌}
use Rattle.unit.proofs.Freshness.{fresh_bytes}
use Rattle.unit.proofs.fresh.clear.Goals as goal

pub returns : goal.returns
returns c =
    let clean = c.fill.ensures.after (λ y e. e) ∙ ap (λ (n : ℕ). replicate n 0) c.requires in
    ap (λ (r : List ℕ). set (set r 0 c.args.number) 1 c.args.sh.code) clean ∙ fresh_bytes c.args.sh c.args.number
