use Prim.Native.Nat.{◌<◌}
use Rattle.std.proofs.Common.{◌≡◌, length, arith}
use Rattle.std.proofs.lemmas.List.{same_lists, length-map, get_or-map}
use Rattle.layout.specs.Value.{no_chain}
use Rattle.layout.specs.Plan.{thinned}
use Rattle.layout.proofs.plan.thin_sets.Goals as goal

pub returns : goal.returns
returns c =
    let sixteen : length c.args.sets ≡ 16 = omega arith in
    same_lists _ _ (omega (arith, length-map c.args.sets (thinned c.args.drops.now), c.map.ensures.items.long))
    (λ k d h. let within : k < 16 = omega (arith, c.map.ensures.items.long) in grind (arith, get_or-map (thinned c.args.drops.now) c.args.sets k no_chain d, (c.map.ensures.items.at k no_chain d within).2))
