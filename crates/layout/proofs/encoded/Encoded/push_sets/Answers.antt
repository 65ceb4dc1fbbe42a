use Rattle.std.proofs.Common.{◌≡◌, ◌+◌, map, drop, get_or, sym, ◌∙◌}
use Rattle.std.proofs.lemmas.List.{at_drop_more}
use Rattle.layout.specs.Value.{units_in}
use Rattle.layout.specs.Codec.{counted, sets_bytes}
use Rattle.layout.specs.InsideGrowing.{grown, written}
use Rattle.layout.proofs.Take.{past_sets}
use Rattle.layout.proofs.Grown.{grown_append}
use Rattle.layout.proofs.encoded.Encoded.push_sets.Goals as goal

pub loop-c-preserved : goal.loop-c-preserved
unfolding sets_bytes
loop-c-preserved c =
    let cs = c.args.sets.now in
    let i = c.loop-c.c-index in
    let before = written c.loop-c.self in
    let next = get_or cs i past_sets in
    let rest = sets_bytes (map units_in (drop (i + 1) cs)) in
    let step : grown before (sets_bytes (map units_in (drop i cs))) ≡ grown (grown before (counted (units_in next))) rest
    = at_drop_more (λ xs. grown before (sets_bytes (map units_in xs))) cs i past_sets c.loop-c-test.true ∙ grown_append (counted (units_in next)) rest before in
    rw c.push_chain.ensures (sym step ∙ c.loop-c.invariant)
