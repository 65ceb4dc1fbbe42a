use Rattle.std.proofs.Common.{◌≡◌, ◌∷◌, [], length, map, take, sym, ◌∙◌}
use Rattle.std.proofs.lemmas.List.{length-map}
use Rattle.num.specs.Bytes.{le_bytes}
use Rattle.layout.specs.Lay.{units_of}
use Rattle.layout.specs.Value.{lay_of, units_in, span_in}
use Rattle.layout.specs.Codec.{counted, sets_bytes, spans_bytes, bytes_of, encode}
use Rattle.layout.specs.InsideGrowing.{grown}
use Rattle.layout.proofs.Grown.{grown_append, grown_whole, le_four}
use Rattle.layout.proofs.encoded.bytes_of.Goals as goal

pub returns : goal.returns
unfolding bytes_of encode lay_of
returns c =
    let l = c.args.l in
    let sets = map units_in (take l.set_count l.sets) in
    let spans = map span_in (take l.range_count l.ranges) in
    let sections : grown (grown (grown (grown (grown [] (le_bytes 4 l.epoch.0)) (l.shape ∷ [])) (counted (units_of sets))) (length sets ∷ sets_bytes sets)) (length spans ∷ spans_bytes spans) ≡ grown [] (bytes_of l)
    = sym (simp grown_append) in
    rw (c.push_ranges.ensures, c.push_sets.ensures, c.push_units.ensures, c.push.ensures, c.extend.ensures, c.empty-e.ensures, c.to_le_bytes.ensures, ← le_four l.epoch.0, c.sets.ensures, c.sets-2.ensures, c.ranges-2.ensures, ← length-map (take l.set_count l.sets) units_in, ← length-map (take l.range_count l.ranges) span_in)
    (sections ∙ grown_whole l c.requires)
