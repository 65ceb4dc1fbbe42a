use Rattle.std.proofs.Common.{◌≡◌, map, drop}
use Rattle.layout.specs.Value.{span_in}
use Rattle.layout.specs.Successor.{keeps_spans}
use Rattle.layout.proofs.successor.keeps_spans.Given as goal

abbrev pub invariant-loop-o : goal.invariant-loop-o
invariant-loop-o l = keeps_spans l.last (map span_in (drop l.o-index l.old)) (map span_in l.rest) ≡ keeps_spans 0 (map span_in l.old) (map span_in l.new)
