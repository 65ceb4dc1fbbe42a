use mathlib.Core.Path.{◌≡◌}
use lib.ListN.{length}
use Rattle.play.proofs.Running.{Going}
use Rattle.play.proofs.run.Given as goal

abbrev pub invariant-loop-n : goal.invariant-loop-n
invariant-loop-n l =
    Going l.file l.from l.initial.out l.kept l.units l.out l.shown l.at l.n × ((length l.units ≡ length l.initial.units) × (length l.out ≡ length l.initial.out))
