use Rattle.std.proofs.Common.{◌≡◌, ◌&&◌, ◌-◌, drop}
use Rattle.layout.specs.Lay.{good_sets}
use Rattle.layout.specs.Codec.{sets_at}
use Rattle.layout.proofs.AreSets.{Scanned}
use Rattle.layout.proofs.new_sets.are_sets.Given as goal

abbrev pub invariant-loop-i : goal.invariant-loop-i
invariant-loop-i l = Scanned l.b l._i-end l._i l.past × ((l.ok && good_sets (sets_at (l._i-end - l._i) (drop l.past l.b))) ≡ good_sets (sets_at l._i-end (drop 1 l.b)))
