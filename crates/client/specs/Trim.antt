-- Trim: head to tail. Prune: every unit of the layout in rising number (docs/RULES.md, 8.2).
use Rattle.std.specs.Prelude.{ℕ, cond, eqb}
use Rattle.client.specs.declared.UnitAsk.TheVariants.{Trim, Prune}
use Rattle.client.specs.declared.Ask.TheVariants.{Unit}
use Rattle.client.specs.declared.Reply.{Reply}
use Rattle.client.specs.declared.Phase.TheVariants.{Trimming, Pruning}
use Rattle.client.specs.declared.Client.{Client}
use Rattle.client.specs.Message.{number_of, plain, if_fine}
use Rattle.client.specs.Client.{in_phase}
use Rattle.client.specs.Turn.{Turn, ends, sends, otherwise}
use Rattle.client.specs.Way.{after_for, unit_above}

abbrev pub trims : Client → ℕ → Turn
trims c u = sends (in_phase c (Trimming u)) (plain (Unit u (Trim c.layout.epoch c.position)))

-- head to tail
unfoldable pub trims_on : Client → ℕ → Turn
trims_on c u = cond (eqb (after_for c u) 0) (ends c 0) (trims c (after_for c u))

abbrev pub on_trimmed : Client → ℕ → Reply → Turn
on_trimmed c u a = if_fine a (trims_on c u) (otherwise c (number_of a))

abbrev pub prunes : Client → ℕ → Turn
prunes c u = sends (in_phase c (Pruning u)) (plain (Unit u (Prune c.layout.epoch c.position)))

-- every unit of the layout in rising number: from 0 on, the first
unfoldable pub prunes_on : Client → ℕ → Turn
prunes_on c u = cond (eqb (unit_above c.layout u) 0) (ends c 0) (prunes c (unit_above c.layout u))

abbrev pub on_pruned : Client → ℕ → Reply → Turn
on_pruned c u a = if_fine a (prunes_on c u) (otherwise c (number_of a))
