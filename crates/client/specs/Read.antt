-- Read: ask the tail. The outcome bears the epoch (docs/RULES.md, 8.2).
use Rattle.std.specs.Prelude.{cond, ℕ}
use Rattle.client.specs.declared.UnitAsk.TheVariants.{Read}
use Rattle.client.specs.declared.Ask.TheVariants.{Unit}
use Rattle.client.specs.declared.Page.{Page}
use Rattle.client.specs.declared.Reply.{Reply}
use Rattle.client.specs.declared.Phase.TheVariants.{Reading}
use Rattle.client.specs.declared.Client.{Client}
use Rattle.client.specs.Message.{is_showable, number_of, plain, if_shown}
use Rattle.client.specs.Client.{in_phase}
use Rattle.client.specs.Turn.{Turn, rests, over, sends, otherwise}

-- asks u
abbrev pub reads : Client → ℕ → Turn
reads c u = sends (in_phase c (Reading u)) (plain (Unit u (Read c.layout.epoch c.position)))

-- a page that no unit shows never answers
unfoldable pub page_taken : Client → Page → Turn
page_taken c g = cond (is_showable g) (over c 0 g) (rests c)

abbrev pub on_read : Client → Reply → Page → Turn
on_read c a g = if_shown a (page_taken c g) (otherwise c (number_of a))
