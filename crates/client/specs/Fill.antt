-- Fill: write junk at the head. On 6, read the head and carry its page instead. Then on to the tail; 6 at a later unit counts as fine (docs/RULES.md, 8.2).
use Rattle.std.specs.Prelude.{ℕ, cond, eqb}
use Rattle.client.specs.declared.UnitAsk.TheVariants.{Write, Read}
use Rattle.client.specs.declared.Ask.TheVariants.{Unit}
use Rattle.client.specs.declared.Page.{Page}
use Rattle.client.specs.declared.Reply.{Reply}
use Rattle.client.specs.declared.Phase.TheVariants.{Filling, Looking}
use Rattle.client.specs.declared.Client.{Client}
use Rattle.client.specs.Message.{is_showable, number_of, plain, bearing, if_fine, if_shown}
use Rattle.client.specs.Client.{in_phase, carrying}
use Rattle.client.specs.Turn.{Turn, rests, ends, sends, otherwise}
use Rattle.client.specs.Way.{head_for, after_for}

-- writes the page carried at u: junk, or what the head holds
abbrev pub fills : Client → ℕ → Turn
fills c u = sends (in_phase c (Filling u)) (bearing (Unit u (Write c.layout.epoch c.position)) c.page)

-- reads the head
abbrev pub looks : Client → ℕ → Turn
looks c u = sends (in_phase c (Looking u)) (plain (Unit u (Read c.layout.epoch c.position)))

-- on to the tail
unfoldable pub fills_on : Client → ℕ → Turn
fills_on c u = cond (eqb (after_for c u) 0) (ends c 0) (fills c (after_for c u))

-- "On 6, read the head"; "6 at a later unit counts as fine"
unfoldable pub not_filled : Client → ℕ → ℕ → Turn
not_filled c u k = cond (eqb k 6) (cond (eqb u (head_for c)) (looks c u) (fills_on c u)) (otherwise c k)

abbrev pub on_filled : Client → ℕ → Reply → Turn
on_filled c u a = if_fine a (fills_on c u) (not_filled c u (number_of a))

-- "and carry its page instead"; a page that no unit shows never answers
unfoldable pub page_carried : Client → ℕ → Page → Turn
page_carried c u g = cond (is_showable g) (fills_on (carrying c g) u) (rests c)

abbrev pub on_looked : Client → ℕ → Reply → Page → Turn
on_looked c u a g = if_shown a (page_carried c u g) (otherwise c (number_of a))
