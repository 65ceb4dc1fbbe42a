-- Append: take a token, write head to tail (docs/RULES.md, 8.2).
use Rattle.std.specs.Prelude.{ℕ, ◌+◌, cond, ◌||◌, eqb, ltb}
use Rattle.num.specs.Limits.{limit}
use Rattle.num.specs.declared.Position.{Position}
use Rattle.client.specs.declared.UnitAsk.TheVariants.{Write}
use Rattle.client.specs.declared.Ask.TheVariants.{Token, Unit}
use Rattle.client.specs.declared.Reply.{Reply}
use Rattle.client.specs.declared.Phase.TheVariants.{Drawing, Writing}
use Rattle.client.specs.declared.Client.{Client}
use Rattle.client.specs.Message.{number_of, plain, bearing, if_given, if_fine}
use Rattle.client.specs.Client.{token_limit, in_phase, at_position}
use Rattle.client.specs.Turn.{Turn, rests, ends, sends, otherwise}
use Rattle.client.specs.Way.{head_for, after_for}

-- takes the nth token
abbrev pub draws : Client → ℕ → Turn
draws c n = sends (in_phase c (Drawing n)) (plain (Token c.layout.epoch))

-- writes at u, with the nth token
abbrev pub writes : Client → ℕ → ℕ → Turn
writes c u n = sends (in_phase c (Writing u n)) (bearing (Unit u (Write c.layout.epoch c.position)) c.page)

-- a token that no sequencer gives never answers
unfoldable pub writes_at : Client → ℕ → Position → Turn
writes_at c n p = cond (ltb p.0 limit) (writes (at_position c p) (head_for (at_position c p)) n) (rests c)

abbrev pub on_token : Client → ℕ → Reply → Turn
on_token c n a = if_given a (λ p. writes_at c n p) (otherwise c (number_of a))

-- head to tail. After the tail: done at p
unfoldable pub writes_on : Client → ℕ → ℕ → Turn
writes_on c u n = cond (eqb (after_for c u) 0) (ends c 0) (writes c (after_for c u) n)

-- "Head answers 5 or 6: take another token, 8 tokens in all, then end with that number"
unfoldable pub not_at_head : Client → ℕ → ℕ → Turn
not_at_head c n k = cond (eqb k 5 || eqb k 6) (cond (ltb n token_limit) (draws c (n + 1)) (ends c k)) (otherwise c k)

-- "6 at a later unit counts as fine there"
unfoldable pub not_later : Client → ℕ → ℕ → ℕ → Turn
not_later c u n k = cond (eqb k 6) (writes_on c u n) (otherwise c k)

unfoldable pub not_written : Client → ℕ → ℕ → ℕ → Turn
not_written c u n k = cond (eqb u (head_for c)) (not_at_head c n k) (not_later c u n k)

abbrev pub on_written : Client → ℕ → ℕ → Reply → Turn
on_written c u n a = if_fine a (writes_on c u n) (not_written c u n (number_of a))
