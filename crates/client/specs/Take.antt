-- An answer comes to a client: what it does next (docs/RULES.md, 8.1).
use Rattle.std.specs.Prelude.{ℕ, Bool, cond, ◌&&◌, eqb}
use Rattle.layout.specs.declared.Layout.{Layout}
use Rattle.layout.specs.Value.{good_value}
use Rattle.client.specs.declared.Page.{Page}
use Rattle.client.specs.declared.Reply.{Reply}
use Rattle.client.specs.declared.Response.{Response}
use Rattle.client.specs.declared.Stamp.{Stamp}
use Rattle.client.specs.declared.Work.{Work}
use Rattle.client.specs.declared.Work.TheVariants.{Append, Read, Fill, Trim, Prune, Reorganise}
use Rattle.client.specs.declared.Phase.{Phase}
use Rattle.client.specs.declared.Phase.TheVariants.{Drawing, Writing, Reading, Filling, Looking, Trimming, Pruning, Sealing, Offering, Starting}
use Rattle.client.specs.declared.Stage.{Stage}
use Rattle.client.specs.declared.Stage.TheVariants.{Idle, Fetching, Working}
use Rattle.client.specs.declared.Client.{Client}
use Rattle.client.specs.Message.{number_of, if_held}
use Rattle.client.specs.Client.{holding}
use Rattle.client.specs.Turn.{Turn, rests, ends, otherwise}
use Rattle.client.specs.Way.{head_for, tail_for}
use Rattle.client.specs.Append.{draws, on_token, on_written}
use Rattle.client.specs.Read.{reads, on_read}
use Rattle.client.specs.Fill.{fills, on_filled, on_looked}
use Rattle.client.specs.Trim.{trims, on_trimmed, prunes_on, on_pruned}
use Rattle.client.specs.Reorganise.{reorganises, on_sealed, on_offered, on_started}

-- ---- the layout is fetched

-- the first request after it
abbrev pub goes_on : Work → Client → Turn
goes_on Append c = draws c 1
goes_on (Read p) c = reads c (tail_for c)
goes_on (Fill p) c = fills c (head_for c)
goes_on (Trim p) c = trims c (head_for c)
goes_on (Prune p) c = prunes_on c 0
goes_on Reorganise c = reorganises c

-- "a fetched layout that is not good ends it with 10"
unfoldable pub holds : Client → Layout → Turn
holds c l = cond (good_value l) (goes_on c.work (holding c l)) (ends c 10)

abbrev pub on_fetched : Client → Reply → Layout → Turn
on_fetched c a l = if_held a (holds c l) (otherwise c (number_of a))

-- ---- the answer to the outstanding request

abbrev pub worked : Phase → Client → Reply → Page → Turn
worked (Drawing n) c a g = on_token c n a
worked (Writing u n) c a g = on_written c u n a
worked (Reading u) c a g = on_read c a g
worked (Filling u) c a g = on_filled c u a
worked (Looking u) c a g = on_looked c u a g
worked (Trimming u) c a g = on_trimmed c u a
worked (Pruning u) c a g = on_pruned c u a
worked (Sealing u e) c a g = on_sealed c u e a
worked (Offering p) c a g = on_offered c p a
worked Starting c a g = on_started c a

-- and so does one that it goes by already
unfoldable pub works_on : Phase → Client → Reply → Page → Turn
works_on p c a g = cond (good_value c.layout) (worked p c a g) (ends c 10)

abbrev pub answered : Stage → Client → Response → Turn
answered Idle c r = rests c
answered Fetching c r = on_fetched c r.reply r.layout
answered (Working p) c r = works_on p c r.reply r.page

-- "A request bears client, life and number; an answer to anything else is ignored"
unfoldable pub awaited : ℕ → Client → Stamp → Bool
awaited me c s = eqb s.client me && eqb s.life c.life && eqb s.number.0 c.used.0

unfoldable pub takes : ℕ → Client → Stamp → Response → Turn
takes me c s r = cond (awaited me c s) (answered c.stage c r) (rests c)
