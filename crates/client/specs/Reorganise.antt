-- Reorganise: seal every unit of the new layout with the held epoch, in rising number; offer the layout; start the sequencer (docs/RULES.md, 8.3).
use Rattle.std.specs.Prelude.{ℕ, cond, eqb}
use Rattle.num.specs.declared.Edges.{Edges}
use Rattle.num.specs.declared.Position.{Position}
use Rattle.num.specs.Edges.{no_edges, largest, within}
use Rattle.client.specs.declared.UnitAsk.TheVariants.{Seal}
use Rattle.client.specs.declared.Ask.TheVariants.{Unit, Start}
use Rattle.client.specs.declared.Reply.{Reply}
use Rattle.client.specs.declared.Phase.TheVariants.{Sealing, Offering, Starting}
use Rattle.client.specs.declared.Client.{Client}
use Rattle.client.specs.Message.{number_of, plain, offering, if_fine, if_edged}
use Rattle.client.specs.Client.{in_phase, planning}
use Rattle.client.specs.Turn.{Turn, rests, ends, sends, otherwise}
use Rattle.client.specs.Way.{unit_above, plan_for, start_for}

-- seals u with the held epoch, e being the largest edges so far
abbrev pub seals : Client → ℕ → Edges → Turn
seals c u e = sends (in_phase c (Sealing u e)) (plain (Unit u (Seal c.layout.epoch)))

-- offers the layout; p is where the sequencer is to start
abbrev pub offers : Client → Position → Turn
offers c p = sends (in_phase c (Offering p)) (offering c.plan)

-- the new range, if any, starts at the largest of all edges and the last start plus 1: 9 where that would be 2^40
unfoldable pub all_sealed : Client → Edges → Turn
all_sealed c e = cond (eqb (start_for c e).answer 0) (offers (planning c (start_for c e).layout) (start_for c e).first) (ends c (start_for c e).answer)

-- every unit of the new layout, in rising number; new units too
unfoldable pub seals_on : Client → ℕ → Edges → Turn
seals_on c u e = cond (eqb (unit_above c.plan u) 0) (all_sealed c e) (seals c (unit_above c.plan u) e)

-- "Reorganise checks 15, 10, 13, 14 before it seals anything"
unfoldable pub reorganises : Client → Turn
reorganises c = cond (eqb (plan_for c).answer 0) (seals_on (planning c (plan_for c).layout) 0 no_edges) (ends c (plan_for c).answer)

-- edges that no unit tells never answer
unfoldable pub edges_taken : Client → ℕ → Edges → Edges → Turn
edges_taken c u e x = cond (within x) (seals_on c u (largest e x)) (rests c)

abbrev pub on_sealed : Client → ℕ → Edges → Reply → Turn
on_sealed c u e a = if_edged a (λ x. edges_taken c u e x) (otherwise c (number_of a))

-- then start the sequencer at the new epoch
abbrev pub starts : Client → Position → Turn
starts c p = sends (in_phase c Starting) (plain (Start c.plan.epoch p))

abbrev pub on_offered : Client → Position → Reply → Turn
on_offered c p a = if_fine a (starts c p) (otherwise c (number_of a))

-- "Sequencer says 4: outcome 11"
unfoldable pub not_started : Client → ℕ → Turn
not_started c k = cond (eqb k 4) (ends c 11) (otherwise c k)

abbrev pub on_started : Client → Reply → Turn
on_started c a = if_fine a (ends c 0) (not_started c (number_of a))
