-- Units that an event leaves alone, and fresh ones.
-- Rests on UnitIs, Units and the unit's laws.
use mathlib.Core.Path.{◌≡◌, refl, sym, ap, subst, ◌∙◌}
use Prim.Native.Nat.{◌≤◌}
use Rattle.unit.specs.declared.shape.Shape.{Shape}
use Rattle.unit.specs.State.{Content, State, content_of, nothing, edge}
use Rattle.unit.specs.Unit.{fresh_unit}
use Rattle.unit.proofs.Questions.{none_stays}
use Rattle.unit.proofs.Keeping.{fresh_valid}
use Rattle.unit.proofs.Shown.{shown_fresh, shown_edge}
use Rattle.history.specs.Words.{UnitNo, Pos, Epoch}
use Rattle.history.specs.Words.Answer.{unwritten}
use Rattle.history.specs.Maps.{Map}
use Rattle.history.specs.History.{Note, Stretch, Event, History, Mark, Unmarked, sealed}
use Rattle.history.specs.History.Event.{ask, mark, seal, install}
use Rattle.history.specs.History.History.{fresh, ◌▹◌}
use Rattle.history.specs.Edges.{Edge}
use Rattle.history.specs.Safety.{Answers}
use Rattle.history.specs.Safety.Answers.{has_none}
use Rattle.history.proofs.Marks.{no_mark}
use Rattle.history.proofs.Units.{Touches, mark_touches, ask_touches, seal_touches, install_touches, answers_on, sealed_other}
use Rattle.vouch.proofs.UnitIs.{answer_of, UnitIs}

-- ---- where nothing is shown

pub none_answers : {s : Content} → s ≡ content_of nothing → answer_of s ≡ unwritten
unfolding answer_of
none_answers e = ap answer_of e ∙ rw none_stays

pub not_marked : {h : History} {u : UnitNo} {p : Pos} → Answers h u p unwritten → Unmarked h u p
not_marked (has_none unmarked) = unmarked

-- a unit's edge is one
pub edge_is : {sh : Shape} {h : History} {u : UnitNo} {M : State} → UnitIs sh h u M → Edge h u (edge M)
edge_is {sh} {h} {u} {M} is p at =
    not_marked (subst (λ r. Answers h u p r) (none_answers (shown_edge sh M p is.stays_valid at)) (is.shown_is p))

pub fresh_is : (sh : Shape) (L : Map) (u : UnitNo) → 1 ≤ u → u ≤ 8 → UnitIs sh (fresh L) u (fresh_unit u)
unfolding sealed
fresh_is sh L u least most = record {
  stays_valid = fresh_valid sh u least most;
  sealed_is = refl;
  shown_is = λ p. subst (λ r. Answers (fresh L) u p r) (sym (none_answers (shown_fresh u p))) (has_none (λ m a. no_mark));
}

-- ---- units that an event leaves alone

pub other_is : {sh : Shape} {h : History} {ev : Event} {u : UnitNo} {M : State} → ((p : Pos) → ¬ Touches ev u p) → sealed (h ▹ ev) u ≡ sealed h u → UnitIs sh h u M → UnitIs sh (h ▹ ev) u M
other_is none same is = record {
  stays_valid = is.stays_valid;
  sealed_is = is.sealed_is ∙ sym same;
  shown_is = λ p. answers_on (none p) (is.shown_is p);
}

module _ {sh : Shape} {h : History} {v : UnitNo} {M : State} (is : UnitIs sh h v M) where
  pub ask_is : {w : Note} → UnitIs sh (h ▹ ask w) v M
  unfolding sealed
  ask_is = other_is (λ p. ask_touches) refl is

  pub install_is : {L : Map} → UnitIs sh (h ▹ install L) v M
  unfolding sealed
  install_is = other_is (λ p. install_touches) refl is

  module _ {u : UnitNo} (other : ¬ (v ≡ u)) where
    pub mark_others : {e : Epoch} {ps : Stretch} {m : Mark} → UnitIs sh (h ▹ mark u e ps m) v M
    unfolding sealed
    mark_others = other_is (λ p t. other (mark_touches t).0) refl is

    pub seal_others : {n : Epoch} → UnitIs sh (h ▹ seal u n) v M
    seal_others {n} = other_is (λ p. seal_touches) (sealed_other h u v n other) is
