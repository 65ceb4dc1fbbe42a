-- Every run is safe: the statement of specs/Safety.
-- Rests on what is settled, and on law B.
use mathlib.Core.Path.{◌≡◌, refl, sym, subst}
use Prim.Native.Nat.{◌≤◌}
use native.Mathlib.Omega.{arith}
use native.Mathlib.Decide.{dec_le}
use Rattle.history.specs.Words.{Pos, Page, Answer}
use Rattle.history.specs.Words.Answer.{shows, trimmed}
use Rattle.history.specs.Maps.{Map}
use Rattle.history.specs.History.{History, ◌⊑◌, MarkNoted, Mark, MarkedBy, held}
use Rattle.history.specs.History.Mark.{page, gone}
use Rattle.history.specs.Events.{Run}
use Rattle.history.specs.Safety.{Answers, Read, Settled, After, Safe}
use Rattle.history.specs.Safety.Answers.{has_page, has_gone, has_none}
use Rattle.history.specs.Safety.After.{that_page, trim_asked}
use Rattle.history.proofs.Order.{last_in}
use Rattle.history.proofs.Moments.{run_part}
use Rattle.history.proofs.Epochs.{laid_by}
use Rattle.history.proofs.Marks.{page_one, mark_asked}
use Rattle.history.proofs.Settled.{tail_settles, settled_on, settled_later, settled_agree}

-- ---- a read that returns a page, or "trimmed", shows what the whole set has

pub page_settled : {h : History} {L : Map} {p : Pos} {X : Page} → Run h → Read h L p (shows X) → Settled h L p (page X)
page_settled {h} {L} {p} {X} run r = go r.answers
  where
    go : Answers h r.tail p (shows X) → Settled h L p (page X)
    go (has_page mk still) = tail_settles run r.is_tail r.takes mk

pub gone_settled : {h : History} {L : Map} {p : Pos} → Run h → Read h L p trimmed → Settled h L p gone
gone_settled {h} {L} {p} run r = go r.answers
  where
    go : Answers h r.tail p trimmed → Settled h L p gone
    go (has_gone mk) = tail_settles run r.is_tail r.takes mk

-- ---- what is settled, a read finds at its tail, if no later layout is in force

pub tail_has : {h₁ h₂ : History} {L₁ L₂ : Map} {p : Pos} {m : Mark} {r : Answer} → Run h₂ → h₁ ⊑ h₂ → Settled h₁ L₁ p m → (read : Read h₂ L₂ p r) →
    (held h₂).epoch ≤ L₂.epoch → MarkedBy h₂ read.tail p m L₂.epoch
tail_has run part s read in_force =
    let now = settled_on part s in
    (settled_later run read.takes.laid (omega (arith, laid_by run now.laid)) now).all read.tail (last_in read.is_tail)

-- ---- the four sentences

module _ {h : History} (run : Run h) where
  agree : {h₁ h₂ : History} {L₁ L₂ : Map} {p : Pos} {X Y : Page} → h₁ ⊑ h → h₂ ⊑ h → Read h₁ L₁ p (shows X) → Read h₂ L₂ p (shows Y) → X ≡ Y
  agree {L₁ = L₁} {L₂} {p} {X} {Y} part₁ part₂ r₁ r₂ = go (dec_le L₁.epoch L₂.epoch)
    where
      s₁ : Settled h L₁ p (page X)
      s₁ = settled_on part₁ (page_settled (run_part part₁ run) r₁)

      s₂ : Settled h L₂ p (page Y)
      s₂ = settled_on part₂ (page_settled (run_part part₂ run) r₂)

      go : Dec (L₁.epoch ≤ L₂.epoch) → X ≡ Y
      go (yes le) = settled_agree r₂.tail run le s₁ s₂ (last_in r₂.is_tail)
      go (no gt) = sym (settled_agree r₁.tail run (omega arith) s₂ s₁ (last_in r₁.is_tail))

  asked : {h₁ : History} {L : Map} {p : Pos} {X : Page} → h₁ ⊑ h → Read h₁ L p (shows X) → MarkNoted h₁ p (page X)
  asked part r = mark_asked (run_part part run) ((page_settled (run_part part run) r).all r.tail (last_in r.is_tail)).marked

  stays : {h₁ h₂ : History} {L₁ L₂ : Map} {p : Pos} {X : Page} {r : Answer} →
      h₁ ⊑ h₂ → h₂ ⊑ h → Settled h₁ L₁ p (page X) → Read h₂ L₂ p r → (held h₂).epoch ≤ L₂.epoch → After h₂ p X r
  stays {h₂ = h₂} {L₂ = L₂} {p} {X} part part₂ s read in_force = go read.answers
    where
      run₂ : Run h₂
      run₂ = run_part part₂ run

      mk : MarkedBy h₂ read.tail p (page X) L₂.epoch
      mk = tail_has run₂ part s read in_force

      go : {r : Answer} → Answers h₂ read.tail p r → After h₂ p X r
      go (has_page other still) = subst (λ Y. After h₂ p X (shows Y)) (page_one run₂ mk.marked other) that_page
      go (has_gone away) = trim_asked (mark_asked run₂ away)
      go (has_none none) = absurd (none _ _ mk.marked)

  gone_stays : {h₁ h₂ : History} {L₁ L₂ : Map} {p : Pos} {r : Answer} →
      h₁ ⊑ h₂ → h₂ ⊑ h → Settled h₁ L₁ p gone → Read h₂ L₂ p r → (held h₂).epoch ≤ L₂.epoch → r ≡ trimmed
  gone_stays {h₂ = h₂} {L₂ = L₂} {p} part part₂ s read in_force = go read.answers
    where
      mk : MarkedBy h₂ read.tail p gone L₂.epoch
      mk = tail_has (run_part part₂ run) part s read in_force

      go : {r : Answer} → Answers h₂ read.tail p r → r ≡ trimmed
      go (has_page other still) = absurd (still _ mk.marked)
      go (has_gone away) = refl
      go (has_none none) = absurd (none _ _ mk.marked)

  -- Every run is safe.
  pub safe : Safe h
  safe = record {
    reads_agree = agree;
    read_asked = asked;
    after_done = λ part part₂ s read in_force. stays part part₂ s read (omega (arith, in_force));
    trimmed_stays = λ part part₂ read₁ read in_force.
        gone_stays part part₂ (gone_settled (run_part part (run_part part₂ run)) read₁) read (omega (arith, in_force));
  }
