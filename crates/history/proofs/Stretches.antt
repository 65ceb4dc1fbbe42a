-- The positions that a stretch covers.
-- Rests on specs/History.
use mathlib.Core.Path.{◌≡◌, refl, sym, subst}
use Prim.Native.Nat.{◌<◌}
use native.Mathlib.Decide.{dec_lt, ℕ_discrete}
use Rattle.history.specs.Words.{Pos}
use Rattle.history.specs.History.{Stretch, Covers, History, Noted, MarkNoted}
use Rattle.history.specs.History.Note.{prune_to}
use Rattle.history.specs.History.Stretch.{only, up_to}
use Rattle.history.specs.History.Covers.{covers_only, covers_up_to}
use Rattle.history.specs.History.Mark.{gone}
use Rattle.history.specs.History.MarkNoted.{by_prune}

-- who asks for a prune asks for every position that it makes go
pub prune_asked : {h : History} {q : Pos} → Noted h (prune_to q) → (p : Pos) → Covers (up_to q) p → MarkNoted h p gone
prune_asked noted p (covers_up_to below) = by_prune below noted

pub only_covers : {p q : Pos} → Covers (only p) q → q ≡ p
only_covers covers_only = refl

-- what holds of p holds of all that `only p` covers
pub of_only : (P : Pos → Type 0) {p : Pos} → P p → (q : Pos) → Covers (only p) q → P q
of_only P has q covers_only = has

pub up_to_covers : {p q : Pos} → Covers (up_to q) p → p < q
up_to_covers (covers_up_to below) = below

-- what it does not cover
pub not_only : {p q : Pos} → ¬ Covers (only p) q → ¬ (p ≡ q)
not_only {p} out same = out (subst (λ x. Covers (only p) x) same covers_only)

pub not_up_to : {p q : Pos} → ¬ Covers (up_to q) p → ¬ (p < q)
not_up_to out below = out (covers_up_to below)

pub covered : (ps : Stretch) (p : Pos) → Dec (Covers ps p)
covered (only q) p = go (ℕ_discrete p q)
  where
    go : Dec (p ≡ q) → Dec (Covers (only q) p)
    go (yes same) = yes (subst (λ x. Covers (only q) x) (sym same) covers_only)
    go (no differ) = no (λ there. differ (only_covers there))
covered (up_to q) p = go (dec_lt p q)
  where
    go : Dec (p < q) → Dec (Covers (up_to q) p)
    go (yes below) = yes (covers_up_to below)
    go (no from) = no (λ there. from (up_to_covers there))
