-- The holder: an offer of a layout that a reorganise has prepared (`OfferOk`) and that the holder answers with 0 is an install that may come.
-- Rests on GoodMap, Edges and the layout's laws.
use mathlib.Core.Path.{◌≡◌, refl, sym, ap, subst, ◌∙◌}
use mathlib.Core.Bool.{Bool, true, false}
use Prim.Native.Nat.{ℕ, suc, ◌≤◌, ◌<◌}
use native.Mathlib.Omega.{arith}
use borrow.Author.Tests.{eqb-true, eqb-false, ne_eqb}
use lib.Dec.{eqb}
use Rattle.layout.specs.declared.Layout.{Layout}
use Rattle.layout.specs.Value.{lay_of, good_value}
use Rattle.layout.specs.Holder.{Offered, offer_answer, offered_to, fetched_from}
use Rattle.layout.proofs.ValueOf.{value_of_good}
use Rattle.layout.proofs.OfferedTo.{installed as offered_installed, stays, shape_stays, offer_fine, fetched_good}
use Rattle.client.specs.declared.Reply.{Reply}
use Rattle.client.specs.declared.Reply.TheVariants.{Held, Fine, Refused}
use Rattle.client.specs.Message.{no_page}
use Rattle.rule.specs.Serve.{saying, fetching}
use Rattle.history.specs.Words.{UnitNo, Pos}
use Rattle.history.specs.Maps.{Map, Has, Successor}
use Rattle.history.specs.History.{History, Laid, held}
use Rattle.history.specs.Events.{MayInstall, Run}
use Rattle.history.specs.Edges.{SealedAt, EdgeAt}
use Rattle.vouch.proofs.Layouts.{map_of}
use Rattle.history.proofs.Epochs.{held_laid, laid_one}
use Rattle.history.proofs.Edges.{may_install}
use Rattle.vouch.proofs.GoodMap.{good_map, epoch_of_lem, lawful_successor, source_itself}

-- ---- what a reorganise sees to before it offers

-- It seals every unit of the new layout with the epoch of the layout that it goes by, and no edge is above a new range's start.
pub record OfferOk (h : History) (l : Layout) : Type 0 where
  pub of : Map
  pub laid : Laid h of
  pub next : l.epoch.0 ≡ suc of.epoch
  pub bound : Pos
  pub sealed_all : (u : UnitNo) → Has (map_of (lay_of l)) u → SealedAt h u of.epoch
  pub edges : (u : UnitNo) → Has (map_of (lay_of l)) u → EdgeAt h u of.epoch bound
  pub start : of.start < (map_of (lay_of l)).start → bound ≤ (map_of (lay_of l)).start

-- ---- the holder

-- each unit is its own source
record Plain (old new : Map) : Type 0 where
  successor : Successor old new
  itself : (p : Pos) (u : UnitNo) → successor.source p u ≡ u

pub install_does : {h : History} (k l : Layout) → Run h → held h ≡ map_of (lay_of k) → OfferOk h l → offer_answer k l ≡ 0 → MayInstall h (map_of (lay_of l))
install_does {h} k l run holds offer fine =
    let ok = offer_fine k l fine in
    let k_good = (value_of_good k ok.held_good).0 in
    let l_good = (value_of_good l ok.good).0 in
    let held_epoch : (held h).epoch ≡ k.epoch.0 = ap (λ (m : Map). m.epoch) holds ∙ epoch_of_lem k in
    let same : offer.of ≡ held h = laid_one run offer.laid (held_laid run) (omega (arith, offer.next, ok.next)) in
    let plain : Plain (held h) (map_of (lay_of l))
    = subst (λ m. Plain m (map_of (lay_of l))) (sym holds) (record {
      successor = lawful_successor (lay_of k) (lay_of l) k_good l_good ok.follows;
      itself = source_itself (lay_of k) (lay_of l) k_good l_good ok.follows;
    }) in
    may_install offer.bound run (good_map (lay_of l) l_good) (omega (arith, epoch_of_lem l, ok.next)) plain.successor plain.itself
    (λ u has. subst (λ m. SealedAt h u m.epoch) same (offer.sealed_all u has))
    (λ u has. subst (λ m. EdgeAt h u m.epoch offer.bound) same (offer.edges u has))
    (subst (λ m. m.start < (map_of (lay_of l)).start → offer.bound ≤ (map_of (lay_of l)).start) same offer.start)

-- what came of an offer: the answer, and the layout held afterwards
pub data OfferDone (h : History) (k l : Layout) : Reply → Layout → Type 0 where
  installed : MayInstall h (map_of (lay_of l)) → good_value l ≡ true → l.shape ≡ k.shape → OfferDone h k l Fine l
  not_installed : {n : ℕ} → ¬ (n ≡ 0) → OfferDone h k l (Refused n) k

pub offer_does : {h : History} (k l : Layout) → Run h → held h ≡ map_of (lay_of k) → OfferOk h l → OfferDone h k l (saying (offered_to k l).answer) (offered_to k l).held
offer_does {h} k l run holds offer = go (eqb (offer_answer k l) 0) refl
  where
    go : (b : Bool) → eqb (offer_answer k l) 0 ≡ b → OfferDone h k l (saying (offered_to k l).answer) (offered_to k l).held
    go true e =
        let fine = eqb-true (offer_answer k l) 0 e in
        subst (λ (o : Offered). OfferDone h k l (saying o.answer) o.held) (offered_installed k l fine)
        (installed (install_does k l run holds offer fine) (offer_fine k l fine).good (ap (λ (o : Offered). o.held.shape) (offered_installed k l fine) ∙ shape_stays k l))
    go false e =
        let refused = eqb-false (offer_answer k l) 0 e in
        subst (λ (o : Offered). OfferDone h k l (saying o.answer) o.held) (stays k l (offer_answer k l) refl refused)
        (rw (ne_eqb (offer_answer k l) 0 refused) (not_installed refused))

pub fetch_does : (k : Layout) → good_value k ≡ true → fetching (fetched_from k) ≡ record { reply = Held; page = no_page; layout = k }
unfolding fetching
fetch_does k good = sym (ap fetching (fetched_good k good))
