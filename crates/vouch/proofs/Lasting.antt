-- No event undoes what a letter, a waiting client or an outcome vouches for.
-- Rests on Meaning, Moments and Edges.
use Prim.Native.Nat.{◌≤◌}
use native.Mathlib.Omega.{arith}
use Rattle.layout.specs.declared.Layout.{Layout}
use Rattle.client.specs.declared.Page.{Page as PageValue}
use Rattle.client.specs.declared.Ask.{Ask}
use Rattle.client.specs.declared.Response.{Response}
use Rattle.client.specs.declared.Work.{Work}
use Rattle.client.specs.declared.Work.TheVariants as work
use Rattle.client.specs.declared.Stage.{Stage}
use Rattle.client.specs.declared.Phase.TheVariants.{Drawing, Writing, Reading, Filling, Looking, Trimming, Pruning, Sealing, Offering, Starting}
use Rattle.client.specs.declared.Stage.TheVariants.{Idle, Fetching, Working}
use Rattle.client.specs.declared.Client.{Client}
use Rattle.num.specs.declared.Position.{Position}
use Rattle.history.specs.Words.{UnitNo, Pos, Epoch, Answer}
use Rattle.history.specs.History.{History, ◌⊑◌, Mark, held}
use Rattle.history.specs.History.◌⊑◌.{here, later}
use Rattle.history.specs.Events.{Run}
use Rattle.history.specs.Events.Run.{run_step}
use Rattle.history.proofs.Moments.{part_trans, noted_on, mark_noted_on, laid_on, by_on, walked_on}
use Rattle.history.proofs.Epochs.{held_rises}
use Rattle.history.proofs.Edges.{sealed_at_on, edge_at_on}
use Rattle.vouch.proofs.Offers.{OfferOk}
use Rattle.vouch.proofs.Meaning.{AskOk, Saw, Means, WorkOk, Fetched, Walking, StageOk}
use Rattle.vouch.proofs.Meaning.AskOk.{fetch_ok, token_ok, write_ok, look_ok, trim_ok, prune_ok, seal_ok, offer_ok, start_ok}
use Rattle.vouch.proofs.Meaning.Means.{means_held, means_token, means_wrote, means_written, means_no_write, means_shown, means_trimmed, means_unwritten, means_no_read, means_cut, means_no_cut, means_pruned, means_no_prune, means_edges, means_no_seal, means_installed, means_no_install, means_start}

pub held_later : {h₁ h₂ : History} → Run h₂ → h₁ ⊑ h₂ → (held h₁).epoch ≤ (held h₂).epoch
held_later run here = omega arith
held_later (run_step {h} {ev} run may) (later part) = omega (arith, held_later run part, held_rises h ev may)

module _ {h₁ h₂ : History} (run : Run h₂) (part : h₁ ⊑ h₂) where
  pub saw_on : {u : UnitNo} {e : Epoch} {p : Pos} {r : Answer} → Saw h₁ u e p r → Saw h₂ u e p r
  saw_on ok = record { moment = ok.moment; past = part_trans ok.past part; by = ok.by; epoch_is = ok.epoch_is; takes = ok.takes; answers = ok.answers }

  pub offer_on : {l : Layout} → OfferOk h₁ l → OfferOk h₂ l
  offer_on ok = record {
    of = ok.of;
    laid = laid_on part ok.laid;
    next = ok.next;
    bound = ok.bound;
    sealed_all = λ u has. sealed_at_on run part (ok.sealed_all u has);
    edges = λ u has. edge_at_on run part (ok.sealed_all u has) (ok.edges u has);
    start = ok.start;
  }

  -- ---- requests

  pub ask_on : {a : Ask} {g : PageValue} {k : Layout} → AskOk h₁ a g k → AskOk h₂ a g k
  ask_on fetch_ok = fetch_ok
  ask_on token_ok = token_ok
  ask_on (write_ok ok) = write_ok (walked_on part ok)
  ask_on (look_ok ok) = look_ok (record { by = ok.by; laid = laid_on part ok.laid; epoch_is = ok.epoch_is; serves = ok.serves })
  ask_on (trim_ok ok) = trim_ok (walked_on part ok)
  ask_on (prune_ok ok) = prune_ok (walked_on part ok)
  ask_on (seal_ok {e = e} low small) = seal_ok {e = e} (omega (arith, held_later run part)) small
  ask_on (offer_ok ok) = offer_ok (offer_on ok)
  ask_on (start_ok {e = e} low) = start_ok {e = e} (omega (arith, held_later run part))

  -- ---- answers

  pub means_on : {a : Ask} {g : PageValue} {k : Layout} {r : Response} → Means h₁ a g k r → Means h₂ a g k r
  means_on (means_held laid good) = means_held (laid_on part laid) good
  means_on means_token = means_token
  means_on (means_wrote mk) = means_wrote (by_on part mk)
  means_on (means_written ok) =
      means_written (record { by = ok.by; laid = laid_on part ok.laid; epoch_is = ok.epoch_is; has_it = λ v before. by_on part (ok.has_it v before) })
  means_on (means_no_write other) = means_no_write other
  means_on (means_shown saw) = means_shown (saw_on saw)
  means_on (means_trimmed saw) = means_trimmed (saw_on saw)
  means_on (means_unwritten saw) = means_unwritten (saw_on saw)
  means_on (means_no_read a b c) = means_no_read a b c
  means_on (means_cut mk) = means_cut (by_on part mk)
  means_on means_no_cut = means_no_cut
  means_on (means_pruned mks) = means_pruned (λ p below. by_on part (mks p below))
  means_on means_no_prune = means_no_prune
  means_on (means_edges s e) = means_edges (sealed_at_on run part s) (edge_at_on run part s e)
  means_on means_no_seal = means_no_seal
  means_on (means_installed {k = k} low) = means_installed {k = k} (omega (arith, held_later run part))
  means_on means_no_install = means_no_install
  means_on means_start = means_start

  -- ---- clients

  work_on : (w : Work) (p : Position) (g : PageValue) → WorkOk h₁ w p g → WorkOk h₂ w p g
  work_on work.Append p g ok = noted_on part ok
  work_on (work.Read q) p g ok = ok
  work_on (work.Fill q) p g (asked, low) = (mark_noted_on part asked, low)
  work_on (work.Trim q) p g (asked, low) = (noted_on part asked, low)
  work_on (work.Prune q) p g ok = noted_on part ok
  work_on work.Reorganise p g ok = tt

  pub fetched_on : {l : Layout} → Fetched h₁ l → Fetched h₂ l
  fetched_on ok = record { laid = laid_on part ok.laid; is_good_lem = ok.is_good_lem }

  walking_on : {l : Layout} {p : Pos} {u : UnitNo} {m : Mark} → Walking h₁ l p u m → Walking h₂ l p u m
  walking_on ok = record { fetched = fetched_on ok.fetched; low = ok.low; serves = ok.serves; behind = λ v serves lt. by_on part (ok.behind v serves lt) }

  pub stage_on : (c : Client) (st : Stage) → StageOk h₁ c st → StageOk h₂ c st
  stage_on c Idle ok = tt
  stage_on c Fetching ok = work_on c.work c.position c.page ok
  stage_on c (Working (Drawing n)) ok = record { for_append = ok.for_append; fetched = fetched_on ok.fetched; asked = noted_on part ok.asked }
  stage_on c (Working (Writing u n)) ok = record { for_append = ok.for_append; walk = walking_on ok.walk; asked = noted_on part ok.asked }
  stage_on c (Working (Reading u)) ok = record { is_read = ok.is_read; fetched = fetched_on ok.fetched; low = ok.low; is_tail = ok.is_tail }
  stage_on c (Working (Filling u)) ok = record { filled = ok.filled; is_fill = ok.is_fill; walk = walking_on ok.walk; asked = mark_noted_on part ok.asked }
  stage_on c (Working (Looking u)) ok = record { filled = ok.filled; is_fill = ok.is_fill; fetched = fetched_on ok.fetched; low = ok.low; serves = ok.serves; is_head = ok.is_head }
  stage_on c (Working (Trimming u)) ok = record { trimmed_there = ok.trimmed_there; is_trim = ok.is_trim; walk = walking_on ok.walk; asked = noted_on part ok.asked }
  stage_on c (Working (Pruning u)) ok = record {
    pruned_there = ok.pruned_there;
    is_prune = ok.is_prune;
    fetched = fetched_on ok.fetched;
    has = ok.has;
    behind = λ v has lt p below. by_on part (ok.behind v has lt p below);
    asked = noted_on part ok.asked;
  }
  stage_on c (Working (Sealing u x)) ok = record {
    is_reorganise = ok.is_reorganise;
    fetched = fetched_on ok.fetched;
    plan_fine = ok.plan_fine;
    plan_is = ok.plan_is;
    sealed_behind = λ v has lt. sealed_at_on run part (ok.sealed_behind v has lt);
    edges_behind = λ v has lt. edge_at_on run part (ok.sealed_behind v has lt) (ok.edges_behind v has lt);
  }
  stage_on c (Working (Offering p)) ok = record { is_reorganise = ok.is_reorganise; fetched = fetched_on ok.fetched; offer = offer_on ok.offer }
  stage_on c (Working Starting) ok = record { is_reorganise = ok.is_reorganise; fetched = fetched_on ok.fetched; low = omega (arith, held_later run part, ok.low) }
