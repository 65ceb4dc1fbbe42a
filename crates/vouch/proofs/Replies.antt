-- A client that waits, and an answer that means what it says: whatever the client does next, it vouches for it.
-- Rests on Appends, Fills, Cuts and Reorganises.
use mathlib.Core.Path.{◌≡◌, refl, sym, ap, subst, ◌∙◌}
use native.Mathlib.Omega.{arith}
use Rattle.num.proofs.Tests.{false_true}
use Rattle.layout.specs.declared.Layout.{Layout}
use Rattle.layout.specs.Value.{lay_of}
use Rattle.layout.specs.Places.{set_at}
use Rattle.client.specs.declared.Page.{Page as PageValue}
use Rattle.client.specs.declared.Reply.TheVariants.{Held}
use Rattle.client.specs.declared.Work.{Work}
use Rattle.client.specs.declared.Work.TheVariants as work
use Rattle.client.specs.declared.Phase.{Phase}
use Rattle.client.specs.declared.Phase.TheVariants.{Drawing, Writing, Reading, Filling, Looking, Trimming, Pruning, Sealing, Offering, Starting}
use Rattle.client.specs.declared.Client.{Client}
use Rattle.client.specs.Message.{no_page}
use Rattle.client.specs.Way.{head_for, tail_for}
use Rattle.history.specs.Words.{Last}
use Rattle.history.specs.History.{History}
use Rattle.history.specs.History.Mark.{page, gone}
use Rattle.history.specs.Events.{Run}
use Rattle.vouch.proofs.Carried.{carried}
use Rattle.vouch.proofs.GoodMap.{unit_within}
use Rattle.vouch.proofs.Walks.{tail_last}
use Rattle.client.specs.declared.Ask.{Ask}
use Rattle.client.specs.declared.Response.{Response}
use Rattle.client.specs.declared.Stage.{Stage}
use Rattle.client.specs.declared.Stage.TheVariants.{Idle, Fetching, Working}
use Rattle.client.specs.Client.{holding}
use Rattle.client.specs.Take.{goes_on, on_fetched, worked, answered}
use Rattle.client.proofs.Turns.{held_cases, working_cases}
use Rattle.vouch.proofs.Meaning.{Means, WorkOk, Fetched, Walking, StageOk, Waits}
use Rattle.vouch.proofs.Meaning.Means.{means_held, means_token, means_wrote, means_written, means_no_write, means_shown, means_trimmed, means_unwritten, means_no_read, means_cut, means_no_cut, means_pruned, means_no_prune, means_edges, means_no_seal, means_installed, means_no_install, means_start}
use Rattle.vouch.proofs.Meaning.Waits.{waits_fetch, waits_token, waits_write, waits_read, waits_fill, waits_look, waits_trim, waits_prune, waits_seal, waits_offer, waits_start}
use Rattle.vouch.proofs.Turns.{TurnOk}
use Rattle.vouch.proofs.Walking.{is_good_lem, phase_good, walk_start}
use Rattle.vouch.proofs.Appends.{head_is, tail_is, draws_ok, token_next, write_fine, write_refused_lem}
use Rattle.vouch.proofs.Fills.{fills_ok, fill_fine, fill_refused, look_shown, look_refused}
use Rattle.vouch.proofs.Cuts.{trims_ok, pruned, reads_ok, trim_fine, trim_refused, prune_fine, prune_refused, read_shown, read_gone, read_none, read_refused}
use Rattle.vouch.proofs.Reorganises.{reorganises_ok, seal_fine, seal_refused, offer_fine, offer_refused, started}

-- the first request after the fetch. b: the client before its turn
goes_on_lem : {h : History} → Run h → (b c : Client) (w : Work) → c.life ≡ b.life → c.used ≡ b.used → c.work ≡ b.work →
    c.work ≡ w → WorkOk h w c.position c.page → Fetched h c.layout → TurnOk h b (goes_on w c)
goes_on_lem run b c work.Append life used works is ok fetched = draws_ok run b c life used 1 (record { for_append = is; fetched = fetched; asked = ok })
goes_on_lem run b c (work.Read q) life used works is (at, low) fetched =
    let same = tail_is c fetched.is_good_lem low in
    reads_ok run b c life used works (tail_for c) (record {
      is_read = is ∙ ap work.Read (sym at);
      fetched = fetched;
      low = low;
      is_tail = subst (λ t. Last t (set_at (lay_of c.layout) c.position.0)) (sym same) (tail_last (lay_of c.layout) (is_good_lem fetched) c.position.0);
    })
goes_on_lem {h} run b c (work.Fill q) life used works is (asked, low) fetched =
    fills_ok run b c life used works (head_for c) (record {
      filled = q;
      is_fill = is;
      walk = subst (λ u. Walking h c.layout c.position.0 u (page (carried c.page))) (sym (head_is c fetched.is_good_lem low)) (walk_start (page (carried c.page)) fetched low);
      asked = asked;
    })
goes_on_lem {h} run b c (work.Trim q) life used works is (asked, low) fetched =
    trims_ok run b c life used works (head_for c) (record {
      trimmed_there = q;
      is_trim = is;
      walk = subst (λ u. Walking h c.layout c.position.0 u gone) (sym (head_is c fetched.is_good_lem low)) (walk_start gone fetched low);
      asked = asked;
    })
goes_on_lem run b c (work.Prune q) life used works is ok fetched =
    pruned run b c life used works 0 q is fetched ok (λ v has le. absurd (omega (arith, (unit_within (lay_of c.layout) has).0)))
goes_on_lem run b c work.Reorganise life used works is ok fetched = reorganises_ok run b c life used works is fetched

fetched_ok : {h : History} → Run h → (c : Client) (l : Layout) → WorkOk h c.work c.position c.page → Fetched h l → TurnOk h c (on_fetched c Held l)
fetched_ok {h} run c l ok fetched =
    held_cases (TurnOk h c) c l (λ good. goes_on_lem run c (holding c l) c.work refl refl refl refl ok fetched) (λ bad. absurd (false_true (sym bad ∙ fetched.is_good_lem)))

-- the answer that a phase waits for
worked_ok : {h : History} {a : Ask} {g : PageValue} {k : Layout} {r : Response} → Run h → (c : Client) (p : Phase) → StageOk h c (Working p) →
    Waits c.layout c.position c.page c.plan (Working p) a g k → Means h a g k r → TurnOk h c (worked p c r.reply r.page)
worked_ok {r = r} run c (Drawing n) ok waits_token means_token = token_next run c n r.reply ok
worked_ok run c (Writing u n) ok waits_write (means_wrote mk) = write_fine run c u n ok mk
worked_ok run c (Writing u n) ok waits_write (means_written was) = write_refused_lem run c u n ok 6 (λ e. was)
worked_ok run c (Writing u n) ok waits_write (means_no_write {n = j} other) = write_refused_lem run c u n ok j (λ e. absurd (other e))
worked_ok run c (Reading u) ok waits_read (means_shown {x = x} saw) = read_shown run c u ok x saw
worked_ok run c (Reading u) ok waits_read (means_trimmed saw) = read_gone run c u ok no_page saw
worked_ok run c (Reading u) ok waits_read (means_unwritten saw) = read_none run c u ok no_page saw
worked_ok run c (Reading u) ok waits_read (means_no_read {n = j} j0 j5 j7) = read_refused run c u ok j no_page j0 j5 j7
worked_ok run c (Filling u) ok waits_fill (means_wrote mk) = fill_fine run c u ok mk
worked_ok run c (Filling u) ok waits_fill (means_written was) = fill_refused run c u ok 6 (λ e. was)
worked_ok run c (Filling u) ok waits_fill (means_no_write {n = j} other) = fill_refused run c u ok j (λ e. absurd (other e))
worked_ok run c (Looking u) ok waits_look (means_shown {x = x} saw) = look_shown run c u ok x saw
worked_ok run c (Looking u) ok waits_look (means_trimmed saw) = look_refused run c u ok 5 no_page
worked_ok run c (Looking u) ok waits_look (means_unwritten saw) = look_refused run c u ok 7 no_page
worked_ok run c (Looking u) ok waits_look (means_no_read {n = j} j0 j5 j7) = look_refused run c u ok j no_page
worked_ok run c (Trimming u) ok waits_trim (means_cut mk) = trim_fine run c u ok mk
worked_ok run c (Trimming u) ok waits_trim (means_no_cut {n = j}) = trim_refused run c u ok j
worked_ok run c (Pruning u) ok waits_prune (means_pruned mks) = prune_fine run c u ok mks
worked_ok run c (Pruning u) ok waits_prune (means_no_prune {n = j}) = prune_refused run c u ok j
worked_ok run c (Sealing u x) ok waits_seal (means_edges {x = y} s e) = seal_fine run c u x ok y s e
worked_ok run c (Sealing u x) ok waits_seal (means_no_seal {n = j}) = seal_refused run c u x ok j
worked_ok run c (Offering p) ok waits_offer (means_installed low) = offer_fine run c p ok low
worked_ok run c (Offering p) ok waits_offer (means_no_install {n = j}) = offer_refused run c p ok j
worked_ok {r = r} run c Starting ok waits_start means_start = started run c r.reply ok

pub reply_ok : {h : History} {a : Ask} {g : PageValue} {k : Layout} {r : Response} → Run h → (c : Client) (st : Stage) → StageOk h c st →
    Waits c.layout c.position c.page c.plan st a g k → Means h a g k r → TurnOk h c (answered st c r)
reply_ok run c Idle ok waits means = elim waits [ ]
reply_ok run c Fetching ok waits_fetch (means_held {l = l} laid good) = fetched_ok run c l ok (record { laid = laid; is_good_lem = good })
reply_ok {h} {r = r} run c (Working p) ok waits means =
    working_cases (TurnOk h c) c p r.reply r.page (λ good. worked_ok run c p ok waits means) (λ bad. absurd (false_true (sym bad ∙ phase_good h c p ok)))
