-- Sham steps, each made by wrapping the rule's step, that do NOT meet demand 3: each is refuted by a run that is computed. So the statement by itself shuts them out,
-- whatever a proof about the rule looks like. `any cap`: however long a page may be.
-- Rests on Wrapped and ShamRuns.
use mathlib.Core.Path.{◌≡◌, refl, sym, ap, ◌∙◌}
use mathlib.Core.Bool.{Bool, true, false, cond}
use Prim.Native.Nat.{ℕ}
use native.Mathlib.Omega.{arith}
use lib.Dec.{eqb}
use lib.ListN.{get_or, replicate}
use Rattle.num.proofs.Tests.{false_true}
use Rattle.client.specs.declared.Page.{Page}
use Rattle.client.specs.declared.Outcome.{Outcome}
use Rattle.client.specs.declared.state.Job.{Job}
use Rattle.layout.specs.Value.{padded, value_of}
use Rattle.client.specs.declared.Work.{Work}
use Rattle.client.specs.declared.Work.TheVariants.{Append, Read, Fill, Trim, Prune, Reorganise}
use Rattle.client.specs.Message.{page_limit, no_page}
use Rattle.vouch.specs.Runs.{Move, Moves, ◌≼◌, Stepping}
use Rattle.vouch.specs.Runs.Moves.{◌▸◌}
use Rattle.vouch.specs.Runs.◌≼◌.{all_of, part_of}
use Rattle.vouch.specs.Pages.{IsPage}
use Rattle.vouch.specs.Pages.IsPage.{is_data, is_junk}
use Rattle.vouch.specs.Operations.{outcome, UnderWay}
use Rattle.vouch.specs.Demand.{UnitSays, PageAsked, CutAsked, ReadOver, OrSealed, Demand3}
use Rattle.vouch.specs.Demand.UnitSays.{says_page, says_sealed, says_trimmed, says_unwritten}
use Rattle.vouch.specs.Demand.PageAsked.{by_append}
use Rattle.vouch.specs.Demand.CutAsked.{by_trim, by_prune}
use Rattle.vouch.specs.Demand.ReadOver.{by_answer, by_number, by_give_up}
use Rattle.vouch.specs.Demand.Rightly.{that_page, trim_asked}
use Rattle.vouch.specs.Demand.OrSealed.{not_sealed, was_sealed}
use Rattle.vouch.proofs.Together.{within_trans}
use Rattle.vouch.proofs.Stated.{read_stated}
use Rattle.vouch.proofs.Wrapped.{reporting, outcome_is, begins_so, read_so, append_so, reaches_so, in_force_so, some_begin, asked_among, under_asked}
use Rattle.vouch.proofs.RunExample.{l, l_good, deliver, begin, appending, reading, filling, page_7, returned, append_done, append_returned, read_ends, read_returned, junk_ends, junk_returned}
use Rattle.vouch.proofs.ShamRuns.{page_9, append_9, both, swapped_run, elsewhere, astray_run, stale, late, given_up, stale_run, losing, lost_asked, lost_run}
use Rattle.vouch.proofs.AcrossExample.{asked_first, first_reaches, first_in_force}

-- ---- what a read reports

-- where the rule reports a page of kind k, another number and page
abbrev instead : ℕ → ℕ → Page → Outcome → Outcome
instead k n g o = cond (eqb o.page.kind k) (record { number = n; position = o.position; epoch = o.epoch; page = g; work = o.work; sent = o.sent }) o

-- Junk is returned as 32 zero bytes, under kind 2.
abbrev zeros_32 : Page
zeros_32 = record { kind = 2; len = 32; bytes = replicate page_limit 0 }

pub junk_as_zeros : {cap : ℕ} → ¬ Demand3 (reporting (instead 2 0 zeros_32)) cap l
junk_as_zeros {cap} d =
    let out = outcome_is (instead 2 0 zeros_32) l filling deliver ∙ ap (instead 2 0 zeros_32) junk_returned in
    no_page_lem (d.read_page (read_so (instead 2 0 zeros_32) l junk_ends) (ap (λ (o : Outcome). o.number) out)) (ap (λ (o : Outcome). o.page) out)
  where
    no_page_lem : {g : Page} → IsPage cap g → ¬ (g ≡ zeros_32)
    no_page_lem (is_data n bs le) e = let z = ap (λ (h : Page). h.kind) e in omega (arith, z)
    no_page_lem is_junk e = let z = ap (λ (h : Page). h.len) e in omega (arith, z)

-- Data is shown under kind 3, with its bytes.
abbrev kind_3 : Page
kind_3 = record { kind = 3; len = 1; bytes = page_7.bytes }

pub data_as_kind_3 : {cap : ℕ} → ¬ Demand3 (reporting (instead 1 0 kind_3)) cap l
data_as_kind_3 {cap} d =
    let out = outcome_is (instead 1 0 kind_3) l reading deliver ∙ ap (instead 1 0 kind_3) read_returned in
    no_page_lem (d.read_page (read_so (instead 1 0 kind_3) l read_ends) (ap (λ (o : Outcome). o.number) out)) (ap (λ (o : Outcome). o.page) out)
  where
    no_page_lem : {g : Page} → IsPage cap g → ¬ (g ≡ kind_3)
    no_page_lem (is_data n bs le) e = let z = ap (λ (h : Page). h.kind) e in omega (arith, z)
    no_page_lem is_junk e = let z = ap (λ (h : Page). h.kind) e in omega (arith, z)

-- A page is turned into number 3.
pub page_as_number_3 : {cap : ℕ} → ¬ Demand3 (reporting (instead 1 3 no_page)) cap l
page_as_number_3 d =
    let out = outcome_is (instead 1 3 no_page) l reading deliver ∙ ap (instead 1 3 no_page) read_returned in
    no_end (d.read_over (read_so (instead 1 3 no_page) l read_ends)) (ap (λ (o : Outcome). o.number) out)
  where
    no_number : {n : ℕ} → UnitSays n → ¬ (n ≡ 3)
    no_number says_page e = omega (arith, e)
    no_number says_sealed e = omega (arith, e)
    no_number says_trimmed e = omega (arith, e)
    no_number says_unwritten e = omega (arith, e)

    no_end : {f : Stepping} {c : ℕ} {j : Job} {o : Outcome} → ReadOver f l reading deliver c j 0 o → ¬ (o.number ≡ 3)
    no_end (by_answer says position reached) e = no_number says e
    no_end (by_number n) e = omega (arith, n, e)
    no_end (by_give_up does n) e = omega (arith, n, e)

-- ---- after the append's done

since : appending ▸ deliver ≼ asked_first
since = part_of (part_of (part_of all_of))

-- what demand 3 says of the read of 0, where a step reports another outcome of what shows data
by_done : {cap : ℕ} (n : ℕ) (g : Page) → Demand3 (reporting (instead 1 n g)) cap l → OrSealed (reporting (instead 1 n g)) l asked_first 0 page_7 (outcome (reporting (instead 1 n g)) l reading deliver)
by_done n g d =
    d.after_done (append_so (instead 1 n g) l (returned 0 no_page Append 4) append_returned refl refl append_done) since (reaches_so (instead 1 n g) l first_reaches)
    (in_force_so (instead 1 n g) l asked_first first_in_force) (read_so (instead 1 n g) l read_ends)

reports : (n : ℕ) (g : Page) → outcome (reporting (instead 1 n g)) l reading deliver ≡ record { number = n; position = record { 0 = 0 }; epoch = record { 0 = 1 }; page = g; work = Read (record { 0 = 0 }); sent = 2 }
reports n g = outcome_is (instead 1 n g) l reading deliver ∙ ap (instead 1 n g) read_returned

-- "Unwritten" after done.
pub unwritten_after_done : {cap : ℕ} → ¬ Demand3 (reporting (instead 1 7 no_page)) cap l
unwritten_after_done d = no_end (by_done 7 no_page d) (ap (λ (o : Outcome). o.number) (reports 7 no_page))
  where
    no_end : {f : Stepping} {o : Outcome} → OrSealed f l asked_first 0 page_7 o → ¬ (o.number ≡ 7)
    no_end (not_sealed (that_page n is)) e = omega (arith, n, e)
    no_end (not_sealed (trim_asked n asked)) e = omega (arith, n, e)
    no_end (was_sealed n) e = omega (arith, n, e)

-- "Trimmed", which nobody asked for.
abbrev is_cut : Work → Bool
is_cut Append = false
is_cut (Read p) = false
is_cut (Fill p) = false
is_cut (Trim p) = true
is_cut (Prune p) = true
is_cut Reorganise = false

none_cut : {f : Stepping} → ¬ CutAsked f l asked_first 0
unfolding some_begin
none_cut (by_trim a is at) = false_true (asked_among (λ (j : Job). is_cut j.work) a (ap is_cut is))
none_cut (by_prune a is below) = false_true (asked_among (λ (j : Job). is_cut j.work) a (ap is_cut is))

pub trimmed_unasked : {cap : ℕ} → ¬ Demand3 (reporting (instead 1 5 no_page)) cap l
trimmed_unasked d = no_end (by_done 5 no_page d) (ap (λ (o : Outcome). o.number) (reports 5 no_page))
  where
    no_end : {f : Stepping} {o : Outcome} → OrSealed f l asked_first 0 page_7 o → ¬ (o.number ≡ 5)
    no_end (not_sealed (that_page n is)) e = omega (arith, n, e)
    no_end (not_sealed (trim_asked n asked)) e = none_cut asked
    no_end (was_sealed n) e = omega (arith, n, e)

-- A page of one's own is swapped for another's, that was asked for too: client 3's append of 9 is under way when client 2's read of 0 ends.
pub swapped_page : {cap : ℕ} → ¬ Demand3 (reporting (instead 1 0 page_9)) cap l
unfolding value_of padded
swapped_page d =
    let g = instead 1 0 page_9 in
    let out = outcome_is g l both deliver ∙ ap g swapped_run.returns in
    no_end
    (d.after_done (append_so g l (returned 0 no_page Append 4) append_returned refl refl append_done) since (reaches_so g l swapped_run.reached) (in_force_so g l asked_first first_in_force)
    (read_so g l (read_stated l l_good refl swapped_run.ran))) out
  where
    no_end : {f : Stepping} {o : Outcome} → OrSealed f l asked_first 0 page_7 o → ¬ (o ≡ returned 0 page_9 (Read (record { 0 = 0 })) 2)
    no_end (not_sealed (that_page n is)) e =
        let z : ◌≡◌ {A = ℕ} 7 9 = sym (ap (λ (h : Page). get_or h.bytes 0 0) is) ∙ ap (λ (x : Outcome). get_or x.page.bytes 0 0) e in
        omega (arith, z)
    no_end (not_sealed (trim_asked n asked)) e = let z = ap (λ (x : Outcome). x.number) e in omega (arith, n, z)
    no_end (was_sealed n) e = let z = ap (λ (x : Outcome). x.number) e in omega (arith, n, z)

-- statement 2 alone does not shut it out: that page was asked for
pub swapped_asked : PageAsked (reporting (instead 1 0 page_9)) l (both ▸ deliver) 0 page_9
swapped_asked = by_append {j = append_9} (record {
  before = reading;
  move = begin 3 append_9;
  within = part_of all_of;
  client = 3;
  begins = begins_so (instead 1 0 page_9) l (record { does_begin = refl; job_is = refl; not_refused = swapped_run.not_refused });
}) refl refl

-- ---- what an operation does

-- A read with a length other than 0 reads position 0 instead of its own.
pub read_elsewhere : {cap : ℕ} → ¬ Demand3 elsewhere cap l
read_elsewhere d =
    let run = astray_run in
    let same = d.one_page (part_of (part_of (part_of (part_of (part_of (part_of (part_of (part_of (part_of (part_of (part_of (part_of all_of)))))))))))) all_of run.first_ends run.second_ends
    (ap (λ (o : Outcome). o.number) run.first_returns) (ap (λ (o : Outcome). o.number) run.second_returns) in
    let z : ◌≡◌ {A = ℕ} 1 2 = sym (ap (λ (o : Outcome). o.page.kind) run.first_returns) ∙ (ap (λ (g : Page). g.kind) same ∙ ap (λ (o : Outcome). o.page.kind) run.second_returns) in
    omega (arith, z)

-- An answer to an earlier request is taken: the second read of client 2 ends with what the first one's unit answered, before it has asked any.
pub stale_answer : {cap : ℕ} → ¬ Demand3 stale cap l
unfolding some_begin
stale_answer d =
    no_end (d.read_over (record { client = 2; job = late; ends = stale_run.late_ends; position = record { 0 = 0 }; is_read = refl; position_is = refl })) stale_run.number_is
  where
    front : {ms₁ ms : Moves} {m m' : Move} → ms₁ ▸ m ≼ (ms ▸ m') → ms₁ ≼ ms
    front all_of = all_of
    front (part_of part) = within_trans (part_of all_of) part

    -- it was not asked for before
    not_before : {ms₁ : Moves} {m : Move} {c : ℕ} → ms₁ ▸ m ≼ (given_up ▸ begin 2 late) → ¬ UnderWay stale l c late ms₁
    not_before {ms₁} {m} {c} part way =
        let a = under_asked way in
        false_true (asked_among {f = stale} {l = l} {ms = given_up} (λ (j : Job). eqb j.len 1)
        (record { before = a.before; move = a.move; within = within_trans a.within (front part); client = a.client; begins = a.begins }) refl)

    no_end : {c : ℕ} {o : Outcome} → ReadOver stale l (given_up ▸ begin 2 late) deliver c late 0 o → ¬ (o.number ≡ 7)
    no_end (by_answer says position reached) e = not_before reached.reaches.earlier reached.under_way
    no_end (by_number n) e = omega (arith, n, e)
    no_end (by_give_up does n) e = omega (arith, n, e)

-- An append of 3 bytes is lost but acknowledged: it becomes an empty reorganise, which reports 0.
pub append_lost : {cap : ℕ} → ¬ Demand3 losing cap l
append_lost d =
    let run = lost_run in
    no_end (d.after_done run.acknowledged (part_of (part_of (part_of all_of))) run.reached run.in_force run.read_ends_so) run.number_is
  where
    no_end : {X : Page} {o : Outcome} → OrSealed losing l lost_asked 0 X o → ¬ (o.number ≡ 7)
    no_end (not_sealed (that_page n is)) e = omega (arith, n, e)
    no_end (not_sealed (trim_asked n asked)) e = omega (arith, n, e)
    no_end (was_sealed n) e = omega (arith, n, e)
