-- Laws of a client's turn: for what is to be shown of it, P, each of its ends with the facts that lead there.
use mathlib.Core.Path.{◌≡◌, refl, sym, subst, ◌∙◌}
use mathlib.Core.Bool.{true, false, ◌||◌}
use Prim.Native.Nat.{ℕ, ◌+◌, ◌≤◌, ◌<◌}
use native.Mathlib.Omega.{arith}
use borrow.Author.Tests.{eqb-false, ne_eqb, le-ltb}
use lib.Dec.{eqb, ltb}
use Rattle.num.specs.Limits.{limit}
use Rattle.num.specs.declared.Edges.{Edges}
use Rattle.num.specs.declared.Position.{Position}
use Rattle.num.specs.Edges.{no_edges, largest, within}
use Rattle.num.proofs.Tests.{false_true, or_false}
use Rattle.layout.specs.declared.Layout.{Layout}
use Rattle.layout.specs.Value.{good_value}
use Rattle.client.specs.declared.Ask.TheVariants.{Fetch}
use Rattle.client.specs.declared.Page.{Page}
use Rattle.client.specs.declared.Query.{Query}
use Rattle.client.specs.declared.Reply.{Reply}
use Rattle.client.specs.declared.Response.{Response}
use Rattle.client.specs.declared.Stamp.{Stamp}
use Rattle.client.specs.declared.Phase.{Phase}
use Rattle.client.specs.declared.Client.{Client}
use Rattle.client.specs.declared.state.Job.{Job}
use Rattle.client.specs.Message.{last_refusal, no_refusal, is_showable, plain}
use Rattle.client.specs.Client.{token_limit, last_number, busy, at_position, carrying, holding, planning}
use Rattle.client.specs.Turn.{Turn, rests, over, ends, sent, sends, otherwise}
use Rattle.client.specs.Begin.{begin_answer, with_job, begin_turn, give_up}
use Rattle.client.specs.Way.{head_for, after_for, unit_above, plan_for, start_for}
use Rattle.client.specs.Append.{draws, writes, writes_at, writes_on, not_at_head, not_later, not_written}
use Rattle.client.specs.Read.{page_taken}
use Rattle.client.specs.Fill.{fills, looks, fills_on, not_filled, page_carried}
use Rattle.client.specs.Trim.{trims, trims_on, prunes, prunes_on}
use Rattle.client.specs.Reorganise.{seals, offers, all_sealed, seals_on, reorganises, edges_taken, not_started}
use Rattle.client.specs.Take.{goes_on, holds, worked, works_on, answered, awaited, takes}
use Rattle.client.proofs.Cases.{either, if_equal, if_below, if_within}
use Rattle.client.proofs.Clients.{Awaited, awaited_by, is_awaited}

-- what a machine refuses by is not 0
pub refusal_some : (k : ℕ) → no_refusal k ≡ false → ¬ (k ≡ 0)
unfolding no_refusal
refusal_some k e = eqb-false k 0 (or_false (eqb k 0) (ltb last_refusal k) e).0

five_or_six : (k : ℕ) → (eqb k 5 || eqb k 6) ≡ true → ¬ (k ≡ 0)
five_or_six k e z = false_true (subst (λ j. (eqb j 5 || eqb j 6) ≡ true) z e)

module _ (P : Turn → Type 0) (c : Client) where
  -- ---- whatever the operation

  pub sends_cases : (q : Query) → (last_number ≤ c.used.0 → P (ends c 19)) → (c.used.0 < last_number → P (sent c q)) → P (sends c q)
  unfolding sends
  sends_cases q spent left = if_within P last_number c.used.0 spent left

  pub otherwise_cases : (k : ℕ) → (no_refusal k ≡ true → P (rests c)) → (¬ (k ≡ 0) → P (ends c k)) → P (otherwise c k)
  unfolding otherwise
  otherwise_cases k quiet over = either P (no_refusal k) quiet (λ e. over (refusal_some k e))

  -- ---- append

  pub token_cases : (n : ℕ) (p : Position) → (p.0 < limit → P (writes (at_position c p) (head_for (at_position c p)) n)) → (limit ≤ p.0 → P (rests c)) → P (writes_at c n p)
  unfolding writes_at
  token_cases n p at quiet = if_below P p.0 limit at quiet

  pub written_cases : (u n : ℕ) → (after_for c u ≡ 0 → P (ends c 0)) → (¬ (after_for c u ≡ 0) → P (writes c (after_for c u) n)) → P (writes_on c u n)
  unfolding writes_on
  written_cases u n done on = if_equal P (after_for c u) 0 done on

  pub unwritten_cases : (u n k : ℕ) → (u ≡ head_for c → (eqb k 5 || eqb k 6) ≡ true → n < token_limit → P (draws c (n + 1))) → (¬ (u ≡ head_for c) → k ≡ 6 → P (writes_on c u n)) →
      (no_refusal k ≡ true → P (rests c)) → (¬ (k ≡ 0) → P (ends c k)) → P (not_written c u n k)
  unfolding not_written not_at_head not_later
  unwritten_cases u n k again on quiet over =
      if_equal P u (head_for c)
      (λ head. either P (eqb k 5 || eqb k 6) (λ e. if_below P n token_limit (again head e) (λ z. over (five_or_six k e))) (λ e. otherwise_cases k quiet over))
      (λ later. if_equal P k 6 (on later) (λ e. otherwise_cases k quiet over))

  -- ---- read

  pub page_cases : (g : Page) → (is_showable g ≡ true → P (over c 0 g)) → (is_showable g ≡ false → P (rests c)) → P (page_taken c g)
  unfolding page_taken
  page_cases g shown quiet = either P (is_showable g) shown quiet

  -- ---- fill

  pub look_cases : (u : ℕ) (g : Page) → (is_showable g ≡ true → P (fills_on (carrying c g) u)) → (is_showable g ≡ false → P (rests c)) → P (page_carried c u g)
  unfolding page_carried
  look_cases u g shown quiet = either P (is_showable g) shown quiet

  pub filled_cases : (u : ℕ) → (after_for c u ≡ 0 → P (ends c 0)) → (¬ (after_for c u ≡ 0) → P (fills c (after_for c u))) → P (fills_on c u)
  unfolding fills_on
  filled_cases u done on = if_equal P (after_for c u) 0 done on

  pub unfilled_cases : (u k : ℕ) → (k ≡ 6 → u ≡ head_for c → P (looks c u)) → (k ≡ 6 → ¬ (u ≡ head_for c) → P (fills_on c u)) →
      (no_refusal k ≡ true → P (rests c)) → (¬ (k ≡ 0) → P (ends c k)) → P (not_filled c u k)
  unfolding not_filled
  unfilled_cases u k look on quiet over =
      if_equal P k 6 (λ six. if_equal P u (head_for c) (look six) (on six)) (λ e. otherwise_cases k quiet over)

  -- ---- trim and prune

  pub trimmed_cases : (u : ℕ) → (after_for c u ≡ 0 → P (ends c 0)) → (¬ (after_for c u ≡ 0) → P (trims c (after_for c u))) → P (trims_on c u)
  unfolding trims_on
  trimmed_cases u done on = if_equal P (after_for c u) 0 done on

  pub pruned_cases : (u : ℕ) → (unit_above c.layout u ≡ 0 → P (ends c 0)) → (¬ (unit_above c.layout u ≡ 0) → P (prunes c (unit_above c.layout u))) → P (prunes_on c u)
  unfolding prunes_on
  pruned_cases u done on = if_equal P (unit_above c.layout u) 0 done on

  -- ---- reorganise

  pub plan_cases : ((plan_for c).answer ≡ 0 → P (seals_on (planning c (plan_for c).layout) 0 no_edges)) → (¬ ((plan_for c).answer ≡ 0) → P (ends c (plan_for c).answer)) → P (reorganises c)
  unfolding reorganises
  plan_cases on over = if_equal P (plan_for c).answer 0 on over

  pub seal_cases : (u : ℕ) (e : Edges) → (unit_above c.plan u ≡ 0 → P (all_sealed c e)) → (¬ (unit_above c.plan u ≡ 0) → P (seals c (unit_above c.plan u) e)) → P (seals_on c u e)
  unfolding seals_on
  seal_cases u e all on = if_equal P (unit_above c.plan u) 0 all on

  pub edges_cases : (u : ℕ) (e x : Edges) → (within x ≡ true → P (seals_on c u (largest e x))) → (within x ≡ false → P (rests c)) → P (edges_taken c u e x)
  unfolding edges_taken
  edges_cases u e x on quiet = either P (within x) on quiet

  pub start_cases : (e : Edges) → ((start_for c e).answer ≡ 0 → P (offers (planning c (start_for c e).layout) (start_for c e).first)) → (¬ ((start_for c e).answer ≡ 0) → P (ends c (start_for c e).answer)) →
      P (all_sealed c e)
  unfolding all_sealed
  start_cases e on over = if_equal P (start_for c e).answer 0 on over

  pub unstarted_cases : (k : ℕ) → (k ≡ 4 → P (ends c 11)) → (no_refusal k ≡ true → P (rests c)) → (¬ (k ≡ 0) → P (ends c k)) → P (not_started c k)
  unfolding not_started
  unstarted_cases k overtaken quiet over = if_equal P k 4 overtaken (λ e. otherwise_cases k quiet over)

  -- ---- the fetch, and any answer

  pub held_cases : (l : Layout) → (good_value l ≡ true → P (goes_on c.work (holding c l))) → (good_value l ≡ false → P (ends c 10)) → P (holds c l)
  unfolding holds
  held_cases l good bad = either P (good_value l) good bad

  pub working_cases : (p : Phase) (a : Reply) (g : Page) → (good_value c.layout ≡ true → P (worked p c a g)) → (good_value c.layout ≡ false → P (ends c 10)) → P (works_on p c a g)
  unfolding works_on
  working_cases p a g good bad = either P (good_value c.layout) good bad

  pub takes_cases : (me : ℕ) (s : Stamp) (r : Response) → (Awaited me c s → P (answered c.stage c r)) → (¬ Awaited me c s → P (rests c)) → P (takes me c s r)
  unfolding takes
  takes_cases me s r mine other = either P (awaited me c s) (λ e. mine (awaited_by me c s e)) (λ e. other (λ is. false_true (sym e ∙ is_awaited me c s is)))

  -- ---- begin and give up

  pub begin_cases : (j : Job) (shape : ℕ) → (begin_answer c j shape ≡ 0 → P (sends (with_job c j) (plain Fetch))) → (¬ (begin_answer c j shape ≡ 0) → P (rests c)) → P (begin_turn c j shape)
  unfolding begin_turn
  begin_cases j shape fine refused = if_equal P (begin_answer c j shape) 0 fine refused

  pub give_up_cases : (busy c.stage ≡ true → P (ends c 20)) → (busy c.stage ≡ false → P (rests c)) → P (give_up c)
  unfolding give_up
  give_up_cases working idle = either P (busy c.stage) working idle

-- ---- where the case is known

pub sends_sent : (c : Client) (q : Query) → c.used.0 < last_number → sends c q ≡ sent c q
sends_sent c q left = sends_cases (λ t. t ≡ sent c q) c q (λ spent. absurd (omega arith)) (λ e. refl)

pub otherwise_ends : (c : Client) (k : ℕ) → ¬ (k ≡ 0) → k ≤ last_refusal → otherwise c k ≡ ends c k
unfolding otherwise no_refusal
otherwise_ends c k some few = rw (ne_eqb k 0 some, le-ltb last_refusal k few)

pub page_shown_lem : (c : Client) (g : Page) → is_showable g ≡ true → page_taken c g ≡ over c 0 g
page_shown_lem c g shown = page_cases (λ t. t ≡ over c 0 g) c g (λ e. refl) (λ quiet. absurd (false_true (sym quiet ∙ shown)))

pub works_good : (c : Client) (p : Phase) (a : Reply) (g : Page) → good_value c.layout ≡ true → works_on p c a g ≡ worked p c a g
works_good c p a g good = working_cases (λ t. t ≡ worked p c a g) c p a g (λ e. refl) (λ bad. absurd (false_true (sym bad ∙ good)))

pub takes_awaited : (me : ℕ) (c : Client) (s : Stamp) (r : Response) → Awaited me c s → takes me c s r ≡ answered c.stage c r
takes_awaited me c s r is = takes_cases (λ t. t ≡ answered c.stage c r) c me s r (λ e. refl) (λ other. absurd (other is))
