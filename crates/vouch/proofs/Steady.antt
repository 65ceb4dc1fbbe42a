-- A client's turn keeps its operation: it rests as it was, goes on with the same work and, where it appends, the same page, or its operation is over.
-- Rests on the client's rules.
use mathlib.Core.Path.{◌≡◌, refl, ap, ◌∙◌}
use mathlib.Core.Bool.{Bool, true, false, ◌||◌, cond}
use Prim.Native.Nat.{ℕ, ◌+◌}
use lib.Dec.{eqb, leb, ltb}
use Rattle.num.specs.declared.Edges.{Edges}
use Rattle.num.specs.Edges.{no_edges, largest, within}
use Rattle.num.specs.Limits.{limit}
use Rattle.num.specs.declared.Position.{Position}
use Rattle.layout.specs.declared.Layout.{Layout}
use Rattle.layout.specs.Value.{good_value}
use Rattle.client.specs.declared.Ask.TheVariants as ask
use Rattle.client.specs.declared.UnitAsk.TheVariants as unit_ask
use Rattle.client.specs.declared.Page.{Page}
use Rattle.client.specs.declared.Query.{Query}
use Rattle.client.specs.declared.Reply.{Reply}
use Rattle.client.specs.declared.Reply.TheVariants.{Held, Given, Fine, Shown, Edged, Refused}
use Rattle.client.specs.declared.Response.{Response}
use Rattle.client.specs.declared.Work.{Work}
use Rattle.client.specs.declared.Work.TheVariants.{Append, Read, Fill, Trim, Prune, Reorganise}
use Rattle.client.specs.declared.Stage.{Stage}
use Rattle.client.specs.declared.Phase.{Phase}
use Rattle.client.specs.declared.Stage.TheVariants.{Idle, Fetching, Working}
use Rattle.client.specs.declared.Phase.TheVariants.{Drawing, Writing, Reading, Filling, Looking, Trimming, Pruning, Sealing, Offering, Starting}
use Rattle.client.specs.declared.Client.{Client}
use Rattle.client.specs.Message.{no_refusal, is_showable, no_page, plain, bearing, offering, number_of, if_held, if_given, if_fine, if_shown, if_edged}
use Rattle.client.specs.Client.{busy, token_limit, last_number, in_phase, at_position, carrying, holding, planning}
use Rattle.client.specs.Turn.{Turn, rests, over, ends, sent, sends, otherwise}
use Rattle.client.specs.Way.{head_for, tail_for, after_for, unit_above, plan_for, start_for}
use Rattle.client.specs.Append.{draws, writes, writes_at, on_token, writes_on, not_at_head, not_later, not_written, on_written}
use Rattle.client.specs.Read.{reads, page_taken, on_read}
use Rattle.client.specs.Fill.{fills, looks, fills_on, not_filled, on_filled, page_carried, on_looked}
use Rattle.client.specs.Trim.{trims, trims_on, on_trimmed, prunes, prunes_on, on_pruned}
use Rattle.client.specs.Reorganise.{seals, offers, all_sealed, seals_on, reorganises, edges_taken, on_sealed, starts, on_offered, not_started, on_started}
use Rattle.client.specs.Take.{goes_on, holds, on_fetched, worked, answered}
use Rattle.client.proofs.Turns.{working_cases}

-- d has the operation of c, in its life, with the numbers that it has used and had used at the begin
pub record Like (c d : Client) : Type 0 where
  pub life_same : d.life ≡ c.life
  pub used_same : d.used ≡ c.used
  pub begun_same : d.begun ≡ c.begun
  pub work_same : d.work ≡ c.work
  pub page_same : c.work ≡ Append → d.page ≡ c.page

-- c before its turn; b: it has an operation
pub data Steady (c : Client) (b : Bool) : Turn → Type 0 where
  rests_so : Steady c b (rests c)
  sent_so : (d : Client) (q : Query) → b ≡ true → busy d.stage ≡ true → Like c d → Steady c b (sent d q)
  over_so : (d : Client) (n : ℕ) (g : Page) → b ≡ true → d.life ≡ c.life → d.used ≡ c.used → d.begun ≡ c.begun → Steady c b (over d n g)

-- ---- whatever is tested, whatever is answered

module _ {c : Client} {s : Bool} {x y : Turn} where
  pub either : (b : Bool) → Steady c s x → Steady c s y → Steady c s (cond b x y)
  either true p q = p
  either false p q = q

  held : (a : Reply) → Steady c s x → Steady c s y → Steady c s (if_held a x y)
  held Held p q = p
  held (Given e) p q = q
  held Fine p q = q
  held Shown p q = q
  held (Edged e) p q = q
  held (Refused n) p q = q

  fine : (a : Reply) → Steady c s x → Steady c s y → Steady c s (if_fine a x y)
  fine Held p q = q
  fine (Given e) p q = q
  fine Fine p q = p
  fine Shown p q = q
  fine (Edged e) p q = q
  fine (Refused n) p q = q

  shown : (a : Reply) → Steady c s x → Steady c s y → Steady c s (if_shown a x y)
  shown Held p q = q
  shown (Given e) p q = q
  shown Fine p q = q
  shown Shown p q = p
  shown (Edged e) p q = q
  shown (Refused n) p q = q

module _ {c : Client} {s : Bool} {x : Position → Turn} {y : Turn} where
  given : (a : Reply) → ((e : Position) → Steady c s (x e)) → Steady c s y → Steady c s (if_given a x y)
  given Held p q = q
  given (Given e) p q = p e
  given Fine p q = q
  given Shown p q = q
  given (Edged e) p q = q
  given (Refused n) p q = q

module _ {c : Client} {s : Bool} {x : Edges → Turn} {y : Turn} where
  edged : (a : Reply) → ((e : Edges) → Steady c s (x e)) → Steady c s y → Steady c s (if_edged a x y)
  edged Held p q = q
  edged (Given e) p q = q
  edged Fine p q = q
  edged Shown p q = q
  edged (Edged e) p q = p e
  edged (Refused n) p q = q

-- ---- a turn of c, which has an operation

module _ (c : Client) where
  abbrev So : Turn → Type 0
  So = Steady c true

  self : Like c c
  self = record { life_same = refl; used_same = refl; begun_same = refl; work_same = refl; page_same = λ is. refl }

  ended : (d : Client) (n : ℕ) → Like c d → So (ends d n)
  ended d n like = over_so d n no_page refl like.life_same like.used_same like.begun_same

  other : (n : ℕ) → So (otherwise c n)
  unfolding otherwise
  other n = either (no_refusal n) rests_so (ended c n self)

  -- the next request
  next : (d : Client) (s : Phase) (q : Query) → Like c d → So (sends (in_phase d s) q)
  unfolding sends
  next d s q like =
      let staged : Like c (in_phase d s) = record { life_same = like.life_same; used_same = like.used_same; begun_same = like.begun_same; work_same = like.work_same; page_same = like.page_same } in
      either (leb last_number d.used.0) (ended (in_phase d s) 19 staged) (sent_so (in_phase d s) q refl refl staged)

  on : {d : Client} {e : Client} → e.life ≡ d.life → e.used ≡ d.used → e.begun ≡ d.begun → e.work ≡ d.work → e.page ≡ d.page → Like c d → Like c e
  on life used begun work page like = record {
    life_same = life ∙ like.life_same;
    used_same = used ∙ like.used_same;
    begun_same = begun ∙ like.begun_same;
    work_same = work ∙ like.work_same;
    page_same = λ is. page ∙ like.page_same is;
  }

  draws_so : (d : Client) (n : ℕ) → Like c d → So (draws d n)
  draws_so d n like = next d (Drawing n) (plain (ask.Token d.layout.epoch)) like

  writes_so : (d : Client) (u n : ℕ) → Like c d → So (writes d u n)
  writes_so d u n like = next d (Writing u n) (bearing (ask.Unit u (unit_ask.Write d.layout.epoch d.position)) d.page) like

  writes_on_lem : (u n : ℕ) → So (writes_on c u n)
  unfolding writes_on
  writes_on_lem u n = either (eqb (after_for c u) 0) (ended c 0 self) (writes_so c (after_for c u) n self)

  reads_so : (d : Client) (u : ℕ) → Like c d → So (reads d u)
  reads_so d u like = next d (Reading u) (plain (ask.Unit u (unit_ask.Read d.layout.epoch d.position))) like

  fills_so : (d : Client) (u : ℕ) → Like c d → So (fills d u)
  fills_so d u like = next d (Filling u) (bearing (ask.Unit u (unit_ask.Write d.layout.epoch d.position)) d.page) like

  looks_so : (d : Client) (u : ℕ) → Like c d → So (looks d u)
  looks_so d u like = next d (Looking u) (plain (ask.Unit u (unit_ask.Read d.layout.epoch d.position))) like

  fills_on_lem : (d : Client) (u : ℕ) → Like c d → So (fills_on d u)
  unfolding fills_on
  fills_on_lem d u like = either (eqb (after_for d u) 0) (ended d 0 like) (fills_so d (after_for d u) like)

  trims_so : (d : Client) (u : ℕ) → Like c d → So (trims d u)
  trims_so d u like = next d (Trimming u) (plain (ask.Unit u (unit_ask.Trim d.layout.epoch d.position))) like

  prunes_on_lem : (d : Client) (u : ℕ) → Like c d → So (prunes_on d u)
  unfolding prunes_on
  prunes_on_lem d u like =
      let v = unit_above d.layout u in
      either (eqb v 0) (ended d 0 like) (next d (Pruning v) (plain (ask.Unit v (unit_ask.Prune d.layout.epoch d.position))) like)

  all_sealed_lem : (d : Client) (e : Edges) → Like c d → So (all_sealed d e)
  unfolding all_sealed
  all_sealed_lem d e like =
      let s = start_for d e in
      either (eqb s.answer 0) (next (planning d s.layout) (Offering s.first) (offering s.layout) (on refl refl refl refl refl like)) (ended d s.answer like)

  seals_on_lem : (d : Client) (u : ℕ) (e : Edges) → Like c d → So (seals_on d u e)
  unfolding seals_on
  seals_on_lem d u e like =
      let v = unit_above d.plan u in
      either (eqb v 0) (all_sealed_lem d e like) (next d (Sealing v e) (plain (ask.Unit v (unit_ask.Seal d.layout.epoch))) like)

  reorganises_so : (d : Client) → Like c d → So (reorganises d)
  unfolding reorganises
  reorganises_so d like =
      let q = plan_for d in
      either (eqb q.answer 0) (seals_on_lem (planning d q.layout) 0 no_edges (on refl refl refl refl refl like)) (ended d q.answer like)

  goes_on_lem : (w : Work) (d : Client) → Like c d → So (goes_on w d)
  goes_on_lem Append d like = draws_so d 1 like
  goes_on_lem (Read p) d like = reads_so d (tail_for d) like
  goes_on_lem (Fill p) d like = fills_so d (head_for d) like
  goes_on_lem (Trim p) d like = trims_so d (head_for d) like
  goes_on_lem (Prune p) d like = prunes_on_lem d 0 like
  goes_on_lem Reorganise d like = reorganises_so d like

  -- ---- what it does next

  fetched : (a : Reply) (l : Layout) → So (on_fetched c a l)
  unfolding holds
  fetched a l = held a (either (good_value l) (goes_on_lem c.work (holding c l) (on refl refl refl refl refl self)) (ended c 10 self)) (other (number_of a))

  tokened : (n : ℕ) (a : Reply) → So (on_token c n a)
  unfolding writes_at
  tokened n a = given a (λ p. either (ltb p.0 limit) (writes_so (at_position c p) (head_for (at_position c p)) n (on refl refl refl refl refl self)) rests_so) (other (number_of a))

  not_at_head_lem : (n k : ℕ) → So (not_at_head c n k)
  unfolding not_at_head
  not_at_head_lem n k = either (eqb k 5 || eqb k 6) (either (ltb n token_limit) (draws_so c (n + 1) self) (ended c k self)) (other k)

  written : (u n : ℕ) (a : Reply) → So (on_written c u n a)
  unfolding not_written not_later
  written u n a =
      let k = number_of a in
      fine a (writes_on_lem u n) (either (eqb u (head_for c)) (not_at_head_lem n k) (either (eqb k 6) (writes_on_lem u n) (other k)))

  filled : (u : ℕ) (a : Reply) → So (on_filled c u a)
  unfolding not_filled
  filled u a =
      let k = number_of a in
      fine a (fills_on_lem c u self) (either (eqb k 6) (either (eqb u (head_for c)) (looks_so c u self) (fills_on_lem c u self)) (other k))

  -- what it carries then is another page, and it fills
  looked : (u : ℕ) (a : Reply) (g : Page) → ¬ (c.work ≡ Append) → So (on_looked c u a g)
  unfolding page_carried
  looked u a g fills =
      let like : Like c (carrying c g) = record { life_same = refl; used_same = refl; begun_same = refl; work_same = refl; page_same = λ is. absurd (fills is) } in
      shown a (either (is_showable g) (fills_on_lem (carrying c g) u like) rests_so) (other (number_of a))

  read : (a : Reply) (g : Page) → So (on_read c a g)
  unfolding page_taken
  read a g = shown a (either (is_showable g) (over_so c 0 g refl refl refl refl) rests_so) (other (number_of a))

  trimmed : (u : ℕ) (a : Reply) → So (on_trimmed c u a)
  unfolding trims_on
  trimmed u a = fine a (either (eqb (after_for c u) 0) (ended c 0 self) (trims_so c (after_for c u) self)) (other (number_of a))

  sealed : (u : ℕ) (e : Edges) (a : Reply) → So (on_sealed c u e a)
  unfolding edges_taken
  sealed u e a = edged a (λ x. either (within x) (seals_on_lem c u (largest e x) self) rests_so) (other (number_of a))

  offered : (p : Position) (a : Reply) → So (on_offered c p a)
  offered p a = fine a (next c Starting (plain (ask.Start c.plan.epoch p)) self) (other (number_of a))

  started : (a : Reply) → So (on_started c a)
  unfolding not_started
  started a = fine a (ended c 0 self) (either (eqb (number_of a) 4) (ended c 11 self) (other (number_of a)))

  -- the answer that a phase waits for
  worked_steady : (p : Phase) (a : Reply) (g : Page) → ((u : ℕ) → p ≡ Looking u → ¬ (c.work ≡ Append)) → So (worked p c a g)
  worked_steady (Drawing n) a g looks = tokened n a
  worked_steady (Writing u n) a g looks = written u n a
  worked_steady (Reading u) a g looks = read a g
  worked_steady (Filling u) a g looks = filled u a
  worked_steady (Looking u) a g looks = looked u a g (looks u refl)
  worked_steady (Trimming u) a g looks = trimmed u a
  worked_steady (Pruning u) a g looks = fine a (prunes_on_lem c u self) (other (number_of a))
  worked_steady (Sealing u e) a g looks = sealed u e a
  worked_steady (Offering p) a g looks = offered p a
  worked_steady Starting a g looks = started a

  pub answered_steady : (st : Stage) (r : Response) → ((u : ℕ) → st ≡ Working (Looking u) → ¬ (c.work ≡ Append)) → Steady c (busy st) (answered st c r)
  answered_steady Idle r looks = rests_so
  answered_steady Fetching r looks = fetched r.reply r.layout
  answered_steady (Working p) r looks =
      working_cases So c p r.reply r.page (λ good. worked_steady p r.reply r.page (λ u is. looks u (ap Working is))) (λ bad. ended c 10 self)
