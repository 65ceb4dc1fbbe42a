-- The requests of an append: what it has sent and which heads have failed it, by the stage of its client, and how a turn moves them.
-- Rests on Chains and the client's laws.
use mathlib.Core.Path.{◌≡◌, refl, sym, ap, subst, ◌∙◌}
use mathlib.Core.Bool.{Bool, true, false, ◌&&◌, ◌||◌}
use mathlib.Core.List.{List}
use Prim.Native.Nat.{ℕ, suc, ◌+◌, ◌*◌, ◌≤◌, ◌<◌}
use native.Mathlib.Omega.{arith}
use borrow.Author.Tests.{eqb-true, eq-eqb, ne_eqb}
use lib.Dec.{eqb, ltb}
use Rattle.num.proofs.Tests.{false_true, and_both, and_false}
use Rattle.num.specs.declared.Position.{Position}
use Rattle.layout.specs.declared.Layout.{Layout}
use Rattle.layout.specs.Places.{head_of}
use Rattle.client.specs.declared.Ask.TheVariants as ask
use Rattle.client.specs.declared.UnitAsk.TheVariants as unit_ask
use Rattle.client.specs.declared.Page.{Page}
use Rattle.client.specs.declared.Query.{Query}
use Rattle.client.specs.declared.Reply.{Reply}
use Rattle.client.specs.declared.Reply.TheVariants.{Held, Given, Fine, Shown, Edged, Refused}
use Rattle.client.specs.declared.Response.{Response}
use Rattle.client.specs.declared.Work.{Work}
use Rattle.client.specs.declared.Work.TheVariants.{Append}
use Rattle.client.specs.declared.Stage.{Stage}
use Rattle.client.specs.declared.Stage.TheVariants.{Idle, Fetching, Working}
use Rattle.client.specs.declared.Phase.{Phase}
use Rattle.client.specs.declared.Phase.TheVariants.{Drawing, Writing, Reading, Filling, Looking, Trimming, Pruning, Sealing, Offering, Starting}
use Rattle.client.specs.declared.Client.{Client}
use Rattle.client.specs.Message.{no_refusal, plain, bearing}
use Rattle.client.specs.Client.{in_phase, at_position, holding}
use Rattle.client.specs.Turn.{Act, Rests, Sends, Ends, Turn, ends, sends, otherwise}
use Rattle.client.specs.Way.{units_for, head_for, after_for}
use Rattle.client.specs.Append.{draws, writes, writes_on, not_written, on_token, on_written}
use Rattle.client.specs.Take.{goes_on, on_fetched, worked, answered}
use Rattle.client.proofs.Turns.{sends_cases, otherwise_cases, token_cases, written_cases, unwritten_cases, held_cases, working_cases}
use Rattle.vouch.specs.Sent.{one, is_taken, at_head_in, at_head}
use Rattle.vouch.proofs.Chains.{ahead, ahead_head, next_ahead}

-- ---- where an append stands: k requests sent, f heads failed

-- a fetch, f tokens and their heads, and the token it waits for
pub record DrawingAt (n k f : ℕ) : Type 0 where
  pub sent_is : k ≡ 2 * n
  pub nth : n ≡ suc f
  pub few : n ≤ 8

-- a fetch, f tokens and their heads, a token, and the units of its set up to u
pub record WritingAt (us : List ℕ) (u n k f : ℕ) : Type 0 where
  pub sent_is : k ≡ 2 * n + suc (ahead u us)
  pub nth : n ≡ suc f
  pub few : n ≤ 8
  pub near : ahead u us ≤ 3

abbrev pub PhaseAt : List ℕ → Phase → ℕ → ℕ → Type 0
PhaseAt us (Drawing n) k f = DrawingAt n k f
PhaseAt us (Writing u n) k f = WritingAt us u n k f
PhaseAt us (Reading u) k f = ⊥
PhaseAt us (Filling u) k f = ⊥
PhaseAt us (Looking u) k f = ⊥
PhaseAt us (Trimming u) k f = ⊥
PhaseAt us (Pruning u) k f = ⊥
PhaseAt us (Sealing u e) k f = ⊥
PhaseAt us (Offering p) k f = ⊥
PhaseAt us Starting k f = ⊥

abbrev pub At : List ℕ → Stage → ℕ → ℕ → Type 0
At us Idle k f = ⊥
At us Fetching k f = (k ≡ 1) × (f ≡ 0)
At us (Working p) k f = PhaseAt us p k f

-- so no more than 20 are sent, and seven heads have failed at most
pub at_most : (us : List ℕ) (st : Stage) (k f : ℕ) → At us st k f → (k ≤ 20) × (f ≤ 7)
at_most us Idle k f at = absurd at
at_most us Fetching k f at = (omega (arith, at.0), omega (arith, at.1))
at_most us (Working (Drawing n)) k f at = (omega (arith, at.sent_is, at.few), omega (arith, at.nth, at.few))
at_most us (Working (Writing u n)) k f at = (omega (arith, at.sent_is, at.few, at.near), omega (arith, at.nth, at.few))
at_most us (Working (Reading u)) k f at = absurd at
at_most us (Working (Filling u)) k f at = absurd at
at_most us (Working (Looking u)) k f at = absurd at
at_most us (Working (Trimming u)) k f at = absurd at
at_most us (Working (Pruning u)) k f at = absurd at
at_most us (Working (Sealing u e)) k f at = absurd at
at_most us (Working (Offering p)) k f at = absurd at
at_most us (Working Starting) k f at = absurd at

-- ---- a turn: b, a head fails with it

-- it rests, and no head has failed; it sends one more; or it ends, after 17 where eight heads failed
abbrev pub Then : ℕ → ℕ → Bool → Turn → Act → Type 0
Then k f b t Rests = b ≡ false
Then k f b t (Sends n) = At (units_for t.client) t.client.stage (suc k) (f + one b)
Then k f b t Ends = f + one b ≡ 8 → k ≡ 17

abbrev pub Goes : ℕ → ℕ → Bool → Turn → Type 0
Goes k f b t = Then k f b t t.act

module _ (c : Client) (k f : ℕ) where
  -- where no head fails with it, seven have failed at most
  module _ (b : Bool) (quiet : b ≡ false) (low : f ≤ 7) where
    over : (d : Client) (n : ℕ) → Goes k f b (ends d n)
    over d n eight = absurd (omega (arith, eight, low, ap one quiet))

    other : (n : ℕ) → Goes k f b (otherwise c n)
    other n = otherwise_cases (Goes k f b) c n (λ none. quiet) (λ some. over c n)

    next : (d : Client) (q : Query) → At (units_for d) d.stage (suc k) (f + one b) → Goes k f b (sends d q)
    next d q at = sends_cases (Goes k f b) d q (λ spent. over d 19) (λ left. at)

    fetched : c.work ≡ Append → k ≡ 1 → f ≡ 0 → (a : Reply) (l : Layout) → Goes k f b (on_fetched c a l)
    fetched is sent none a l = go a
      where
        first : DrawingAt 1 (suc k) (f + one b)
        first = record { sent_is = omega (arith, sent); nth = omega (arith, none, ap one quiet); few = omega arith }

        draw : Goes k f b (goes_on c.work (holding c l))
        draw = subst (λ (w : Work). Goes k f b (goes_on w (holding c l))) (sym is) (next (in_phase (holding c l) (Drawing 1)) (plain (ask.Token l.epoch)) first)

        go : (a : Reply) → Goes k f b (on_fetched c a l)
        go Held = held_cases (Goes k f b) c l (λ good. draw) (λ bad. over c 10)
        go (Given p) = other 0
        go Fine = other 0
        go Shown = other 0
        go (Edged e) = other 0
        go (Refused n) = other n

    tokened : (n : ℕ) → DrawingAt n k f → (a : Reply) → Goes k f b (on_token c n a)
    tokened n at a = go a
      where
        head : (p : Position) → Goes k f b (writes (at_position c p) (head_for (at_position c p)) n)
        head p =
            let d = at_position c p in
            let u = head_for d in
            next (in_phase d (Writing u n)) (bearing (ask.Unit u (unit_ask.Write d.layout.epoch p)) d.page) (record {
              sent_is = omega (arith, at.sent_is, ahead_head (units_for d));
              nth = omega (arith, at.nth, ap one quiet);
              few = at.few;
              near = omega (arith, ahead_head (units_for d));
            })

        go : (a : Reply) → Goes k f b (on_token c n a)
        go Held = other 0
        go (Given p) = token_cases (Goes k f b) c n p (λ below. head p) (λ past. quiet)
        go Fine = other 0
        go Shown = other 0
        go (Edged e) = other 0
        go (Refused m) = other m

    -- along the set
    walked : (u n : ℕ) → WritingAt (units_for c) u n k f → Goes k f b (writes_on c u n)
    walked u n at =
        written_cases (Goes k f b) c u n (λ tail. over c 0)
        (λ more.
        let v = after_for c u in
        let along = next_ahead c.layout c.position.0 u more in
        next (in_phase c (Writing v n)) (bearing (ask.Unit v (unit_ask.Write c.layout.epoch c.position)) c.page) (record {
          sent_is = omega (arith, at.sent_is, along.0);
          nth = omega (arith, at.nth, ap one quiet);
          few = at.few;
          near = along.1;
        }))

  -- ---- at a unit that was written to

  module _ (u n : ℕ) (at : WritingAt (units_for c) u n k f) where
    low : f ≤ 7
    low = omega (arith, at.nth, at.few)

    -- the eighth head
    eighth : (taken : Bool) → f + one (taken && eqb u (head_for c)) ≡ 8 → k ≡ 17
    eighth taken = go (taken && eqb u (head_for c)) refl
      where
        go : (b : Bool) → (taken && eqb u (head_for c)) ≡ b → f + one b ≡ 8 → k ≡ 17
        go true e eight =
            let head : u ≡ head_of (units_for c) = eqb-true u (head_for c) (and_both taken (eqb u (head_for c)) e).1 in
            let first : ahead u (units_for c) ≡ 0 = ap (λ v. ahead v (units_for c)) head ∙ ahead_head (units_for c) in
            omega (arith, eight, first, at.sent_is, at.nth)
        go false e eight = absurd (omega (arith, eight, low))

    not_taken : (m : ℕ) → no_refusal m ≡ true → (eqb m 5 || eqb m 6) ≡ false
    unfolding no_refusal
    not_taken m e = go (eqb m 5) refl (eqb m 6) refl
      where
        go : (s : Bool) → eqb m 5 ≡ s → (t : Bool) → eqb m 6 ≡ t → (s || t) ≡ false
        go true five t six = absurd (false_true (subst (λ i. (eqb i 0 || ltb 12 i) ≡ true) (eqb-true m 5 five) e))
        go false five true six = absurd (false_true (subst (λ i. (eqb i 0 || ltb 12 i) ≡ true) (eqb-true m 6 six) e))
        go false five false six = refl

    unwritten : (m : ℕ) → Goes k f ((eqb m 5 || eqb m 6) && eqb u (head_for c)) (not_written c u n m)
    unwritten m =
        let b = (eqb m 5 || eqb m 6) && eqb u (head_for c) in
        unwritten_cases (Goes k f b) c u n m
        (λ head taken left.
        let now : b ≡ true = ap (λ s. s && eqb u (head_for c)) taken ∙ eq-eqb u (head_for c) head in
        let first : ahead u (units_for c) ≡ 0 = ap (λ v. ahead v (units_for c)) head ∙ ahead_head (units_for c) in
        sends_cases (Goes k f b) (in_phase c (Drawing (n + 1))) (plain (ask.Token c.layout.epoch)) (λ spent eight. absurd (omega (arith, eight, left, at.nth, ap one now)))
        (λ more. record { sent_is = omega (arith, at.sent_is, first); nth = omega (arith, at.nth, ap one now); few = omega (arith, left) }))
        (λ later six. walked b (ap (λ s. (eqb m 5 || eqb m 6) && s) (ne_eqb u (head_for c) later) ∙ and_false (eqb m 5 || eqb m 6)) low u n at)
        (λ none. ap (λ s. s && eqb u (head_for c)) (not_taken m none))
        (λ some. eighth (eqb m 5 || eqb m 6))

    written : (a : Reply) → Goes k f (is_taken a && eqb u (head_for c)) (on_written c u n a)
    written Held = unwritten 0
    written (Given p) = unwritten 0
    written Fine = walked false refl low u n at
    written Shown = unwritten 0
    written (Edged e) = unwritten 0
    written (Refused m) = unwritten m

  -- ---- whatever is answered

  working : (p : Phase) (r : Response) → PhaseAt (units_for c) p k f → Goes k f (is_taken r.reply && at_head_in c p) (answered (Working p) c r)
  working (Drawing n) r at =
      let quiet = and_false (is_taken r.reply) in
      let low : f ≤ 7 = omega (arith, at.nth, at.few) in
      working_cases (Goes k f (is_taken r.reply && false)) c (Drawing n) r.reply r.page (λ good. tokened (is_taken r.reply && false) quiet low n at r.reply) (λ bad. over (is_taken r.reply && false) quiet low c 10)
  working (Writing u n) r at =
      working_cases (Goes k f (is_taken r.reply && eqb u (head_for c))) c (Writing u n) r.reply r.page (λ good. written u n at r.reply) (λ bad. eighth u n at (is_taken r.reply))
  working (Reading u) r at = absurd at
  working (Filling u) r at = absurd at
  working (Looking u) r at = absurd at
  working (Trimming u) r at = absurd at
  working (Pruning u) r at = absurd at
  working (Sealing u e) r at = absurd at
  working (Offering p) r at = absurd at
  working Starting r at = absurd at

  pub append_goes : (st : Stage) (r : Response) → c.work ≡ Append → At (units_for c) st k f → Goes k f (is_taken r.reply && at_head c st) (answered st c r)
  append_goes Idle r is at = absurd at
  append_goes Fetching r is at = fetched (is_taken r.reply && false) (and_false (is_taken r.reply)) (omega (arith, at.1)) is at.0 at.1 r.reply r.layout
  append_goes (Working p) r is at = working p r at
