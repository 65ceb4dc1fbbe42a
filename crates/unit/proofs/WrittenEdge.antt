-- How each request moves the written edge, and that it is never above the edge.
use Rattle.std.proofs.Common.{◌≡◌, ℕ, ◌+◌, ◌≤◌, max, Bool, true, false, cond, eqb, ltb, List, [], ◌∷◌, refl, ◌∙◌, arith, ltb-false, ltb-true, eqb-true}
use borrow.Author.Tests.{eqb-false}
use Rattle.num.specs.declared.Epoch.{Epoch}
use Rattle.num.specs.declared.Position.{Position}
use Rattle.num.specs.Limits.{limit}
use Rattle.num.proofs.Tests.{or_false}
use Rattle.unit.specs.Kinds.{no_kind, stray_kind, is_gone, was_written}
use Rattle.unit.specs.Shape.{Shape}
use Rattle.unit.specs.State.{Content, Slot, State, content, page, retired_page, lookup, insert, keep_from, retire, last_end, edge, written_end, written_edge}
use Rattle.unit.specs.Unit.{Request, kind_at, free, trimmed, written, retired, trimmed_at, pruned, pruned_to, sealed_at, becomes, says, after, moves_to, written_after}
use Rattle.unit.specs.Unit.Request.{write, read, trim, prune, seal, measure}
use Rattle.unit.specs.Memory.{valid_slots, valid}
use Rattle.unit.proofs.Questions.{stays_page, page_written, retired_written, stray_unwritten}
use Rattle.unit.proofs.Answers.{writable, by_test, by_answer}
use Rattle.unit.proofs.Decoding.{valid_step, stays_valid}
use Rattle.unit.proofs.Lookup.{held, last_above, edge_limit}

-- what a slot counts for
abbrev pub counted : Slot → ℕ
counted s = cond (was_written s.kind) (s.position + 1) 0

pub counted_most : (s : Slot) → counted s ≤ s.position + 1
counted_most s = by_test (λ (n : ℕ). n ≤ s.position + 1) (was_written s.kind) (λ t. omega arith) (λ t. omega arith)

-- ---- the slots

insert_end : (s : Slot) (ss : List Slot) → written_end (insert s ss) ≡ max (counted s) (written_end ss)
unfolding written_end insert
insert_end s [] = refl
insert_end s (t ∷ ts) = go (ltb s.position t.position) (insert_end s ts)
  where
    go : (b : Bool) → written_end (insert s ts) ≡ max (counted s) (written_end ts)
        → written_end (cond b (s ∷ t ∷ ts) (t ∷ insert s ts)) ≡ max (counted s) (max (counted t) (written_end ts))
    go true e = refl
    go false e = omega (arith, e)

retire_end : (p : ℕ) (ss : List Slot) → was_written (lookup p ss).kind ≡ true → written_end (retire p ss) ≡ written_end ss
unfolding written_end retire lookup
retire_end p [] h = refl
retire_end p (s ∷ ss) h = go (eqb s.position p) refl (λ y. retire_end p ss y)
  where
    go : (b : Bool) → eqb s.position p ≡ b → (was_written (lookup p ss).kind ≡ true → written_end (retire p ss) ≡ written_end ss)
        → written_end (cond (eqb s.position p) (page p retired_page ∷ ss) (s ∷ retire p ss)) ≡ max (counted s) (written_end ss)
    go true e ih = rw (e, retired_written, (rw e at h), eqb-true s.position p e)
    go false e ih = rw (e, ih (rw e at h))

keep_end : (p : ℕ) (ss : List Slot) → max p (written_end (keep_from p ss)) ≡ max p (written_end ss)
unfolding written_end keep_from
keep_end p [] = refl
keep_end p (s ∷ ss) = go (ltb s.position p) refl (keep_end p ss)
  where
    go : (b : Bool) → ltb s.position p ≡ b → max p (written_end (keep_from p ss)) ≡ max p (written_end ss)
        → max p (written_end (cond (ltb s.position p) (keep_from p ss) (s ∷ keep_from p ss))) ≡ max p (max (counted s) (written_end ss))
    go true e ih = rw e (omega (arith, ih, counted_most s, ltb-true s.position p e))
    go false e ih = rw e (omega (arith, ih))

end_most : (pay low : ℕ) (ss : List Slot) → valid_slots pay low ss ≡ true → written_end ss ≤ last_end ss
unfolding written_end last_end
end_most pay low [] v = omega arith
end_most pay low (s ∷ []) v = omega (arith, counted_most s)
end_most pay low (s ∷ t ∷ ts) v =
    let (_, w) = valid_step pay low s (t ∷ ts) v in
    omega (arith, counted_most s, last_above pay (s.position + 1) t ts w, end_most pay (s.position + 1) (t ∷ ts) w)

-- ---- the unit

-- THE WRITTEN EDGE IS NEVER ABOVE THE EDGE
pub written_most : (sh : Shape) (u : State) → valid sh u ≡ true → written_edge u ≤ edge u
unfolding written_edge edge
written_most sh u v = omega (arith, end_most sh.cap u.floor u.slots (stays_valid sh u v).slots)

pub written_limit : (sh : Shape) (u : State) → valid sh u ≡ true → written_edge u ≤ limit
written_limit sh u v = omega (arith, written_most sh u v, edge_limit sh u v)

written_moves : (u : State) (p : ℕ) (g : Content) → was_written g.kind ≡ true → written_edge (written u p g) ≡ max (written_edge u) (p + 1)
unfolding written_edge written
written_moves u p g h = rw (insert_end (page p g) u.slots, h) (omega arith)

stray_moves : (u : State) (p : ℕ) → written_edge (written u p (content stray_kind [])) ≡ written_edge u
unfolding written_edge written
stray_moves u p = rw (insert_end (page p (content stray_kind [])) u.slots, stray_unwritten) (omega arith)

retired_moves : (u : State) (p : ℕ) → was_written (kind_at u p) ≡ true → written_edge (retired u p) ≡ written_edge u
unfolding written_edge retired
retired_moves u p h = rw (retire_end p u.slots h)

pruned_moves : (u : State) (p : ℕ) → written_edge (pruned_to u p) ≡ max (written_edge u) p
unfolding written_edge pruned_to pruned
pruned_moves u p =
    by_test (λ (w : State). max w.floor (written_end w.slots) ≡ max (max u.floor (written_end u.slots)) p) (ltb u.floor p)
    (λ t. omega (arith, keep_end p u.slots, ltb-true u.floor p t)) (λ t. omega (arith, ltb-false u.floor p t))

sealed_moves : (u : State) (n : ℕ) → written_edge (sealed_at u n) ≡ written_edge u
unfolding written_edge sealed_at
sealed_moves u n = refl

module _ (sh : Shape) (u : State) (v : valid sh u ≡ true) where
  -- a slot that is not gone was written
  stays_written : (p : ℕ) → trimmed u p ≡ false → (kind_at u p ≡ no_kind → ⊥) → was_written (kind_at u p) ≡ true
  stays_written p t k =
      let known = (held sh.cap u.floor p u.slots (stays_valid sh u v).slots k).fields.known in
      page_written (kind_at u p) (stays_page (kind_at u p) known (or_false (ltb p u.floor) (is_gone (kind_at u p)) t).1)

  trimmed_moves : (p : ℕ) → written_edge (trimmed_at u p) ≡ written_edge u
  unfolding trimmed_at
  trimmed_moves p =
      by_test (λ (w : State). written_edge w ≡ written_edge u) (trimmed u p) (λ t. refl)
      (λ t. by_test (λ (w : State). written_edge w ≡ written_edge u) (free u p) (λ f. stray_moves u p)
      (λ f. retired_moves u p (stays_written p t (eqb-false (kind_at u p) no_kind f))))

  becomes_moves : (r : Request) → says sh u r ≡ 0 → written_edge (becomes u r) ≡ moves_to (written_edge u) r
  becomes_moves (write e p g) z = written_moves u p.0 g (page_written g.kind (writable sh u e p g z).takes.page)
  becomes_moves (read e p) z = refl
  becomes_moves (trim e p) z = trimmed_moves p.0
  becomes_moves (prune e p) z = pruned_moves u p.0
  becomes_moves (seal e) z = sealed_moves u e.0
  becomes_moves measure z = refl

  -- THE TABLE OF WHAT MOVES THE WRITTEN EDGE
  pub written_edge_moves : (r : Request) → written_edge (after sh u r) ≡ written_after sh u r
  unfolding after written_after
  written_edge_moves r = go (eqb (says sh u r) 0) refl
    where
      go : (b : Bool) → eqb (says sh u r) 0 ≡ b → written_edge (cond b (becomes u r) u) ≡ cond b (moves_to (written_edge u) r) (written_edge u)
      go true e = becomes_moves r (eqb-true (says sh u r) 0 e)
      go false e = refl

  -- so a stray trim leaves it as it was
  pub trim_leaves : (e : Epoch) (p : Position) → written_edge (after sh u (trim e p)) ≡ written_edge u
  unfolding written_after
  trim_leaves e p = written_edge_moves (trim e p) ∙ by_answer (λ (n : ℕ). n ≡ written_edge u) (says sh u (trim e p)) (λ z. refl) (λ z. refl)
