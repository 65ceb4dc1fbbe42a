-- A history that can come about, so that `Run` does not speak of nothing. X is written at the head, unit 1; a reorganise drops unit 2 unsealed
-- and begins a range with unit 3, which was of no layout; Y is appended there; then the late write of X arrives at unit 2, which still takes it.
-- A read under the layout in force shows X; and the old tail, dropped unsealed, says "unwritten" of Y.
-- Rests on the laws of edges and units.
use mathlib.Core.Path.{◌≡◌, refl, sym, subst}
use mathlib.Core.Bool.{Bool, true, false}
use mathlib.Core.List.{List, [], ◌∷◌}
use Prim.Native.Nat.{◌<◌}
use native.Mathlib.Omega.{arith}
use lib.Dec.{ltb}
use borrow.Author.Tests.{ltb-false}
use Rattle.history.specs.Words.{UnitNo, Pos, Epoch, Page, ◌∈◌, Before, Rising}
use Rattle.history.specs.Words.◌∈◌.{first, next}
use Rattle.history.specs.Words.Before.{before_here, before_later}
use Rattle.history.specs.Words.Last.{last_here, last_later}
use Rattle.history.specs.Words.Rising.{rising_none, rising_more}
use Rattle.history.specs.Words.Answer.{shows, unwritten}
use Rattle.history.specs.Maps.{Map, Has, Serves, Good, Renewed, Successor}
use Rattle.history.specs.History.{Event, History, MarkNoted, Laid, MarkedBy, Unmarked, held, sealed}
use Rattle.history.specs.History.Note.{append}
use Rattle.history.specs.History.Event.{ask, mark, seal, install}
use Rattle.history.specs.History.History.{fresh, ◌▹◌}
use Rattle.history.specs.History.◌⊑◌.{here, later}
use Rattle.history.specs.History.Noted.{noted_now, noted_before}
use Rattle.history.specs.History.Stretch.{only}
use Rattle.history.specs.History.Covers.{covers_only}
use Rattle.history.specs.History.MarkNoted.{by_append}
use Rattle.history.specs.History.Laid.{laid_first, laid_now, laid_before}
use Rattle.history.specs.History.Mark.{page}
use Rattle.history.specs.Events.{Takes, MayMark, MaySeal, MayInstall, Run}
use Rattle.history.specs.Events.Run.{run_fresh, run_step}
use Rattle.history.specs.Edges.{Edge, SealedAt, EdgeAt}
use Rattle.history.specs.Safety.{Read, Settled}
use Rattle.history.specs.Safety.Answers.{has_none}
use Rattle.history.proofs.Order.{head_first}
use Rattle.history.proofs.Stretches.{only_covers, of_only}
use Rattle.history.proofs.Moments.{lift, marked_by_now}
use Rattle.history.proofs.Marks.{no_mark}
use Rattle.history.proofs.Units.{ask_touches, mark_touches, seal_touches, install_touches, untouched, answers_on, edge_on, mark_shows}
use Rattle.history.proofs.Edges.{sealed_at_now, sealed_at_on, edge_at_now, may_install}

-- ---- lists of one and two

none_in : {u : UnitNo} → ¬ (u ∈ [])
none_in = elim [ ]

rising_one : (u : UnitNo) → Rising (u ∷ [])
rising_one u = rising_more (λ v there. absurd (none_in there)) rising_none

above_one : {u v : UnitNo} → u < v → (w : UnitNo) → w ∈ (v ∷ []) → u < w
above_one lt w first = lt
above_one lt w (next there) = absurd (none_in there)

rising_two : (u v : UnitNo) → u < v → Rising (u ∷ v ∷ [])
rising_two u v lt = rising_more (above_one lt) (rising_one v)

not_before_one : {u v w : UnitNo} → ¬ Before u v (w ∷ [])
not_before_one (before_here there) = none_in there
not_before_one (before_later rest) = none rest
  where
    none : {u v : UnitNo} → ¬ Before u v []
    none = elim [ ]

-- of two, only the first stands before the second
before_second : {w u v : UnitNo} → Before w v (u ∷ v ∷ []) → w ≡ u
before_second (before_here there) = refl
before_second (before_later rest) = absurd (not_before_one rest)

-- ---- two layouts

-- all positions belong to {1, 2}
abbrev one : Map
one = record { epoch = 1; units = 1 ∷ 2 ∷ []; start = 0; set = λ p. 1 ∷ 2 ∷ [] }

-- position 0 belongs to {1}, all others to {1, 3}
abbrev set_of_two : Bool → List UnitNo
set_of_two true = 1 ∷ []
set_of_two false = 1 ∷ 3 ∷ []

abbrev two : Map
two = record { epoch = 2; units = 1 ∷ 3 ∷ []; start = 1; set = λ p. set_of_two (ltb p 1) }

one_good : Good one
one_good = record {
  set_rises = λ p. rising_two 1 2 (omega arith);
  set_within = λ p u su. su;
}

two_rises : (b : Bool) → Rising (set_of_two b)
two_rises true = rising_one 1
two_rises false = rising_two 1 3 (omega arith)

two_within : {u : UnitNo} (b : Bool) → u ∈ set_of_two b → u ∈ (1 ∷ 3 ∷ [])
two_within true first = first
two_within true (next there) = absurd (none_in there)
two_within false there = there

two_good : Good two
two_good = record {
  set_rises = λ p. two_rises (ltb p 1);
  set_within = λ p u. two_within (ltb p 1);
}

two_served : (p : Pos) (u : UnitNo) (b : Bool) → ltb p 1 ≡ b → ¬ Renewed one two p → u ∈ set_of_two b → Serves one p u
two_served p u true e old first = first
two_served p u true e old (next there) = absurd (none_in there)
two_served p u false e old there = absurd (old (record { more = omega arith; from = omega (arith, ltb-false p 1 e) }))

follower : Successor one two
follower = record {
  source = λ p u. u;
  source_served = λ p u. two_served p u (ltb p 1) refl;
  source_has = λ p u old. two_within (ltb p 1);
  source_order = λ p u v old su sv lt. omega arith;
  kept = λ p. 1;
  kept_served = λ p. first;
  kept_stays = λ p. first;
}

-- ---- the history

abbrev write : UnitNo → Epoch → Pos → Page → Event
write u e p X = mark u e (only p) (page X)

module _ (X Y : Page) where
  abbrev asked : History
  asked = fresh one ▹ ask (append X) ▹ ask (append Y)

  -- X is at its head; then units 1 and 3 are sealed
  abbrev begun : History
  begun = asked ▹ write 1 1 0 X

  abbrev closed : History
  closed = begun ▹ seal 1 1 ▹ seal 3 1

  -- Y is appended in the new range; and only then the last write of X arrives at unit 2
  abbrev reopened : History
  reopened = closed ▹ install two ▹ write 1 2 1 Y ▹ write 3 2 1 Y

  abbrev ended : History
  ended = reopened ▹ write 2 1 0 X

  -- ---- where nothing is marked

  asked_empty : (u : UnitNo) (g : Pos) → Edge asked u g
  asked_empty u g = edge_on (λ p at. ask_touches) (edge_on (λ p at. ask_touches) (λ p at m a. no_mark))

  -- a write at another unit or position
  other : {h : History} {u v : UnitNo} {e : Epoch} {p q : Pos} {Z : Page} → ¬ ((v ≡ u) × (q ≡ p)) → Unmarked h v q → Unmarked (h ▹ write u e p Z) v q
  other differ none m a mk = none m a (untouched (λ t. differ ((mark_touches t).0, only_covers (mark_touches t).1)) mk)

  -- the edge of unit 1 is 1, that of another unit is 0
  edge_one : Edge begun 1 1
  edge_one p at = other (λ same. omega (arith, same.1)) (asked_empty 1 1 p at)

  edge_else : (u : UnitNo) → 1 < u → Edge begun u 0
  edge_else u lt p at = other (λ same. omega (arith, same.0)) (asked_empty u 0 p at)

  -- the seals and the layout mark nothing
  unmarked_on : {u : UnitNo} {p : Pos} → Unmarked begun u p → Unmarked (closed ▹ install two) u p
  unmarked_on none m a mk = none m a (untouched seal_touches (untouched seal_touches (untouched install_touches mk)))

  unmarked_end : {u : UnitNo} {p : Pos} → 1 < u → ¬ (u ≡ 3) → Unmarked reopened u p
  unmarked_end {u} {p} lt not_three =
      other (λ same. not_three same.0) (other (λ same. omega (arith, same.0)) (unmarked_on (edge_else u lt p (omega arith))))

  -- ---- each event may come

  may_write : {h : History} {u : UnitNo} {L : Map} {p : Pos} {Z : Page} → Takes h u L → Unmarked h u p →
      ((v : UnitNo) → Before v u (L.set p) → MarkedBy h v p (page Z) L.epoch) → MarkNoted h p (page Z) → MayMark h u L.epoch (only p) (page Z)
  may_write {h} {u} {L} {p} {Z} takes unmarked above was_asked = record {
    walked = record {
      by = L;
      laid = takes.laid;
      epoch_is = refl;
      has = takes.has;
      above = of_only (λ q. (v : UnitNo) → Before v u (L.set q) → MarkedBy h v q (page Z) L.epoch) above;
      asked = of_only (λ q. MarkNoted h q (page Z)) was_asked;
    };
    takes = takes;
    free = of_only (λ q. Unmarked h u q) unmarked;
  }

  run_asked : Run asked
  run_asked = run_step {ev = ask (append Y)} (run_step {ev = ask (append X)} (run_fresh one_good refl) tt) tt

  run_begun : Run begun
  unfolding sealed
  run_begun = run_step {ev = write 1 1 0 X} run_asked
      (may_write {L = one} (record { laid = laid_before (laid_before laid_first); has = first; unsealed = omega arith })
      (asked_empty 1 0 0 (omega arith))
      (λ v before. absurd (head_first (one_good.set_rises 0) before))
      (by_append (noted_before noted_now)))

  seal_one : MaySeal begun 1 1
  unfolding sealed held
  seal_one = record { rises = omega arith; in_force = omega arith }

  seal_three : MaySeal (begun ▹ seal 1 1) 3 1
  unfolding sealed held
  seal_three = record { rises = omega arith; in_force = omega arith }

  run_sealed : Run (begun ▹ seal 1 1)
  run_sealed = run_step {ev = seal 1 1} run_begun seal_one

  run_closed : Run closed
  run_closed = run_step {ev = seal 3 1} run_sealed seal_three

  sealed_both : (u : UnitNo) → Has two u → SealedAt closed u 1
  sealed_both u first = sealed_at_on run_closed (later here) sealed_at_now
  sealed_both u (next first) = sealed_at_now
  sealed_both u (next (next there)) = absurd (none_in there)

  edge_closed : {u : UnitNo} {g : Pos} → Edge begun u g → EdgeAt closed u 1 g
  edge_closed edge = edge_at_now (edge_on (λ p from. seal_touches) (edge_on (λ p from. seal_touches) edge))

  edges : (u : UnitNo) → Has two u → EdgeAt closed u 1 1
  edges u first = edge_closed edge_one
  edges u (next first) = edge_closed (λ p from. edge_else 3 (omega arith) p (omega arith))
  edges u (next (next there)) = absurd (none_in there)

  installs : MayInstall closed two
  unfolding held follower
  installs = may_install 1 run_closed two_good refl follower (λ p u. refl) sealed_both edges (λ more. omega arith)

  run_installed : Run (closed ▹ install two)
  run_installed = run_step {ev = install two} run_closed installs

  -- the second of two, where the first has the page
  second_has : {h : History} {u v w : UnitNo} {p : Pos} {Z : Page} {e : Epoch} → MarkedBy h u p (page Z) e → Before w v (u ∷ v ∷ []) → MarkedBy h w p (page Z) e
  second_has {h} {p = p} {Z} {e} mk before = subst (λ w. MarkedBy h w p (page Z) e) (sym (before_second before)) mk

  run_reopened : Run reopened
  unfolding sealed
  run_reopened = run_step {ev = write 3 2 1 Y} (run_step {ev = write 1 2 1 Y} run_installed
      (may_write {L = two} (record { laid = laid_now; has = first; unsealed = omega arith })
      (unmarked_on (edge_one 1 (omega arith)))
      (λ v before. absurd (head_first (two_good.set_rises 1) before))
      (by_append (noted_before (noted_before (noted_before (noted_before noted_now)))))))
      (may_write {L = two} (record { laid = laid_before laid_now; has = next first; unsealed = omega arith })
      (other (λ same. omega (arith, same.0)) (unmarked_on (edge_else 3 (omega arith) 1 (omega arith))))
      (λ v before. second_has (marked_by_now covers_only) before)
      (by_append (noted_before (noted_before (noted_before (noted_before (noted_before noted_now)))))))

  laid_one_still : Laid reopened one
  laid_one_still = laid_before (laid_before (laid_before (laid_before (laid_before (laid_before (laid_before (laid_before laid_first)))))))

  takes_late : Takes reopened 2 one
  unfolding sealed
  takes_late = record { laid = laid_one_still; has = next first; unsealed = omega arith }

  head_had : MarkedBy reopened 1 0 (page X) 1
  head_had = lift (lift (lift (lift (lift (marked_by_now covers_only)))))

  run_ended : Run ended
  run_ended = run_step {ev = write 2 1 0 X} run_reopened
      (may_write {L = one} takes_late
      (unmarked_end (omega arith) (λ same. omega arith))
      (λ v before. second_has head_had before)
      (by_append (noted_before (noted_before (noted_before (noted_before (noted_before (noted_before (noted_before noted_now)))))))))

  -- ---- reads

  -- unit 1 alone serves position 0 now, and shows X
  reads : Read ended two 0 (shows X)
  unfolding sealed
  reads = record {
    tail = 1;
    is_tail = last_here;
    takes = record { laid = laid_before (laid_before (laid_before laid_now)); has = first; unsealed = omega arith };
    answers =
        answers_on (λ t. omega (arith, (mark_touches t).0))
        (answers_on (λ t. omega (arith, (mark_touches t).0))
        (answers_on (λ t. omega (arith, only_covers (mark_touches t).1))
        (answers_on install_touches (answers_on seal_touches (answers_on seal_touches (mark_shows (page X) (asked_empty 1 0 0 (omega arith)) covers_only))))));
  }

  -- Y is settled at 1, and yet the old tail answers "unwritten" there: only reads under the layout in force count
  all_have : (u : UnitNo) → u ∈ (1 ∷ 3 ∷ []) → MarkedBy reopened u 1 (page Y) 2
  all_have u first = lift (marked_by_now covers_only)
  all_have u (next first) = marked_by_now covers_only
  all_have u (next (next there)) = absurd (none_in there)

  settled : Settled reopened two 1 (page Y)
  settled = record { laid = laid_before (laid_before laid_now); all = all_have }

  old_tail : Read reopened one 1 unwritten
  old_tail = record { tail = 2; is_tail = last_later last_here; takes = takes_late; answers = has_none (unmarked_end (omega arith) (λ same. omega arith)) }
