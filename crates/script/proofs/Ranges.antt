-- Steps of code have bytes that a play can hold, and what is put of them is read back.
use Prim.Native.Nat.{ℕ, zero, suc, ◌+◌, ◌^◌, ◌<◌, ◌≤◌}
use mathlib.Core.Bool.{Bool, true, false, ◌&&◌}
use mathlib.Core.List.{List, [], ◌∷◌, ◌++◌, map, append_assoc}
use mathlib.Core.Path.{◌≡◌, refl, ap, ◌∙◌}
use native.Mathlib.Omega.{arith}
use borrow.Author.Tests.{leb-true, le-leb, lt-ltb}
use lib.Dec.{leb}
use lib.ListN.{length, get_or, take, drop, length-take, length-map}
use lib.Seq.{sets, sets-eq, drop_at, length-take-le}
use Rattle.num.proofs.Tests.{and_both}
use Rattle.num.proofs.Numbers.{Bytes}
use Rattle.layout.specs.declared.Chain.{Chain}
use Rattle.layout.specs.Lay.{set_limit, sets_limit}
use Rattle.layout.specs.Value.{no_chain, units_in}
use Rattle.layout.specs.Plan.{new_of}
use Rattle.client.specs.declared.Change.{Change}
use Rattle.client.specs.declared.Work.{Work}
use Rattle.client.specs.declared.Work.TheVariants.{Append, Read, Fill, Trim, Prune, Reorganise}
use Rattle.client.specs.declared.state.Job.{Job}
use Rattle.client.specs.Message.{page_limit}
use Rattle.client.specs.Client.{drop_limit}
use Rattle.client.specs.Job.{position_for}
use Rattle.rule.specs.declared.Step.{Step}
use Rattle.rule.specs.declared.Step.TheVariants.{Begin, Deliver, Drop, Stop, Restart, GiveUp, Forget}
use Rattle.std.specs.Prelude.{Some, None}
use Rattle.script.specs.Cue.{Cue, step_for, job_for}
use Rattle.script.specs.Steps.{cue_bytes, small_sets, has_room, got_of, got_at, are_bytes, sets_are_bytes, holdable}
use Rattle.script.specs.Put.{begun, cue_of, small_chains, change_fits, job_fits, step_fits, fits_at, StepPut}
use Rattle.script.proofs.Back.{cue_back, cue_stands, got_whole}

-- ---- the ranges of code's own numbers

-- the client, unit or place that a step names
abbrev pub name_of : Step → ℕ
name_of (Begin c) = c
name_of (Deliver i k a) = i
name_of (Drop i) = i
name_of (Stop u) = u
name_of (Restart c) = c
name_of (GiveUp c) = c
name_of Forget = 0

pub record Ranged (s : Step) (j : Job) : Type 0 where
  pub name : name_of s < 256
  pub place : (position_for j.work).0 < 2 ^ 64
  pub bytes : Bytes j.bytes
  pub drops : Bytes j.change.drops
  pub units : (i : ℕ) → Bytes (get_or j.change.wish.sets i no_chain).units

take_bytes : (n : ℕ) (xs : List ℕ) → Bytes xs → are_bytes (take n xs) ≡ true
unfolding are_bytes
take_bytes zero xs b = refl
take_bytes (suc n) [] b = refl
take_bytes (suc n) (x ∷ xs) b = rw (lt-ltb x 256 (b 0).fits) (take_bytes n xs (λ k. b (suc k)))

new_bytes : (n : ℕ) (cs : List Chain) → ((i : ℕ) → Bytes (get_or cs i no_chain).units) → sets_are_bytes (map units_in (take n cs)) ≡ true
unfolding sets_are_bytes
new_bytes zero cs b = refl
new_bytes (suc n) [] b = refl
new_bytes (suc n) (c ∷ cs) b = rw (take_bytes c.count c.units (b 0)) (new_bytes n cs (λ i. b (suc i)))

new_small : (cs : List Chain) → small_chains cs ≡ true → small_sets (map units_in cs) ≡ true
unfolding small_chains small_sets
new_small [] h = refl
new_small (c ∷ cs) h =
    let p = and_both (leb c.count set_limit) (small_chains cs) h in
    let few : c.count ≤ set_limit = leb-true c.count set_limit p.0 in
    rw (le-leb (length (units_in c)) set_limit (omega (arith, length-take c.count c.units))) (new_small cs p.1)

change_room : (c : ℕ) (h : Change) → change_fits h ≡ true → (leb (length (take h.count h.drops)) drop_limit && leb (length (new_of h.wish)) sets_limit && small_sets (new_of h.wish)) ≡ true
unfolding change_fits
change_room c h y =
    let cs = take h.wish.count h.wish.sets in
    let p = and_both (leb h.count drop_limit && leb h.wish.count sets_limit) (small_chains cs) y in
    let q = and_both (leb h.count drop_limit) (leb h.wish.count sets_limit) p.0 in
    let drops : h.count ≤ drop_limit = leb-true h.count drop_limit q.0 in
    let sets : h.wish.count ≤ sets_limit = leb-true h.wish.count sets_limit q.1 in
    rw (
      le-leb (length (take h.count h.drops)) drop_limit (omega (arith, length-take h.count h.drops)),
      le-leb (length (new_of h.wish)) sets_limit (omega (arith, length-map cs units_in, length-take h.wish.count h.wish.sets)),
      new_small cs p.1,
    )

module _ (c : ℕ) (j : Job) (small : c < 256) (bytes : Bytes j.bytes) (drops : Bytes j.change.drops) (units : (i : ℕ) → Bytes (get_or j.change.wish.sets i no_chain).units) where
  begin_holdable : (w : Work) → (position_for w).0 < 2 ^ 64 → job_fits j w ≡ true → holdable (begun c j w) ≡ true
  unfolding holdable has_room
  begin_holdable Append p h =
      let few : j.len ≤ page_limit = leb-true j.len page_limit h in
      rw (lt-ltb c 256 small, le-leb (length (take j.len j.bytes)) 255 (omega (arith, length-take j.len j.bytes)), take_bytes j.len j.bytes bytes)
  begin_holdable (Read q) p h = rw (lt-ltb c 256 small, lt-ltb q.0 (2 ^ 64) p)
  begin_holdable (Fill q) p h = rw (lt-ltb c 256 small, lt-ltb q.0 (2 ^ 64) p)
  begin_holdable (Trim q) p h = rw (lt-ltb c 256 small, lt-ltb q.0 (2 ^ 64) p)
  begin_holdable (Prune q) p h = rw (lt-ltb c 256 small, lt-ltb q.0 (2 ^ 64) p)
  begin_holdable Reorganise p h =
      rw (
        lt-ltb c 256 small,
        take_bytes j.change.count j.change.drops drops,
        new_bytes j.change.wish.count j.change.wish.sets units,
        change_room c j.change h,
      )

-- the result: a step of code that has bytes has those of a step that a play can hold
pub step_holdable : (s : Step) (j : Job) → Ranged s j → step_fits s j ≡ true → holdable (cue_of s j) ≡ true
unfolding cue_of step_fits holdable
step_holdable (Begin c) j r h = begin_holdable c j r.name r.bytes r.drops r.units j.work r.place h
step_holdable (Deliver i k a) j r h = lt-ltb i 256 r.name
step_holdable (Drop i) j r h = lt-ltb i 256 r.name
step_holdable (Stop u) j r h = lt-ltb u 256 r.name
step_holdable (Restart c) j r h = lt-ltb c 256 r.name
step_holdable (GiveUp c) j r h = lt-ltb c 256 r.name
step_holdable Forget j r h = refl

-- ---- what is put is read back

begun_step : (c : ℕ) (j : Job) (w : Work) → step_for (begun c j w) ≡ Begin c
unfolding step_for
begun_step c j Append = refl
begun_step c j (Read p) = refl
begun_step c j (Fill p) = refl
begun_step c j (Trim p) = refl
begun_step c j (Prune p) = refl
begun_step c j Reorganise = refl

pub same_step : (s : Step) (j : Job) → step_for (cue_of s j) ≡ s
unfolding step_for cue_of
same_step (Begin c) j = begun_step c j j.work
same_step (Deliver i k a) j = refl
same_step (Drop i) j = refl
same_step (Stop u) j = refl
same_step (Restart c) j = refl
same_step (GiveUp c) j = refl
same_step Forget j = refl

got_back : (c : Cue) (ys : List ℕ) → holdable c ≡ true → got_at (cue_bytes c ++ ys) ≡ Some (got_of c)
got_back c ys h = got_whole (cue_bytes c ++ ys) (cue_stands c ys h) ∙ ap (λ (x : Cue). Some (got_of x)) (cue_back c ys h)

-- what stands at a place where bytes were put
put_front : (vs before : List ℕ) (at : ℕ) → at + length vs ≤ length before → drop at (sets before at vs) ≡ vs ++ drop (at + length vs) before
put_front vs before at h =
    let rest = drop (at + length vs) before in
    rw (sets-eq vs before at h, append_assoc (take at before) vs rest) (drop_at (take at before) (vs ++ rest) at (length-take-le at before (omega arith)))

-- the result: where put_step wrote, step_at finds the step again, and what came with it
pub put_reads : (s : Step) (j : Job) (at count : ℕ) (before after : List ℕ) → Ranged s j → StepPut s j at before (Some count) after
    → got_at (drop at after) ≡ Some (record { size = count; step = s; job = job_for (cue_of s j) })
put_reads s j at count before after r p = go (fits_at (step_fits s j) before at (cue_bytes (cue_of s j))) refl
  where
    go : (t : Bool) → fits_at (step_fits s j) before at (cue_bytes (cue_of s j)) ≡ t → got_at (drop at after) ≡ Some (record { size = count; step = s; job = job_for (cue_of s j) })
    go false e = let none : Some count ≡ None = p.count_is ∙ rw e in cc
    go true e =
        let q = and_both (step_fits s j) (leb (at + length (cue_bytes (cue_of s j))) (length before)) e in
        let counted : Some count ≡ Some (length (cue_bytes (cue_of s j))) = p.count_is ∙ rw e in
        let size : count ≡ length (cue_bytes (cue_of s j)) = cc in
        let put : after ≡ sets before at (cue_bytes (cue_of s j)) = p.buffer_is ∙ rw e in
        let room : at + length (cue_bytes (cue_of s j)) ≤ length before = leb-true (at + length (cue_bytes (cue_of s j))) (length before) q.1 in
        rw (put, put_front (cue_bytes (cue_of s j)) before at room, got_back (cue_of s j) (drop (at + length (cue_bytes (cue_of s j))) before) (step_holdable s j r q.0), same_step s j, size)
