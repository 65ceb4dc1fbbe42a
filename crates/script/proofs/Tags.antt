-- What code takes at the front of the bytes, tag by tag.
use Prim.Native.Nat.{ℕ, zero, suc, ◌+◌, ◌-◌, ◌<◌, ◌≤◌}
use mathlib.Core.Bool.{Bool, true, false, ◌&&◌, ◌||◌, not, cond}
use mathlib.Core.List.{List, ◌∷◌}
use mathlib.Core.Path.{◌≡◌, refl, sym, ◌∙◌}
use native.Mathlib.Omega.{arith}
use borrow.Author.Tests.{lt-leb, le-leb, leb-true}
use lib.Dec.{eqb, leb}
use lib.ListN.{length, get_or, take, drop, drop_of_length-le, length-append, length-drop}
use lib.Seq.{get_or-drop, take_all}
use Rattle.std.proofs.Common.{inl, inr}
use Rattle.std.specs.Prelude.{◌⊎◌, Option, Some, None}
use Rattle.num.specs.Bytes.{number_at}
use Rattle.num.proofs.Numbers.{le_length}
use Rattle.num.proofs.Tests.{and_both, and_false, false_true}
use Rattle.layout.specs.declared.Wish.{Wish}
use Rattle.layout.specs.Lay.{sets_limit}
use Rattle.layout.specs.Value.{padded}
use Rattle.layout.specs.Codec.{sets_bytes, set_front, sets_said, wish_said}
use Rattle.layout.proofs.Padded.{length_padded}
use Rattle.layout.proofs.SetsAt.{sets_length}
use Rattle.client.specs.declared.Work.TheVariants.{Read, Fill, Trim, Prune}
use Rattle.client.specs.declared.Change.{Change}
use Rattle.client.specs.declared.state.Job.{Job}
use Rattle.client.specs.Message.{page_limit}
use Rattle.client.specs.Client.{drop_limit, job_of, append_of, reorganise_of}
use Rattle.rule.specs.declared.Step.{Step}
use Rattle.rule.specs.declared.Step.TheVariants.{Begin, Drop, Stop, Restart, GiveUp, Forget}
use Rattle.script.specs.declared.step.Got.{Got}
use Rattle.script.specs.Cue.{step_for, job_for, no_job, change_of}
use Rattle.script.specs.Cue.Cue.{append, reorganise, deliver}
use Rattle.script.specs.Steps.{cue_bytes, past_drops, cue_for, cue_at, is_tag, small_sets, has_room, is_cue, whole, got_at}

-- ---- by the tag

-- t is a tag, and a delivery's flags are as they may be
abbrev pub tagged : ℕ → List ℕ → Bool
tagged t b = is_tag t && (not (eqb t 7) || (leb (get_or b 2 0) 1 && leb (get_or b 3 0) 1))

pub got_tagged : (b : List ℕ) (t : ℕ) → get_or b 0 0 ≡ t → tagged t b ≡ true → got_at b ≡ whole b (cue_for t b)
unfolding got_at is_cue cue_at
got_tagged b t e h = rw (e, h)

pub got_none : (b : List ℕ) (t : ℕ) → get_or b 0 0 ≡ t → tagged t b ≡ false → got_at b ≡ None
unfolding got_at is_cue cue_at
got_none b t e h = rw (e, h)

pub got_past : (b : List ℕ) (at : ℕ) → length b < at → got_at (drop at b) ≡ None
unfolding got_at is_cue
got_past b at h = rw (drop_of_length-le b {i = at} (omega arith))

-- what holds of each tag holds of every one
pub by_tag : (P : ℕ → Type 0) → P 1 → P 2 → P 3 → P 4 → P 5 → P 6 → P 7 → P 8 → P 9 → P 10 → P 11 → P 12 → (t : ℕ) → is_tag t ≡ true → P t
by_tag P a b c d e f g h i j k l zero y = absurd (false_true y)
by_tag P a b c d e f g h i j k l (suc zero) y = a
by_tag P a b c d e f g h i j k l (suc (suc zero)) y = b
by_tag P a b c d e f g h i j k l (suc (suc (suc zero))) y = c
by_tag P a b c d e f g h i j k l (suc (suc (suc (suc zero)))) y = d
by_tag P a b c d e f g h i j k l (suc (suc (suc (suc (suc zero))))) y = e
by_tag P a b c d e f g h i j k l (suc (suc (suc (suc (suc (suc zero)))))) y = f
by_tag P a b c d e f g h i j k l (suc (suc (suc (suc (suc (suc (suc zero))))))) y = g
by_tag P a b c d e f g h i j k l (suc (suc (suc (suc (suc (suc (suc (suc zero)))))))) y = h
by_tag P a b c d e f g h i j k l (suc (suc (suc (suc (suc (suc (suc (suc (suc zero))))))))) y = i
by_tag P a b c d e f g h i j k l (suc (suc (suc (suc (suc (suc (suc (suc (suc (suc zero)))))))))) y = j
by_tag P a b c d e f g h i j k l (suc (suc (suc (suc (suc (suc (suc (suc (suc (suc (suc zero))))))))))) y = k
by_tag P a b c d e f g h i j k l (suc (suc (suc (suc (suc (suc (suc (suc (suc (suc (suc (suc zero)))))))))))) y = l
by_tag P a b c d e f g h i j k l (suc (suc (suc (suc (suc (suc (suc (suc (suc (suc (suc (suc (suc n))))))))))))) y =
    absurd (high (suc (suc (suc (suc (suc (suc (suc (suc (suc (suc (suc (suc (suc n))))))))))))) (and_both (leb 1 (suc (suc (suc (suc (suc (suc (suc (suc (suc (suc (suc (suc (suc n)))))))))))))) (leb (suc (suc (suc (suc (suc (suc (suc (suc (suc (suc (suc (suc (suc n))))))))))))) 12) y).1 (omega arith))
  where
    high : (t : ℕ) → leb t 12 ≡ true → 13 ≤ t → ⊥
    high t z h = omega (arith, leb-true t 12 z)

-- no tag is none of them
no_tag : (t : ℕ) → (t ≡ 1 → ⊥) → (t ≡ 2 → ⊥) → (t ≡ 3 → ⊥) → (t ≡ 4 → ⊥) → (t ≡ 5 → ⊥) → (t ≡ 6 → ⊥) → (t ≡ 7 → ⊥) → (t ≡ 8 → ⊥) → (t ≡ 9 → ⊥) → (t ≡ 10 → ⊥) → (t ≡ 11 → ⊥) → (t ≡ 12 → ⊥)
    → is_tag t ≡ false
no_tag t a b c d e f g h i j k l = go (is_tag t) refl
  where
    go : (y : Bool) → is_tag t ≡ y → is_tag t ≡ false
    go false y = y
    go true y =
        absurd (by_tag (λ u. u ≡ t → ⊥) (λ z. a (sym z)) (λ z. b (sym z)) (λ z. c (sym z)) (λ z. d (sym z)) (λ z. e (sym z)) (λ z. f (sym z)) (λ z. g (sym z)) (λ z. h (sym z)) (λ z. i (sym z)) (λ z. j (sym z)) (λ z. k (sym z)) (λ z. l (sym z)) t y refl)

pub got_other : (b : List ℕ) (t : ℕ) → t ≡ get_or b 0 0 → (t ≡ 1 → ⊥) → (t ≡ 2 → ⊥) → (t ≡ 3 → ⊥) → (t ≡ 4 → ⊥) → (t ≡ 5 → ⊥) → (t ≡ 6 → ⊥) → (t ≡ 7 → ⊥) → (t ≡ 8 → ⊥) → (t ≡ 9 → ⊥) → (t ≡ 10 → ⊥) → (t ≡ 11 → ⊥) → (t ≡ 12 → ⊥)
    → None ≡ got_at b
got_other b t et a c d e f g h i j k l m = sym (got_none b t (sym et) (rw (no_tag t a c d e f g h i j k l m)))

-- all that stands behind a place
pub behind_part : (b : List ℕ) (at : ℕ) → take (length b - at) (drop at b) ≡ drop at b
behind_part b at = take_all (length b - at) (drop at b) (omega (arith, length-drop at b))

-- a step of n bytes, unless it is cut short
abbrev pub sized_at : List ℕ → ℕ → Step → Job → Option Got
sized_at b n s j = cond (leb n (length b)) (Some (record { size = n; step = s; job = j })) None

-- ---- the rows: `t` is the tag as code read it

module _ (b : List ℕ) (t : ℕ) (et : t ≡ get_or b 0 0) where
  pub got_read : (p : ℕ) → t ≡ 2 → p ≡ number_at 8 2 b → sized_at b 10 (Begin (get_or b 1 0)) (job_of (Read (record { 0 = p }))) ≡ got_at b
  unfolding cue_for has_room cue_bytes step_for job_for
  got_read p e ep = sym (got_tagged b 2 (sym et ∙ e) refl ∙ rw (ep, le_length 8 (number_at 8 2 b)))

  pub got_fill : (p : ℕ) → t ≡ 3 → p ≡ number_at 8 2 b → sized_at b 10 (Begin (get_or b 1 0)) (job_of (Fill (record { 0 = p }))) ≡ got_at b
  unfolding cue_for has_room cue_bytes step_for job_for
  got_fill p e ep = sym (got_tagged b 3 (sym et ∙ e) refl ∙ rw (ep, le_length 8 (number_at 8 2 b)))

  pub got_trim : (p : ℕ) → t ≡ 4 → p ≡ number_at 8 2 b → sized_at b 10 (Begin (get_or b 1 0)) (job_of (Trim (record { 0 = p }))) ≡ got_at b
  unfolding cue_for has_room cue_bytes step_for job_for
  got_trim p e ep = sym (got_tagged b 4 (sym et ∙ e) refl ∙ rw (ep, le_length 8 (number_at 8 2 b)))

  pub got_prune : (p : ℕ) → t ≡ 5 → p ≡ number_at 8 2 b → sized_at b 10 (Begin (get_or b 1 0)) (job_of (Prune (record { 0 = p }))) ≡ got_at b
  unfolding cue_for has_room cue_bytes step_for job_for
  got_prune p e ep = sym (got_tagged b 5 (sym et ∙ e) refl ∙ rw (ep, le_length 8 (number_at 8 2 b)))

  pub got_drop : (i : ℕ) → t ≡ 8 → i ≡ get_or b 1 0 → sized_at b 2 (Drop i) no_job ≡ got_at b
  unfolding cue_for has_room cue_bytes step_for job_for
  got_drop i e ei = sym (got_tagged b 8 (sym et ∙ e) refl ∙ rw ei)

  pub got_stop : (i : ℕ) → t ≡ 9 → i ≡ get_or b 1 0 → sized_at b 2 (Stop i) no_job ≡ got_at b
  unfolding cue_for has_room cue_bytes step_for job_for
  got_stop i e ei = sym (got_tagged b 9 (sym et ∙ e) refl ∙ rw ei)

  pub got_restart : (i : ℕ) → t ≡ 10 → i ≡ get_or b 1 0 → sized_at b 2 (Restart i) no_job ≡ got_at b
  unfolding cue_for has_room cue_bytes step_for job_for
  got_restart i e ei = sym (got_tagged b 10 (sym et ∙ e) refl ∙ rw ei)

  pub got_give_up : (i : ℕ) → t ≡ 11 → i ≡ get_or b 1 0 → sized_at b 2 (GiveUp i) no_job ≡ got_at b
  unfolding cue_for has_room cue_bytes step_for job_for
  got_give_up i e ei = sym (got_tagged b 11 (sym et ∙ e) refl ∙ rw ei)

  pub got_forget : t ≡ 12 → sized_at b 1 Forget no_job ≡ got_at b
  unfolding cue_for has_room cue_bytes step_for job_for
  got_forget e = sym (got_tagged b 12 (sym et ∙ e) refl)

  pub got_append : t ≡ 1 → whole b (append (get_or b 1 0) (set_front (drop 2 b))) ≡ got_at b
  unfolding cue_for
  got_append e = sym (got_tagged b 1 (sym et ∙ e) refl)

  pub got_reorganise : t ≡ 6 → whole b (reorganise (get_or b 1 0) (set_front (drop 2 b)) (sets_said (past_drops b))) ≡ got_at b
  unfolding cue_for
  got_reorganise e = sym (got_tagged b 6 (sym et ∙ e) refl)

  pub got_deliver : t ≡ 7
      → cond (leb (get_or b 2 0) 1 && leb (get_or b 3 0) 1) (whole b (deliver (get_or b 1 0) (eqb (get_or b 2 0) 1) (eqb (get_or b 3 0) 1))) None ≡ got_at b
  unfolding cue_for
  got_deliver e = go (leb (get_or b 2 0) 1 && leb (get_or b 3 0) 1) refl
    where
      go : (y : Bool) → (leb (get_or b 2 0) 1 && leb (get_or b 3 0) 1) ≡ y
          → cond y (whole b (deliver (get_or b 1 0) (eqb (get_or b 2 0) 1) (eqb (get_or b 3 0) 1))) None ≡ got_at b
      go true y = sym (got_tagged b 7 (sym et ∙ e) y)
      go false y = sym (got_none b 7 (sym et ∙ e) y)

-- ---- an append

-- n: how many bytes stand behind the count
pub counted_length : (b : List ℕ) (n : ℕ) → n ≡ get_or b 2 0 → n ≡ length (set_front (drop 2 b))
counted_length b n e = e ∙ sym (length_padded (get_or (drop 2 b) 0 0) 0 (drop 1 (drop 2 b)) ∙ get_or-drop 2 b 0 0)

append_sized : (b : List ℕ) (c n : ℕ) (xs bytes : List ℕ) → n ≡ length xs → bytes ≡ padded page_limit 0 xs
    → sized_at b (3 + n) (Begin c) (append_of n bytes) ≡ whole b (append c xs)
unfolding has_room cue_bytes step_for job_for
append_sized b c n xs bytes e f =
    let three : 3 + length xs ≡ suc (suc (suc (length xs))) = omega arith in
    rw (e, f, three)

pub append_whole : (b : List ℕ) (c len n : ℕ) (bytes : List ℕ) → len ≡ get_or b 2 0 → n ≡ len → bytes ≡ padded page_limit 0 (set_front (drop 2 b))
    → sized_at b (3 + n) (Begin c) (append_of len bytes) ≡ whole b (append c (set_front (drop 2 b)))
append_whole b c len n bytes el en eb = rw en (append_sized b c len (set_front (drop 2 b)) bytes (counted_length b len el) eb)

-- ---- a reorganise

pub change_whole : (b new ds : List ℕ) (n : ℕ) (w : Wish) → n ≡ get_or b 2 0 → ds ≡ padded drop_limit 0 (set_front (drop 2 b)) → w ≡ wish_said new
    → ◌≡◌ {A = Change} (record { count = n; drops = ds; wish = w }) (change_of (set_front (drop 2 b)) (sets_said new))
unfolding wish_said
change_whole b new ds n w en ed ew =
    let said : w ≡ (change_of (set_front (drop 2 b)) (sets_said new)).wish = ew ∙ sym (rw (sets_length (get_or new 0 0) (drop 1 new))) in
    λ i. record { count = counted_length b n en i; drops = ed i; wish = said i }

pub reorganise_size : (c : ℕ) (ds : List ℕ) (ss : List (List ℕ)) → length (cue_bytes (reorganise c ds ss)) ≡ (3 + length ds) + (1 + length (sets_bytes ss))
unfolding cue_bytes
reorganise_size c ds ss = omega (arith, length-append ds (length ss ∷ sets_bytes ss))

module _ (b : List ℕ) (c n : ℕ) (en : n ≡ get_or b 2 0) where
  short : (ss : List (List ℕ)) → length b < 3 + n → leb (length (cue_bytes (reorganise c (set_front (drop 2 b)) ss))) (length b) ≡ false
  short ss h = lt-leb (length (cue_bytes (reorganise c (set_front (drop 2 b)) ss))) (length b) (omega (arith, reorganise_size c (set_front (drop 2 b)) ss, counted_length b n en))

  pub reorganise_short : length b < 3 + n → None ≡ whole b (reorganise c (set_front (drop 2 b)) (sets_said (past_drops b)))
  reorganise_short h =
      sym (rw (short (sets_said (past_drops b)) h, and_false (has_room (reorganise c (set_front (drop 2 b)) (sets_said (past_drops b))))))

  -- `new`: the bytes behind the drops; `reach`: how far the sets reach in them
  module _ (new : List ℕ) (m : ℕ) (ew : new ≡ drop (3 + n) b) (em : m ≡ get_or new 0 0) where
    behind : sets_said (past_drops b) ≡ sets_said new
    behind = rw (ew, en)

    room : (leb n drop_limit && leb m sets_limit && small_sets (sets_said new)) ≡ has_room (reorganise c (set_front (drop 2 b)) (sets_said new))
    unfolding has_room
    room = rw (counted_length b n en, em, sets_length (get_or new 0 0) (drop 1 new))

    none : (leb n drop_limit && leb m sets_limit && small_sets (sets_said new)) ≡ false → None ≡ whole b (reorganise c (set_front (drop 2 b)) (sets_said (past_drops b)))
    none h = sym (rw (behind, ← room, h))

    pub reorganise_large : small_sets (sets_said new) ≡ false → None ≡ whole b (reorganise c (set_front (drop 2 b)) (sets_said (past_drops b)))
    reorganise_large h = none (rw h (and_false (leb n drop_limit && leb m sets_limit)))

    pub reorganise_many : (8 < n) ⊎ (16 < m) → None ≡ whole b (reorganise c (set_front (drop 2 b)) (sets_said (past_drops b)))
    reorganise_many h = none (go h)
      where
        go : (8 < n) ⊎ (16 < m) → (leb n drop_limit && leb m sets_limit && small_sets (sets_said new)) ≡ false
        go (inl l) = rw (lt-leb n drop_limit l)
        go (inr l) = rw (lt-leb m sets_limit l, and_false (leb n drop_limit))

    pub reorganise_whole : (reach : ℕ) (h : Change) → reach ≡ 1 + length (sets_bytes (sets_said new)) → h ≡ change_of (set_front (drop 2 b)) (sets_said new)
        → n ≤ 8 → m ≤ 16 → small_sets (sets_said new) ≡ true
        → sized_at b ((3 + n) + reach) (Begin c) (reorganise_of h) ≡ whole b (reorganise c (set_front (drop 2 b)) (sets_said (past_drops b)))
    unfolding step_for job_for
    reorganise_whole reach h er eh few some small =
        let size : (3 + n) + reach ≡ length (cue_bytes (reorganise c (set_front (drop 2 b)) (sets_said new)))
        = rw (er, counted_length b n en) (sym (reorganise_size c (set_front (drop 2 b)) (sets_said new))) in
        let fine : (leb n drop_limit && leb m sets_limit && small_sets (sets_said new)) ≡ true = rw (le-leb n drop_limit few, le-leb m sets_limit some, small) in
        sym (rw (behind, ← room, fine, ← size, ← eh))
