-- Steps one behind the other: read and written back, written and read back, and the step numbered k.
use Prim.Native.Nat.{ℕ, zero, suc, ◌<◌, ◌≤◌}
use mathlib.Core.Bool.{true}
use mathlib.Core.List.{List, [], ◌∷◌, ◌++◌}
use mathlib.Core.Path.{◌≡◌, refl, sym, ap}
use native.Mathlib.Omega.{arith}
use native.Mathlib.Nat.{le_of_suc-le-suc, not-suc-le-zero}
use borrow.Author.Tests.{eqb-true}
use lib.ListN.{length, get_or, drop, length-append}
use Rattle.num.proofs.Tests.{and_both}
use Rattle.num.proofs.Numbers.{Bytes, bytes_drop}
use Rattle.script.specs.Cue.{Cue}
use Rattle.script.specs.Steps.{cue_bytes, cues_bytes, cue_at, size_at, is_cue, past, cue_no, cues_at, are_cues, holdable, all_holdable}
use Rattle.script.proofs.Exact.{front_cue}
use Rattle.script.proofs.Back.{cue_back, cue_stands, past_cue}
use Rattle.script.proofs.Walking.{cue_long}

empty : (b : List ℕ) → length b ≡ 0 → [] ≡ b
empty [] h = refl
empty (x ∷ b) h = absurd (omega arith)

-- what is read is written back
cue_written : (b : List ℕ) → Bytes b → is_cue b ≡ true → cue_bytes (cue_at b) ++ drop (size_at b) b ≡ b
unfolding size_at
cue_written b bytes h = front_cue b bytes h

pub cues_written : (n : ℕ) (b : List ℕ) → Bytes b → are_cues n b ≡ true → cues_bytes (cues_at n b) ≡ b
unfolding are_cues cues_at cues_bytes
cues_written zero b bytes h = empty b (eqb-true _ _ h)
cues_written (suc n) b bytes h =
    let p = and_both (is_cue b) (are_cues n (drop (size_at b) b)) h in
    rw (cues_written n (drop (size_at b) b) (bytes_drop (size_at b) b bytes) p.1) (cue_written b bytes p.0)

-- what is written is read back
pub cues_stand : (cs : List Cue) → all_holdable cs ≡ true → are_cues (length cs) (cues_bytes cs) ≡ true
unfolding are_cues cues_bytes all_holdable
cues_stand [] h = refl
cues_stand (c ∷ cs) h =
    let p = and_both (holdable c) (all_holdable cs) h in
    rw (cue_stands c (cues_bytes cs) p.0, past_cue c (cues_bytes cs) p.0) (cues_stand cs p.1)

pub cues_back : (cs : List Cue) → all_holdable cs ≡ true → cues_at (length cs) (cues_bytes cs) ≡ cs
unfolding cues_at cues_bytes all_holdable
cues_back [] h = refl
cues_back (c ∷ cs) h =
    let p = and_both (holdable c) (all_holdable cs) h in
    rw (cue_back c (cues_bytes cs) p.0, past_cue c (cues_bytes cs) p.0, cues_back cs p.1)

pub cues_length : (n : ℕ) (b : List ℕ) → length (cues_at n b) ≡ n
unfolding cues_at
cues_length zero b = refl
cues_length (suc n) b = ap suc (cues_length n (drop (size_at b) b))

-- no step is of no bytes
pub cues_long : (cs : List Cue) → length cs ≤ length (cues_bytes cs)
unfolding cues_bytes
cues_long [] = omega arith
cues_long (c ∷ cs) = omega (arith, cue_long c, cues_long cs, length-append (cue_bytes c) (cues_bytes cs))

-- ---- the step numbered k

-- behind one step more
pub past_next : (k : ℕ) (b : List ℕ) → past (suc k) b ≡ drop (size_at (past k b)) (past k b)
unfolding past
past_next zero b = refl
past_next (suc k) b = past_next k (drop (size_at b) b)

-- the result: each of n whole steps stands where those before it end
pub cue_there : (n k : ℕ) (b : List ℕ) → are_cues n b ≡ true → k < n → is_cue (past k b) ≡ true
unfolding are_cues past
cue_there zero k b h l = absurd (not-suc-le-zero l)
cue_there (suc n) zero b h l = (and_both (is_cue b) (are_cues n (drop (size_at b) b)) h).0
cue_there (suc n) (suc k) b h l = cue_there n k (drop (size_at b) b) (and_both (is_cue b) (are_cues n (drop (size_at b) b)) h).1 (le_of_suc-le-suc l)

-- behind all of them nothing is left
pub past_all : (n : ℕ) (b : List ℕ) → are_cues n b ≡ true → past n b ≡ []
unfolding are_cues past
past_all zero b h = sym (empty b (eqb-true _ _ h))
past_all (suc n) b h = past_all n (drop (size_at b) b) (and_both (is_cue b) (are_cues n (drop (size_at b) b)) h).1

pub cues_at_lem : (n k : ℕ) (b : List ℕ) (d : Cue) → k < n → get_or (cues_at n b) k d ≡ cue_no k b
unfolding cues_at past
cues_at_lem zero k b d l = absurd (not-suc-le-zero l)
cues_at_lem (suc n) zero b d l = refl
cues_at_lem (suc n) (suc k) b d l = cues_at_lem n k (drop (size_at b) b) d (le_of_suc-le-suc l)
