-- Laws of `sets_bytes`, `sets_at` and `past_sets`: sets that are written are read back, and the loop that reads them.
use Prim.Native.Nat.{ℕ, zero, suc, ◌+◌, ◌-◌, ◌<◌, ◌≤◌}
use mathlib.Core.Bool.{cond}
use mathlib.Core.List.{List, [], ◌∷◌, ◌++◌, map, append_assoc, append-nil}
use mathlib.Core.Path.{◌≡◌, refl, sym, ap, ◌∙◌}
use native.Mathlib.Nat.{add-zero, sub-zero, not-suc-le-zero}
use native.Mathlib.Numerals.{add-one, one-add}
use native.Mathlib.Omega.{arith}
use borrow.Author.Tests.{lt-ltb}
use lib.Dec.{ltb}
use lib.ListN.{length, get_or, drop, set, replicate, length-append, length-drop, length-set}
use lib.Seq.{get_or-drop, drop-drop, sets, drop-append_seam}
use Rattle.std.proofs.lemmas.Grind.{same_number_lists}
use Rattle.num.proofs.Tests.{left_step}
use Rattle.num.proofs.Front.{Front, front_append}
use Rattle.layout.specs.declared.Chain.{Chain}
use Rattle.layout.specs.Value.{padded, chain_of, no_chain}
use Rattle.layout.specs.Codec.{set_front, sets_at, past_sets, counted, sets_bytes, sets_said}
use Rattle.layout.proofs.Padded.{padded_at, length_padded, sets_padded, padded_exact, padded_there}

-- ---- a set

pub byte_behind : (b : List ℕ) (at : ℕ) → get_or (drop at b) 0 0 ≡ get_or b at 0
byte_behind b at = get_or-drop at b 0 0 ∙ rw add-zero

pub chain_read : (b us : List ℕ) (n : ℕ) → n ≡ get_or b 0 0 → length us ≡ 4 → ((k : ℕ) → k < 4 → get_or us k 0 ≡ cond (ltb k n) (get_or b (1 + k) 0) 0)
    → ◌≡◌ {A = Chain} (record { count = n; units = us }) (chain_of (set_front b))
chain_read b us n e four at =
    let units : us ≡ padded 4 0 (padded n 0 (drop 1 b))
    = same_number_lists us (padded 4 0 (padded n 0 (drop 1 b))) (rw (length_padded 4 0 (padded n 0 (drop 1 b))) four)
    (λ k h. let within : k < 4 = rw four at h in at k within ∙ sym (padded_at 4 k (padded n 0 (drop 1 b)) ∙ rw (lt-ltb k 4 within) (padded_at n k (drop 1 b) ∙ rw (get_or-drop 1 b k 0)))) in
    rw (← e, length_padded n 0 (drop 1 b)) (λ i. record { count = n; units = units i })

-- a set's count, and what stands behind the set
pub chain_next : (b : List ℕ) (past : ℕ) (c : Chain) → c ≡ chain_of (set_front (drop past b))
    → (c.count ≡ get_or (drop past b) 0 0) × (drop (1 + get_or (drop past b) 0 0) (drop past b) ≡ drop (past + (1 + c.count)) b)
chain_next b past c e =
    let count : c.count ≡ get_or (drop past b) 0 0 = ap (λ (x : Chain). x.count) e ∙ length_padded (get_or (drop past b) 0 0) 0 (drop 1 (drop past b)) in
    (count, drop-drop (1 + get_or (drop past b) 0 0) past b ∙ rw count)

-- ---- the loop over the sets

-- i sets of n were read; what is left to store makes the whole
pub record SetsReading (b : List ℕ) (n i : ℕ) (cs : List Chain) (rest : List ℕ) : Type 0 where
  pub stored : sets cs i (map chain_of (sets_at (n - i) rest)) ≡ padded 16 no_chain (map chain_of (sets_at n b))
  pub behind : past_sets (n - i) rest ≡ past_sets n b
  pub long : length cs ≡ 16

pub sets_none : (b : List ℕ) (n : ℕ) → SetsReading b n 0 (replicate 16 no_chain) b
sets_none b n = record { stored = rw sub-zero (sets_padded 16 no_chain (map chain_of (sets_at n b))); behind = rw sub-zero; long = refl }

module _ {b : List ℕ} {n i : ℕ} {cs : List Chain} {rest : List ℕ} (s : SetsReading b n i cs rest) where
  pub sets_more : (c : Chain) (cs' : List Chain) (rest' : List ℕ) → i < n → c ≡ chain_of (set_front rest) → cs' ≡ set cs i c → rest' ≡ drop (1 + c.count) rest → SetsReading b n (i + 1) cs' rest'
  unfolding sets_at past_sets
  sets_more c cs' rest' h e ecs er =
      let count : c.count ≡ get_or rest 0 0 = ap (λ (x : Chain). x.count) e ∙ length_padded (get_or rest 0 0) 0 (drop 1 rest) in
      let next : drop (1 + get_or rest 0 0) rest ≡ rest' = rw er (rw count refl) in
      let left : n - i ≡ suc (n - suc i) = left_step n i h in
      record { stored = rw (ecs, e, ← next, add-one i) (rw left at s.stored); behind = rw (← next, add-one i) (rw left at s.behind); long = rw ecs (length-set cs i c ∙ s.long) }

  pub sets_all : n ≤ i → (cs ≡ padded 16 no_chain (map chain_of (sets_at n b))) × (rest ≡ past_sets n b)
  unfolding sets_at past_sets
  sets_all h =
      let z : n - i ≡ 0 = omega arith in
      (rw z at s.stored, rw z at s.behind)

-- ---- one set more

pub sets_left : (b : List ℕ) (n i past t : ℕ) (c : Chain) → i < n → c ≡ chain_of (set_front (drop past b)) → t ≡ c.count
    → sets_at (n - i) (drop past b) ≡ set_front (drop past b) ∷ sets_at (n - (i + 1)) (drop (past + (1 + t)) b)
unfolding sets_at
sets_left b n i past t c h e et =
    let next : drop (1 + get_or (drop past b) 0 0) (drop past b) ≡ drop (past + (1 + t)) b = rw et (chain_next b past c e).1 in
    rw (left_step n i h, next, add-one i)

-- the same, of what stands behind the sets passed
pub sets_next : (rest rest' : List ℕ) (n i : ℕ) (c : Chain) → i < n → c ≡ chain_of (set_front rest) → rest' ≡ drop (1 + c.count) rest → sets_at (n - i) rest ≡ set_front rest ∷ sets_at (n - (i + 1)) rest'
unfolding sets_at
sets_next rest rest' n i c h e er =
    let count : c.count ≡ get_or rest 0 0 = ap (λ (x : Chain). x.count) e ∙ length_padded (get_or rest 0 0) 0 (drop 1 rest) in
    let next : drop (1 + get_or rest 0 0) rest ≡ rest' = rw er (rw count refl) in
    rw (left_step n i h, next, add-one i)

pub sets_over : (b : List ℕ) (n i past : ℕ) → n ≤ i → sets_at (n - i) (drop past b) ≡ []
unfolding sets_at
sets_over b n i past h =
    let z : n - i ≡ 0 = omega arith in
    rw z

pub sets_length : (n : ℕ) (xs : List ℕ) → length (sets_at n xs) ≡ n
unfolding sets_at
sets_length zero xs = refl
sets_length (suc n) xs = ap suc (sets_length n (drop (1 + get_or xs 0 0) xs))

-- ---- what is written is read back

pub past_set : (us ys : List ℕ) → drop (1 + length us) (counted us ++ ys) ≡ ys
past_set us ys = rw (one-add (length us)) (drop-append_seam us ys)

set_step : (n : ℕ) (us ys : List ℕ) → sets_at (suc n) (counted us ++ ys) ≡ us ∷ sets_at n ys
unfolding sets_at
set_step n us ys = rw (padded_exact us ys, past_set us ys)

pub sets_back : (ss : List (List ℕ)) (ys : List ℕ) → sets_at (length ss) (sets_bytes ss ++ ys) ≡ ss
unfolding sets_bytes sets_at
sets_back [] ys = refl
sets_back (us ∷ ss) ys =
    ap (sets_at (suc (length ss))) (append_assoc (counted us) (sets_bytes ss) ys)
    ∙ set_step (length ss) us (sets_bytes ss ++ ys) ∙ ap {B = List (List ℕ)} (λ r. us ∷ r) (sets_back ss ys)

past_step : (n : ℕ) (us ys : List ℕ) → past_sets (suc n) (counted us ++ ys) ≡ past_sets n ys
unfolding past_sets
past_step n us ys = ap (past_sets n) (past_set us ys)

pub past_back : (ss : List (List ℕ)) (ys : List ℕ) → past_sets (length ss) (sets_bytes ss ++ ys) ≡ ys
unfolding sets_bytes past_sets
past_back [] ys = refl
past_back (us ∷ ss) ys =
    ap (past_sets (suc (length ss))) (append_assoc (counted us) (sets_bytes ss) ys) ∙ past_step (length ss) us (sets_bytes ss ++ ys) ∙ past_back ss ys

pub sets_said_lem : (ss : List (List ℕ)) → sets_said (length ss ∷ sets_bytes ss) ≡ ss
sets_said_lem ss = rw (append-nil (sets_bytes ss)) at (sets_back ss [])

-- ---- what is read is written back, where there is room for it

pub front_counted : (n : ℕ) (xs : List ℕ) → n ≤ length xs → Front (counted (padded n 0 xs)) (n ∷ xs)
front_counted n xs h = rw (length_padded n 0 xs) (ap {B = List ℕ} (λ r. n ∷ r) (padded_there n xs h))

pub front_sets : (n : ℕ) (xs : List ℕ) → length (sets_bytes (sets_at n xs)) ≤ length xs → Front (sets_bytes (sets_at n xs)) xs
unfolding sets_at sets_bytes
front_sets zero xs h = refl
front_sets (suc n) [] h = absurd (not-suc-le-zero h)
front_sets (suc n) (x ∷ xs) h =
    let past : drop (1 + x) (x ∷ xs) ≡ drop x xs = rw (one-add x) in
    let rest = sets_bytes (sets_at n (drop x xs)) in
    let all : length (counted (padded x 0 xs) ++ sets_bytes (sets_at n (drop (1 + x) (x ∷ xs)))) ≡ suc x + length rest
    = rw past (length-append (counted (padded x 0 xs)) rest ∙ rw (length_padded x 0 xs)) in
    let here : x ≤ length xs = omega arith in
    let behind : drop (length (counted (padded x 0 xs))) (x ∷ xs) ≡ drop x xs = rw (length_padded x 0 xs) in
    let more : Front rest (drop x xs) = front_sets n (drop x xs) (omega (arith, length-drop x xs)) in
    rw past (front_append (counted (padded x 0 xs)) rest (x ∷ xs) (front_counted x xs here) (rw behind more))
