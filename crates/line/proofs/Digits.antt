-- Laws of decimal digits: read back they are the number, with no zero in front, and there are 1 to 20 of them.
use Prim.Native.Nat.{ℕ, zero, suc, ◌+◌, ◌*◌, ◌-◌, ◌/◌, ◌%◌, ◌^◌, ◌<◌, ◌≤◌}
use mathlib.Core.Bool.{Bool, true, false}
use mathlib.Core.List.{List, [], ◌∷◌, ◌++◌}
use mathlib.Core.Path.{◌≡◌, refl, sym, ◌∙◌}
use native.Mathlib.Nat.{pow-suc}
use native.Mathlib.Omega.{arith}
use borrow.Author.Tests.{lt-ltb, le-ltb, ltb-true, ltb-false}
use lib.Dec.{ltb}
use lib.ListN.{length, get_or, length-append, get_or-append}
use Rattle.line.specs.Text.{digit, digits, decimal}

-- a number below 10, or at least 10
pub data Sized : ℕ → Type 0 where
  one : {n : ℕ} → n < 10 → Sized n
  more : {n : ℕ} → 10 ≤ n → Sized n

pub sized : (n : ℕ) → Sized n
sized n = go (ltb n 10) refl
  where
    go : (t : Bool) → ltb n 10 ≡ t → Sized n
    go true e = one (ltb-true n 10 e)
    go false e = more (ltb-false n 10 e)

pub digits_one : (k n : ℕ) → n < 10 → digits (suc k) n ≡ digit n ∷ []
unfolding digits
digits_one k n h = rw (lt-ltb n 10 h)

pub digits_more : (k n : ℕ) → 10 ≤ n → digits (suc k) n ≡ digits k (n / 10) ++ (digit (n % 10) ∷ [])
unfolding digits
digits_more k n h = rw (le-ltb n 10 h)

-- one digit less
pub shorter : (k n : ℕ) → n < 10 ^ suc k → n / 10 < 10 ^ k
shorter k n h = omega (arith, rw (pow-suc 10 k) at h)

-- a digit behind others
snoc_length : (xs : List ℕ) (d : ℕ) → length (xs ++ (d ∷ [])) ≡ length xs + 1
snoc_length xs d = length-append xs (d ∷ [])

-- ---- how many there are

pub digits_length_more : (k n : ℕ) → 10 ≤ n → length (digits (suc k) n) ≡ length (digits k (n / 10)) + 1
digits_length_more k n h = rw (digits_more k n h) (snoc_length (digits k (n / 10)) (digit (n % 10)))

pub digits_length_one : (k n : ℕ) → n < 10 → length (digits (suc k) n) ≡ 1
digits_length_one k n h = rw (digits_one k n h)

pub digits_some : (k n : ℕ) → 1 ≤ length (digits (suc k) n)
digits_some k n = go (sized n)
  where
    go : Sized n → 1 ≤ length (digits (suc k) n)
    go (one h) = omega (arith, digits_length_one k n h)
    go (more h) = omega (arith, digits_length_more k n h)

-- a number below 10 ^ w has at most w, whatever the room
pub digits_few : (k w n : ℕ) → n < 10 ^ suc w → length (digits k n) ≤ suc w
unfolding digits
digits_few zero w n h = omega arith
digits_few (suc k) zero n h = omega (arith, digits_length_one k n h)
digits_few (suc k) (suc w) n h = go (sized n) (digits_few k w (n / 10) (shorter (suc w) n h))
  where
    go : Sized n → length (digits k (n / 10)) ≤ suc w → length (digits (suc k) n) ≤ suc (suc w)
    go (one s) ih = omega (arith, digits_length_one k n s)
    go (more s) ih = omega (arith, digits_length_more k n s)

pub decimal_some : (n : ℕ) → 1 ≤ length (decimal n)
unfolding decimal
decimal_some n = digits_some 19 n

pub decimal_few : (w n : ℕ) → n < 10 ^ suc w → length (decimal n) ≤ suc w
unfolding decimal
decimal_few w n h = digits_few 20 w n h

-- ---- room for more digits changes none

digits_wider : (k n : ℕ) → n < 10 ^ suc k → digits (suc (suc k)) n ≡ digits (suc k) n
digits_wider zero n h = let small : n < 10 = omega arith in rw (digits_one 1 n small, digits_one 0 n small)
digits_wider (suc k) n h = go (sized n) (digits_wider k (n / 10) (shorter (suc k) n h))
  where
    go : Sized n → digits (suc (suc k)) (n / 10) ≡ digits (suc k) (n / 10) → digits (suc (suc (suc k))) n ≡ digits (suc (suc k)) n
    go (one s) ih = rw (digits_one (suc (suc k)) n s, digits_one (suc k) n s)
    go (more s) ih = rw (digits_more (suc (suc k)) n s, digits_more (suc k) n s, ih)

pub decimal_one : (n : ℕ) → n ≤ 9 → decimal n ≡ digit (n % 10) ∷ []
unfolding decimal
decimal_one n h = let same : n % 10 ≡ n = omega arith in rw same (digits_one 19 n (omega arith))

pub decimal_more : (n : ℕ) → 9 < n → n < 10 ^ 20 → decimal n ≡ decimal (n / 10) ++ (digit (n % 10) ∷ [])
unfolding decimal
decimal_more n h small = rw (digits_more 19 n (omega arith), digits_wider 18 (n / 10) (shorter 19 n small))

pub decimal_longer : (n : ℕ) → 9 < n → n < 10 ^ 20 → length (decimal n) ≡ length (decimal (n / 10)) + 1
decimal_longer n h small = rw (decimal_more n h small) (snoc_length (decimal (n / 10)) (digit (n % 10)))

-- ---- read back by Horner's rule

unfoldable pub horner : ℕ → List ℕ → ℕ
horner n [] = n
horner n (d ∷ ds) = horner (10 * n + (d - 48)) ds

horner_snoc : (n : ℕ) (ds : List ℕ) (d : ℕ) → horner n (ds ++ (d ∷ [])) ≡ 10 * horner n ds + (d - 48)
unfolding horner
horner_snoc n [] d = refl
horner_snoc n (e ∷ ds) d = horner_snoc (10 * n + (e - 48)) ds d

digits_back : (k n : ℕ) → n < 10 ^ k → horner 0 (digits k n) ≡ n
unfolding horner digits
digits_back zero n h = omega arith
digits_back (suc k) n h = go (sized n) (digits_back k (n / 10) (shorter k n h))
  where
    go : Sized n → horner 0 (digits k (n / 10)) ≡ n / 10 → horner 0 (digits (suc k) n) ≡ n
    go (one s) ih = rw (digits_one k n s) (omega arith)
    go (more s) ih = rw (digits_more k n s, horner_snoc 0 (digits k (n / 10)) (digit (n % 10)), ih) (omega arith)

pub decimal_back : (n : ℕ) → n < 10 ^ 20 → horner 0 (decimal n) ≡ n
unfolding decimal
decimal_back n h = digits_back 20 n h

-- ---- digits and nothing else, the first of them no zero

pub data Numeral : List ℕ → Type 0 where
  none : Numeral []
  also : {d : ℕ} {ds : List ℕ} → 48 ≤ d → d ≤ 57 → Numeral ds → Numeral (d ∷ ds)

numeral_snoc : {ds : List ℕ} (d : ℕ) → d ≤ 9 → Numeral ds → Numeral (ds ++ (digit d ∷ []))
numeral_snoc d h none = also {d = digit d} (omega arith) (omega arith) none
numeral_snoc d h (also l u r) = also l u (numeral_snoc d h r)

digits_numeral : (k n : ℕ) → Numeral (digits k n)
unfolding digits
digits_numeral zero n = none
digits_numeral (suc k) n = go (sized n) (digits_numeral k (n / 10))
  where
    go : Sized n → Numeral (digits k (n / 10)) → Numeral (digits (suc k) n)
    go (one s) ih = rw (digits_one k n s) (also {d = digit n} (omega arith) (omega arith) none)
    go (more s) ih = rw (digits_more k n s) (numeral_snoc (n % 10) (omega arith) ih)

pub decimal_numeral : (n : ℕ) → Numeral (decimal n)
unfolding decimal
decimal_numeral n = digits_numeral 20 n

digits_first : (k n : ℕ) → n < 10 ^ suc k → get_or (digits (suc k) n) 0 0 ≡ 48 → n ≡ 0
digits_first zero n h e = omega (arith, rw (digits_one 0 n h) at e)
digits_first (suc k) n h e = go (sized n) (λ f. digits_first k (n / 10) (shorter (suc k) n h) f)
  where
    go : Sized n → (get_or (digits (suc k) (n / 10)) 0 0 ≡ 48 → n / 10 ≡ 0) → n ≡ 0
    go (one s) ih = omega (arith, rw (digits_one (suc k) n s) at e)
    go (more s) ih =
        let some : 0 < length (digits (suc k) (n / 10)) = digits_some k (n / 10) in
        let small : n / 10 ≡ 0 = ih (sym (get_or-append (digits (suc k) (n / 10)) _ 0 0 some) ∙ (rw (digits_more (suc k) n s) at e)) in
        omega arith

-- a zero stands in front of nothing but 0 itself
pub decimal_first : (n : ℕ) → n < 10 ^ 20 → get_or (decimal n) 0 0 ≡ 48 → n ≡ 0
unfolding decimal
decimal_first n h e = digits_first 19 n h e
