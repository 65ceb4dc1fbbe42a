-- Results about the sequencer's rules: each request done where nothing is against it, what a refusal leaves, and that the epoch never falls.
use Prim.Native.Nat.{ℕ, ◌+◌, ◌<◌, ◌≤◌}
use mathlib.Core.Bool.{Bool, true, false, not, cond}
use mathlib.Core.Option.{Option, none, some}
use mathlib.Core.Path.{◌≡◌, refl, sym}
use native.Mathlib.Omega.{arith}
use lib.Dec.{eqb, leb, ltb}
use borrow.Author.Tests.{eq-eqb, ne_eqb, eqb-true, lt-leb, le-ltb, leb-false, ltb-false}
use Rattle.num.specs.declared.Epoch.{Epoch}
use Rattle.num.specs.declared.Position.{Position}
use Rattle.num.specs.Limits.{limit}
use Rattle.num.proofs.Tests.{cond_zero}
use Rattle.sequencer.specs.Rules.{At, Number, number_of, position_of, number, gives, becomes, position, after, Served, tells_of, told}
use Rattle.sequencer.specs.declared.Sequencer.{Sequencer}
use Rattle.sequencer.specs.declared.Asked.{Asked}
use Rattle.sequencer.specs.declared.Asked.TheVariants.{Token, Start, Forget}

-- ---- the rules' own answer meets the promise
number_back : (n : ℕ) (g : Option Position) (b : Bool) → eqb n 0 ≡ b → number_of (tells_of n (cond b g none)) ≡ n
number_back n none true e = refl
number_back n (some p) true e = sym (eqb-true n 0 e)
number_back n g false e = refl

position_back : (n : ℕ) (g : Option Position) → position_of (tells_of n g) ≡ g
position_back n none = refl
position_back n (some p) = refl

pub served : (s : Sequencer) (asked : Asked) → Served s asked (told s asked) (after s asked)
unfolding told position
served s asked = record {
  number_is = number_back (number s asked) (gives s asked) (eqb (number s asked) 0) refl;
  position_is = position_back (number s asked) (position s asked);
  after_is = refl;
}

-- ---- what is asked is done, or refused
module _ (s : Sequencer) (asked : Asked) where
  pub done : number s asked ≡ 0 → (told s asked ≡ tells_of 0 (gives s asked)) × (after s asked ≡ becomes s asked)
  unfolding told position after
  done e =
      let b : eqb (number s asked) 0 ≡ true = eq-eqb _ _ e in
      (rw (b, e), rw b)

  pub refused : (number s asked ≡ 0 → ⊥) → (told s asked ≡ Number (number s asked)) × (after s asked ≡ s)
  unfolding told position after
  refused e =
      let b : eqb (number s asked) 0 ≡ false = ne_eqb _ _ e in
      (rw b, rw b)

  either : (P : Sequencer → Type 0) → (number s asked ≡ 0 → P (becomes s asked)) → P s → P (after s asked)
  unfolding after
  either P yes_then else_then = by_test (eqb (number s asked) 0) refl
    where
      by_test : (b : Bool) → eqb (number s asked) 0 ≡ b → P (cond b (becomes s asked) s)
      by_test true e = yes_then (eqb-true _ _ e)
      by_test false e = else_then

-- ---- a token at the sequencer's own epoch, below the limit, gives the next position and raises it by one
pub token_taken : (s : Sequencer) (e : Epoch) → e.0 ≡ s.epoch.0 → s.next.0 < limit
    → (told s (Token e) ≡ At s.next) × (after s (Token e) ≡ record { epoch = s.epoch; next = record { 0 = s.next.0 + 1 } })
unfolding number
token_taken s e own room = done s (Token e) (rw (eq-eqb e.0 s.epoch.0 own, lt-leb limit s.next.0 room))

-- a token that is given is a position, so there is room for one more
pub token_below : (s : Sequencer) (e : Epoch) → number s (Token e) ≡ 0 → s.next.0 < limit
unfolding number
token_below s e fine =
    let later = (cond_zero (not (eqb e.0 s.epoch.0)) 4 (cond (leb limit s.next.0) 9 0) (omega arith) fine).1 in
    leb-false limit s.next.0 (cond_zero (leb limit s.next.0) 9 0 (omega arith) later).0

-- ---- a start at a higher epoch within the limit is taken, and any start that is taken raises the epoch
pub start_taken : (s : Sequencer) (e : Epoch) (count : Position) → s.epoch.0 < e.0 → count.0 ≤ limit
    → (told s (Start e count) ≡ Number 0) × (after s (Start e count) ≡ record { epoch = e; next = count })
unfolding number
start_taken s e count above within = done s (Start e count) (rw (le-ltb limit count.0 within, lt-leb e.0 s.epoch.0 above))

pub start_raises : (s : Sequencer) (e : Epoch) (count : Position) → number s (Start e count) ≡ 0 → (s.epoch.0 < e.0) × (count.0 ≤ limit)
unfolding number
start_raises s e count fine =
    let two = cond_zero (ltb limit count.0) 2 (cond (leb e.0 s.epoch.0) 4 0) (omega arith) fine in
    (leb-false e.0 s.epoch.0 (cond_zero (leb e.0 s.epoch.0) 4 0 (omega arith) two.1).0, ltb-false limit count.0 two.0)

-- ---- "make the sequencer forget (next becomes 0)"
pub forgets : (s : Sequencer) → (told s Forget ≡ Number 0) × (after s Forget ≡ record { epoch = s.epoch; next = record { 0 = 0 } })
unfolding number
forgets s = done s Forget refl

-- ---- whatever is asked, the epoch never falls, and a count within the limit stays there
pub epoch_rises : (s : Sequencer) (asked : Asked) → s.epoch.0 ≤ (after s asked).epoch.0
epoch_rises s asked = either s asked (λ n. s.epoch.0 ≤ n.epoch.0) (λ fine. raised asked fine) (omega arith)
  where
    raised : (a : Asked) → number s a ≡ 0 → s.epoch.0 ≤ (becomes s a).epoch.0
    raised (Token e) fine = omega arith
    raised (Start e count) fine = omega (arith, (start_raises s e count fine).0)
    raised Forget fine = omega arith

pub count_within : (s : Sequencer) (asked : Asked) → s.next.0 ≤ limit → (after s asked).next.0 ≤ limit
count_within s asked h = either s asked (λ n. n.next.0 ≤ limit) (λ fine. kept asked fine) h
  where
    kept : (a : Asked) → number s a ≡ 0 → (becomes s a).next.0 ≤ limit
    kept (Token e) fine = omega (arith, token_below s e fine)
    kept (Start e count) fine = (start_raises s e count fine).1
    kept Forget fine = omega arith
