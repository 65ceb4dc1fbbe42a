-- What a step leaves may be lent to the next: it passes the test of what is lent, and the yard in it is the one that was left.
use mathlib.Core.Path.{◌≡◌, refl, ap, subst, ◌∙◌}
use mathlib.Core.Bool.{true, not, ◌||◌}
use mathlib.Core.List.{List, [], ◌∷◌, ◌++◌}
use Prim.Native.Nat.{ℕ, zero, suc, ◌+◌, ◌-◌, ◌≤◌, ◌<◌, max}
use native.Mathlib.Omega.{arith}
use lib.ListN.{length, take, drop, get_or, replicate, length-append, length-drop, length-replicate}
use borrow.Author.Tests.{eq-eqb, le-ltb}
use Rattle.layout.specs.Value.{good_value}
use Rattle.layout.proofs.ValueOf.{value_known}
use Rattle.unit.specs.declared.shape.Shape.{Shape}
use Rattle.unit.specs.Shape.{shape_for}
use Rattle.unit.specs.State.{State}
use Rattle.unit.specs.Memory.{good, decode, encode, number_of, code_of, valid}
use Rattle.unit.proofs.Goodness.{is_good_lem}
use Rattle.unit.proofs.Shapes.{Sized, sized, for_known, names_shape, code_own}
use Rattle.unit.proofs.Decoding.{decode_encode, encode_good}
use Rattle.client.specs.declared.Client.{Client}
use Rattle.rule.specs.declared.Letter.{Letter}
use Rattle.rule.specs.World.{World, shape_under, blank_letter}
use Rattle.rule.specs.Lent.{Lent, unit_size, good_unit, good_units, fetched, good_clients, test_number, lent_number, units_in, seen, units_bytes, laid, left}

-- ---- lists

take_front : {A : Type 0} (n : ℕ) (xs ys : List A) → length xs ≡ n → take n (xs ++ ys) ≡ xs
take_front zero [] ys e = refl
take_front zero (x ∷ xs) ys e = absurd (omega arith)
take_front (suc n) [] ys e = absurd (omega arith)
take_front (suc n) (x ∷ xs) ys e = ap (λ zs. x ∷ zs) (take_front n xs ys (omega arith))

drop_front : {A : Type 0} (n : ℕ) (xs ys : List A) → length xs ≡ n → drop n (xs ++ ys) ≡ ys
drop_front zero [] ys e = refl
drop_front zero (x ∷ xs) ys e = absurd (omega arith)
drop_front (suc n) [] ys e = absurd (omega arith)
drop_front (suc n) (x ∷ xs) ys e = drop_front n xs ys (omega arith)

regroup : {A : Type 0} (xs ys zs : List A) → (xs ++ ys) ++ zs ≡ xs ++ (ys ++ zs)
regroup [] ys zs = refl
regroup (x ∷ xs) ys zs = ap (λ us. x ∷ us) (regroup xs ys zs)

-- each, numbered from k on
pub data AllFrom {A : Type 0} (P : ℕ → A → Type 0) : ℕ → List A → Type 0 where
  from_none : {k : ℕ} → AllFrom P k []
  from_more : {k : ℕ} {x : A} {xs : List A} → P k x → AllFrom P (suc k) xs → AllFrom P k (x ∷ xs)

pub all_from : {A : Type 0} (P : ℕ → A → Type 0) (other : ℕ → A) (n k : ℕ) (xs : List A) → length xs ≡ n → ((i : ℕ) → i < n → P (k + i) (get_or xs i (other (k + i)))) → AllFrom P k xs
all_from P other n k [] e f = from_none
all_from P other zero k (x ∷ xs) e f = absurd (omega arith)
all_from P other (suc n) k (x ∷ xs) e f =
    let here : k + 0 ≡ k = omega arith in
    from_more (subst (λ j. P j x) here (f 0 (omega arith)))
    (all_from P other n (suc k) xs (omega arith) (λ i lt. let at : k + suc i ≡ suc k + i = omega arith in subst (λ j. P j (get_or xs i (other j))) at (f (suc i) (omega arith))))

-- ---- units

pub record Fit (sh : Shape) (k : ℕ) (u : State) : Type 0 where
  pub stays_valid : valid sh u ≡ true
  pub number_is : u.number ≡ k

-- of whatever shape the yard is; that there is such a shape is asked only of the test
module _ (shape : ℕ) where
  abbrev sh : Shape
  sh = shape_for shape

  fits : Sized sh
  fits = sized shape

  module _ (u : State) (v : valid sh u ≡ true) where
    is_encoded : good sh (encode sh u) ≡ true
    is_encoded = encode_good sh u v fits.room

    encode_long : length (encode sh u) ≡ unit_size
    encode_long = (is_good_lem sh (encode sh u) is_encoded).size ∙ fits.whole

    encode_back : decode sh (encode sh u) ≡ u
    encode_back = decode_encode sh u v fits.room

    encode_number : number_of (encode sh u) ≡ u.number
    unfolding decode
    encode_number = ap (λ (s : State). s.number) encode_back

    encode_tested : (k : ℕ) → u.number ≡ k → shape ≤ 1 → good_unit shape k (encode sh u) ≡ true
    unfolding good_unit
    encode_tested k n known =
        rw (
          names_shape sh (encode sh u) (for_known shape) is_encoded,
          is_encoded,
          eq-eqb (number_of (encode sh u)) k (encode_number ∙ n),
          eq-eqb (code_of (encode sh u)) shape ((is_good_lem sh (encode sh u) is_encoded).header.named ∙ code_own shape known),
        )

  units_seen : {k : ℕ} (us : List State) → AllFrom (Fit sh) k us → units_in sh (length us) (units_bytes sh us) ≡ us
  unfolding units_in units_bytes
  units_seen [] from_none = refl
  units_seen (u ∷ us) (from_more fit rest) =
      rw (
        take_front unit_size (encode sh u) (units_bytes sh us) (encode_long u fit.stays_valid),
        drop_front unit_size (encode sh u) (units_bytes sh us) (encode_long u fit.stays_valid),
        encode_back u fit.stays_valid,
        units_seen us rest,
      )

  units_good : {k : ℕ} (us : List State) → shape ≤ 1 → AllFrom (Fit sh) k us → good_units shape k (length us) (units_bytes sh us) ≡ true
  unfolding good_units units_bytes
  units_good [] known from_none = refl
  units_good {k} (u ∷ us) known (from_more fit rest) =
      rw (
        take_front unit_size (encode sh u) (units_bytes sh us) (encode_long u fit.stays_valid),
        drop_front unit_size (encode sh u) (units_bytes sh us) (encode_long u fit.stays_valid),
        encode_tested u fit.stays_valid k fit.number_is known,
        units_good us known rest,
      )

-- ---- clients

abbrev pub HoldsGood : ℕ → Client → Type 0
HoldsGood k c = (not (fetched c.stage) || good_value c.layout) ≡ true

clients_good : {k : ℕ} (cs : List Client) → AllFrom HoldsGood k cs → good_clients cs ≡ true
unfolding good_clients
clients_good [] from_none = refl
clients_good (c ∷ cs) (from_more ok rest) = rw (ok, clients_good cs rest)

-- ---- what is left after a step

-- a yard that may be lent
pub record Lendable (w : World) : Type 0 where
  pub units_fit : AllFrom (Fit (shape_under w.held)) 1 w.units
  pub eight : length w.units ≡ 8
  pub held_good : good_value w.held ≡ true
  pub clients_fit : AllFrom HoldsGood 1 w.clients
  pub few : length w.letters ≤ 32

-- the table and its count, as they were lent
pub record Room (b : Lent) : Type 0 where
  pub long : length b.table ≡ 32
  pub count : b.yard.count ≤ 32

module _ (b : Lent) (room : Room b) (w : World) (ok : Lendable w) where
  abbrev yard_shape : Shape
  yard_shape = shape_under w.held

  known : w.held.shape ≤ 1
  known = value_known w.held ok.held_good

  letters_seen : take (length w.letters) (laid w.letters b.yard.count b.table) ≡ w.letters
  unfolding laid
  letters_seen =
      let blanks = replicate (b.yard.count - length w.letters) blank_letter in
      let behind = drop (max b.yard.count (length w.letters)) b.table in
      ap (λ (ls : List Letter). take (length w.letters) ls) (regroup w.letters blanks behind) ∙ take_front (length w.letters) w.letters (blanks ++ behind) refl

  table_long : length (laid w.letters b.yard.count b.table) ≡ 32
  unfolding laid
  table_long =
      let n = length w.letters in
      let k = b.yard.count in
      let blanks = replicate (k - n) blank_letter in
      let behind = drop (max k n) b.table in
      omega (arith, length-append (w.letters ++ blanks) behind, length-append w.letters blanks, length-replicate {A = Letter} (k - n) blank_letter, length-drop (max k n) b.table, room.long, room.count, ok.few)

  pub left_room : Room (left b w)
  unfolding left
  left_room = record { long = table_long; count = ok.few }

  pub left_seen : seen (left b w) ≡ w
  unfolding seen left
  left_seen =
      ap (λ (us : List State). record {
        held = w.held;
        clients = w.clients;
        stopped = w.stopped;
        units = us;
        sequencer = w.sequencer;
        letters = take (length w.letters) (laid w.letters b.yard.count b.table);
      }) (subst (λ n. units_in yard_shape n (units_bytes yard_shape w.units) ≡ w.units) ok.eight (units_seen w.held.shape w.units ok.units_fit))
      ∙ ap (λ (ls : List Letter). record { held = w.held; clients = w.clients; stopped = w.stopped; units = w.units; sequencer = w.sequencer; letters = ls }) letters_seen

  pub left_number : lent_number (left b w) ≡ 0
  unfolding lent_number test_number left
  left_number =
      rw (
        subst (λ n. good_units w.held.shape 1 n (units_bytes yard_shape w.units) ≡ true) ok.eight (units_good w.held.shape w.units known ok.units_fit),
        ok.held_good,
        clients_good w.clients ok.clients_fit,
        table_long,
        le-ltb 32 (length w.letters) ok.few,
      )
