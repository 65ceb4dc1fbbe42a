-- Laws of slots by position: the loop that counts the slots before a position, and what `lookup` finds there.
use Rattle.std.proofs.Common.{◌≡◌, ℕ, zero, suc, ◌+◌, ◌-◌, ◌*◌, ◌<◌, ◌≤◌, Bool, true, false, cond, eqb, ltb, Option, List, [], ◌∷◌, length, get_or, take, drop, sym, refl, ap, ◌∙◌, le_trans, le_of_suc-le-suc, not-suc-le-zero, mul-le-mul_right, zero-mul, arith, get_or-drop, drop-drop, ltb-false, ltb-true, le-ltb, lt-ltb, eq-eqb, ne_eqb, eqb-true}
use lib.Dec.{leb-suc-suc}
use Rattle.num.specs.Bytes.{le}
use Rattle.unit.specs.Shape.{Shape, slot_size}
use Rattle.unit.specs.declared.kind.Kind.{Kind}
use Rattle.unit.specs.Kinds.{no_kind, is_kind, held_code}
use Rattle.unit.specs.State.{Slot, nothing, lookup, before}
use Rattle.unit.specs.Memory.{slot_at, slots_at, good_slot, good_slots, good, decode, place_of, count_of, floor_of}
use Rattle.num.proofs.Tests.{and_both}
use Rattle.unit.proofs.Goodness.{slot_fields, is_good_lem, slots_within, slot_within}

pub slots_length : (cap n : ℕ) (xs : List ℕ) → length (slots_at cap n xs) ≡ n
unfolding slots_at
slots_length cap zero xs = refl
slots_length cap (suc n) xs = ap suc (slots_length cap n (drop (slot_size cap) xs))

-- one slot of the count
pub before_step : (cap : ℕ) (n p : ℕ) (xs : List ℕ)
    → before p (slots_at cap (suc n) xs) ≡ cond (ltb (le 8 xs) p) (suc (before p (slots_at cap n (drop (slot_size cap) xs)))) 0
unfolding slots_at slot_at before
before_step cap n p xs = refl

-- ---- what stands there

pub good_step : (cap n low : ℕ) (xs : List ℕ) → good_slots cap (suc n) low xs ≡ true
    → (good_slot cap low xs ≡ true) × (good_slots cap n (le 8 xs + 1) (drop (slot_size cap) xs) ≡ true)
unfolding good_slots
good_step cap n low xs h = and_both (good_slot cap low xs) (good_slots cap n (le 8 xs + 1) (drop (slot_size cap) xs)) h

pub lookup_step : (sh : Shape) (n p : ℕ) (xs : List ℕ)
    → lookup p (slots_at sh.cap (suc n) xs) ≡ cond (eqb (le 8 xs) p) (slot_at xs) (lookup p (slots_at sh.cap n (drop (slot_size sh.cap) xs)))
unfolding slots_at slot_at lookup
lookup_step sh n p xs = refl

-- no slot stands below the least position
pub lookup_below : (sh : Shape) (n low p : ℕ) (xs : List ℕ) → good_slots sh.cap n low xs ≡ true → p < low → lookup p (slots_at sh.cap n xs) ≡ nothing
unfolding slots_at lookup
lookup_below sh zero low p xs g h = refl
lookup_below sh (suc n) low p xs g h =
    let (a, b) = good_step sh.cap n low xs g in
    let f = slot_fields sh.cap low xs a in
    let e : le 8 xs ≡ p → ⊥ = omega arith in
    lookup_step sh n p xs ∙ rw (ne_eqb _ _ e) (lookup_below sh n (le 8 xs + 1) p (drop (slot_size sh.cap) xs) b (omega arith))

-- the slot that `lookup` finds, or nothing, at the place of p
abbrev pub found : ℕ → ℕ → ℕ → List ℕ → Slot
found n k p ys = cond (ltb k n) (cond (eqb (le 8 ys) p) (slot_at ys) nothing) nothing

found_next : (sh : Shape) (n k p : ℕ) (xs : List ℕ)
    → found (suc n) (suc k) p (drop (suc k * slot_size sh.cap) xs) ≡ found n k p (drop (k * slot_size sh.cap) (drop (slot_size sh.cap) xs))
found_next sh n k p xs =
    let e : suc k * slot_size sh.cap ≡ slot_size sh.cap + k * slot_size sh.cap = omega arith in
    rw (e, drop-drop, leb-suc-suc)

found_here : (sh : Shape) (n p : ℕ) (xs : List ℕ) → found (suc n) 0 p (drop (0 * slot_size sh.cap) xs) ≡ cond (eqb (le 8 xs) p) (slot_at xs) nothing
found_here sh n p xs = rw (zero-mul, lt-ltb 0 (suc n) (omega arith))

pub lookup_at : (sh : Shape) (n low p : ℕ) (xs : List ℕ) → good_slots sh.cap n low xs ≡ true → (k : ℕ) → k ≡ before p (slots_at sh.cap n xs)
    → lookup p (slots_at sh.cap n xs) ≡ found n k p (drop (k * slot_size sh.cap) xs)
unfolding slots_at lookup before
lookup_at sh zero low p xs g k e = rw e
lookup_at sh (suc n) low p xs g k e =
    go (ltb (le 8 xs) p) refl (eqb (le 8 xs) p) refl (λ j q. lookup_at sh n (le 8 xs + 1) p (drop (slot_size sh.cap) xs) (good_step sh.cap n low xs g).1 j q)
  where
    rest : List ℕ
    rest = drop (slot_size sh.cap) xs

    go : (b : Bool) → ltb (le 8 xs) p ≡ b → (c : Bool) → eqb (le 8 xs) p ≡ c
        → ((j : ℕ) → j ≡ before p (slots_at sh.cap n rest) → lookup p (slots_at sh.cap n rest) ≡ found n j p (drop (j * slot_size sh.cap) rest))
        → lookup p (slots_at sh.cap (suc n) xs) ≡ found (suc n) k p (drop (k * slot_size sh.cap) xs)
    go true l c q ih =
        let f : le 8 xs ≡ p → ⊥ = omega (arith, ltb-true (le 8 xs) p l) in
        let k1 : k ≡ suc (before p (slots_at sh.cap n rest)) = e ∙ (rw l at (before_step sh.cap n p xs)) in
        rw (lookup_step sh n p xs, ne_eqb _ _ f, k1, found_next sh n (before p (slots_at sh.cap n rest)) p xs) (ih (before p (slots_at sh.cap n rest)) refl)
    go false l true q ih =
        let k0 : k ≡ 0 = e ∙ (rw l at (before_step sh.cap n p xs)) in
        rw (lookup_step sh n p xs, k0, found_here sh n p xs, q)
    go false l false q ih =
        let k0 : k ≡ 0 = e ∙ (rw l at (before_step sh.cap n p xs)) in
        let lt : p < le 8 xs + 1 = omega (arith, ltb-false (le 8 xs) p l) in
        rw (lookup_step sh n p xs, k0, found_here sh n p xs, q) (lookup_below sh n (le 8 xs + 1) p rest (good_step sh.cap n low xs g).1 lt)

pub before_le : (p : ℕ) (ss : List Slot) → before p ss ≤ length ss
unfolding before
before_le p [] = omega arith
before_le p (s ∷ ss) = go (ltb s.position p) (before_le p ss)
  where
    go : (b : Bool) → before p ss ≤ length ss → cond b (suc (before p ss)) 0 ≤ suc (length ss)
    go true h = omega arith
    go false h = omega arith

-- ---- the search for a place

-- positions rise from the least one on
good_rising : (cap n low : ℕ) (xs : List ℕ) (k : ℕ) → good_slots cap n low xs ≡ true → k < n → low ≤ le 8 (drop (k * slot_size cap) xs)
good_rising cap zero low xs k g h = absurd (not-suc-le-zero h)
good_rising cap (suc n) low xs zero g h = rw zero-mul (slot_fields cap low xs (good_step cap n low xs g).0).rising
good_rising cap (suc n) low xs (suc k) g h =
    let e : suc k * slot_size cap ≡ slot_size cap + k * slot_size cap = omega arith in
    let (a, b) = good_step cap n low xs g in
    let f : low ≤ le 8 xs = (slot_fields cap low xs a).rising in
    let r = good_rising cap n (le 8 xs + 1) (drop (slot_size cap) xs) k b (le_of_suc-le-suc h) in
    rw (e, ← drop-drop (k * slot_size cap) (slot_size cap) xs) (omega arith)

-- a slot at p or behind it does not stand before it
before_high : (cap n p : ℕ) (xs : List ℕ) (k : ℕ) → k < n → p ≤ le 8 (drop (k * slot_size cap) xs) → before p (slots_at cap n xs) ≤ k
before_high cap zero p xs k h l = absurd (not-suc-le-zero h)
before_high cap (suc n) p xs zero h l =
    let l0 : p ≤ le 8 xs = rw zero-mul at l in
    rw (before_step cap n p xs, le-ltb (le 8 xs) p l0) (omega arith)
before_high cap (suc n) p xs (suc k) h l =
    let e : suc k * slot_size cap ≡ slot_size cap + k * slot_size cap = omega arith in
    let r = before_high cap n p (drop (slot_size cap) xs) k (le_of_suc-le-suc h) (rw (e, ← drop-drop (k * slot_size cap) (slot_size cap) xs) at l) in
    rw (before_step cap n p xs) (go (ltb (le 8 xs) p) r)
  where
    go : (b : Bool) → before p (slots_at cap n (drop (slot_size cap) xs)) ≤ k → cond b (suc (before p (slots_at cap n (drop (slot_size cap) xs)))) 0 ≤ suc k
    go true r = omega arith
    go false r = omega arith

-- and one below p does
before_low : (cap n low p : ℕ) (xs : List ℕ) (k : ℕ) → good_slots cap n low xs ≡ true → k < n → le 8 (drop (k * slot_size cap) xs) < p
    → k < before p (slots_at cap n xs)
before_low cap zero low p xs k g h l = absurd (not-suc-le-zero h)
before_low cap (suc n) low p xs zero g h l =
    let l0 : le 8 xs < p = rw zero-mul at l in
    rw (before_step cap n p xs, lt-ltb (le 8 xs) p l0) (omega arith)
before_low cap (suc n) low p xs (suc k) g h l =
    let e : suc k * slot_size cap ≡ slot_size cap + k * slot_size cap = omega arith in
    let b = (good_step cap n low xs g).1 in
    let l1 = rw (e, ← drop-drop (k * slot_size cap) (slot_size cap) xs) at l in
    let f = good_rising cap n (le 8 xs + 1) (drop (slot_size cap) xs) k b (le_of_suc-le-suc h) in
    let r = before_low cap n (le 8 xs + 1) p (drop (slot_size cap) xs) k b (le_of_suc-le-suc h) l1 in
    rw (before_step cap n p xs, lt-ltb (le 8 xs) p (omega arith)) (omega arith)

-- The loop that halves where the place of p may be: from low to high.
pub record Between (cap : ℕ) (m : List ℕ) (count p low high : ℕ) : Type 0 where
  pub lower : low ≤ before p (slots_at cap count (drop 24 m))
  pub upper : before p (slots_at cap count (drop 24 m)) ≤ high
  pub bound : high ≤ count

pub between_all : (cap : ℕ) (m : List ℕ) (count p : ℕ) → Between cap m count p 0 count
between_all cap m count p =
    let b = before_le p (slots_at cap count (drop 24 m)) in
    record { lower = omega arith; upper = rw slots_length at b; bound = omega arith }

pub between_wider : {cap : ℕ} {m : List ℕ} {count p low high : ℕ} → Between cap m count p low high → (low' high' : ℕ) → low' ≤ low → high ≤ high' → high' ≤ count
    → Between cap m count p low' high'
between_wider s low' high' a b c = record { lower = omega (arith, s.lower); upper = omega (arith, s.upper); bound = c }

module _ {cap : ℕ} {m : List ℕ} {count p low high : ℕ} (s : Between cap m count p low high) where
  between_at : (k at : ℕ) → at ≡ 24 + k * slot_size cap → drop at m ≡ drop (k * slot_size cap) (drop 24 m)
  between_at k at e = rw (e, ← drop-drop (k * slot_size cap) 24 m)

  pub between_up : good_slots cap count (floor_of m) (drop 24 m) ≡ true → (k at q : ℕ) → k < high → at ≡ 24 + k * slot_size cap → q ≡ le 8 (drop at m) → q < p → Between cap m count p (k + 1) high
  between_up g k at q h e eq l =
      let u = s.bound in
      let n : k < count = omega arith in
      let b = before_low cap count (floor_of m) p (drop 24 m) k g n (rw (eq, between_at k at e) at l) in
      record { lower = omega arith; upper = s.upper; bound = u }

  pub between_down : (k at q : ℕ) → k < high → at ≡ 24 + k * slot_size cap → q ≡ le 8 (drop at m) → p ≤ q → Between cap m count p low k
  between_down k at q h e eq l =
      let u = s.bound in
      let n : k < count = omega arith in
      let b = before_high cap count p (drop 24 m) k n (rw (eq, between_at k at e) at l) in
      record { lower = s.lower; upper = b; bound = omega arith }

  -- a slot that is in question lies within the memory
  pub between_room : (k : ℕ) → k < high → 24 + count * slot_size cap ≤ length m → 24 + k * slot_size cap + slot_size cap ≤ length m
  between_room k h r =
      let u = s.bound in
      let l : suc k * slot_size cap ≤ count * slot_size cap = mul-le-mul_right {m = suc k} {n = count} (slot_size cap) (omega arith) in
      omega arith

  pub between_done : high ≤ low → low ≡ before p (slots_at cap count (drop 24 m))
  between_done h = omega (arith, s.lower, s.upper)

-- each used slot is good, from some least position on
pub good_at : (sh : Shape) (n low : ℕ) (xs : List ℕ) (k : ℕ) → good_slots sh.cap n low xs ≡ true → k < n
    → (l : ℕ) × (good_slot sh.cap l (drop (k * slot_size sh.cap) xs) ≡ true)
good_at sh zero low xs k g h = absurd (not-suc-le-zero h)
good_at sh (suc n) low xs zero g h = (low, rw zero-mul (good_step sh.cap n low xs g).0)
good_at sh (suc n) low xs (suc k) g h =
    let e : suc k * slot_size sh.cap ≡ slot_size sh.cap + k * slot_size sh.cap = omega arith in
    let (l, t) = good_at sh n (le 8 xs + 1) (drop (slot_size sh.cap) xs) k (good_step sh.cap n low xs g).1 (le_of_suc-le-suc h) in
    let y : drop (k * slot_size sh.cap) (drop (slot_size sh.cap) xs) ≡ drop (suc k * slot_size sh.cap) xs = rw (drop-drop, e) in
    (l, rw y at t)

-- ---- a position in good memory: n slots are used, k of them stand before p, and the next is at offset `at`
pub record Placed (sh : Shape) (m : List ℕ) (p n k at : ℕ) : Type 0 where
  pub is_good : good sh m ≡ true
  pub used : n ≡ count_of m
  pub index : k ≡ before p (slots_at sh.cap n (drop 24 m))
  pub offset : at ≡ 24 + k * slot_size sh.cap

pub placed : (sh : Shape) (m : List ℕ) (p n k : ℕ) → good sh m ≡ true → n ≡ count_of m → k ≡ before p (slots_at sh.cap n (drop 24 m)) → Placed sh m p n k (24 + k * slot_size sh.cap)
placed sh m p n k g u i = record { is_good = g; used = u; index = i; offset = refl }

module _ {sh : Shape} {m : List ℕ} {p n k at : ℕ} (f : Placed sh m p n k at) where
  pub placed_bound : k ≤ n
  placed_bound = omega (arith, f.index, before_le p (slots_at sh.cap n (drop 24 m)), slots_length sh.cap n (drop 24 m))

  placed_count : n ≤ sh.room
  placed_count = rw f.used (is_good_lem sh m f.is_good).header.count

  pub placed_within : 24 + k * slot_size sh.cap ≤ length m
  placed_within = slots_within sh m (is_good_lem sh m f.is_good).size k (le_trans placed_bound placed_count)

  pub placed_room : k < n → 24 + k * slot_size sh.cap + slot_size sh.cap ≤ length m
  placed_room h = slot_within sh m (is_good_lem sh m f.is_good).size k (le_trans h placed_count)

  pub placed_at : at ≡ place_of sh m p
  unfolding place_of decode
  placed_at = f.offset ∙ rw (f.index, f.used)

  placed_slot : lookup p (decode sh m).slots ≡ found n k p (drop at m)
  unfolding decode
  placed_slot =
      let e : found n k p (drop (k * slot_size sh.cap) (drop 24 m)) ≡ found n k p (drop at m) = rw (drop-drop, ← f.offset) in
      rw (← f.used) (lookup_at sh n (floor_of m) p (drop 24 m) (rw f.used (is_good_lem sh m f.is_good).slots) k f.index ∙ e)

  pub placed_past : n ≤ k → lookup p (decode sh m).slots ≡ nothing
  placed_past h = placed_slot ∙ rw (le-ltb k n h)

  pub placed_other : (q : ℕ) → k < n → q ≡ le 8 (drop at m) → (q ≡ p → ⊥) → lookup p (decode sh m).slots ≡ nothing
  placed_other q h e d = placed_slot ∙ rw (lt-ltb k n h, ← e, ne_eqb q p d)

  pub placed_hit : (q : ℕ) → k < n → q ≡ le 8 (drop at m) → q ≡ p → lookup p (decode sh m).slots ≡ slot_at (drop at m)
  placed_hit q h e d = placed_slot ∙ rw (lt-ltb k n h, ← e, eq-eqb q p d)

  pub placed_kind : (q : ℕ) → k < n → q ≡ le 8 (drop at m) → q ≡ p → get_or m (at + 8) 0 ≡ (lookup p (decode sh m).slots).kind
  unfolding slot_at
  placed_kind q h e d = rw (placed_hit q h e d) (sym (get_or-drop at m 8 0))

  -- the kind of the code is that of the slot
  pub placed_code : (q : ℕ) (o : Option Kind) → k < n → q ≡ le 8 (drop at m) → q ≡ p
      → held_code o ≡ cond (is_kind (get_or m (at + 8) 0)) (get_or m (at + 8) 0) no_kind → held_code o ≡ (lookup p (decode sh m).slots).kind
  placed_code q o h e d c =
      let g = is_good_lem sh m f.is_good in
      let (low, t) = good_at sh n (floor_of m) (drop 24 m) k (rw f.used g.slots) h in
      let y : drop (k * slot_size sh.cap) (drop 24 m) ≡ drop at m = rw (drop-drop, ← f.offset) in
      let s = slot_fields sh.cap low (drop at m) (rw y at t) in
      let known : is_kind (get_or m (at + 8) 0) ≡ true = rw (← get_or-drop at m 8 0) s.known in
      c ∙ rw known (placed_kind q h e d)

-- a slot that is held: it stands at its place, within the memory, with no more bytes than a slot has
pub record Stands (sh : Shape) (m : List ℕ) (p at : ℕ) : Type 0 where
  pub slot : lookup p (decode sh m).slots ≡ slot_at (drop at m)
  pub within : at + slot_size sh.cap ≤ length m
  pub short : get_or m (at + 9) 0 ≤ sh.cap

found_held : (n k p : ℕ) (ys : List ℕ) → ((found n k p ys).kind ≡ no_kind → ⊥) → (k < n) × (le 8 ys ≡ p)
found_held n k p ys h = go (ltb k n) refl (eqb (le 8 ys) p) refl
  where
    go : (b : Bool) → ltb k n ≡ b → (c : Bool) → eqb (le 8 ys) p ≡ c → (k < n) × (le 8 ys ≡ p)
    go true e true q = (ltb-true k n e, eqb-true (le 8 ys) p q)
    go true e false q = absurd (h (rw (e, q)))
    go false e c q = absurd (h (rw e))

pub held_stands : (sh : Shape) (m : List ℕ) (p at : ℕ) → good sh m ≡ true → at ≡ place_of sh m p
    → ((lookup p (decode sh m).slots).kind ≡ no_kind → ⊥) → Stands sh m p at
unfolding place_of decode
held_stands sh m p at g ha h =
    let n : ℕ = count_of m in
    let k : ℕ = before p (slots_at sh.cap n (drop 24 m)) in
    let f : Placed sh m p n k at = record { is_good = g; used = refl; index = refl; offset = ha } in
    let (l, q) = found_held n k p (drop at m) (rw (placed_slot f) at h) in
    let g' = is_good_lem sh m g in
    let (low, t) = good_at sh n (floor_of m) (drop 24 m) k g'.slots l in
    let y : drop (k * slot_size sh.cap) (drop 24 m) ≡ drop at m = rw (drop-drop, ← ha) in
    let s = slot_fields sh.cap low (drop at m) (rw y at t) in
    record {
      slot = placed_hit f (le 8 (drop at m)) l refl q;
      within = omega (arith, mul-le-mul_right {m = suc k} {n = sh.room} (slot_size sh.cap) (le_trans l g'.header.count));
      short = rw (← get_or-drop at m 9 0) s.fits;
    }

-- the bytes of a slot that stands, as a part of the memory
pub stands_payload : {sh : Shape} {m : List ℕ} {p at : ℕ} → Stands sh m p at
    → take (at + 16 + get_or m (at + 9) 0 - (at + 16)) (drop (at + 16) m) ≡ (lookup p (decode sh m).slots).payload
unfolding slot_at
stands_payload {sh} {m} {p} {at} s =
    let e : at + 16 + get_or m (at + 9) 0 - (at + 16) ≡ get_or m (at + 9) 0 = omega arith in
    rw (s.slot, e, ← drop-drop, ← get_or-drop at m 9 0)
