-- No second answer, and no second content of lent memory, meets the promise of a public function.
use Prim.Native.Nat.{ℕ}
use mathlib.Core.Bool.{Bool}
use mathlib.Core.List.{List}
use mathlib.Core.Path.{◌≡◌, refl, ap}
use lib.ListN.{get_or, take}
use Rattle.num.specs.declared.Edges.{Edges}
use Rattle.std.proofs.Common.{Result, Option, None, Some, arith}
use Rattle.num.specs.declared.refusal.Refusal.{Refusal}
use Rattle.num.specs.Refusals.{answered, given}
use Rattle.num.proofs.Refusals.{result_once}
use Rattle.num.proofs.Unique.{once}
use Rattle.layout.specs.declared.Chain.{Chain}
use Rattle.layout.specs.declared.Range.{Range}
use Rattle.layout.specs.declared.Layout.{Layout}
use Rattle.layout.specs.Value.{blank, no_chain, no_wish, good_value, lay_of, units_in}
use Rattle.layout.specs.Codec.{LayoutRead, LayoutWritten, are_sets, sets_name, wish_said}
use Rattle.layout.specs.declared.Wish.{Wish}
use Rattle.layout.specs.declared.plan.Started.{Started}
use Rattle.layout.specs.Places.{Placed, placed_in, placed_at, or_zero, FromOne, units_at, head_of, tail_of, after, next_unit}
use Rattle.layout.specs.Successor.{lawful}
use Rattle.layout.specs.Plan.{Planned, planned_in, planned_for, StartAnswer, not_started, started_in, started_at}
use Rattle.layout.specs.Holder.{Offered, offered_in, offered_to, Fetched, fetched_in, fetched_from}

-- Layout::blank
pub blank_once : (l m : Layout) → l ≡ blank → m ≡ blank → l ≡ m
blank_once l m p q = once p q

-- Chain::blank
pub chain_blank_once : (c d : Chain) → c ≡ no_chain → d ≡ no_chain → c ≡ d
chain_blank_once c d p q = once p q

-- Wish::blank
pub wish_blank_once : (w v : Wish) → w ≡ no_wish → v ≡ no_wish → w ≡ v
wish_blank_once w v p q = once p q

-- Chain::units
pub units_once : (c : Chain) {r q : List ℕ} → r ≡ units_in c → q ≡ units_in c → r ≡ q
units_once c e f = once e f

-- Wish::sets
pub wish_sets_once : (w : Wish) {r q : List Chain} → r ≡ take w.count w.sets → q ≡ take w.count w.sets → r ≡ q
wish_sets_once w e f = once e f

-- Layout::sets
pub sets_once : (l : Layout) {r q : List Chain} → r ≡ take l.set_count l.sets → q ≡ take l.set_count l.sets → r ≡ q
sets_once l e f = once e f

-- Layout::ranges
pub ranges_once : (l : Layout) {r q : List Range} → r ≡ take l.range_count l.ranges → q ≡ take l.range_count l.ranges → r ≡ q
ranges_once l e f = once e f

-- is_good
pub is_good_once : (l : Layout) (r s : Bool) → r ≡ good_value l → s ≡ good_value l → r ≡ s
is_good_once l r s p q = once p q

-- read_layout
pub read_layout_once : (b : List ℕ) {r q : Result Layout Refusal} → LayoutRead b (answered r) (given blank r) → LayoutRead b (answered q) (given blank q) → r ≡ q
read_layout_once b {r} {q} e f = result_once blank r q (once e.answer_is f.answer_is) (once e.layout_is f.layout_is)

-- byte_at
pub byte_at_once : (b : List ℕ) (at : ℕ) {r q : ℕ} → r ≡ get_or b at 0 → q ≡ get_or b at 0 → r ≡ q
byte_at_once b at e f = once e f

-- write_layout
pub write_layout_once : (l : Layout) (before : List ℕ) {r q : Result ℕ Refusal} (m m' : List ℕ)
    → LayoutWritten l before (answered r) (given 0 r) m → LayoutWritten l before (answered q) (given 0 q) m' → (r ≡ q) × (m ≡ m')
write_layout_once l before {r} {q} m m' e f = (result_once 0 r q (once e.answer_is f.answer_is) (once e.count_is f.count_is), once e.buffer_is f.buffer_is)

-- are_sets
pub are_sets_once : (b : List ℕ) (r s : Bool) → r ≡ are_sets b → s ≡ are_sets b → r ≡ s
are_sets_once b r s p q = once p q

-- sets_name
pub sets_name_once : (b : List ℕ) (u : ℕ) (r s : Bool) → r ≡ sets_name b u → s ≡ sets_name b u → r ≡ s
sets_name_once b u r s p q = once p q

-- wish_of
pub wish_of_once : (b : List ℕ) (w v : Wish) → w ≡ wish_said b → v ≡ wish_said b → w ≡ v
wish_of_once b w v p q = once p q

nothing_once : (a b : Unit {0}) → a ≡ b
nothing_once a b = refl

-- a unit is known by its number, and that there is none by 0
unit_once : (r q : Option ℕ) → or_zero r ≡ or_zero q → FromOne r → FromOne q → r ≡ q
unit_once None None e f g = refl
unit_once None (Some u) e f g = absurd (omega arith)
unit_once (Some u) None e f g = absurd (omega arith)
unit_once (Some u) (Some v) e f g = ap Some e

-- ---- places, successors, plans, the holder

module _ (l : Layout) (p : ℕ) where
  pub set_of_once : {r q : Result ℕ Refusal} → placed_in r ≡ placed_at l p → placed_in q ≡ placed_at l p → r ≡ q
  set_of_once {r} {q} e f = let s = once e f in result_once 0 r q (ap (λ (t : Placed). t.answer) s) (ap (λ (t : Placed). t.set) s)

  pub head_at_once : {r q : Option ℕ} → or_zero r ≡ head_of (units_at l p) → or_zero q ≡ head_of (units_at l p) → FromOne r → FromOne q → r ≡ q
  head_at_once {r} {q} e f = unit_once r q (once e f)

  pub tail_at_once : {r q : Option ℕ} → or_zero r ≡ tail_of (units_at l p) → or_zero q ≡ tail_of (units_at l p) → FromOne r → FromOne q → r ≡ q
  tail_at_once {r} {q} e f = unit_once r q (once e f)

  pub unit_after_once : (u : ℕ) {r q : Option ℕ} → or_zero r ≡ after u (units_at l p) → or_zero q ≡ after u (units_at l p) → FromOne r → FromOne q → r ≡ q
  unit_after_once u {r} {q} e f = unit_once r q (once e f)

module _ (held : Layout) where
  pub with_start_once : (edges : Edges) {r q : Result Started Refusal} → started_in r ≡ started_at held edges → started_in q ≡ started_at held edges → r ≡ q
  with_start_once edges {r} {q} e f =
      let s = once e f in
      let g = given not_started in
      let same : g r ≡ g q = λ i. record { layout = (s i).layout; first = (s i).first } in
      result_once not_started r q (ap (λ (t : StartAnswer). t.answer) s) same

  pub next_unit_once : (u : ℕ) {r q : Option ℕ} → or_zero r ≡ next_unit (lay_of held) u → or_zero q ≡ next_unit (lay_of held) u → FromOne r → FromOne q → r ≡ q
  next_unit_once u {r} {q} e f = unit_once r q (once e f)

  pub lawful_once : (new : Layout) {r q : Bool} → r ≡ lawful (lay_of held) (lay_of new) → q ≡ lawful (lay_of held) (lay_of new) → r ≡ q
  lawful_once new e f = once e f

  pub plan_once : (drops : List ℕ) (w : Wish) {r q : Result Layout Refusal} → planned_in r ≡ planned_for held drops w → planned_in q ≡ planned_for held drops w → r ≡ q
  plan_once drops w {r} {q} e f = let s = once e f in result_once blank r q (ap (λ (t : Planned). t.answer) s) (ap (λ (t : Planned). t.layout) s)

  pub offer_once : (offered : Layout) {r q : Result (Unit {0}) Refusal} {h k : Layout} → offered_in r h ≡ offered_to held offered → offered_in q k ≡ offered_to held offered → (r ≡ q) × (h ≡ k)
  offer_once offered {r} {q} e f = let s = once e f in (result_once tt r q (ap (λ (t : Offered). t.answer) s) (nothing_once _ _), ap (λ (t : Offered). t.held) s)

  pub fetch_once : {r q : Result Layout Refusal} → fetched_in r ≡ fetched_from held → fetched_in q ≡ fetched_from held → r ≡ q
  fetch_once {r} {q} e f = let s = once e f in result_once blank r q (ap (λ (t : Fetched). t.answer) s) (ap (λ (t : Fetched). t.layout) s)
