-- The rules over a unit instead of its bytes: on the memory of a valid unit they tell the same and leave the memory of the next unit.
-- A unit computes a thousand times faster than 6,168 bytes. c: the byte that names the memory's shape.
use Prim.Native.Nat.{ℕ, zero, suc, ◌^◌, ◌<◌}
use mathlib.Core.Bool.{Bool, true, false, ◌&&◌, not, cond}
use mathlib.Core.List.{[], ◌∷◌}
use mathlib.Core.Path.{◌≡◌, refl, sym, ap, ◌∙◌}
use borrow.Author.Tests.{eq-eqb}
use lib.Dec.{leb, eqb}
use lib.ListN.{length}
use Rattle.num.specs.Bytes.{number_at}
use Rattle.num.specs.Checks.{lowest, ◌if◌}
use Rattle.num.proofs.Tests.{and_both}
use Rattle.unit.specs.declared.shape.Shape.{Shape}
use Rattle.unit.specs.Shape.{shape_for, shape_of, named, memory_size, unit_limit}
use Rattle.unit.specs.State.{State, content}
use Rattle.unit.specs.Memory.{valid, decode, encode}
use Rattle.unit.specs.Unit.{Request, fresh_unit, becomes, says, after, report}
use Rattle.unit.specs.Unit.Request.{write, read, trim, prune, seal, measure}
use Rattle.unit.specs.Rules.{fresh_answer, fresh_memory, answer, memory, reported}
use Rattle.unit.proofs.Goodness.{is_good_lem}
use Rattle.unit.specs.Holding.{Holds}
use Rattle.unit.proofs.Shapes.{sized, for_known, names_shape}
use Rattle.unit.proofs.Holding.{encode_holds, says_held, report_held}
use Rattle.marked.specs.declared.ask.Ask.{Ask}
use Rattle.marked.specs.declared.ask.Ask.TheVariants.{Fresh, Write, Read, Trim, Prune, Seal, Measure, Fill, Floor, Place, Drop}
use Rattle.marked.specs.Rows.{Told}
use Rattle.marked.specs.Lays.{told, place_told, drop_told}
use Rattle.marked.specs.Asks.{sevens, data_at, fill_memory, fill_answer, told_of, left_by}

abbrev fresh_number : ℕ → ℕ → ℕ
fresh_number n code = lowest (10 if not (named code) ∷ 17 if not (leb 1 n && leb n unit_limit) ∷ [])

-- a run of writes: the unit, the first answer that is not 0, and whether each unit on the way was valid
pub record Filled : Type 0 where
  pub unit : State
  pub number : ℕ
  pub all_valid : Bool

abbrev fill_next : Shape → ℕ → Filled → Filled
fill_next sh p f = record {
  unit = after sh f.unit (data_at p);
  number = cond (eqb f.number 0) (says sh f.unit (data_at p)) f.number;
  all_valid = f.all_valid && valid sh f.unit;
}

unfoldable pub filled : Shape → State → ℕ → Filled
filled sh u zero = record { unit = u; number = 0; all_valid = true }
filled sh u (suc n) = fill_next sh n (filled sh u n)

unfoldable pub tells : Shape → State → Ask → Told
tells sh u (Fresh n code) = told (fresh_number n code) 0 0
tells sh u (Write e p kind size) = told (says sh u (write e p (content kind (sevens size)))) 0 0
tells sh u (Read e p) = told (says sh u (read e p)) (report sh u (read e p)).page.kind (length (report sh u (read e p)).page.payload)
tells sh u (Trim e p) = told (says sh u (trim e p)) 0 0
tells sh u (Prune e p) = told (says sh u (prune e p)) 0 0
tells sh u (Seal n) = told (says sh u (seal n)) 0 0
tells sh u Measure = told (says sh u measure) (report sh u measure).edges.edge.0 (report sh u measure).edges.written.0
tells sh u (Fill n) = told (filled sh u n).number 0 0
tells sh u Floor = told 0 u.floor 0
tells sh u (Place p) = place_told p.0
tells sh u (Drop a b k) = drop_told a b k

unfoldable pub next : Shape → State → Ask → State
next sh u (Fresh n code) = cond (eqb (fresh_number n code) 0) (fresh_unit n) u
next sh u (Write e p kind size) = after sh u (write e p (content kind (sevens size)))
next sh u (Read e p) = u
next sh u (Trim e p) = after sh u (trim e p)
next sh u (Prune e p) = after sh u (prune e p)
next sh u (Seal n) = after sh u (seal n)
next sh u Measure = u
next sh u (Fill n) = (filled sh u n).unit
next sh u Floor = u
next sh u (Place p) = u
next sh u (Drop a b k) = u

-- only a fresh unit may be of another shape
unfoldable pub next_code : ℕ → Ask → ℕ
next_code c (Fresh n code) = cond (eqb (fresh_number n code) 0) code c
next_code c (Write e p kind size) = c
next_code c (Read e p) = c
next_code c (Trim e p) = c
next_code c (Prune e p) = c
next_code c (Seal n) = c
next_code c Measure = c
next_code c (Fill n) = c
next_code c Floor = c
next_code c (Place p) = c
next_code c (Drop a b k) = c

-- what the law asks of a row beside a valid unit: a run of writes is valid on its way too
unfoldable pub sure : Shape → State → Ask → Bool
sure sh u (Fresh n code) = true
sure sh u (Write e p kind size) = true
sure sh u (Read e p) = true
sure sh u (Trim e p) = true
sure sh u (Prune e p) = true
sure sh u (Seal n) = true
sure sh u Measure = true
sure sh u (Fill n) = (filled sh u n).all_valid
sure sh u Floor = true
sure sh u (Place p) = true
sure sh u (Drop a b k) = true

-- ---- the rules on the memory of a valid unit

encode_cond : (sh : Shape) (b : Bool) (u v : State) → cond b (encode sh u) (encode sh v) ≡ encode sh (cond b u v)
encode_cond sh true u v = refl
encode_cond sh false u v = refl

-- the same where the two are of different shapes
encode_either : (b : Bool) (c d : ℕ) (u v : State) → cond b (encode (shape_for c) u) (encode (shape_for d) v) ≡ encode (shape_for (cond b c d)) (cond b u v)
encode_either true c d u v = refl
encode_either false c d u v = refl

module _ (c : ℕ) where
  abbrev sh : Shape
  sh = shape_for c

  fits : sh.room < 256 ^ 2
  fits = (sized c).room

  module _ (u : State) (v : valid sh u ≡ true) where
    held : Holds sh (encode sh u) u
    held = encode_holds sh fits u v

    names : shape_of (encode sh u) ≡ sh
    names = names_shape sh (encode sh u) (for_known c) held.is_good

    size : length (encode sh u) ≡ 6168
    size = (is_good_lem sh (encode sh u) held.is_good).size ∙ (sized c).whole

    fresh_number_lem : (n code : ℕ) → fresh_answer (encode sh u) n code ≡ fresh_number n code
    unfolding fresh_answer
    fresh_number_lem n code = rw (eq-eqb (length (encode sh u)) (memory_size (shape_for code)) (size ∙ sym (sized code).whole))

    fresh_unit_lem : (n code : ℕ) → fresh_memory (encode sh u) n code ≡ encode (shape_for (cond (eqb (fresh_number n code) 0) code c)) (cond (eqb (fresh_number n code) 0) (fresh_unit n) u)
    unfolding fresh_memory
    fresh_unit_lem n code = rw (fresh_number_lem n code) (encode_either (eqb (fresh_number n code) 0) code c (fresh_unit n) u)

    module _ (r : Request) where
      request_number : answer (shape_of (encode sh u)) (encode sh u) r ≡ says sh u r
      request_number = rw names (says_held held r)

      request_report : reported (shape_of (encode sh u)) (encode sh u) r ≡ report sh u r
      request_report = rw names (report_held held r)

      request_unit : memory (shape_of (encode sh u)) (encode sh u) r ≡ encode sh (after sh u r)
      unfolding memory after
      request_unit = rw (names, says_held held r, held.unit) (encode_cond sh (eqb (says sh u r) 0) (becomes u r) u)

    floor_bytes : number_at 8 8 (encode sh u) ≡ u.floor
    unfolding number_at decode
    floor_bytes = rw size (ap (λ (w : State). w.floor) held.unit)

  fill_unit : (u : State) (n : ℕ) → (filled sh u n).all_valid ≡ true
      → (fill_memory (encode sh u) n ≡ encode sh (filled sh u n).unit) × (fill_answer (encode sh u) n ≡ (filled sh u n).number)
  unfolding fill_memory fill_answer filled
  fill_unit u zero h = (refl, refl)
  fill_unit u (suc n) h =
      let f = filled sh u n in
      let (a, b) = and_both f.all_valid (valid sh f.unit) h in
      let (m, k) = fill_unit u n a in
      (rw m (request_unit f.unit b (data_at n)), rw (k, m, request_number f.unit b (data_at n)))

  pub tells_right : (u : State) → valid sh u ≡ true → (a : Ask) → sure sh u a ≡ true → told_of (encode sh u) a ≡ tells sh u a
  unfolding told_of tells sure
  tells_right u h (Fresh n code) s = rw (fresh_number_lem u h n code)
  tells_right u h (Write e p kind size) s = rw (request_number u h (write e p (content kind (sevens size))))
  tells_right u h (Read e p) s = rw (request_number u h (read e p), request_report u h (read e p))
  tells_right u h (Trim e p) s = rw (request_number u h (trim e p))
  tells_right u h (Prune e p) s = rw (request_number u h (prune e p))
  tells_right u h (Seal n) s = rw (request_number u h (seal n))
  tells_right u h Measure s = rw (request_number u h measure, request_report u h measure)
  tells_right u h (Fill n) s = rw (fill_unit u n s).1
  tells_right u h Floor s = rw (floor_bytes u h)
  tells_right u h (Place p) s = refl
  tells_right u h (Drop a b k) s = refl

  pub leaves_next : (u : State) → valid sh u ≡ true → (a : Ask) → sure sh u a ≡ true → left_by (encode sh u) a ≡ encode (shape_for (next_code c a)) (next sh u a)
  unfolding left_by next next_code sure
  leaves_next u h (Fresh n code) s = fresh_unit_lem u h n code
  leaves_next u h (Write e p kind size) s = request_unit u h (write e p (content kind (sevens size)))
  leaves_next u h (Read e p) s = refl
  leaves_next u h (Trim e p) s = request_unit u h (trim e p)
  leaves_next u h (Prune e p) s = request_unit u h (prune e p)
  leaves_next u h (Seal n) s = request_unit u h (seal n)
  leaves_next u h Measure s = refl
  leaves_next u h (Fill n) s = (fill_unit u n s).0
  leaves_next u h Floor s = refl
  leaves_next u h (Place p) s = refl
  leaves_next u h (Drop a b k) s = refl
