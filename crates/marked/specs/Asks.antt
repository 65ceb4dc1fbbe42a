-- What the rules answer to what a row asks, a unit's of a memory m, and the memory that they leave.
use Rattle.std.specs.Prelude.{ℕ, zero, suc, min, cond, List, [], ◌≡◌, eqb, length, take, replicate}
use Rattle.num.specs.Bytes.{number_at}
use Rattle.unit.specs.Shape.{shape_of}
use Rattle.unit.specs.Kinds.{data_kind}
use Rattle.unit.specs.State.{content}
use Rattle.unit.specs.Unit.{Request}
use Rattle.unit.specs.Unit.Request.{write, read, trim, prune, seal, measure}
use Rattle.unit.specs.Rules.{fresh_answer, fresh_memory, answer, memory, reported}
use Rattle.marked.specs.declared.ask.Ask.{Ask}
use Rattle.marked.specs.declared.ask.Ask.TheVariants.{Fresh, Write, Read, Trim, Prune, Seal, Measure, Fill, Floor, Place, Drop}
use Rattle.marked.specs.Rows.{Told}
use Rattle.marked.specs.Lays.{told, place_told, drop_told}

-- so many bytes, each 7; at most 81, one more than any page holds
abbrev pub sevens : ℕ → List ℕ
sevens size = take (min size 81) (replicate 81 7)

-- a data page of no bytes, in epoch 1
abbrev pub data_at : ℕ → Request
data_at p = write (record { 0 = 1 }) (record { 0 = p }) (content data_kind [])

-- one at each position below n
unfoldable pub fill_memory : List ℕ → ℕ → List ℕ
fill_memory m zero = m
fill_memory m (suc n) = memory (shape_of (fill_memory m n)) (fill_memory m n) (data_at n)

-- the first of their answers that is not 0
unfoldable pub fill_answer : List ℕ → ℕ → ℕ
fill_answer m zero = 0
fill_answer m (suc n) = cond (eqb (fill_answer m n) 0) (answer (shape_of (fill_memory m n)) (fill_memory m n) (data_at n)) (fill_answer m n)

-- what the run of writes promises
pub record IsFilled (m : List ℕ) (n number : ℕ) (after : List ℕ) : Type 0 where
  pub answer_is : number ≡ fill_answer m n
  pub memory_is : after ≡ fill_memory m n

-- what the rules answer, with the numbers that come with it
unfoldable pub told_of : List ℕ → Ask → Told
told_of m (Fresh n shape) = told (fresh_answer m n shape) 0 0
told_of m (Write e p kind size) = told (answer (shape_of m) m (write e p (content kind (sevens size)))) 0 0
told_of m (Read e p) =
    told (answer (shape_of m) m (read e p))
    (reported (shape_of m) m (read e p)).page.kind
    (length (reported (shape_of m) m (read e p)).page.payload)
told_of m (Trim e p) = told (answer (shape_of m) m (trim e p)) 0 0
told_of m (Prune e p) = told (answer (shape_of m) m (prune e p)) 0 0
told_of m (Seal n) = told (answer (shape_of m) m (seal n)) 0 0
told_of m Measure =
    told (answer (shape_of m) m measure)
    (reported (shape_of m) m measure).edges.edge.0
    (reported (shape_of m) m measure).edges.written.0
told_of m (Fill n) = told (fill_answer m n) 0 0
told_of m Floor = told 0 (number_at 8 8 m) 0
told_of m (Place p) = place_told p.0
told_of m (Drop a b k) = drop_told a b k

-- the memory that they leave
unfoldable pub left_by : List ℕ → Ask → List ℕ
left_by m (Fresh n shape) = fresh_memory m n shape
left_by m (Write e p kind size) = memory (shape_of m) m (write e p (content kind (sevens size)))
left_by m (Read e p) = m
left_by m (Trim e p) = memory (shape_of m) m (trim e p)
left_by m (Prune e p) = memory (shape_of m) m (prune e p)
left_by m (Seal n) = memory (shape_of m) m (seal n)
left_by m Measure = m
left_by m (Fill n) = fill_memory m n
left_by m Floor = m
left_by m (Place p) = m
left_by m (Drop a b k) = m

-- what asking the code promises
pub record IsTold (m : List ℕ) (asked : Ask) (r : Told) (after : List ℕ) : Type 0 where
  pub told_is : r ≡ told_of m asked
  pub memory_is : after ≡ left_by m asked
