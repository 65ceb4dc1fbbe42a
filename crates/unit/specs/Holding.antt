-- The promises in a shape: a memory that holds a unit answers what the unit answers, and holds afterwards the unit afterwards.
-- proofs/Both.antt proves `Obeys` once, over payload and slot count, and cites it for the small and for the large shape.
use Rattle.std.specs.Prelude.{◌≡◌, ℕ, ◌+◌, ◌≤◌, true, List, length, take, drop}
use Rattle.num.specs.declared.Epoch.{Epoch}
use Rattle.num.specs.declared.Position.{Position}
use Rattle.unit.specs.Shape.{Shape, shape_of, memory_size, unit_limit}
use Rattle.unit.specs.State.{State}
use Rattle.unit.specs.Unit.{Request, fresh_unit, says, after, report, in_time}
use Rattle.unit.specs.Unit.Request.{read}
use Rattle.unit.specs.Memory.{good, decode, valid}
use Rattle.unit.specs.Rules.{reported, start}
use Rattle.unit.specs.Promises.{IsFresh, IsAnswered}

-- good memory, and the unit that it holds
pub record Holds (sh : Shape) (m : List ℕ) (u : State) : Type 0 where
  pub is_good : good sh m ≡ true
  pub unit : decode sh m ≡ u
  pub is_valid : valid sh u ≡ true

-- what a request shows of a unit of this shape: its page, as long as a slot has room for, stands in the memory where the answer says
pub record Located (sh : Shape) (m : List ℕ) (u : State) (e : Epoch) (p : Position) (at size : ℕ) : Type 0 where
  pub within : at + size ≤ length m
  pub part : take size (drop at m) ≡ (report sh u (read e p)).page.payload
  pub short : size ≤ sh.cap

-- m: the memory that a function is lent. left: what it leaves there
pub record Obeys (sh : Shape) : Type 0 where
  pub whole : memory_size sh ≡ 6168
  pub named : (m : List ℕ) → good sh m ≡ true → shape_of m ≡ sh
  pub fresh : {m left : List ℕ} {number n : ℕ} → length m ≡ 6168 → 1 ≤ number → number ≤ unit_limit
      → IsFresh m number sh.code n left
      → (n ≡ 0) × Holds sh left (fresh_unit number)
  pub answers : {m left : List ℕ} {u : State} {r : Request} {n : ℕ} → Holds sh m u → in_time r ≡ true
      → IsAnswered m r n left
      → (n ≡ says sh u r) × Holds sh left (after sh u r)
  pub reports : {m : List ℕ} {u : State} (r : Request) → Holds sh m u → reported (shape_of m) m r ≡ report sh u r
  pub shows : {m : List ℕ} {u : State} (e : Epoch) (p : Position) → Holds sh m u
      → Located sh m u e p (start (shape_of m) m e p) (length (report sh u (read e p)).page.payload)
