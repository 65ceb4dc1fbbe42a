-- What a C program is told: the unit's own promises, with the numbers that it lends for the rest of an answer.
use Rattle.std.specs.Prelude.{ℕ, List, ◌≡◌, length}
use Rattle.num.specs.declared.Epoch.{Epoch}
use Rattle.num.specs.declared.Position.{Position}
use Rattle.num.specs.Told.{told}
use Rattle.unit.specs.Shape.{shape_of}
use Rattle.unit.specs.Unit.Request.{read, seal, measure}
use Rattle.unit.specs.Rules.{answer, reported, start}
use Rattle.unit.specs.Promises.{IsAnswered}

-- the counts that a C program hands in as plain numbers
abbrev pub epoch_of : ℕ → Epoch
epoch_of n = record { 0 = n }

abbrev pub position_of : ℕ → Position
position_of n = record { 0 = n }

-- a read, and the lent numbers before and after it
pub record IsTold (m : List ℕ) (e : Epoch) (p : Position) (kind at size n kind' at' size' : ℕ) : Type 0 where
  pub answered : IsAnswered m (read e p) n m
  pub kind_is : kind' ≡ told (answer (shape_of m) m (read e p)) (reported (shape_of m) m (read e p)).page.kind kind
  pub start_is : at' ≡ told (answer (shape_of m) m (read e p)) (start (shape_of m) m e p) at
  pub length_is : size' ≡ told (answer (shape_of m) m (read e p)) (length (reported (shape_of m) m (read e p)).page.payload) size

-- a seal, and the lent edges before and after it
pub record IsSealTold (m : List ℕ) (e : Epoch) (edge written n edge' written' : ℕ) (after : List ℕ) : Type 0 where
  pub answered : IsAnswered m (seal e) n after
  pub edge_is : edge' ≡ told (answer (shape_of m) m (seal e)) (reported (shape_of m) m (seal e)).edges.edge.0 edge
  pub written_is : written' ≡ told (answer (shape_of m) m (seal e)) (reported (shape_of m) m (seal e)).edges.written.0 written

-- an edge request, and the lent edges before and after it
pub record IsMeasureTold (m : List ℕ) (edge written n edge' written' : ℕ) : Type 0 where
  pub answered : IsAnswered m measure n m
  pub edge_is : edge' ≡ told (answer (shape_of m) m measure) (reported (shape_of m) m measure).edges.edge.0 edge
  pub written_is : written' ≡ told (answer (shape_of m) m measure) (reported (shape_of m) m measure).edges.written.0 written
