-- What seals tell of units.
use Rattle.std.specs.Prelude.{max, Bool, ◌&&◌, leb}
use Rattle.num.specs.declared.Position.{Position}
use Rattle.num.specs.declared.Edges.{Edges}
use Rattle.num.specs.Limits.{limit}

-- before any unit has told its own
abbrev pub no_edges : Edges
no_edges = record { edge = record { 0 = 0 }; written = record { 0 = 0 } }

abbrev pub larger : Position → Position → Position
larger a b = record { 0 = max a.0 b.0 }

-- the largest of what two seals tell, each by itself
unfoldable pub largest : Edges → Edges → Edges
largest a b = record { edge = larger a.edge b.edge; written = larger a.written b.written }

-- none is above the limit: no unit tells such a one
unfoldable pub within : Edges → Bool
within e = leb e.edge.0 limit && leb e.written.0 limit
