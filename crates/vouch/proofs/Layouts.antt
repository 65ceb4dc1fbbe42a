-- The map of a layout: how a layout's value enters the history.
-- Rests on the layout's rules and on Maps.
use Rattle.layout.specs.Lay.{Lay, units_of}
use Rattle.layout.specs.Places.{set_at}
use Rattle.layout.specs.Plan.{last_start}
use Rattle.history.specs.Maps.{Map}

abbrev pub map_of : Lay → Map
map_of l = record { epoch = l.epoch; units = units_of l.sets; start = last_start l.spans; set = set_at l }
