-- A layout's value: its lists in arrays, each with its count, blank past the count.
use Rattle.std.specs.Prelude.{ℕ, zero, suc, Bool, true, ◌&&◌, List, [], ◌∷◌, map, leb, eqb, length, take, drop, replicate}
unfoldable pub use Rattle.num.specs.Zeros.{zeros}
use Rattle.layout.specs.declared.Chain.{Chain}
use Rattle.layout.specs.declared.Range.{Range}
use Rattle.layout.specs.declared.Layout.{Layout}
use Rattle.layout.specs.declared.Wish.{Wish}
use Rattle.layout.specs.Lay.{Span, Lay, good, set_limit, sets_limit, ranges_limit}

-- xs in n places, the rest blank
unfoldable pub padded : {A : Type 0} → ℕ → A → List A → List A
padded zero none xs = []
padded (suc n) none [] = none ∷ padded n none []
padded (suc n) none (x ∷ xs) = x ∷ padded n none xs

abbrev pub no_chain : Chain
no_chain = record { count = 0; units = replicate set_limit 0 }

abbrev pub no_range : Range
no_range = record { start = record { 0 = 0 }; sets = 0 }

-- ---- from the value

abbrev pub units_in : Chain → List ℕ
units_in c = take c.count c.units

abbrev pub span_in : Range → Span
span_in r = record { start = r.start.0; uses = r.sets }

unfoldable pub lay_of : Layout → Lay
lay_of l = record {
  epoch = l.epoch.0;
  shape = l.shape;
  sets = map units_in (take l.set_count l.sets);
  spans = map span_in (take l.range_count l.ranges);
}

-- ---- to the value

abbrev pub chain_of : List ℕ → Chain
chain_of us = record { count = length us; units = padded set_limit 0 us }

abbrev pub range_of : Span → Range
range_of s = record { start = record { 0 = s.start }; sets = s.uses }

unfoldable pub value_of : Lay → Layout
value_of l = record {
  epoch = record { 0 = l.epoch };
  shape = l.shape;
  set_count = length l.sets;
  sets = padded sets_limit no_chain (map chain_of l.sets);
  range_count = length l.spans;
  ranges = padded ranges_limit no_range (map range_of l.spans);
}

-- no layout
abbrev pub blank : Layout
blank = record {
  epoch = record { 0 = 0 };
  shape = 0;
  set_count = 0;
  sets = replicate sets_limit no_chain;
  range_count = 0;
  ranges = replicate ranges_limit no_range;
}

-- no new set
abbrev pub no_wish : Wish
no_wish = record { count = 0; sets = replicate sets_limit no_chain }

-- ---- the value of a good layout, and of no other

-- the count within the units, and 0 past it
unfoldable pub tidy_chain : Chain → Bool
tidy_chain c = eqb (length c.units) set_limit && leb c.count set_limit && zeros set_limit (drop c.count c.units)

-- each chain is tidy, and those past the first n hold no unit
unfoldable pub tidy_chains : ℕ → List Chain → Bool
tidy_chains n [] = true
tidy_chains zero (c ∷ cs) = tidy_chain c && eqb c.count 0 && tidy_chains zero cs
tidy_chains (suc n) (c ∷ cs) = tidy_chain c && tidy_chains n cs

unfoldable pub blank_ranges : List Range → Bool
blank_ranges [] = true
blank_ranges (r ∷ rs) = eqb r.start.0 0 && eqb r.sets 0 && blank_ranges rs

-- counts within the arrays, and blank past every count
unfoldable pub tidy : Layout → Bool
tidy l =
    eqb (length l.sets) sets_limit && leb l.set_count sets_limit && tidy_chains l.set_count l.sets
    && eqb (length l.ranges) ranges_limit && leb l.range_count ranges_limit && blank_ranges (drop l.range_count l.ranges)

-- good, and blank past every count. By `value_of_good`, `good_value_lem` and `lay_of_value` of the laws it holds of the values of good layouts and of no others
unfoldable pub good_value : Layout → Bool
good_value l = good (lay_of l) && tidy l
