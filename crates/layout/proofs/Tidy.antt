-- Laws of `tidy`: what it says of a value's parts, and back.
use Prim.Native.Nat.{◌≤◌}
use mathlib.Core.Bool.{true}
use mathlib.Core.Path.{◌≡◌}
use borrow.Author.Tests.{leb-true, eqb-true, le-leb, eq-eqb}
use lib.Dec.{eqb, leb}
use lib.ListN.{length, drop}
use Rattle.layout.specs.declared.Layout.{Layout}
use Rattle.layout.specs.Lay.{sets_limit, ranges_limit}
use Rattle.layout.specs.Value.{tidy_chains, blank_ranges, tidy}
use Rattle.layout.proofs.GoodLay.{six}

-- counts within the arrays, and blank past every count
pub record Tidy (l : Layout) : Type 0 where
  pub room : length l.sets ≡ sets_limit
  pub few : l.set_count ≤ sets_limit
  pub chains : tidy_chains l.set_count l.sets ≡ true
  pub spans_room : length l.ranges ≡ ranges_limit
  pub spans_few : l.range_count ≤ ranges_limit
  pub blanks : blank_ranges (drop l.range_count l.ranges) ≡ true

pub tidy_says : (l : Layout) → tidy l ≡ true → Tidy l
unfolding tidy
tidy_says l h =
    let t = six (eqb (length l.sets) sets_limit) (leb l.set_count sets_limit) (tidy_chains l.set_count l.sets)
    (eqb (length l.ranges) ranges_limit) (leb l.range_count ranges_limit) (blank_ranges (drop l.range_count l.ranges)) h in
    record { room = eqb-true _ _ t.0; few = leb-true _ _ t.1; chains = t.2; spans_room = eqb-true _ _ t.3; spans_few = leb-true _ _ t.4; blanks = t.5 }

pub says_tidy : (l : Layout) → Tidy l → tidy l ≡ true
unfolding tidy
says_tidy l t =
    rw (eq-eqb (length l.sets) sets_limit t.room, le-leb l.set_count sets_limit t.few, t.chains)
    (rw (eq-eqb (length l.ranges) ranges_limit t.spans_room, le-leb l.range_count ranges_limit t.spans_few) t.blanks)
