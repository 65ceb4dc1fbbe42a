-- Laws of `good`: what it says of a layout's parts, and back.
use Prim.Native.Nat.{◌≤◌}
use mathlib.Core.Bool.{Bool, true, false, ◌&&◌}
use mathlib.Core.Path.{◌≡◌, refl}
use borrow.Author.Tests.{leb-true, eqb-true, le-leb, eq-eqb}
use lib.Dec.{eqb, leb}
use lib.ListN.{length}
use Rattle.num.specs.Limits.{last_epoch}
use Rattle.num.proofs.Tests.{false_true}
use Rattle.layout.specs.Lay.{Lay, good, good_sets, first_at_zero, good_spans, used, last_shape, sets_limit, ranges_limit}

-- a conjunction's parts
pub six : (a b c d e f : Bool) → (a && b && c && d && e && f) ≡ true
    → (a ≡ true) × (b ≡ true) × (c ≡ true) × (d ≡ true) × (e ≡ true) × (f ≡ true)
six true true true true true f h = (refl, refl, refl, refl, refl, h)
six true true true true false f h = absurd (false_true h)
six true true true false e f h = absurd (false_true h)
six true true false d e f h = absurd (false_true h)
six true false c d e f h = absurd (false_true h)
six false b c d e f h = absurd (false_true h)

pub nine : (a b c d e f g i j : Bool) → (a && b && c && d && e && f && g && i && j) ≡ true
    → (a ≡ true) × (b ≡ true) × (c ≡ true) × (d ≡ true) × (e ≡ true) × (f ≡ true) × (g ≡ true) × (i ≡ true) × (j ≡ true)
nine true true true d e f g i j h = let t = six d e f g i j h in (refl, refl, refl, t.0, t.1, t.2, t.3, t.4, t.5)
nine true true false d e f g i j h = absurd (false_true h)
nine true false c d e f g i j h = absurd (false_true h)
nine false b c d e f g i j h = absurd (false_true h)

-- limits kept, epoch at least 1, shape known, sets good, first start 0, starts rising, the ranges use all sets
pub record Good (l : Lay) : Type 0 where
  pub low : 1 ≤ l.epoch
  pub high : l.epoch ≤ last_epoch
  pub known : l.shape ≤ last_shape
  pub sets_few : length l.sets ≤ sets_limit
  pub spans_few : length l.spans ≤ ranges_limit
  pub sets_good : good_sets l.sets ≡ true
  pub first_zero : first_at_zero l.spans ≡ true
  pub spans_good : good_spans 0 l.spans ≡ true
  pub all_used : used l.spans ≡ length l.sets

pub good_says : (l : Lay) → good l ≡ true → Good l
unfolding good
good_says l h =
    let t = nine (leb 1 l.epoch) (leb l.epoch last_epoch) (leb l.shape last_shape) (leb (length l.sets) sets_limit) (leb (length l.spans) ranges_limit)
    (good_sets l.sets) (first_at_zero l.spans) (good_spans 0 l.spans) (eqb (used l.spans) (length l.sets)) h in
    record {
      low = leb-true _ _ t.0;
      high = leb-true _ _ t.1;
      known = leb-true _ _ t.2;
      sets_few = leb-true _ _ t.3;
      spans_few = leb-true _ _ t.4;
      sets_good = t.5;
      first_zero = t.6;
      spans_good = t.7;
      all_used = eqb-true _ _ t.8;
    }

pub says_good : (l : Lay) → Good l → good l ≡ true
unfolding good
says_good l g =
    rw (le-leb 1 l.epoch g.low, le-leb l.epoch last_epoch g.high, le-leb l.shape last_shape g.known, le-leb (length l.sets) sets_limit g.sets_few, le-leb (length l.spans) ranges_limit g.spans_few)
    (rw (g.sets_good, g.first_zero, g.spans_good) (eq-eqb (used l.spans) (length l.sets) g.all_used))
