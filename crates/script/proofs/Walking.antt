-- The loop over all steps of a play.
use Prim.Native.Nat.{ℕ, suc, ◌+◌, ◌-◌, ◌<◌, ◌≤◌}
use mathlib.Core.Bool.{Bool, true, false, ◌&&◌}
use mathlib.Core.List.{List}
use mathlib.Core.Path.{◌≡◌, refl, sym, ap, ◌∙◌}
use native.Mathlib.Omega.{arith}
use native.Mathlib.Nat.{sub-zero}
use native.Mathlib.Numerals.{add-one}
use borrow.Author.Tests.{leb-true, eq-eqb, eqb-true}
use lib.Dec.{eqb, leb}
use lib.ListN.{length, get_or, drop, length-drop}
use lib.Seq.{drop-drop}
use Rattle.std.specs.Prelude.{Some, None}
use Rattle.num.proofs.Tests.{and_both, left_step}
use Rattle.num.proofs.Bools.{same_test}
use Rattle.script.specs.declared.step.Got.{Got}
use Rattle.script.specs.Cue.{Cue}
use Rattle.script.specs.Cue.Cue.{append, read, fill, trim, prune, reorganise, deliver, drop_at, stop, restart, give_up, forget}
use Rattle.script.specs.Steps.{cue_bytes, cue_at, size_at, is_tag, good_flags, stands, has_room, is_cue, got_of, got_at, are_cues}

-- no step is of no bytes
pub cue_long : (c : Cue) → 1 ≤ length (cue_bytes c)
unfolding cue_bytes
cue_long (append c xs) = omega arith
cue_long (read c p) = omega arith
cue_long (fill c p) = omega arith
cue_long (trim c p) = omega arith
cue_long (prune c p) = omega arith
cue_long (reorganise c ds ss) = omega arith
cue_long (deliver i k a) = omega arith
cue_long (drop_at i) = omega arith
cue_long (stop u) = omega arith
cue_long (restart c) = omega arith
cue_long (give_up c) = omega arith
cue_long forget = omega arith

pub size_positive : (b : List ℕ) → 1 ≤ size_at b
unfolding size_at
size_positive b = cue_long (cue_at b)

-- a step that stands whole is within the bytes
pub cue_within : (b : List ℕ) → is_cue b ≡ true → size_at b ≤ length b
unfolding is_cue size_at
cue_within b h =
    let p = and_both (is_tag (get_or b 0 0) && good_flags b) (stands (cue_at b) b) h in
    leb-true _ _ (and_both (has_room (cue_at b)) (leb (length (cue_bytes (cue_at b))) (length b)) p.1).1

-- what code says of the bytes
module _ (b : List ℕ) where
  pub got_some : {g : Got} → got_at b ≡ Some g → (is_cue b ≡ true) × (g.size ≡ size_at b)
  unfolding got_at size_at
  got_some {g} e = go (is_cue b) refl
    where
      go : (t : Bool) → is_cue b ≡ t → (is_cue b ≡ true) × (g.size ≡ length (cue_bytes (cue_at b)))
      go true y = let same : Some g ≡ Some (got_of (cue_at b)) = sym e ∙ rw y in let is : g ≡ got_of (cue_at b) = cc in (y, ap (λ (x : Got). x.size) is)
      go false y = let none : Some g ≡ None = sym e ∙ rw y in cc

  pub got_nothing : got_at b ≡ None → is_cue b ≡ false
  unfolding got_at
  got_nothing e = go (is_cue b) refl
    where
      go : (t : Bool) → is_cue b ≡ t → is_cue b ≡ false
      go true y = let some : None ≡ Some (got_of (cue_at b)) = sym e ∙ rw y in cc
      go false y = y

-- i steps of n were passed, up to `past`
pub record Walking (b : List ℕ) (at n past i : ℕ) : Type 0 where
  pub within : past ≤ length b
  pub rest : are_cues (n - i) (drop past b) ≡ are_cues n (drop at b)

pub walk_none : (b : List ℕ) (at n : ℕ) → at ≤ length b → Walking b at n at 0
walk_none b at n h = record { within = h; rest = rw sub-zero }

module _ {b : List ℕ} {at n past i : ℕ} (s : Walking b at n past i) (left : i < n) where
  one_step : (is_cue (drop past b) && are_cues (n - suc i) (drop (past + size_at (drop past b)) b)) ≡ are_cues n (drop at b)
  unfolding are_cues
  one_step = rw (← drop-drop (size_at (drop past b)) past b) (rw (left_step n i left) at s.rest)

  pub walk_more : {g : Got} → got_at (drop past b) ≡ Some g → Walking b at n (past + g.size) (i + 1)
  walk_more {g} e =
      let p = got_some (drop past b) e in
      record {
        within = omega (arith, s.within, p.1, cue_within (drop past b) p.0, length-drop past b);
        rest = rw (add-one i, p.1) (rw p.0 at one_step);
      }

  pub walk_stop : got_at (drop past b) ≡ None → false ≡ are_cues n (drop at b)
  walk_stop e = rw (got_nothing (drop past b) e) at one_step

end_test : (b : List ℕ) (past : ℕ) → past ≤ length b → eqb (length (drop past b)) 0 ≡ eqb past (length b)
end_test b past h =
    same_test (eqb (length (drop past b)) 0) (eqb past (length b))
    (λ p. eq-eqb past (length b) (omega (arith, eqb-true (length (drop past b)) 0 p, length-drop past b)))
    (λ p. eq-eqb (length (drop past b)) 0 (omega (arith, eqb-true past (length b) p, length-drop past b)))

-- behind the last
pub walk_all : {b : List ℕ} {at n past i : ℕ} → Walking b at n past i → n ≤ i → eqb past (length b) ≡ are_cues n (drop at b)
unfolding are_cues
walk_all {b} {n} {past} {i} s h =
    let over : n - i ≡ 0 = omega arith in
    sym (end_test b past s.within) ∙ (rw over at s.rest)
