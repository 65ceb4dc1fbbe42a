-- Laws of `LayoutRead`: what a read makes of bytes.
use mathlib.Core.Bool.{Bool, true, false, ◌&&◌}
use mathlib.Core.List.{List}
use mathlib.Core.Path.{◌≡◌, refl, sym, ◌∙◌}
use Prim.Native.Nat.{ℕ}
use Rattle.layout.specs.declared.Layout.{Layout}
use Rattle.layout.specs.Lay.{good}
use Rattle.layout.specs.Value.{good_value, lay_of, value_of, blank}
use Rattle.layout.specs.Codec.{bytes_of, encode, decode, same, is_layout, read_layout, LayoutRead}
use Rattle.layout.proofs.ValueOf.{good_value_lem, lay_of_value}

read_test : (b : List ℕ) → (good_value (value_of (decode b)) && same (bytes_of (value_of (decode b))) b) ≡ is_layout b
unfolding is_layout bytes_of
read_test b = rw (good_value_lem (decode b)) (go (good (decode b)) refl)
  where
    go : (t : Bool) → good (decode b) ≡ t → (t && same (encode (lay_of (value_of (decode b)))) b) ≡ (t && same (encode (decode b)) b)
    go true e = rw (lay_of_value (decode b) e)
    go false e = refl

module _ (b : List ℕ) (l : Layout) (el : l ≡ value_of (decode b)) where
  pub read : good_value l ≡ true → same (bytes_of l) b ≡ true → LayoutRead b 0 l
  unfolding read_layout
  read g o = let w : is_layout b ≡ true = sym (read_test b) ∙ rw (← el, g) o in record { answer_is = rw w; layout_is = rw (w, el) }

  pub not_good : good_value l ≡ false → LayoutRead b 10 blank
  unfolding read_layout
  not_good g = let w : is_layout b ≡ false = sym (read_test b) ∙ rw (← el, g) refl in record { answer_is = rw w; layout_is = rw w }

  pub not_own : good_value l ≡ true → same (bytes_of l) b ≡ false → LayoutRead b 10 blank
  unfolding read_layout
  not_own g o = let w : is_layout b ≡ false = sym (read_test b) ∙ rw (← el, g) o in record { answer_is = rw w; layout_is = rw w }
