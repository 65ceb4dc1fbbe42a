-- What a machine that serves leaves as it was, whatever it is asked.
use mathlib.Core.Path.{◌≡◌, refl, ap}
use mathlib.Core.List.{List, [], ◌∷◌}
use Prim.Native.Nat.{ℕ, zero, suc, ◌-◌}
use lib.ListN.{get_or, set}
use Rattle.layout.specs.declared.Layout.{Layout}
use Rattle.unit.specs.Unit.{fresh_unit}
use Rattle.client.specs.declared.Page.{Page}
use Rattle.client.specs.declared.Ask.{Ask}
use Rattle.client.specs.declared.Ask.TheVariants.{Fetch, Token, Unit, Offer, Start}
use Rattle.rule.specs.declared.Letter.{Letter}
use Rattle.rule.specs.World.{World, unit_at}
use Rattle.rule.specs.Serve.{asking, offering_to, serve}
use Rattle.rule.specs.Steps.{with_letters}

pub serve_clients : (w : World) (a : Ask) (g : Page) (l : Layout) → (serve w a g l).world.clients ≡ w.clients
unfolding serve asking offering_to
serve_clients w Fetch g l = refl
serve_clients w (Token e) g l = refl
serve_clients w (Unit u a) g l = refl
serve_clients w Offer g l = refl
serve_clients w (Start e p) g l = refl

pub serve_stopped : (w : World) (a : Ask) (g : Page) (l : Layout) → (serve w a g l).world.stopped ≡ w.stopped
unfolding serve asking offering_to
serve_stopped w Fetch g l = refl
serve_stopped w (Token e) g l = refl
serve_stopped w (Unit u a) g l = refl
serve_stopped w Offer g l = refl
serve_stopped w (Start e p) g l = refl

-- the letters play no part
pub serve_letters : (w : World) (ls : List Letter) (a : Ask) (g : Page) (l : Layout)
    → serve (with_letters w ls) a g l ≡ record { response = (serve w a g l).response; world = with_letters (serve w a g l).world ls }
unfolding serve asking offering_to
serve_letters w ls Fetch g l = refl
serve_letters w ls (Token e) g l = refl
serve_letters w ls (Unit u a) g l = refl
serve_letters w ls Offer g l = refl
serve_letters w ls (Start e p) g l = refl

set_same : {A : Type 0} (xs : List A) (i : ℕ) (d : A) → set xs i (get_or xs i d) ≡ xs
set_same [] i d = refl
set_same (x ∷ xs) zero d = refl
set_same {A} (x ∷ xs) (suc i) d = ap (λ (l : List A). x ∷ l) (set_same xs i d)

-- a unit that is put back as it was
pub unit_same : (w : World) (u : ℕ) → set w.units (u - 1) (unit_at w u) ≡ w.units
unit_same w u = set_same w.units (u - 1) (fresh_unit u)
