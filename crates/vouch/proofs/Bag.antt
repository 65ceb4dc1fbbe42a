-- Requests of one client in the bag, as letters come and go.
-- Rests on specs/Sent and the rules.
use mathlib.Core.Path.{◌≡◌, refl, sym, ap, ◌∙◌}
use mathlib.Core.Bool.{Bool, true, false, ◌&&◌}
use mathlib.Core.List.{List, [], ◌∷◌, ◌++◌}
use Prim.Native.Nat.{ℕ, zero, suc, ◌+◌, ◌≤◌}
use native.Mathlib.Omega.{arith}
use borrow.Author.Tests.{eq-eqb, ne_eqb}
use lib.Dec.{eqb}
use lib.ListN.{get_or}
use Rattle.num.proofs.Tests.{false_true}
use Rattle.num.specs.declared.Request.{Request}
use Rattle.client.specs.declared.Query.{Query}
use Rattle.client.specs.declared.Response.{Response}
use Rattle.client.specs.declared.Stamp.{Stamp}
use Rattle.client.specs.Turn.{Act, Rests, Sends, Ends}
use Rattle.rule.specs.declared.Letter.{Letter}
use Rattle.rule.specs.World.{blank_letter}
use Rattle.rule.specs.Steps.{without, keeping, posted, answers}
use Rattle.vouch.specs.Sent.{is_request, one, requests_of}

pub requests_both : (c : ℕ) (xs ys : List Letter) → requests_of c (xs ++ ys) ≡ requests_of c xs + requests_of c ys
unfolding requests_of
requests_both c [] ys = omega arith
requests_both c (x ∷ xs) ys = omega (arith, requests_both c xs ys)

-- ---- one letter less

fewer : (c i : ℕ) (xs : List Letter) → requests_of c (without i xs) ≤ requests_of c xs
unfolding requests_of without
fewer c i [] = omega arith
fewer c zero (x ∷ xs) = omega arith
fewer c (suc i) (x ∷ xs) = omega (arith, fewer c i xs)

none : (b t : Bool) → b ≡ false → one (b && t) ≡ 0
none true t e = absurd (false_true (sym e))
none false t e = refl

same : (c i : ℕ) (xs : List Letter) → is_request (get_or xs i blank_letter).body ≡ false → requests_of c (without i xs) ≡ requests_of c xs
unfolding requests_of without
same c i [] e = refl
same c zero (x ∷ xs) e = omega (arith, none (is_request x.body) (eqb x.stamp.client c) e)
same c (suc i) (x ∷ xs) e = omega (arith, same c i xs e)

module _ (c : ℕ) (keep : Bool) (i : ℕ) (ls : List Letter) where
  pub kept_fewer : requests_of c (keeping keep i ls) ≤ requests_of c ls
  kept_fewer = go keep
    where
      go : (b : Bool) → requests_of c (keeping b i ls) ≤ requests_of c ls
      go true = omega arith
      go false = fewer c i ls

  -- the letter was no request
  pub kept_same : is_request (get_or ls i blank_letter).body ≡ false → requests_of c (keeping keep i ls) ≡ requests_of c ls
  kept_same e = go keep
    where
      go : (b : Bool) → requests_of c (keeping b i ls) ≡ requests_of c ls
      go true = refl
      go false = same c i ls e

-- ---- what comes

pub answers_none : (c : ℕ) (keep : Bool) (s : Stamp) (r : Response) → requests_of c (answers keep s r) ≡ 0
unfolding requests_of
answers_none c true s r = refl
answers_none c false s r = refl

pub own_sent : (c life : ℕ) (n : Request) (q : Query) → requests_of c (posted c life (Sends n) q) ≡ 1
unfolding requests_of
own_sent c life n q = ap (λ b. one b + 0) (eq-eqb c c refl)

pub none_sent : (c : ℕ) → requests_of c [] ≡ 0
unfolding requests_of
none_sent c = refl

pub other_sent : (c i life : ℕ) (a : Act) (q : Query) → ¬ (c ≡ i) → requests_of c (posted i life a q) ≡ 0
unfolding requests_of
other_sent c i life Rests q ne = refl
other_sent c i life (Sends n) q ne = ap (λ b. one b + 0) (ne_eqb i c (λ e. ne (sym e)))
other_sent c i life Ends q ne = refl
