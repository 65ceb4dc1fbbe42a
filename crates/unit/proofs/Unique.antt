-- For each public function: no second answer and no second memory meets its promise.
use Rattle.std.proofs.Common.{◌≡◌, ℕ, Bool, cond, eqb, List, Option, Some, Result, Ok, Err, refl, sym, ap, ◌∙◌}
use Rattle.num.specs.declared.Edges.{Edges}
use Rattle.num.specs.declared.Epoch.{Epoch}
use Rattle.num.specs.declared.Position.{Position}
use Rattle.num.specs.declared.refusal.Refusal.{Refusal}
use Rattle.num.specs.Edges.{no_edges}
use Rattle.num.specs.Refusals.{answered, given}
use Rattle.num.proofs.Refusals.{number_above, number_once as refusal_once, result_once}
use Rattle.unit.specs.declared.kind.Kind.{Kind}
use Rattle.unit.specs.declared.kind.Kind.TheVariants.{Data, Junk, Retired, Stray}
use Rattle.unit.specs.declared.read.Seen.{Seen}
use Rattle.unit.specs.Kinds.{data_kind, junk_kind, retired_kind, kind_code}
use Rattle.unit.specs.Shape.{shape_of}
use Rattle.unit.specs.Memory.{good}
use Rattle.unit.specs.Unit.{Request}
use Rattle.num.proofs.Unique.{once}
use Rattle.unit.specs.Promises.{IsFresh, IsAnswered, IsRead, IsSealed, IsMeasured, IsPart, Reads}

module _ {m : List ℕ} {a b : ℕ} {m₁ m₂ : List ℕ} where
  pub fresh_once : {n s : ℕ} → IsFresh m n s a m₁ → IsFresh m n s b m₂ → (a ≡ b) × (m₁ ≡ m₂)
  fresh_once x y = (once x.answer_is y.answer_is, once x.memory_is y.memory_is)

  -- write, trim, prune
  pub answer_once : {r : Request} → IsAnswered m r a m₁ → IsAnswered m r b m₂ → (a ≡ b) × (m₁ ≡ m₂)
  answer_once x y = (once x.answer_is y.answer_is, once x.memory_is y.memory_is)

  pub seal_once : {e : Epoch} {c d : Edges} → IsSealed m e a c m₁ → IsSealed m e b d m₂ → (a ≡ b) × ((c ≡ d) × (m₁ ≡ m₂))
  seal_once x y =
      let (n, left) = answer_once x.answered y.answered in
      (n, (once x.edges_is y.edges_is, left))

pub measure_once : {m : List ℕ} {a b : ℕ} {c d : Edges} → IsMeasured m a c → IsMeasured m b d → (a ≡ b) × (c ≡ d)
measure_once x y = (once x.answered.answer_is y.answered.answer_is, once x.edges_is y.edges_is)

pub read_once : {m : List ℕ} {e : Epoch} {p : Position} {a k s n b l t o : ℕ} → IsRead m e p a k s n → IsRead m e p b l t o → (a ≡ b) × ((k ≡ l) × ((s ≡ t) × (n ≡ o)))
read_once x y = (once x.answered.answer_is y.answered.answer_is, (once x.kind_is y.kind_is, (once x.start_is y.start_is, once x.length_is y.length_is)))

pub payload_once : {m : List ℕ} {e : Epoch} {p : Position} {xs ys : List ℕ} → IsPart m e p xs → IsPart m e p ys → xs ≡ ys
payload_once x y = once x.payload_is y.payload_is

pub good_once : (m : List ℕ) {a b : Bool} → a ≡ good (shape_of m) m → b ≡ good (shape_of m) m → a ≡ b
good_once m x y = once x y

-- ---- the results themselves

kind_at_code : ℕ → Option Kind
kind_at_code n = cond (eqb n data_kind) (Some Data) (cond (eqb n junk_kind) (Some Junk) (cond (eqb n retired_kind) (Some Retired) (Some Stray)))

kind_back : (k : Kind) → kind_at_code (kind_code k) ≡ Some k
unfolding kind_at_code
kind_back Data = refl
kind_back Junk = refl
kind_back Retired = refl
kind_back Stray = refl

some_once : {k l : Kind} → Some k ≡ Some l → k ≡ l
some_once e = cc

pub kind_once : (k l : Kind) → kind_code k ≡ kind_code l → k ≡ l
kind_once k l e = some_once (sym (kind_back k) ∙ ap kind_at_code e ∙ kind_back l)

-- Unit::fresh; write, trim, prune; seal; measure; read
module _ {m m₁ m₂ : List ℕ} (p q : Result (Unit {0}) Refusal) where
  pub fresh_result_once : {n s : ℕ} → IsFresh m n s (answered p) m₁ → IsFresh m n s (answered q) m₂ → (p ≡ q) × (m₁ ≡ m₂)
  fresh_result_once x y = let (n, left) = fresh_once x y in (result_once tt p q n refl, left)

  pub result_asked_once : {r : Request} → IsAnswered m r (answered p) m₁ → IsAnswered m r (answered q) m₂ → (p ≡ q) × (m₁ ≡ m₂)
  result_asked_once x y = let (n, left) = answer_once x y in (result_once tt p q n refl, left)

module _ {m : List ℕ} (p q : Result Edges Refusal) where
  pub seal_result_once : {m₁ m₂ : List ℕ} {e : Epoch} → IsSealed m e (answered p) (given no_edges p) m₁ → IsSealed m e (answered q) (given no_edges q) m₂ → (p ≡ q) × (m₁ ≡ m₂)
  seal_result_once x y = let (n, (c, left)) = seal_once x y in (result_once no_edges p q n c, left)

  pub measure_result_once : IsMeasured m (answered p) (given no_edges p) → IsMeasured m (answered q) (given no_edges q) → p ≡ q
  measure_result_once x y = let (n, c) = measure_once x y in result_once no_edges p q n c

seen_once : (k l : Kind) (a b n o : ℕ) → k ≡ l → a ≡ b → n ≡ o → ◌≡◌ {A = Seen} (record { kind = k; start = a; length = n }) (record { kind = l; start = b; length = o })
seen_once k l a b n o e f g = rw (e, f, g)

pub read_result_once : (m : List ℕ) (e : Epoch) (p : Position) (x y : Result Seen Refusal) → Reads m e p x → Reads m e p y → x ≡ y
read_result_once m e p (Ok s) (Ok t) a b =
    let (_, (k, (at, n))) = read_once a b in
    ap Ok (seen_once _ _ _ _ _ _ (kind_once s.kind t.kind k) at n)
read_result_once m e p (Ok s) (Err f) a b = absurd (number_above f (sym (read_once a b).0))
read_result_once m e p (Err r) (Ok t) a b = absurd (number_above r (read_once a b).0)
read_result_once m e p (Err r) (Err f) a b = ap Err (refusal_once r f (read_once a b).0)
