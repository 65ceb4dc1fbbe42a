-- Laws of the kinds: how the questions that are asked of a kind hang together. The other laws cite these, and see through no question.
use Rattle.std.proofs.Common.{◌≡◌, ℕ, ◌≤◌, Option, None, Some, is_some, ok_or, Bool, true, false, cond, not, ◌||◌, eqb, leb, sym, refl, ◌∙◌, subst, arith, eqb-true, leb-true}
use borrow.Author.Tests.{eqb-false}
use Rattle.num.specs.declared.refusal.Refusal.TheVariants.{Unwritten}
use Rattle.num.specs.Refusals.{answered}
use Rattle.num.proofs.Tests.{and_both, or_false, false_true}
use Rattle.unit.specs.Kinds.{no_kind, data_kind, junk_kind, retired_kind, stray_kind, is_kind, is_page, has_bytes, is_gone, was_written, kind_code, held_code}
use Rattle.unit.specs.declared.kind.Kind.{Kind}
use Rattle.unit.specs.declared.kind.Kind.TheVariants.{Data, Junk, Retired, Stray}

-- the least kind is data's
pub kind_least : (k : ℕ) → is_kind k ≡ true → 1 ≤ k
unfolding is_kind
kind_least k h = leb-true data_kind k (and_both (leb data_kind k) (leb k stray_kind) h).0

-- where no slot is, none of the questions is answered with yes
pub kind_some : (k : ℕ) → is_kind k ≡ true → k ≡ no_kind → ⊥
unfolding is_kind
kind_some k h z = false_true (rw z at h)

pub page_some : (k : ℕ) → is_page k ≡ true → k ≡ no_kind → ⊥
unfolding is_page
page_some k h z = false_true (rw z at h)

pub none_stays : is_gone no_kind ≡ false
unfolding is_gone
none_stays = refl

-- data is a page, and has bytes
pub data_page_lem : is_page data_kind ≡ true
unfolding is_page
data_page_lem = refl

pub data_bytes : has_bytes data_kind ≡ true
unfolding has_bytes
data_bytes = refl

-- a page's kind is one that a slot may have, and is not gone
pub page_kind : (k : ℕ) → is_page k ≡ true → is_kind k ≡ true
unfolding is_page is_kind
page_kind k h = go (eqb k data_kind) refl (eqb k junk_kind) refl
  where
    go : (a : Bool) → eqb k data_kind ≡ a → (b : Bool) → eqb k junk_kind ≡ b → is_kind k ≡ true
    go true e b f = rw (eqb-true k data_kind e)
    go false e true f = rw (eqb-true k junk_kind f)
    go false e false f = absurd (false_true (rw (e, f) at h))

pub page_stays : (k : ℕ) → is_page k ≡ true → is_gone k ≡ false
unfolding is_page is_gone
page_stays k h = go (eqb k data_kind) refl (eqb k junk_kind) refl
  where
    go : (a : Bool) → eqb k data_kind ≡ a → (b : Bool) → eqb k junk_kind ≡ b → is_gone k ≡ false
    go true e b f = rw (eqb-true k data_kind e)
    go false e true f = rw (eqb-true k junk_kind f)
    go false e false f = absurd (false_true (rw (e, f) at h))

-- and what a slot has is a page or gone
pub stays_page : (k : ℕ) → is_kind k ≡ true → is_gone k ≡ false → is_page k ≡ true
unfolding is_kind is_page is_gone
stays_page k h g =
    let (l, m) = and_both (leb data_kind k) (leb k stray_kind) h in
    go (eqb k data_kind) refl (eqb k junk_kind) refl (leb-true data_kind k l) (leb-true k stray_kind m)
  where
    go : (a : Bool) → eqb k data_kind ≡ a → (b : Bool) → eqb k junk_kind ≡ b → data_kind ≤ k → k ≤ stray_kind → is_page k ≡ true
    go true e b f l m = rw e
    go false e true f l m = rw (e, f)
    go false e false f l m =
        let d = eqb-false k data_kind e in
        let j = eqb-false k junk_kind f in
        let (r, t) = or_false (eqb k retired_kind) (eqb k stray_kind) g in
        let a = eqb-false k retired_kind r in
        let b = eqb-false k stray_kind t in
        absurd (omega arith)

-- what a trim leaves is a kind of a slot, and gone
pub retired_kind_lem : is_kind retired_kind ≡ true
unfolding is_kind
retired_kind_lem = refl

pub retired_gone : is_gone retired_kind ≡ true
unfolding is_gone
retired_gone = refl

pub stray_kind_lem : is_kind stray_kind ≡ true
unfolding is_kind
stray_kind_lem = refl

pub stray_gone : is_gone stray_kind ≡ true
unfolding is_gone
stray_gone = refl

-- a page was written, and so was what a trim makes of it; what it makes of nothing was not
pub page_written : (k : ℕ) → is_page k ≡ true → was_written k ≡ true
unfolding was_written
page_written k h = rw h

pub retired_written : was_written retired_kind ≡ true
unfolding was_written
retired_written = or_true (is_page retired_kind)
  where
    or_true : (b : Bool) → (b || true) ≡ true
    or_true true = refl
    or_true false = refl

pub stray_unwritten : was_written stray_kind ≡ false
unfolding was_written is_page
stray_unwritten = refl

-- a page is data or junk, and junk has no bytes
pub page_cases : (P : ℕ → Type 0) → P data_kind → P junk_kind → (k : ℕ) → is_page k ≡ true → P k
unfolding is_page
page_cases P first second k h = go (eqb k data_kind) refl (eqb k junk_kind) refl
  where
    go : (a : Bool) → eqb k data_kind ≡ a → (b : Bool) → eqb k junk_kind ≡ b → P k
    go true e b f = subst P (sym (eqb-true k data_kind e)) first
    go false e true f = subst P (sym (eqb-true k junk_kind f)) second
    go false e false f = absurd (false_true (rw (e, f) at h))

pub junk_plain : has_bytes junk_kind ≡ false
unfolding has_bytes
junk_plain = refl

-- ---- a byte that may be no kind's

byte_asked : (q : ℕ → Bool) → q no_kind ≡ false → ((k : ℕ) → q k ≡ true → is_kind k ≡ true) → (b : ℕ) → q (cond (is_kind b) b no_kind) ≡ q b
byte_asked q z f b = go (is_kind b) refl (q b) refl
  where
    go : (t : Bool) → is_kind b ≡ t → (s : Bool) → q b ≡ s → q (cond (is_kind b) b no_kind) ≡ q b
    go true e s r = rw e
    go false e true r = absurd (false_true (sym e ∙ f b r))
    go false e false r = rw (e, z, r)

pub byte_page : (b : ℕ) → is_page (cond (is_kind b) b no_kind) ≡ is_page b
unfolding is_page
byte_page = byte_asked is_page refl page_kind

bytes_kind : (k : ℕ) → has_bytes k ≡ true → is_kind k ≡ true
unfolding has_bytes is_kind
bytes_kind k h = rw (eqb-true k data_kind h)

pub byte_bytes : (b : ℕ) → has_bytes (cond (is_kind b) b no_kind) ≡ has_bytes b
unfolding has_bytes
byte_bytes = byte_asked has_bytes refl bytes_kind

written_kind : (k : ℕ) → was_written k ≡ true → is_kind k ≡ true
unfolding was_written
written_kind k h = go (is_page k) refl
  where
    go : (b : Bool) → is_page k ≡ b → is_kind k ≡ true
    go true e = page_kind k e
    go false e = rw (eqb-true k retired_kind (rw e at h)) retired_kind_lem

pub byte_written : (b : ℕ) → was_written (cond (is_kind b) b no_kind) ≡ was_written b
unfolding was_written is_page
byte_written = byte_asked was_written refl written_kind

-- ---- what stands at a position, or nothing

pub none_held : (o : Option Kind) (r : Bool) → is_some o ≡ not r → r ≡ eqb (held_code o) no_kind
none_held None true e = refl
none_held None false e = absurd (false_true e)
none_held (Some k) true e = absurd (false_true (sym e))
none_held (Some Data) false e = refl
none_held (Some Junk) false e = refl
none_held (Some Retired) false e = refl
none_held (Some Stray) false e = refl

pub some_held : (o : Option Kind) → is_some o ≡ not (eqb (held_code o) no_kind)
some_held None = refl
some_held (Some Data) = refl
some_held (Some Junk) = refl
some_held (Some Retired) = refl
some_held (Some Stray) = refl

pub unwritten_held : (o : Option Kind) → answered (ok_or o Unwritten) ≡ cond (eqb (held_code o) no_kind) 7 0
unwritten_held None = refl
unwritten_held (Some Data) = refl
unwritten_held (Some Junk) = refl
unwritten_held (Some Retired) = refl
unwritten_held (Some Stray) = refl

pub some_code : (k : Kind) → kind_code k ≡ no_kind → ⊥
some_code Data e = omega arith
some_code Junk e = omega arith
some_code Retired e = omega arith
some_code Stray e = omega arith
