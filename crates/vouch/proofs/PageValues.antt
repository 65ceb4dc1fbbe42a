-- Two pages of a yard that are one page to the history are one page: kind, length and every byte. And what a unit shows as a page is one.
-- Rests on specs/Pages, Carried and the unit's laws.
use mathlib.Core.Path.{◌≡◌, refl, sym, ap, subst, ◌∙◌}
use mathlib.Core.Bool.{true, false, ◌||◌}
use mathlib.Core.List.{List, [], ◌∷◌}
use Prim.Native.Nat.{ℕ, zero, suc, ◌≤◌}
use native.Mathlib.Omega.{arith}
use native.Mathlib.Nat.{le_trans}
use borrow.Author.Tests.{le-leb, eqb-true}
use Rattle.num.proofs.Tests.{false_true}
use lib.Dec.{eqb}
use lib.ListN.{length, take}
use Rattle.num.specs.declared.Epoch.{Epoch}
use Rattle.num.specs.declared.Position.{Position}
use Rattle.layout.specs.Value.{padded}
use Rattle.unit.specs.declared.shape.Shape.{Shape}
use Rattle.unit.specs.Kinds.{no_kind, data_kind, junk_kind, is_page, has_bytes, is_gone}
use Rattle.unit.specs.State.{Content, State}
use Rattle.unit.specs.Memory.{valid}
use Rattle.unit.specs.Unit.{says, report}
use Rattle.unit.specs.Unit.Request.{read}
use Rattle.unit.proofs.Marks.{ReadTells, read_tells, read_shown}
use Rattle.unit.proofs.Marks.ReadTells.{read_position, read_sealed, read_trimmed, read_unwritten, read_page}
use Rattle.unit.proofs.Questions.{page_cases, junk_plain}
use Rattle.unit.proofs.Shown.{shown, Shows, shows}
use Rattle.unit.proofs.Shown.Shows.{shows_none, shows_page, shows_gone}
use Rattle.client.specs.declared.Page.{Page}
use Rattle.client.specs.Message.{page_limit, is_showable}
use Rattle.rule.specs.Serve.{kind_of, bytes_of}
use Rattle.rule.specs.Serve.{page_of as slot_page}
use Rattle.history.specs.Words.Page.{junk, bytes}
use Rattle.vouch.specs.Pages.{data_page, junk_page, IsPage}
use Rattle.vouch.specs.Pages.IsPage.{is_data, is_junk}
use Rattle.vouch.proofs.Carried.{carried}

-- ---- blank past the length

zeros_past : (n m : ℕ) → padded {A = ℕ} m 0 (take n (padded m 0 [])) ≡ padded m 0 []
unfolding padded
zeros_past zero m = refl
zeros_past (suc n) zero = refl
zeros_past (suc n) (suc m) = ap (λ xs. 0 ∷ xs) (zeros_past n m)

blank_past : (n m : ℕ) (bs : List ℕ) → padded m 0 (take n (padded m 0 (take n bs))) ≡ padded m 0 (take n bs)
unfolding padded
blank_past zero m bs = refl
blank_past (suc n) zero bs = refl
blank_past (suc n) (suc m) [] = ap (λ xs. 0 ∷ xs) (zeros_past n m)
blank_past (suc n) (suc m) (b ∷ bs) = ap (λ xs. b ∷ xs) (blank_past n m bs)

long : (n m : ℕ) (bs : List ℕ) → n ≤ m → length (take n (padded m 0 bs)) ≡ n
unfolding padded
long zero m bs le = refl
long (suc n) zero bs le = absurd (omega arith)
long (suc n) (suc m) [] le = ap suc (long n m [] (omega arith))
long (suc n) (suc m) (b ∷ bs) le = ap suc (long n m bs (omega arith))

take_all : (bs : List ℕ) → take (length bs) bs ≡ bs
take_all [] = refl
take_all (b ∷ bs) = ap (λ xs. b ∷ xs) (take_all bs)

-- ---- one page

data_carried : (n : ℕ) (bs : List ℕ) → n ≤ page_limit → carried (data_page n bs) ≡ bytes (take n (padded page_limit 0 (take n bs)))
unfolding kind_of bytes_of
data_carried n bs le = rw (le-leb n page_limit le)

pub junk_carried : carried junk_page ≡ junk
unfolding kind_of
junk_carried = refl

bytes_same : {xs ys : List ℕ} → bytes xs ≡ bytes ys → xs ≡ ys
bytes_same e = cc (e)

data_same : (n k : ℕ) (xs ys : List ℕ) → n ≤ page_limit → k ≤ page_limit → take n (padded page_limit 0 (take n xs)) ≡ take k (padded page_limit 0 (take k ys)) → data_page n xs ≡ data_page k ys
data_same n k xs ys a b e =
    let same : n ≡ k = sym (long n page_limit (take n xs) a) ∙ (ap length e ∙ long k page_limit (take k ys) b) in
    let content : padded page_limit 0 (take n xs) ≡ padded page_limit 0 (take k ys)
    = sym (blank_past n page_limit xs) ∙ (ap (λ zs. padded page_limit 0 zs) e ∙ blank_past k page_limit ys) in
    λ i. record { kind = 1; len = same i; bytes = content i }

pub page_same : {cap : ℕ} {X Y : Page} → cap ≤ page_limit → IsPage cap X → IsPage cap Y → carried X ≡ carried Y → X ≡ Y
page_same fits (is_data n xs a) (is_data k ys b) e =
    data_same n k xs ys (le_trans a fits) (le_trans b fits) (bytes_same (sym (data_carried n xs (le_trans a fits)) ∙ (e ∙ data_carried k ys (le_trans b fits))))
page_same fits (is_data n xs a) is_junk e = absurd (let both = sym (data_carried n xs (le_trans a fits)) ∙ (e ∙ junk_carried) in let z : ◌≡◌ {A = ℕ} 0 1 = cc in omega arith)
page_same fits is_junk (is_data k ys b) e = absurd (let both = sym (data_carried k ys (le_trans b fits)) ∙ (sym e ∙ junk_carried) in let z : ◌≡◌ {A = ℕ} 0 1 = cc in omega arith)
page_same fits is_junk is_junk e = refl

-- ---- what a unit shows

content_page : (cap : ℕ) (s : Content) → is_page s.kind ≡ true → length s.payload ≤ cap → (has_bytes s.kind || eqb (length s.payload) 0) ≡ true → IsPage cap (slot_page s)
unfolding slot_page padded
content_page cap s a_page fits plain = page_cases (λ (k : ℕ). s.kind ≡ k → IsPage cap (slot_page s)) is_one is_two s.kind a_page refl
  where
    is_one : s.kind ≡ data_kind → IsPage cap (slot_page s)
    is_one one =
        subst (λ (g : Page). IsPage cap g) (λ i. record { kind = sym one i; len = length s.payload; bytes = padded page_limit 0 (take_all s.payload i) }) (is_data (length s.payload) s.payload fits)

    empty : (xs : List ℕ) → length xs ≡ 0 → xs ≡ []
    empty [] z = refl
    empty (x ∷ xs) z = absurd (omega (arith, z))

    is_two : s.kind ≡ junk_kind → IsPage cap (slot_page s)
    is_two two =
        let none : length s.payload ≡ 0 = eqb-true (length s.payload) 0 (rw (two, junk_plain) at plain) in
        subst (λ (g : Page). IsPage cap g) (λ i. record { kind = sym two i; len = sym none i; bytes = padded page_limit 0 (sym (empty s.payload none) i) }) is_junk

pub shown_page : (sh : Shape) (M : State) (p : ℕ) → valid sh M ≡ true → ¬ ((shown M p).kind ≡ no_kind) → is_gone (shown M p).kind ≡ false → IsPage sh.cap (slot_page (shown M p))
shown_page sh M p v = go (shows sh M p v)
  where
    go : {g : Content} → Shows sh g → ¬ (g.kind ≡ no_kind) → is_gone g.kind ≡ false → IsPage sh.cap (slot_page g)
    go shows_none some stays = absurd (some refl)
    go (shows_page {g = g} a_page fits plain) some stays = content_page sh.cap g a_page fits plain
    go (shows_gone gone) some stays = absurd (false_true (sym stays ∙ gone))

-- ---- a client takes it

pub showable : {cap : ℕ} {g : Page} → cap ≤ page_limit → IsPage cap g → is_showable g ≡ true
unfolding is_showable
showable fits (is_data n xs a) = le-leb n page_limit (le_trans a fits)
showable fits is_junk = refl

-- sh: the shape by which the unit is asked; in-shape: the one in which it is valid
pub read_showable : (sh in_shape : Shape) (M : State) (e : Epoch) (p : Position) → valid in_shape M ≡ true → in_shape.cap ≤ page_limit → says sh M (read e p) ≡ 0 →
    is_showable (slot_page (report sh M (read e p)).page) ≡ true
read_showable sh in_shape M e p v fits z = subst (λ (s : Content). is_showable (slot_page s) ≡ true) (sym (read_shown sh M e p z)) (go (read_tells sh M e p) z)
  where
    go : {n : ℕ} → ReadTells M e p n → n ≡ 0 → is_showable (slot_page (shown M p.0)) ≡ true
    go (read_position a) z = absurd (omega (arith, z))
    go (read_sealed a) z = absurd (omega (arith, z))
    go (read_trimmed a b) z = absurd (omega (arith, z))
    go (read_unwritten a b) z = absurd (omega (arith, z))
    go (read_page a b c) z = showable fits (shown_page in_shape M p.0 v b c)
