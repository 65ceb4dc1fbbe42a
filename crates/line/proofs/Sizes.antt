-- How long a line and its parts are: a line has 4 to 256 bytes, so none is empty, and the scratch has room for all.
use Prim.Native.Nat.{ℕ, min, ◌+◌, ◌^◌, ◌<◌, ◌≤◌}
use mathlib.Core.Bool.{Bool, true, false, cond}
use mathlib.Core.List.{List, [], ◌∷◌, ◌++◌}
use mathlib.Core.Path.{◌≡◌, refl}
use native.Mathlib.Omega.{arith}
use lib.Dec.{eqb}
use lib.ListN.{length, take, length-append, length-take}
use Rattle.client.specs.declared.Outcome.{Outcome}
use Rattle.client.specs.declared.Page.{Page}
use Rattle.client.specs.declared.Work.{Work}
use Rattle.client.specs.declared.Work.TheVariants.{Append, Read, Fill, Trim, Prune, Reorganise}
use Rattle.layout.proofs.Take.{take_clip}
use Rattle.line.specs.Text.{line_end, space, colon, sent_word, decimal, word, hex_text}
use Rattle.line.specs.Line.{payload_of, who_text, page_text, is_append, sent_text, end_text, line_of}
use Rattle.line.proofs.Digits.{decimal_some, decimal_few}
use Rattle.line.proofs.Hex.{text_length}

pub word_size : (n : ℕ) → length (word n) ≡ 1 + length (decimal n)
unfolding word
word_size n = omega arith

pub who_size : (who number : ℕ) → length (who_text who number) ≡ 2 + (length (word who) + length (word number))
unfolding who_text
who_size who number = omega (arith, length-append ((space ∷ colon ∷ []) ++ word who) (word number), length-append (space ∷ colon ∷ []) (word who))

pub page_size : (p : Page) → length (page_text p) ≡ length (word p.kind) + (1 + length (hex_text (payload_of p)))
unfolding page_text
page_size p = omega (arith, length-append (word p.kind) (space ∷ hex_text (payload_of p)))

-- the first n bytes, no more than there are
pub payload_is : (p : Page) (n : ℕ) → length p.bytes ≡ 80 → n ≡ min p.len 80 → take n p.bytes ≡ payload_of p
payload_is p n h e = rw (e, ← h) (take_clip p.len (length p.bytes) p.bytes refl)

pub other_work : (w : Work) → (w ≡ Append → ⊥) → is_append w ≡ false
other_work Append h = absurd (h refl)
other_work (Read p) h = refl
other_work (Fill p) h = refl
other_work (Trim p) h = refl
other_work (Prune p) h = refl
other_work Reorganise h = refl

pub count_size : (n : ℕ) → length (sent_word ++ word n) ≡ 5 + length (word n)
count_size n = omega (arith, length-append sent_word (word n))

pub end_size : (who : ℕ) (o : Outcome) →
    length (end_text who o) ≡ length (who_text who o.number) + (length (word o.position.0) + (length (word o.epoch.0) + (length (page_text o.page) + length (sent_text o.work o.sent))))
unfolding end_text
end_size who o =
    let w = who_text who o.number in
    let p = word o.position.0 in
    let e = word o.epoch.0 in
    let g = page_text o.page in
    omega (
      arith,
      length-append (((w ++ p) ++ e) ++ g) (sent_text o.work o.sent),
      length-append ((w ++ p) ++ e) g,
      length-append (w ++ p) e,
      length-append w p,
    )

-- what stands of an end in a line
abbrev pub ended : ℕ → Outcome → List ℕ
ended who o = cond (eqb who 0) [] (end_text who o)

pub line_size : (number answer who : ℕ) (o : Outcome) → length (line_of number answer who o) ≡ length (decimal number) + (length (word answer) + (length (ended who o) + 1))
unfolding line_of
line_size number answer who o =
    omega (arith, length-append ((decimal number ++ word answer) ++ ended who o) (line_end ∷ []), length-append (decimal number ++ word answer) (ended who o), length-append (decimal number) (word answer))

-- ---- no line is shorter

pub line_some : (number answer who : ℕ) (o : Outcome) → 4 ≤ length (line_of number answer who o)
line_some number answer who o = omega (arith, line_size number answer who o, word_size answer, decimal_some number, decimal_some answer)

-- ---- and none is longer

-- the numbers fit their types, and the page its room of up to 80 bytes
pub record Bounded (o : Outcome) : Type 0 where
  pub number : o.number < 10 ^ 3
  pub position : o.position.0 < 10 ^ 20
  pub epoch : o.epoch.0 < 10 ^ 10
  pub kind : o.page.kind < 10 ^ 3
  pub sent : o.sent < 10 ^ 10
  pub bytes : length o.page.bytes ≤ 80

sent_few : (w : Work) (n : ℕ) → n < 10 ^ 10 → length (sent_text w n) ≤ 16
unfolding sent_text
sent_few w n h = go (is_append w)
  where
    go : (t : Bool) → length (cond t (sent_word ++ word n) []) ≤ 16
    go true = omega (arith, count_size n, word_size n, decimal_few 9 n h)
    go false = omega arith

module _ (who : ℕ) (o : Outcome) (w : who < 10 ^ 3) (b : Bounded o) where
  end_few : length (end_text who o) ≤ 227
  end_few =
      let shown : length (payload_of o.page) ≤ 80 = omega (arith, length-take o.page.len o.page.bytes, b.bytes) in
      omega (
        arith,
        end_size who o,
        who_size who o.number,
        page_size o.page,
        word_size who,
        word_size o.number,
        word_size o.position.0,
        word_size o.epoch.0,
        word_size o.page.kind,
        decimal_few 2 who w,
        decimal_few 2 o.number b.number,
        decimal_few 19 o.position.0 b.position,
        decimal_few 9 o.epoch.0 b.epoch,
        decimal_few 2 o.page.kind b.kind,
        text_length (payload_of o.page),
        shown,
        sent_few o.work o.sent b.sent,
      )

  ended_few : length (ended who o) ≤ 227
  ended_few = go (eqb who 0)
    where
      go : (t : Bool) → length (cond t [] (end_text who o)) ≤ 227
      go true = omega arith
      go false = end_few

  pub line_few : (number answer : ℕ) → number < 10 ^ 10 → answer < 10 ^ 3 → length (line_of number answer who o) ≤ 256
  line_few number answer n a =
      omega (arith, line_size number answer who o, word_size answer, decimal_few 9 number n, decimal_few 2 answer a, ended_few)
