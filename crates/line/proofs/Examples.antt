-- Three lines, letter by letter.
use mathlib.Core.List.{[], ◌∷◌}
use mathlib.Core.Path.{◌≡◌, refl}
use lib.ListN.{replicate}
use Rattle.client.specs.declared.Outcome.{Outcome}
use Rattle.client.specs.declared.Work.TheVariants.{Append, Read}
use Rattle.client.specs.Message.{no_page}
use Rattle.line.specs.Text.{digits, decimal, hex_digit, hex_byte, hex_bytes, hex_text, word}
use Rattle.line.specs.Line.{who_text, page_text, sent_text, end_text, line_of}

-- a read of position 41 that was shown three bytes, in epoch 305
abbrev pub three_bytes : Outcome
three_bytes = record { number = 0; position = record { 0 = 41 }; epoch = record { 0 = 305 }; page = record { kind = 1; len = 3; bytes = 10 ∷ 176 ∷ 255 ∷ replicate 77 0 }; work = Read (record { 0 = 41 }); sent = 2 }

-- "12 18": the twelfth step was answered 18, and nothing ended
pub short_line : (o : Outcome) → line_of 12 18 0 o ≡ 49 ∷ 50 ∷ 32 ∷ 49 ∷ 56 ∷ 10 ∷ []
unfolding line_of word decimal digits
short_line o = refl

-- "7 0 : 2 0 41 305 1 0ab0ff"
pub long_line : line_of 7 0 2 three_bytes
    ≡ 55 ∷ 32 ∷ 48 ∷ 32 ∷ 58 ∷ 32 ∷ 50 ∷ 32 ∷ 48 ∷ 32 ∷ 52 ∷ 49 ∷ 32 ∷ 51 ∷ 48 ∷ 53 ∷ 32 ∷ 49 ∷ 32 ∷ 48 ∷ 97 ∷ 98 ∷ 48 ∷ 102 ∷ 102 ∷ 10 ∷ []
unfolding line_of end_text who_text page_text sent_text word decimal digits hex_text hex_bytes hex_byte hex_digit
long_line = refl

-- an append that eight heads failed, with "written" at position 7
abbrev pub eight_heads : Outcome
eight_heads = record { number = 6; position = record { 0 = 7 }; epoch = record { 0 = 1 }; page = no_page; work = Append; sent = 17 }

-- "9 0 : 1 6 7 1 0 - sent 17"
pub sent_line : line_of 9 0 1 eight_heads
    ≡ 57 ∷ 32 ∷ 48 ∷ 32 ∷ 58 ∷ 32 ∷ 49 ∷ 32 ∷ 54 ∷ 32 ∷ 55 ∷ 32 ∷ 49 ∷ 32 ∷ 48 ∷ 32 ∷ 45 ∷ 32 ∷ 115 ∷ 101 ∷ 110 ∷ 116 ∷ 32 ∷ 49 ∷ 55 ∷ 10 ∷ []
unfolding line_of end_text who_text page_text sent_text word decimal digits hex_text
sent_line = refl
