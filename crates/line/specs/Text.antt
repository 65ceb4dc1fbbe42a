-- Numbers and bytes as text: each letter by its ASCII code.
use Rattle.std.specs.Prelude.{ℕ, zero, suc, ◌+◌, ◌/◌, ◌%◌, cond, List, [], ◌∷◌, ◌++◌, ltb}

abbrev pub line_end : ℕ
line_end = 10

abbrev pub space : ℕ
space = 32

abbrev pub dash : ℕ
dash = 45

abbrev pub colon : ℕ
colon = 58

-- " sent"
abbrev pub sent_word : List ℕ
sent_word = 32 ∷ 115 ∷ 101 ∷ 110 ∷ 116 ∷ []

-- 0 to 9
abbrev pub digit : ℕ → ℕ
digit d = 48 + d

-- the decimal digits of a number that has at most k of them, highest first
unfoldable pub digits : ℕ → ℕ → List ℕ
digits zero n = []
digits (suc k) n = cond (ltb n 10) (digit n ∷ []) (digits k (n / 10) ++ (digit (n % 10) ∷ []))

-- a number of up to 20 digits, as every u64 is
unfoldable pub decimal : ℕ → List ℕ
decimal n = digits 20 n

-- 0 to 9, then a to f
unfoldable pub hex_digit : ℕ → ℕ
hex_digit d = cond (ltb d 10) (digit d) (87 + d)

-- the high half first
unfoldable pub hex_byte : ℕ → List ℕ
hex_byte b = hex_digit (b / 16) ∷ hex_digit (b % 16) ∷ []

unfoldable pub hex_bytes : List ℕ → List ℕ
hex_bytes [] = []
hex_bytes (b ∷ bs) = hex_byte b ++ hex_bytes bs

-- no bytes are shown as a dash
unfoldable pub hex_text : List ℕ → List ℕ
hex_text [] = dash ∷ []
hex_text (b ∷ bs) = hex_bytes (b ∷ bs)

-- a number behind a space
unfoldable pub word : ℕ → List ℕ
word n = space ∷ decimal n
