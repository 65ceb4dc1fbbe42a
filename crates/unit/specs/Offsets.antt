-- Where each field of a unit's memory stands and how many bytes it has, by name: the header's fields, and a slot's from its start on.
use Rattle.std.specs.Prelude.{ℕ}

-- ---- the header: unit number (1), shape (1), two zero bytes, sealed epoch (4), floor (8), slot count (2), six zero bytes

abbrev pub number_offset : ℕ
number_offset = 0

abbrev pub shape_offset : ℕ
shape_offset = 1

abbrev pub blank_offset : ℕ
blank_offset = 2

abbrev pub blank_width : ℕ
blank_width = 2

abbrev pub sealed_offset : ℕ
sealed_offset = 4

abbrev pub sealed_width : ℕ
sealed_width = 4

abbrev pub floor_offset : ℕ
floor_offset = 8

abbrev pub floor_width : ℕ
floor_width = 8

abbrev pub count_offset : ℕ
count_offset = 16

abbrev pub count_width : ℕ
count_width = 2

abbrev pub spare_offset : ℕ
spare_offset = 18

abbrev pub spare_width : ℕ
spare_width = 6

abbrev pub header_size : ℕ
header_size = 24

-- ---- a slot: position (8), kind (1), length (1), six zero bytes, payload

abbrev pub position_width : ℕ
position_width = 8

abbrev pub kind_offset : ℕ
kind_offset = 8

abbrev pub length_offset : ℕ
length_offset = 9

abbrev pub slack_offset : ℕ
slack_offset = 10

abbrev pub slack_width : ℕ
slack_width = 6

abbrev pub payload_offset : ℕ
payload_offset = 16
