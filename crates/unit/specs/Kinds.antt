-- The kinds of a slot, each by name, and the questions that are asked of a kind. No other rule names a kind by its number, and no law sees through a question.
use Rattle.std.specs.Prelude.{ℕ, Option, None, Some, Bool, ◌&&◌, ◌||◌, ◌==◌, nat_le}
use Rattle.unit.specs.declared.kind.Kind.{Kind}
use Rattle.unit.specs.declared.kind.Kind.TheVariants.{Data, Junk, Retired, Stray}

-- no slot
abbrev pub no_kind : ℕ
no_kind = 0

abbrev pub data_kind : ℕ
data_kind = 1

abbrev pub junk_kind : ℕ
junk_kind = 2

-- what a trim makes of a page
abbrev pub retired_kind : ℕ
retired_kind = 3

-- what it makes of a position that was never written
abbrev pub stray_kind : ℕ
stray_kind = 4

-- a used slot may have it
unfoldable pub is_kind : ℕ → Bool
is_kind k = nat_le data_kind k && nat_le k stray_kind

-- a page: written by a writer, shown to a reader
unfoldable pub is_page : ℕ → Bool
is_page k = k == data_kind || k == junk_kind

-- it may have a payload
unfoldable pub has_bytes : ℕ → Bool
has_bytes k = k == data_kind

-- its position is trimmed
unfoldable pub is_gone : ℕ → Bool
is_gone k = k == retired_kind || k == stray_kind

-- its position was written, whether it is trimmed since or not
unfoldable pub was_written : ℕ → Bool
was_written k = is_page k || k == retired_kind

-- ---- the kinds of the code

abbrev pub kind_code : Kind → ℕ
kind_code Data = data_kind
kind_code Junk = junk_kind
kind_code Retired = retired_kind
kind_code Stray = stray_kind

-- of what stands at a position, if anything does
abbrev pub held_code : Option Kind → ℕ
held_code None = no_kind
held_code (Some k) = kind_code k
