-- A text put into a line, behind what it holds.
use Rattle.std.specs.Prelude.{ℕ, ◌+◌, ◌≤◌, List, ◌++◌, ◌≡◌, length, take}
use Rattle.line.specs.declared.Line.{Line}

-- what a line holds
abbrev pub held : Line → List ℕ
held l = take l.count l.bytes

abbrev pub HasRoom : Line → List ℕ → Type 0
HasRoom l text = l.count + length text ≤ 256

pub record IsPut (before : Line) (text : List ℕ) (after : Line) : Type 0 where
  pub count_is : after.count ≡ before.count + length text
  pub fits : after.count ≤ 256
  pub held_is : held after ≡ held before ++ text
