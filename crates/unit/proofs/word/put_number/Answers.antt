use Rattle.std.proofs.Common.{◌≡◌, ℕ, List, ◌+◌, ◌-◌, take, ap, ◌∙◌, arith}
use Rattle.num.specs.Bytes.{le_bytes}
use Rattle.num.proofs.Numbers.{le_length}
use Rattle.unit.proofs.Words.{low_bytes}
use Rattle.unit.proofs.Stores.{part_sets}
use Rattle.unit.proofs.word.put_number.Goals as goal

pub returns : goal.returns
returns g c =
    let w = g.row.WIDTH in
    let a = c.args in
    let whole : a.at + w - a.at ≡ w = omega arith in
    let low = c.copy_from_slice.ensures.after ∙ ap (λ (bs : List ℕ). take w bs) c.to_le_bytes.ensures ∙ low_bytes w a.n c.requires.1 in
    part_sets a.at (a.at + w - a.at) a.mem.now c.copy_from_slice.new.self (le_bytes w a.n) low (rw whole (le_length w a.n)) (omega arith)
