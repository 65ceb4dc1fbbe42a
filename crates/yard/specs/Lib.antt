pub mod Bag
pub mod InsideMoves
pub mod InsideParts
pub mod InsideSettled
