pub mod Told
pub mod InsideMade
