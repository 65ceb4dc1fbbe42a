-- Laws of the rules, for higher crates.
pub mod Laws
pub mod Unique
