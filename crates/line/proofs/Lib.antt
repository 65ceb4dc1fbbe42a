-- The laws that other crates cite.
pub mod Digits
pub mod Hex
pub mod Putting
pub mod Sizes
pub mod Fitting
pub mod Examples
pub mod Unique
