-- Laws of the table and of what a step decides, which the proofs of functions share.
pub mod Drops
pub mod Doing
pub mod Memories
pub mod Serving
pub mod Blanks
pub mod Stepping
pub mod Delivering
pub mod Laying
pub mod Settling
pub mod Freshening
