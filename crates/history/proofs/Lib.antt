-- The laws of the history, in the order in which each rests on those before it.
pub mod Order
pub mod Stretches
pub mod Moments
pub mod Epochs
pub mod Marks
pub mod Chain
pub mod Follows
pub mod Settled
pub mod Safety
pub mod Units
pub mod Edges
pub mod Example
