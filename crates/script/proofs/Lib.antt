-- The laws that other crates cite.
pub mod Tags
pub mod Copying
pub mod Reaching
pub mod Walking
pub mod Judging
pub mod Exact
pub mod Back
pub mod Cues
pub mod Plays
pub mod Offsets
pub mod Putting
pub mod Changing
pub mod Starting
pub mod Ranges
pub mod Held
pub mod Answers
pub mod Unique
