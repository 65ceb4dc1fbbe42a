pub mod Fitting
pub mod Showing
pub mod Reading
pub mod Running
pub mod Telling
pub mod Chunks
pub mod Unique
