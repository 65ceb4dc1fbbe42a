pub mod Telling
pub mod Wishes
pub mod Making
pub mod Unique
