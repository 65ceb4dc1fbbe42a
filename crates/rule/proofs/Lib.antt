-- What holds of every step.
pub mod Lists
pub mod Serving
pub mod Tidy
pub mod Refusing
pub mod Bringing
pub mod Leaving
pub mod Restarting
pub mod Shaping
pub mod Testing
pub mod Refused
-- Runs, so that the rule does not do nothing.
pub mod RunExample
pub mod Unique
