-- The laws behind the table.
pub mod Units
pub mod Passing
pub mod Telling
pub mod Laying
pub mod Running
pub mod Unique
