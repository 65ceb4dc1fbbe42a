pub mod Pages
pub mod Refusing
pub mod Cases
pub mod Clients
pub mod Turns
pub mod Unique
