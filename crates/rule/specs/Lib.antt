pub mod World
pub mod Serve
pub mod Steps
pub mod Stepped
pub mod Lent
pub mod Fresh
