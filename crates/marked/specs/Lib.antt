pub mod Rows
pub mod Lays
pub mod Asks
pub mod Table
pub mod Marked
pub mod Answering
