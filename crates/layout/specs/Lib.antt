pub mod Lay
pub mod Value
pub mod Codec
pub mod Places
pub mod Successor
pub mod Plan
pub mod Holder
pub mod InsideGrowing
