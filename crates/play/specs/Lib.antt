pub mod Fit
pub mod Text
pub mod Shown
pub mod Going
