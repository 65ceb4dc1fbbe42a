pub mod Cue
pub mod Steps
pub mod Play
pub mod Put
