pub mod Majority
pub mod Heard
