pub mod Calls
pub mod Covers
pub mod Moments
