pub mod Placing
pub mod Turned
pub mod Onward
pub mod Counts
pub mod Lines
