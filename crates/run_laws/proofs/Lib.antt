pub mod Operations
pub mod Blocks
pub mod Sleepers
pub mod Acts
pub mod Facts
