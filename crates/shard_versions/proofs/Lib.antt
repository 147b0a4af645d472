pub mod Latest
pub mod Placed
pub mod Cleared
