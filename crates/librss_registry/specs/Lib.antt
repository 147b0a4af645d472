pub mod Counted
pub mod Registered
