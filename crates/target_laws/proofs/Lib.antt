pub mod Rows
pub mod Turns
pub mod Events
pub mod Runs
