pub mod Ballots
pub mod Groups
pub mod Rows
pub mod Steps
pub mod OneShard
