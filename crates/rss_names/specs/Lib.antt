pub mod Names
pub mod Services
pub mod Ascending
