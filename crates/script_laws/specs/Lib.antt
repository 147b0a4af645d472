pub mod Steps
pub mod SameOps
pub mod Entries
pub mod Weights
pub mod Paths
pub mod States
