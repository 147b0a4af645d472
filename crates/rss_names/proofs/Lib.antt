pub mod Services
pub mod Halving
