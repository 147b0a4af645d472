pub mod Prepared
pub mod Steady
pub mod Ahead
