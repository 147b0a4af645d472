pub mod Clocks
pub mod Made
