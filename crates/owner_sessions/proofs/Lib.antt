pub mod Rounding
pub mod Told
