pub mod Heard
pub mod Spare
