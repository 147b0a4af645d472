pub mod Readings
pub mod Moment
