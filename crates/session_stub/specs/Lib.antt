pub mod Picked
pub mod Passing
