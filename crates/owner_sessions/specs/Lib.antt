pub mod Boxed
pub mod Parts
pub mod Rounds
