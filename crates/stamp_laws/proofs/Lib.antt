pub mod Rounds
pub mod Stamped
