pub mod Ended
pub mod Adding
