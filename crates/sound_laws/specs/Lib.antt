pub mod Shaped
pub mod Sound
